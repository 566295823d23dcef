-- Serving a walk of any result, with the items that are left over.
use Rattle.std.specs.Prelude.{List, [], ◌∷◌, ◌++◌}
use Rattle.trails.specs.declared.item.Item.{Item}
use Rattle.walk_spec.specs.Ask.{Ask, done, ask, ended}
use Rattle.walk_spec.specs.Needs.{Need}
use Rattle.walk_spec.specs.Steps.{End}
use Rattle.walk_spec.specs.BothStages.{Landing}
use Rattle.tagged_tlb.specs.declared.row.Row.{Row}
use Rattle.machine_spec.specs.Served.{Supplied, gives, halts, Halt, came, Reply}

-- how a service stops: the walk has ended, with items left over, or the service has halted
pub data StopAt (A : Type 0) : Type 0 where
  fed : A → List Item → StopAt A
  breaks : Halt → StopAt A

-- what was served: the items, how it stopped, and the rows that served
pub record ReplyAt (A : Type 0) : Type 0 where
  pub items : List Item
  pub stop : StopAt A
  pub by : List Row

abbrev pub push_at : {A : Type 0} → (item : Item) (rows : List Row) (reply : ReplyAt A) → ReplyAt A
push_at i rows r = record { items = i ∷ r.items; stop = r.stop; by = rows ++ r.by }

abbrev pub stop_at : {A : Type 0} → (stop : StopAt A) → ReplyAt A
stop_at s = record { items = []; stop = s; by = [] }

abbrev pub goes_at : {A : Type 0} → (supplied : Supplied) (next : Item → List Item → ReplyAt A) → ReplyAt A
goes_at (gives i rest rows) next = push_at i rows (next i rest)
goes_at (halts h) next = stop_at (breaks h)

-- a walk takes the items that it has already, and then what is supplied
abbrev pub serve_at : {A : Type 0} → (supply : Need → Supplied) (items : List Item) (walk : Ask Need Item A) → ReplyAt A
serve_at sup items (done a) = stop_at (fed a items)
serve_at sup [] (ask n k) = goes_at (sup n) (λ i rest. serve_at sup rest (k i))
serve_at sup (i ∷ items) (ask n k) = push_at i [] (serve_at sup items (k i))

-- how a whole walk halts
abbrev pub halt_of : (stop : StopAt (End Landing)) → Halt
halt_of (fed e left) = came (ended e)
halt_of (breaks h) = h

-- the reply of a whole walk
abbrev pub reply_of : (reply : ReplyAt (End Landing)) → Reply
reply_of r = record { items = r.items; halt = halt_of r.stop; by = r.by }

-- a reply behind items and rows
abbrev pub behind : {A : Type 0} → (items : List Item) (rows : List Row) (reply : ReplyAt A) → ReplyAt A
behind items rows r = record { items = items ++ r.items; stop = r.stop; by = rows ++ r.by }

-- a reply goes on by its end and the items that are left over, or has stopped
abbrev pub then_stop : {A B : Type 0} → (items : List Item) (rows : List Row) (stop : StopAt A) (next : A → List Item → ReplyAt B) → ReplyAt B
then_stop items rows (fed a left) f = behind items rows (f a left)
then_stop items rows (breaks h) f = record { items = items; stop = breaks h; by = rows }

abbrev pub then_at : {A B : Type 0} → (reply : ReplyAt A) (next : A → List Item → ReplyAt B) → ReplyAt B
then_at r f = then_stop r.items r.by r.stop f
