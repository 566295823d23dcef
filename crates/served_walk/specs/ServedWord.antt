-- What a supply of stage 1 words does that is served by rows and by memory.
use Rattle.std.specs.Prelude.{◌≡◌, ℕ, ℤ, List, [], ◌∷◌, ◌++◌, length, Result, Ok, Err}
use Rattle.geometry.specs.Tables.{level_of}
use Rattle.sysregs.specs.declared.regs.Config.{Config}
use Rattle.sysregs.specs.declared.regs.Side.{Side}
use Rattle.fault_codes.specs.declared.fault.Fault.{Fault}
use Rattle.trails.specs.declared.item.Item.{Item}
use Rattle.trails.specs.declared.outcome.Stop.{Stop}
use Rattle.trails.specs.declared.outcome.Stop.TheVariants.{Fault as FaultStop, Absent, Conflict}
use Rattle.walk_spec.specs.declared.entry.Entry1.{Entry1}
use Rattle.walk_spec.specs.Ask.{Ask, ended, lacks}
use Rattle.walk_spec.specs.Needs.{Need, stage1_base, stage2_base, word, regime_of}
use Rattle.walk_spec.specs.Steps.{End, stops, reaches}
use Rattle.walk_spec.specs.Stage1.{word_of}
use Rattle.tagged_tlb.specs.declared.row.Row.{Row}
use Rattle.machine_spec.specs.Served.{Supplied, Halt, came, clash}
use Rattle.served_walk.specs.ServeAt.{StopAt, fed, breaks, ReplyAt, serve_at}

-- the first of two chains that both match
abbrev pub first_in : (halt : Halt) → List Item
first_in (came e) = []
first_in (clash one two) = one

abbrev pub first_chain : {A : Type 0} → (stop : StopAt A) → List Item
first_chain (fed a left) = []
first_chain (breaks h) = first_in h

-- what code appends for a reply: its items, and the first of two chains
abbrev pub shown : {A : Type 0} → (reply : ReplyAt A) → List Item
shown r = r.items ++ first_chain r.stop

-- what is kept of the second of two chains that both match: its items, and how many items of the first one it stands for
pub record Second : Type 0 where
  pub chain : List Item
  pub instead : ℕ

-- a stop of the code tells how a service halted: a word that memory lacks, or two chains, of which the second is kept apart
abbrev pub TellsHalt : (stop : Stop) (second : Second) (halt : Halt) → Type 0
TellsHalt x two (came (ended e)) = ⊥
TellsHalt x two (came (lacks stage1_base)) = ⊥
TellsHalt x two (came (lacks (stage2_base _))) = ⊥
TellsHalt x two (came (lacks (word w))) = x ≡ Absent w.stage (level_of w.left) w.place w.s1ptw
TellsHalt x two (clash a b) = (x ≡ Conflict) × (two.chain ≡ b) × (two.instead ≡ length a)

-- the same for one word, which may end in a fault
abbrev pub TellsWord : (stop : Stop) (second : Second) (end : StopAt (Result Item Fault)) → Type 0
TellsWord x two (fed (Ok i) left) = ⊥
TellsWord x two (fed (Err f) left) = (x ≡ FaultStop f) × (left ≡ [])
TellsWord x two (breaks h) = TellsHalt x two h

-- what is answered for a walk to a leaf tells how its service stopped; no item is left over
abbrev pub TellsLeaf : {L : Type 0} → (result : Result L Stop) (second : Second) (end : StopAt (End L)) → Type 0
TellsLeaf {L} (Ok l) two e = e ≡ fed (reaches l) []
TellsLeaf {L} (Err x) two (fed (reaches l) left) = ⊥
TellsLeaf {L} (Err x) two (fed (stops f) left) = (x ≡ FaultStop f) × (left ≡ [])
TellsLeaf {L} (Err x) two (breaks h) = TellsHalt x two h

-- A walk to a leaf was served: these items were appended, these rows served, and the answer tells the stop. (More than six
-- parameters: the supply, the walk, and what the code shows of the reply.)
pub record WasServed {L : Type 0} (sup : Need → Supplied) (t : Ask Need Item (End L)) (items : List Item) (by : List Row)
    (two : Second) (r : Result L Stop) : Type 0 where
  pub items_are : items ≡ shown (serve_at sup [] t)
  pub by_is : by ≡ (serve_at sup [] t).by
  pub told : TellsLeaf r two (serve_at sup [] t).stop

-- One word was served: the last item is the word's, and no item of a chain is left over; or it stopped.
abbrev pub WordServed : (supply : Need → Supplied) (walk : Ask Need Item (Result Item Fault)) (items : List Item) (by : List Row)
    (second : Second) (result : Result ℕ Stop) → Type 0
WordServed sup t items by two (Ok v) =
    (front : List Item) × (i : Item) × (items ≡ front ++ i ∷ []) × (v ≡ i.value)
    × (serve_at sup [] t ≡ record { items = items; stop = fed (Ok i) []; by = by })
WordServed sup t items by two (Err x) =
    (items ≡ shown (serve_at sup [] t)) × (by ≡ (serve_at sup [] t).by) × TellsWord x two (serve_at sup [] t).stop

-- What the supply gives for a level and a place: it stays the same supply, the rows that served are counted behind those
-- before, and the word was served, for whatever entry of that level and place. (More than six parameters: the supply's
-- meanings, and the call.)
pub record ServedWord {S : Type 0} (sup : S → Need → Supplied) (config : S → Config) (by : S → List Row) (two : S → Second)
    (s : S) (level : ℤ) (place : ℕ) (items : List Item) (r : Result ℕ Stop) (t : S) : Type 0 where
  pub same : sup t ≡ sup s
  pub same_config : config t ≡ config s
  pub rows : List Row
  pub by_is : by t ≡ by s ++ rows
  pub had : (side : Side) (e : Entry1) → level_of e.left ≡ level → e.place ≡ place
      → WordServed (sup s) (word_of (regime_of (config s) side) e) items rows (two t) r
