-- How an access is served: by rows where they match, and else by memory and registers (this project's own rules).
use Rattle.std.specs.Prelude.{ℕ, true, not, ◌&&◌, if◌then◌else◌, List, [], ◌∷◌, ◌++◌, Option, Some, None}
use Rattle.sysregs.specs.declared.regs.Regs.{Regs}
use Rattle.sysregs.specs.Registers.{config_of}
use Rattle.sysregs.specs.Sides.{side_of}
use Rattle.trails.specs.declared.item.Item.{Item}
use Rattle.trails.specs.declared.outcome.Access.{Access}
use Rattle.table_reads.specs.Memory.{Memory}
use Rattle.walk_spec.specs.Ask.{Ask, done, ask, Fed, ended, lacks}
use Rattle.walk_spec.specs.Needs.{Need, stage1_base, stage2_base, word}
use Rattle.walk_spec.specs.Steps.{End}
use Rattle.walk_spec.specs.Stage1.{untagged}
use Rattle.walk_spec.specs.BothStages.{Landing, is_refused1, walk}
use Rattle.walk_spec.specs.Fresh.{given}
use Rattle.tagged_tlb.specs.declared.row.Kind.TheVariants.{Leaf1, Table1, Leaf2, Table2}
use Rattle.tagged_tlb.specs.declared.row.Row.{Row}
use Rattle.tagged_tlb.specs.Rows.{matches, matches1, matching, deepest}
use Rattle.machine_spec.specs.Made.{key_of}

-- how a service halts: as the walk came out, or with two trails of which one would have to go on
pub data Halt : Type 0 where
  came : Fed Need (End Landing) → Halt
  clash : (one two : List Item) → Halt

-- what is given for a need: an item with those that follow it in a row's trail, and the rows that served; or the service
-- halts, where memory lacks the place or two chains both match
pub data Supplied : Type 0 where
  gives : (item : Item) (rest : List Item) (by : List Row) → Supplied
  halts : (halt : Halt) → Supplied

abbrev pub supplied_by : (need : Need) (found : Option Item) → Supplied
supplied_by n None = halts (came (lacks n))
supplied_by n (Some i) = gives i [] []

-- a row's chain
abbrev pub chain_by : (row : Row) (otherwise : Supplied) (trail : List Item) → Supplied
chain_by r otherwise [] = otherwise
chain_by r otherwise (i ∷ rest) = gives i rest (r ∷ [])

-- the deepest table of stage 2 begins the chain, and else the register does
abbrev pub begun2 : (otherwise : Supplied) (table : Option Row) → Supplied
begun2 otherwise None = otherwise
begun2 otherwise (Some r) = chain_by r otherwise r.trail

-- one leaf of stage 2 gives its chain, and of several the two that were made first
abbrev pub chain_of : (otherwise : Supplied) (leaves : List Row) (table : Option Row) → Supplied
chain_of otherwise [] t = begun2 otherwise t
chain_of otherwise (r ∷ []) t = chain_by r otherwise r.trail
chain_of otherwise (r ∷ s ∷ more) t = halts (clash r.trail s.trail)

-- what an access meets: the registers in force, memory, the live rows of its core, and the number of the step
pub record Place : Type 0 where
  pub regs : Regs
  pub memory : Memory
  pub rows : List Row
  pub step : ℕ

-- what memory and registers give now
abbrev pub fresh_of : (place : Place) (access : Access) (need : Need) → Supplied
fresh_of p a n = supplied_by n (given p.regs (side_of a.va) p.memory p.step n)

-- bases of stage 1 and words are those of now; where stage 2 begins, rows are asked first
abbrev pub supply : (place : Place) (access : Access) (need : Need) → Supplied
supply p a stage1_base = fresh_of p a stage1_base
supply p a (stage2_base x) =
    let k = key_of p.regs in
    chain_of (fresh_of p a (stage2_base x)) (matching (matches Leaf2 k x) p.rows) (deepest (matches Table2 k x) p.rows)
supply p a (word w) = fresh_of p a (word w)

-- what was served: the items, how it halted, and the rows that served, in the order of the trail
pub record Reply : Type 0 where
  pub items : List Item
  pub halt : Halt
  pub by : List Row

abbrev pub pushed : (item : Item) (rows : List Row) (reply : Reply) → Reply
pushed i rows r = record { items = i ∷ r.items; halt = r.halt; by = rows ++ r.by }

abbrev pub halted : (halt : Halt) → Reply
halted s = record { items = []; halt = s; by = [] }

abbrev pub goes_on : (supplied : Supplied) (next : Item → List Item → Reply) → Reply
goes_on (gives i rest rows) next = pushed i rows (next i rest)
goes_on (halts h) next = halted h

-- A walk takes the items that it has already, and then what is supplied; the rest of a chain answers the needs that follow. In
-- a run none flows beyond its stage 2 translation: a row holds just what a walk took up to its word, and so will this walk.
abbrev pub serve : (supply : Need → Supplied) (items : List Item) (walk : Ask Need Item (End Landing)) → Reply
serve sup items (done e) = halted (came (ended e))
serve sup [] (ask n k) = goes_on (sup n) (λ i rest. serve sup rest (k i))
serve sup (i ∷ items) (ask n k) = pushed i [] (serve sup items (k i))

-- A walk takes the items of a row's trail up to its end. Where the stage 1 leaf refuses the access, those behind it are
-- dropped: they are stage 2 of its output, for which this walk doesn't ask.
abbrev pub taken : (items : List Item) (walk : Ask Need Item (End Landing)) → Reply
taken items (done e) = halted (came (ended e))
taken [] (ask n k) = halted (came (lacks n))
taken (i ∷ items) (ask n k) = pushed i [] (taken items (k i))

abbrev pub credited : (row : Row) (reply : Reply) → Reply
credited r reply = record reply { by = r ∷ reply.by }

-- the deepest table of stage 1 begins the trail
abbrev pub begun1 : (table : Option Row) (next : List Item → Reply) → Reply
begun1 None next = next []
begun1 (Some r) next = credited r (next r.trail)

-- one combined row gives its trail, judged for this access, and of several the two that were made first conflict
abbrev pub combined : (leaves : List Row) (table : Option Row) (supply : Need → Supplied) (walk : Ask Need Item (End Landing)) → Reply
combined [] t sup w = begun1 t (λ items. serve sup items w)
combined (r ∷ []) t sup w = credited r (taken r.trail w)
combined (r ∷ s ∷ more) t sup w = halted (clash r.trail s.trail)

-- An access is served. What stage 1 refuses before its tables comes before any row, and without stage 1 no row of it is asked.
abbrev pub served : (place : Place) (access : Access) → Reply
served p a =
    let c = config_of p.regs in
    let k = key_of p.regs in
    let x = untagged a.va in
    let w = walk c true a in
    if c.m && not (is_refused1 c a)
    then combined (matching (matches1 Leaf1 k x) p.rows) (deepest (matches1 Table1 k x) p.rows) (supply p a) w
    else serve (supply p a) [] w
