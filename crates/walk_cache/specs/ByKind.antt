-- The caches of a core, a cache of each kind of rows, against the list of its rows (this project's own rules).
use Rattle.std.specs.Prelude.{◌≡◌, ℕ, ◌+◌, ◌<◌, Bool, false, if◌then◌else◌, List, []}
use Rattle.trace_lang.specs.declared.header.Size.{Size}
use Rattle.trace_lang.specs.Traces.{Header}
use Rattle.tagged_tlb.specs.declared.row.Kind.{Kind}
use Rattle.tagged_tlb.specs.declared.row.Kind.TheVariants.{Leaf1, Table1, Leaf2, Table2}
use Rattle.tagged_tlb.specs.declared.row.Row.{Row}
use Rattle.tagged_tlb.specs.declared.chooser.Chooser.{Chooser}
use Rattle.tagged_tlb.specs.Shapes.{shape, shape_of, keeps_rows}
use Rattle.tagged_tlb.specs.Sets.{Cache, added}
use Rattle.tagged_tlb.specs.Tied.{IsTied, IsAt}

-- the sets of each kind
pub record SetsByKind : Type 0 where
  pub leaf1 : List (List Row)
  pub table1 : List (List Row)
  pub leaf2 : List (List Row)
  pub table2 : List (List Row)

abbrev pub sets_of : (sets : SetsByKind) (kind : Kind) → List (List Row)
sets_of v Leaf1 = v.leaf1
sets_of v Table1 = v.table1
sets_of v Leaf2 = v.leaf2
sets_of v Table2 = v.table2

-- how many sets a kind has
abbrev pub sets_in : (size : Size) (kind : Kind) → ℕ
sets_in size k = (shape_of size k).sets

-- the sets of each kind are what filters leave of the list
abbrev pub AreTied : (size : Size) (live : List Row) (sets : SetsByKind) → Type 0
AreTied size live v = (k : Kind) → IsTied k (sets_in size k) live (sets_of v k)

-- a size has these shapes: both kinds of tables have the same, and all kinds but stage 1 leaves as many ways
pub record HasShapes (size : Size) (leaves1 ways1 tables leaves2 ways : ℕ) : Type 0 where
  pub leaf1 : shape_of size Leaf1 ≡ shape leaves1 ways1
  pub table1 : shape_of size Table1 ≡ shape tables ways
  pub leaf2 : shape_of size Leaf2 ≡ shape leaves2 ways
  pub table2 : shape_of size Table2 ≡ shape tables ways

-- in these shapes each kind has a set, and each set has room for a row
pub record HaveRoom (leaves1 ways1 tables leaves2 ways : ℕ) : Type 0 where
  pub sets_leaf1 : 0 < leaves1
  pub room_leaf1 : 0 < ways1
  pub sets_table : 0 < tables
  pub sets_leaf2 : 0 < leaves2
  pub room : 0 < ways

-- the caches of a core: their size, their sets, and what chooses the row that leaves
pub record CachesState : Type 0 where
  pub size : Size
  pub sets : SetsByKind
  pub chooser : Chooser

-- no rows, and none were evicted
abbrev pub no_rows : Cache
no_rows = record { rows = []; evictions = 0 }

-- The caches hold these rows, of which so many were evicted, under a header and as those of the core of that number. The definitions
-- have the rows in one list by rank, which the caches don't keep: more than one list may be held alike.
pub record AreCachesOf (h : Header) (core : ℕ) (l : Cache) (v : CachesState) : Type 0 where
  pub size_is : h.size ≡ v.size
  pub policy_is : h.policy ≡ v.chooser.policy
  pub tied : AreTied h.size l.rows v.sets
  pub at : IsAt core l.evictions v.chooser
  pub empty : keeps_rows h.size ≡ false → (l.rows ≡ []) × (l.evictions ≡ 0)

-- what a row that came leaves: the sets, where the generator stands, and whether a row left
pub record IsAddedTo (h : Header) (core : ℕ) (l : Cache) (r : Row) (lost : Bool) (by : Chooser) (sets : SetsByKind) : Type 0 where
  pub tied : AreTied h.size (added h core l r).rows sets
  pub at : IsAt core (added h core l r).evictions by
  pub count : (added h core l r).evictions ≡ l.evictions + (if lost then 1 else 0)

-- a row is added where the size keeps rows
abbrev pub added_to : (h : Header) (core : ℕ) (l : Cache) (r : Row) → Cache
added_to h core l r = if keeps_rows h.size then added h core l r else l

-- the size and the policy stay
pub record AreAlike (old new : CachesState) : Type 0 where
  pub size_is : new.size ≡ old.size
  pub policy_is : new.chooser.policy ≡ old.chooser.policy
