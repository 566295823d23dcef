-- Rows of cached translations, and which of them serve an address (this project's own rules).
use Rattle.std.specs.Prelude.{ℕ, ◌/◌, ◌^◌, Bool, true, false, ◌==◌, ◌&&◌, ◌||◌, nat_lt, if◌then◌else◌, List, []}
use Rattle.std.specs.Prelude.{◌∷◌, filter, Option, Some, None}
use Rattle.sysregs.specs.Equality.{same_fields}
use Rattle.tagged_tlb.specs.declared.row.Key.{Key}
use Rattle.tagged_tlb.specs.declared.row.Made.{Made}
use Rattle.tagged_tlb.specs.declared.row.Row.{Row}
use Rattle.walk_spec.specs.declared.region.Region.{Region}
use Rattle.tagged_tlb.specs.declared.row.Kind.{Kind}
use Rattle.tagged_tlb.specs.declared.row.Kind.TheVariants.{Leaf1, Table1, Leaf2, Table2}

abbrev pub same_kind : (a b : Kind) → Bool
same_kind Leaf1 Leaf1 = true
same_kind Leaf1 Table1 = false
same_kind Leaf1 Leaf2 = false
same_kind Leaf1 Table2 = false
same_kind Table1 Leaf1 = false
same_kind Table1 Table1 = true
same_kind Table1 Leaf2 = false
same_kind Table1 Table2 = false
same_kind Leaf2 Leaf1 = false
same_kind Leaf2 Table1 = false
same_kind Leaf2 Leaf2 = true
same_kind Leaf2 Table2 = false
same_kind Table2 Leaf1 = false
same_kind Table2 Table1 = false
same_kind Table2 Leaf2 = false
same_kind Table2 Table2 = true

abbrev pub same_region : (a b : Region) → Bool
same_region a b = (a.class == b.class) && (a.start == b.start)

-- the region holds an address
abbrev pub holds : (region : Region) (address : ℕ) → Bool
holds r x = x / 2 ^ r.class == r.start

-- a row matches an address of its kind's stage under register fields and a VMID
abbrev pub matches : (kind : Kind) (key : Key) (address : ℕ) (row : Row) → Bool
matches kind k x r = same_kind r.kind kind && holds r.region x && (r.key.vmid == k.vmid) && same_fields r.key.config k.config

-- a row of stage 1 matches besides by its ASID; a global leaf does so under every ASID
abbrev pub matches1 : (kind : Kind) (key : Key) (address : ℕ) (row : Row) → Bool
matches1 kind k x r = matches kind k x r && (r.global || (r.key.asid == k.asid))

-- made before: in an earlier step, or earlier in the same one
abbrev pub is_older : (a b : Made) → Bool
is_older a b = nat_lt a.step b.step || ((a.step == b.step) && nat_lt a.order b.order)

-- a row among others in the order of their making
abbrev pub inserted : (row : Row) (rows : List Row) → List Row
inserted r [] = r ∷ []
inserted r (s ∷ rows) = if is_older r.made s.made then r ∷ s ∷ rows else s ∷ inserted r rows

abbrev pub by_making : (rows : List Row) → List Row
by_making [] = []
by_making (r ∷ rows) = inserted r (by_making rows)

-- the rows that match, in the order of their making
abbrev pub matching : (test : Row → Bool) (rows : List Row) → List Row
matching test rows = by_making (filter test rows)

abbrev pub closer : (row : Row) (other : Option Row) → Option Row
closer r None = Some r
closer r (Some s) = if nat_lt s.region.class r.region.class then Some s else Some r

-- the row of the smallest region that matches
abbrev pub deepest : (test : Row → Bool) (rows : List Row) → Option Row
deepest test [] = None
deepest test (r ∷ rows) = if test r then closer r (deepest test rows) else deepest test rows
