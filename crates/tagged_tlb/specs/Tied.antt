-- The sets of one kind against the list of all rows of a core.
use Rattle.std.specs.Prelude.{◌≡◌, ℕ, ◌+◌, ◌*◌, ◌<◌, ◌%◌, ◌^◌, zero, suc, Bool, false, ◌==◌}
use Rattle.std.specs.Prelude.{◌&&◌, if◌then◌else◌, List, [], ◌∷◌, length, filter, get_or}
use Rattle.fault_codes.specs.declared.fault.Stage.{Stage}
use Rattle.fault_codes.specs.declared.fault.Stage.TheVariants.{S1, S2}
use Rattle.trace_lang.specs.declared.header.Policy.{Policy}
use Rattle.trace_lang.specs.declared.header.Policy.TheVariants.{Lru, Fifo, Random}
use Rattle.tagged_tlb.specs.declared.row.Kind.{Kind}
use Rattle.tagged_tlb.specs.declared.row.Key.{Key}
use Rattle.tagged_tlb.specs.declared.row.Row.{Row}
use Rattle.tagged_tlb.specs.declared.row.Sought.{Sought}
use Rattle.tagged_tlb.specs.declared.chooser.Chooser.{Chooser}
use Rattle.tagged_tlb.specs.Rows.{same_kind, matches, matches1}
use Rattle.tagged_tlb.specs.Sets.{Cache, drawn, is_row}

-- a row is of a kind and of a set
abbrev pub in_set : (kind : Kind) (sets s : ℕ) (row : Row) → Bool
in_set k n s r = same_kind k r.kind && (s == r.region.start % n)

-- each set is what a filter leaves of the list
pub record IsTied (kind : Kind) (n : ℕ) (live : List Row) (sets : List (List Row)) : Type 0 where
  pub count : length sets ≡ n
  pub each : (s : ℕ) → s < n → get_or sets s [] ≡ filter (in_set kind n s) live

-- the number that follows one in the generator
abbrev pub next_drawn : (x : ℕ) → ℕ
next_drawn x = (x * 6364136223846793005 + 1442695040888963407) % 2 ^ 64

-- the number that stands before the next draw
abbrev pub last_drawn : (start : ℕ) (draws : ℕ) → ℕ
last_drawn x zero = x
last_drawn x (suc n) = drawn x n

-- where the generator of a core stands behind so many evictions; the other policies draw nothing
abbrev pub IsAtBy : (policy : Policy) (core evictions last : ℕ) → Type 0
IsAtBy Lru c n x = Unit {0}
IsAtBy Fifo c n x = Unit {0}
IsAtBy (Random start) c n x = x ≡ last_drawn ((start + c) % 2 ^ 64) n

abbrev pub IsAt : (core evictions : ℕ) (chooser : Chooser) → Type 0
IsAt c n by = IsAtBy by.policy c n by.last

-- what a row that came leaves: the sets, where the generator stands, and whether a row left
pub record IsAdded (kind : Kind) (n core : ℕ) (before after : Cache) (lost : Bool) (by : Chooser) (sets : List (List Row)) : Type 0 where
  pub tied : IsTied kind n after.rows sets
  pub at : IsAt core after.evictions by
  pub count : after.evictions ≡ before.evictions + (if lost then 1 else 0)

-- a row was made as none of these
abbrev pub IsOther : (row : Row) (rows : List Row) → Type 0
IsOther r [] = Unit {0}
IsOther r (s ∷ rows) = (is_row r s ≡ false) × IsOther r rows

-- no two rows were made as the same one
abbrev pub AreToldApart : (rows : List Row) → Type 0
AreToldApart [] = Unit {0}
AreToldApart (r ∷ rows) = IsOther r rows × AreToldApart rows

-- each row's class is below 64
abbrev pub AreSmall : (rows : List Row) → Type 0
AreSmall [] = Unit {0}
AreSmall (r ∷ rows) = (r.region.class < 64) × AreSmall rows

-- the row at a place of a set
abbrev pub row_at : (sets : List (List Row)) (s way : ℕ) (d : Row) → Row
row_at sets s way d = get_or (get_or sets s []) way d

-- which rows of a kind match: those of stage 1 by their ASID too
abbrev pub matches_by : (stage : Stage) (kind : Kind) (key : Key) (address : ℕ) (row : Row) → Bool
matches_by S1 kind k x r = matches1 kind k x r
matches_by S2 kind k x r = matches kind k x r

-- the rows that are sought
abbrev pub is_sought : (kind : Kind) (sought : Sought) (row : Row) → Bool
is_sought kind s r = matches_by s.stage kind s.key s.at r
