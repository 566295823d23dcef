-- The classes of which rows may be there, as bits of a number.
use Rattle.std.specs.Prelude.{◌≡◌, ℕ, ◌<◌, Bool, true, ◌==◌, List, [], ◌∷◌, length, get_or}
use Rattle.std.specs.Int.{bit_at}
use Rattle.tagged_tlb.specs.declared.row.Row.{Row}

abbrev pub is_marked : (classes class : ℕ) → Bool
is_marked m c = bit_at m c == 1

-- the class of each row is marked
abbrev pub AllMarked : (classes : ℕ) (rows : List Row) → Type 0
AllMarked m [] = Unit {0}
AllMarked m (r ∷ rows) = (r.region.class < 64) × (is_marked m r.region.class ≡ true) × AllMarked m rows

-- so it is in each set
abbrev pub AreMarked : (classes : ℕ) (sets : List (List Row)) → Type 0
AreMarked m [] = Unit {0}
AreMarked m (rows ∷ sets) = AllMarked m rows × AreMarked m sets

-- no set has a row
abbrev pub AreEmpty : (sets : List (List Row)) → Type 0
AreEmpty sets = (s : ℕ) → s < length sets → get_or sets s [] ≡ []
