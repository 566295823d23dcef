-- Runs of entries with the Contiguous bit (DDI 0487, the Contiguous bit). Which levels have a run, and of how many
-- entries, is a profile of this project.
use Rattle.std.specs.Prelude.{ℕ, ◌+◌, ◌-◌, ◌*◌, ◌/◌, ◌%◌, ◌^◌, List, [], ◌∷◌, Option, Some}
use Rattle.std.specs.Prelude.{None, Bool, false, ◌==◌, ◌&&◌, nat_le, if◌then◌else◌}
use Rattle.geometry.specs.Tables.{class_of, row_at}

-- granule, levels left, and the class of a run: it covers 2 ^ class bytes of input
abbrev pub run_rows : List (ℕ × ℕ × ℕ)
run_rows = (12, 2, 34) ∷ (12, 1, 25) ∷ (12, 0, 16) ∷ (14, 1, 30) ∷ (14, 0, 21) ∷ (16, 1, 34) ∷ (16, 0, 21) ∷ []

-- the class of a run at a level, where it has one
abbrev pub run_at : (granule left : ℕ) → Option ℕ
run_at g left = row_at run_rows g left

-- where an address goes by an entry or a run of this class whose output is out
abbrev pub goes_to : (out class address : ℕ) → ℕ
goes_to out class address = out - out % 2 ^ class + address % 2 ^ class

-- the run is no larger than the input range, and the output stands in it as the word at a place stands among its words
abbrev pub fits_run : (run : Option ℕ) (class input out place : ℕ) → Bool
fits_run None class input out place = false
fits_run (Some run) class input out place = nat_le run input && (out % 2 ^ run == place / 8 % 2 ^ (run - class) * 2 ^ class)

-- A Contiguous bit counts: the level has a run, the run is no larger than the input range, and the output stands in
-- it as the word at its place stands among the run's words. Where it doesn't, the bit is ignored (this project's own rule).
abbrev pub is_counted : (granule input left out place : ℕ) → Bool
is_counted g input left out place = fits_run (run_at g left) (class_of g left) input out place

-- the class of the run, or of the entry where there is none
abbrev pub class_in : (run : Option ℕ) (class : ℕ) → ℕ
class_in None class = class
class_in (Some run) class = run

-- the class of a leaf: that of its run where the Contiguous bit is set and counts, else that of the entry
abbrev pub leaf_class : (granule input left out : ℕ) (contiguous : Bool) (place : ℕ) → ℕ
leaf_class g input left out contiguous place =
    if contiguous && is_counted g input left out place then class_in (run_at g left) (class_of g left) else class_of g left

-- two places hold words of one run of this level
abbrev pub is_one_run : (granule left place other : ℕ) → Bool
is_one_run g left place other = let line = 8 * 2 ^ (class_in (run_at g left) (class_of g left) - class_of g left) in place / line == other / line
