-- How large the region of a word is at most.
use Rattle.std.proofs.Common.{ℕ, ◌≤◌, Bool, arith}
use Rattle.std.proofs.lemmas.Bool.Decides.{nat_tests}
use Rattle.geometry.specs.Tables.{IsGranule, most_left, class_of}
use Rattle.geometry.specs.Runs.{leaf_class}

pub entry_most : (g left : ℕ) → IsGranule g → left ≤ most_left → class_of g left ≤ 55
entry_most g left h l = grind arith

pub leaf_most : (g input left out : ℕ) (contiguous : Bool) (place : ℕ) → IsGranule g → left ≤ most_left
    → leaf_class g input left out contiguous place ≤ 55
leaf_most g input left out contiguous place h l = grind (arith, nat_tests)
