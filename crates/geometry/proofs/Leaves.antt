-- Where an address goes by a leaf.
use Rattle.std.proofs.Common.{◌≡◌, ℕ, ◌+◌, ◌-◌, ◌*◌, ◌/◌, ◌%◌, ◌^◌, ◌≤◌, Bool, arith, ap, ◌∙◌, sym, mul_assoc}
use Rattle.std.proofs.lemmas.Bool.Decides.{nat_tests}
use Rattle.std.proofs.lemmas.Nat.{pow-add}
use Rattle.geometry.specs.Tables.{IsGranule}
use Rattle.geometry.specs.Runs.{goes_to, leaf_class}

-- a leaf covers a page at least
pub leaf_class_least : (g input left out : ℕ) (contiguous : Bool) (place : ℕ) → IsGranule g → 12 ≤ leaf_class g input left out contiguous place
leaf_class_least g input left out contiguous place h = grind (arith, nat_tests)

eight_parts : (c n : ℕ) → 3 ≤ c → 2 ^ c * n ≡ 8 * (2 ^ (c - 3) * n)
eight_parts c n h =
    let e : 3 + (c - 3) ≡ c = omega arith in
    let p : 2 ^ c ≡ 8 * 2 ^ (c - 3) = ap (λ m. 2 ^ m) (sym e) ∙ pow-add 2 3 (c - 3) in
    ap (λ m. m * n) p ∙ mul_assoc 8 (2 ^ (c - 3)) n

-- a leaf keeps the place of an address among eight bytes
pub goes_to_eights : (out class address : ℕ) → 3 ≤ class → goes_to out class address % 8 ≡ address % 8
goes_to_eights out class address h =
    let a = eight_parts class (out / 2 ^ class) h in
    let b = eight_parts class (address / 2 ^ class) h in
    omega (arith, a, b)
