-- The index that an address has in a table below the start table.
use Rattle.std.proofs.Common.{◌≡◌, ℕ, ◌+◌, ◌-◌, ◌/◌, ◌%◌, ◌^◌, ◌<◌, ◌≤◌, arith, sym}
use Rattle.std.proofs.lemmas.Bool.Decides.{nat_tests}
use Rattle.std.proofs.lemmas.Nat.{mod_below, pow_pos}
use Rattle.std.proofs.Math.Pow.{pow_mono}
use Rattle.geometry.specs.Tables.{IsGranule, stride, class_of, top_of}
use Rattle.geometry.proofs.Indices.{field_at}

-- the bits of one level above a class
pub index_is : (x k s : ℕ) → x / 2 ^ k % 2 ^ s ≡ x % 2 ^ (k + s) / 2 ^ k
index_is x k s =
    let e : (k + s) - k ≡ s = omega arith in
    sym (rw e at (field_at x (k + s) k (omega arith)))

-- an entry of a table, of which there are at most 2 ^ 13
pub index_small : (g x k : ℕ) → IsGranule g → x / 2 ^ k % 2 ^ (g - 3) < 2 ^ 13
index_small g x k h =
    let most : g - 3 ≤ 13 = grind arith in
    let few : 2 ^ (g - 3) ≤ 2 ^ 13 = pow_mono most in
    omega (arith, mod_below (x / 2 ^ k) (2 ^ (g - 3)) (pow_pos (g - 3)), few)

-- below the start table an index has as many bits as one level resolves
pub top_is : (g input start left : ℕ) → left < start → top_of g input start left ≡ class_of g left + stride g
top_is g input start left h = grind (arith, nat_tests)
