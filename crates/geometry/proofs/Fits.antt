-- Indices and offsets fit a word.
use Rattle.std.proofs.Common.{◌≡◌, ℕ, ◌+◌, ◌-◌, ◌*◌, ◌/◌, ◌%◌, ◌^◌, ◌<◌, ◌≤◌, arith, Some}
use Rattle.std.proofs.lemmas.Bool.Decides.{nat_tests}
use Rattle.std.proofs.lemmas.Nat.{mod_below, pow_pos, shl_below}
use Rattle.std.proofs.Math.Nat.{div-mul-le_self, mul-le-mul_left}
use Rattle.std.proofs.Math.Pow.{pow_mono}
use Rattle.geometry.specs.Tables.{IsGranule, class_of}
use Rattle.geometry.specs.Runs.{run_at}

pub index_small : (x top k : ℕ) → top ≤ 56 → 12 ≤ k → x % 2 ^ top / 2 ^ k < 2 ^ 44
index_small x top k h l =
    let below : x % 2 ^ top < 2 ^ top = mod_below x (2 ^ top) (pow_pos top) in
    let most : 2 ^ top ≤ 2 ^ 56 = pow_mono h in
    let least : 2 ^ 12 ≤ 2 ^ k = pow_mono l in
    omega (arith, div-mul-le_self (x % 2 ^ top) (2 ^ k), mul-le-mul_left (x % 2 ^ top / 2 ^ k) least)

pub offset_small : (p run class : ℕ) → class ≤ run → run ≤ 34 → p % 2 ^ (run - class) * 2 ^ class < 2 ^ 34
offset_small p run class h l =
    let e : (run - class) + class ≡ run = omega arith in
    let few : p % 2 ^ (run - class) < 2 ^ (run - class) = mod_below p (2 ^ (run - class)) (pow_pos (run - class)) in
    let below : p % 2 ^ (run - class) * 2 ^ class < 2 ^ run = rw e at (shl_below (p % 2 ^ (run - class)) (run - class) class few) in
    let most : 2 ^ run ≤ 2 ^ 34 = pow_mono l in
    omega arith

-- a run is larger than its entries
pub run_sizes : (g left run : ℕ) → IsGranule g → run_at g left ≡ Some run → (class_of g left ≤ run) × (run ≤ 34)
run_sizes g left run h e = (grind (arith, nat_tests), grind (arith, nat_tests))

-- the words of a run take no more than 2 ^ 37 bytes
pub line_small : (run class : ℕ) → run ≤ 34 → (8 * 2 ^ (run - class) < 2 ^ 38) × (0 < 2 ^ (run - class))
line_small run class l =
    let less : run - class ≤ 34 = omega arith in
    let most : 2 ^ (run - class) ≤ 2 ^ 34 = pow_mono less in
    (omega arith, pow_pos (run - class))
