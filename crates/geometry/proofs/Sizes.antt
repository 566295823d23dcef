-- What the definitions of levels and sizes keep to.
use Rattle.std.proofs.Common.{◌≡◌, ℕ, ◌+◌, ◌<◌, ◌≤◌, arith, true, Some}
use Rattle.std.proofs.lemmas.Bool.Decides.{nat_tests}
use Rattle.geometry.specs.Tables.{IsGranule, stride, class_of, is_txsz, input_size, start_left1, start_left2, is_suited2}

-- an entry of a level that has blocks covers at most 4 TB
pub class_small : (g left : ℕ) → IsGranule g → left ≤ 2 → class_of g left ≤ 42
class_small g left h l = grind arith

-- so much for every level
pub class_within : (g left : ℕ) → IsGranule g → left ≤ 3 → class_of g left ≤ 55
class_within g left h l = grind arith

-- the bits that the index of a level below the start takes part in
pub top_within : (g left : ℕ) → IsGranule g → left ≤ 2 → class_of g left + stride g ≤ 55
top_within g left h l = grind arith

-- stage 1: what a TxSZ in range leaves
pub input_more : (g txsz : ℕ) → IsGranule g → is_txsz g txsz ≡ true → g < input_size txsz
input_more g txsz h t = grind (arith, nat_tests)

pub input_most : (g txsz : ℕ) → IsGranule g → is_txsz g txsz ≡ true → input_size txsz ≤ 52
input_most g txsz h t = grind (arith, nat_tests)

pub start_within : (g txsz : ℕ) → IsGranule g → is_txsz g txsz ≡ true → start_left1 g (input_size txsz) ≤ 3
start_within g txsz h t = grind (arith, nat_tests)

-- stage 1: the start table has from 2 entries up to as many as one level resolves
pub start_below : (g input : ℕ) → IsGranule g → g < input → class_of g (start_left1 g input) < input
start_below g input h l = grind arith

pub start_above : (g input : ℕ) → IsGranule g → g < input → input ≤ class_of g (start_left1 g input) + stride g
start_above g input h l = grind arith

-- stage 2: the start level of a valid code, and tables that are concatenated at most sixteenfold
pub start2_within : (g sl0 left : ℕ) → start_left2 g sl0 ≡ Some left → left ≤ 3
start2_within g sl0 left e = grind (arith, nat_tests)

pub suited_below : (g left input : ℕ) → is_suited2 g left input ≡ true → class_of g left < input
suited_below g left input t = grind (arith, nat_tests)

pub suited_above : (g left input : ℕ) → is_suited2 g left input ≡ true → input ≤ class_of g left + stride g + 4
suited_above g left input t = grind (arith, nat_tests)
