-- Masks and shifts as div and mod.
use Rattle.std.proofs.Common.{◌≡◌, ℕ, ◌+◌, ◌-◌, ◌/◌, ◌%◌, ◌^◌, ◌<◌, ◌≤◌, arith}
use Rattle.std.specs.Prelude.{bit_and}
use Rattle.std.proofs.lemmas.Nat.{and_mask}
use Rattle.std.proofs.lemmas.Nat.Bits.{ones_shr}

-- a shifted word under a mask of ones
pub masked_field :
    (w hi lo : ℕ) → lo ≤ hi → hi < 64 →
    bit_and (w / 2 ^ lo) (18446744073709551615 / 2 ^ (63 - (hi - lo))) ≡ w / 2 ^ lo % 2 ^ (hi - lo + 1)
masked_field w hi lo h k =
    let width : 64 - (63 - (hi - lo)) ≡ hi - lo + 1 = omega arith in
    rw (ones_shr 64 (63 - (hi - lo)) (omega arith), width, and_mask)
