-- A level from 0 to 3 has each class of fault.
use Rattle.std.proofs.Common.{ℕ, zero, suc, ◌≤◌, arith}
use Rattle.geometry.specs.Tables.{most_left, level_of}
use Rattle.fault_codes.specs.Status.{HasLevel}
use Rattle.fault_codes.specs.declared.fault.Class.TheVariants.{Permission}

pub has_level : (left : ℕ) → left ≤ most_left → HasLevel Permission (level_of left)
has_level zero h = omega arith
has_level (suc zero) h = omega arith
has_level (suc (suc zero)) h = omega arith
has_level (suc (suc (suc zero))) h = omega arith
has_level (suc (suc (suc (suc n)))) h = absurd (omega (arith, h))
