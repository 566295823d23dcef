-- What an IPA that is not refused tells.
use Rattle.std.proofs.Common.{◌≡◌, ℕ, ◌^◌, Bool, true, false, not, refl}
use Rattle.std.specs.Prelude.{◌&&◌, nat_lt}
use Rattle.geometry.specs.Tables.{input_size}
use Rattle.sysregs.specs.declared.regs.Config.{Config}
use Rattle.table_reads.specs.Numbers.{is_sized2}
use Rattle.walk_spec.specs.Stage2.{is_refused2}

first_true : (a b : Bool) → not (a && b) ≡ false → a ≡ true
first_true true b h = refl
first_true false b h = absurd cc

-- the sizes of stage 2 are in range and suit each other
pub accepted_sizes : (c : Config) (ipa : ℕ) → is_refused2 c ipa ≡ false → is_sized2 c ≡ true
unfolding is_refused2
accepted_sizes c ipa h = first_true (is_sized2 c) (nat_lt ipa (2 ^ input_size c.t2sz)) h
