-- What a walk through stage 2 is done under.
use Rattle.std.specs.Prelude.{◌≡◌}
use Rattle.sysregs.specs.Registers.{granule_of}
use Rattle.sysregs.specs.declared.regs.Side.{Side}
use Rattle.fault_codes.specs.declared.fault.Stage.TheVariants.{S2}
use Rattle.table_reads.specs.declared.levels.Walker.{Walker}
use Rattle.table_reads.specs.Numbers.{AreSound, sizes1}
use Rattle.walk_spec.specs.Needs.{Regime}
use Rattle.walk_spec.specs.Stage2.{Asked2}
use Rattle.stage2_walk.specs.declared.under.Under2.{Under2}

-- what is asked
abbrev pub asked_under : (under : Under2) → Asked2
asked_under u = record { config = u.config.now; sizes = u.sizes; s1ptw = u.s1ptw; ipa = u.ipa }

-- stage 2 with this mark at this moment
abbrev pub walker_under : (under : Under2) → Walker
walker_under u = record { moment = u.moment; stage = S2; s1ptw = u.s1ptw }

-- the numbers are those of stage 2's granule
pub record IsUnder (u : Under2) : Type 0 where
  pub sound : AreSound u.sizes
  pub granule : u.sizes.granule ≡ granule_of u.config.now.tg2

-- the regime of a side, for the items that fit
abbrev pub regime_under : (under : Under2) (side : Side) → Regime
regime_under u s = record { config = u.config.now; side = s; stage1 = sizes1 u.config.now s; stage2 = u.sizes }
