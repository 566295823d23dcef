-- What a walk through stage 1 is done under.
use Rattle.std.specs.Prelude.{◌≡◌, true}
use Rattle.sysregs.specs.Registers.{granule_of}
use Rattle.sysregs.specs.declared.regs.Config.{Config}
use Rattle.sysregs.specs.Sides.{tg_of, side_of}
use Rattle.trails.specs.declared.outcome.Access.{Access}
use Rattle.table_reads.specs.Numbers.{AreSound, sizes1}
use Rattle.walk_spec.specs.Needs.{Regime, regime_with}
use Rattle.walk_spec.specs.Stage1.{Asked, untagged}
use Rattle.stage1_walk.specs.declared.under.Under1.{Under1}

-- the regime
abbrev pub regime_under : (under : Under1) → Regime
regime_under u = regime_with u.config.now u.side u.sizes

-- what is asked, for an access that is judged
abbrev pub asked_under : (under : Under1) → Asked
asked_under u = record { regime = regime_under u; judged = true; access = u.access.now }

-- the numbers are those of the side's granule, and the address is the access's without its tag
pub record IsUnder (u : Under1) : Type 0 where
  pub sound : AreSound u.sizes
  pub granule : u.sizes.granule ≡ granule_of (tg_of u.config.now u.side)
  pub address : u.address ≡ untagged u.access.now.va

-- it is done for an access under register fields
pub record IsUnderFor (c : Config) (a : Access) (u : Under1) : Type 0 where
  pub config : u.config.now ≡ c
  pub access : u.access.now ≡ a
  pub side : u.side ≡ side_of a.va
  pub sizes : u.sizes ≡ sizes1 c (side_of a.va)
