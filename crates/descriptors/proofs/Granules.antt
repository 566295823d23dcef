-- The granules of the registers are the granules of the tables.
use Rattle.std.proofs.Common.{refl, inl, inr}
use Rattle.sysregs.specs.declared.regs.Tg.{Tg}
use Rattle.sysregs.specs.declared.regs.Tg.TheVariants.{K4, K16, K64}
use Rattle.sysregs.specs.Registers.{granule_of}
use Rattle.geometry.specs.Tables.{IsGranule}

pub granule_of_is_granule : (t : Tg) → IsGranule (granule_of t)
granule_of_is_granule K4 = inl refl
granule_of_is_granule K16 = inr (inl refl)
granule_of_is_granule K64 = inr (inr refl)
