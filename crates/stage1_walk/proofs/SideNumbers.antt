-- The numbers of stage 1 for a side.
use Rattle.std.proofs.Common.{◌≡◌, ap}
use Rattle.sysregs.specs.Registers.{granule_of}
use Rattle.sysregs.specs.Sides.{tg_of}
use Rattle.sysregs.specs.declared.regs.Config.{Config}
use Rattle.sysregs.specs.declared.regs.Side.{Side}
use Rattle.table_reads.specs.declared.sizes.Sizes.{Sizes}
use Rattle.table_reads.specs.Numbers.{sizes1}

-- their granule is the side's
pub granule_is : (c : Config) (s : Side) (n : Sizes) → n ≡ sizes1 c s → n.granule ≡ granule_of (tg_of c s)
unfolding sizes1
granule_is c s n h = ap (λ z. z.granule) h
