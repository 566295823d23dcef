-- The numbers of stage 1 for a side.
use Rattle.std.specs.Prelude.{◌≡◌, true, false, Option, Some, None}
use Rattle.sysregs.specs.declared.regs.Config.{Config}
use Rattle.sysregs.specs.declared.regs.Side.{Side}
use Rattle.table_reads.specs.declared.sizes.Sizes.{Sizes}
use Rattle.table_reads.specs.Numbers.{is_sized1, sizes1}

-- these are the numbers of a side, which are there where its TxSZ is in range
abbrev pub IsSized1 : (config : Config) (side : Side) (sizes : Option Sizes) → Type 0
IsSized1 c s None = is_sized1 c s ≡ false
IsSized1 c s (Some n) = (is_sized1 c s ≡ true) × (n ≡ sizes1 c s)
