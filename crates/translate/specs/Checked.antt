-- The registers that an access is translated under, with a moment, and what was read off registers.
use Rattle.std.specs.Prelude.{ℕ, ◌≡◌, ◌<◌, ◌%◌, ◌^◌, Option, Some, None}
use Rattle.sysregs.specs.declared.regs.Config.{Config}
use Rattle.sysregs.specs.declared.regs.Regs.{Regs}
use Rattle.sysregs.specs.declared.regs.Side.{Side}
use Rattle.sysregs.specs.Registers.{InRange, config_of}
use Rattle.table_reads.specs.declared.sizes.Sizes.{Sizes}
use Rattle.table_reads.specs.Numbers.{AreSound}
use Rattle.walk_spec.specs.Fresh.{start_base1, start_base2}
use Rattle.stage1_walk.specs.Sized.{IsSized1}
use Rattle.stage2_walk.specs.Entered.{IsSized2}
use Rattle.translate.specs.declared.start.Start.{Start}

-- registers, with the moment of the items of a walk under them
pub record RegsAt : Type 0 where
  pub regs : Regs
  pub moment : ℕ

-- the fields are those of the registers
pub record AreChecked (c : Config) (regs : Regs) : Type 0 where
  pub fields : c ≡ config_of regs
  pub range : InRange c

-- where there are numbers, they are sound, the base that is kept is this one, and words can be read behind it
abbrev pub HasBase : (sizes : Option Sizes) (kept base : ℕ) → Type 0
HasBase None kept base = Unit {0}
HasBase (Some n) kept base = AreSound n × (kept ≡ base) × (kept < 2 ^ 52) × (kept % 8 ≡ 0)

-- what registers decide of stage 1 for a side
pub record IsStart1 (regs : Regs) (s : Side) (start : Start) : Type 0 where
  pub sized : IsSized1 (config_of regs) s start.sizes
  pub base : HasBase start.sizes start.base (start_base1 regs s)

-- what registers decide of stage 2
pub record IsStart2 (regs : Regs) (start : Start) : Type 0 where
  pub sized : IsSized2 (config_of regs) start.sizes
  pub base : HasBase start.sizes start.base (start_base2 regs)
