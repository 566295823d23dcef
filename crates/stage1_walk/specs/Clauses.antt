-- The table that a walk through stage 1 begins in.
use Rattle.std.specs.Prelude.{◌≡◌, ◌≤◌, ◌<◌, ◌%◌, ◌^◌, pos, ◌≤ℤ◌}
use Rattle.geometry.specs.Tables.{left_below}
use Rattle.sysregs.specs.declared.regs.Config.{Config}
use Rattle.sysregs.specs.declared.regs.Side.{Side}
use Rattle.table_reads.specs.Numbers.{sizes1}
use Rattle.walk_spec.specs.declared.entry.Table1.{Table1}
use Rattle.stage1_walk.specs.declared.walk.From1.{From1}

-- the table
abbrev pub table_from : (from : From1) → Table1
table_from from = record { address = from.base; bits = from.tables }

-- it is one of the side's, from the start level down, and its words can be read
pub record IsTableOf (c : Config) (s : Side) (from : From1) : Type 0 where
  pub least : pos 0 ≤ℤ from.level
  pub most : from.level ≤ℤ pos 3
  pub start : left_below from.level ≤ (sizes1 c s).start
  pub below : from.base < 2 ^ 52
  pub eights : from.base % 8 ≡ 0
