-- Start levels and tables of stage 1.
use Rattle.std.proofs.Common.{◌≡◌, ◌≤◌, ◌<◌, ◌%◌, ◌^◌, arith}
use Rattle.geometry.specs.Tables.{most_left, level_of}
use Rattle.sysregs.specs.declared.regs.Config.{Config}
use Rattle.sysregs.specs.declared.regs.Side.{Side}
use Rattle.table_reads.specs.declared.sizes.Sizes.{Sizes}
use Rattle.table_reads.specs.Numbers.{sizes1}
use Rattle.stage1_walk.specs.Clauses as Tables1
use Rattle.stage1_walk.specs.declared.walk.From1.{From1}
use Rattle.stage2_walk.proofs.Starts.{left_below_of, level_least, level_most}

-- the start table is a table of its stage
pub table1_of : (c : Config) (s : Side) (from : From1) (n : Sizes) → n ≡ sizes1 c s → from.level ≡ level_of n.start → n.start ≤ most_left
    → from.base < 2 ^ 52
    → from.base % 8 ≡ 0 → Tables1.IsTableOf c s from
table1_of c s from n e l m b r = record {
  least = rw l (level_least n.start m);
  most = rw l (level_most n.start m);
  start = rw (← e, l, left_below_of n.start m) (omega arith);
  below = b;
  eights = r;
}
