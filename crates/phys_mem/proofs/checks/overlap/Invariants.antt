use Rattle.std.proofs.Common.{◌≡◌, take, drop, []}
use Rattle.phys_mem.specs.Ranges.{overlap_behind}
use Rattle.phys_mem.proofs.checks.overlap.Given as goal

abbrev pub invariant-loop-second : goal.invariant-loop-second
invariant-loop-second l = overlap_behind (take l.second l.ranges) (drop l.second l.ranges) ≡ overlap_behind [] l.ranges
