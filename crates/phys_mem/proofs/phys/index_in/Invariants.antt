use Rattle.std.proofs.Common.{◌≡◌, ◌+◌, ◌*◌, drop}
use Rattle.phys_mem.specs.Ranges.{bytes_of}
use Rattle.phys_mem.specs.Words.{index_from}
use Rattle.phys_mem.proofs.phys.index_in.Given as goal

abbrev pub invariant-loop-start : goal.invariant-loop-start
invariant-loop-start l = record {
  found : index_from l.first (drop l.start-index l.ranges) l.pa ≡ index_from 0 l.ranges l.pa;
  counted : 8 * l.first + bytes_of (drop l.start-index l.ranges) ≡ bytes_of l.ranges;
}
