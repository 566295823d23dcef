use Rattle.std.proofs.Common.{◌/◌}
use Rattle.phys_mem.proofs.WholeRanges.{opened, small_sum}
use Rattle.phys_mem.proofs.Places.{zero_opened}
use Rattle.phys_mem.proofs.phys.Phys.of.Goals as goal

pub invariant_of-result : goal.invariant_of-result
invariant_of-result c =
    opened c.args.ranges.now c.in_ok-ranges.ranges.items c.in_ok-words.words c.bytes_in.result c.in_ok-ranges.ensures.items c.in_ok-check.ensures.fits
    (small_sum c.args.ranges.now c.bytes_in.result c.in_ok-check.ensures.fits c.bytes_in.ensures) c.in_ok-words.ensures

pub returns-clause-memory : goal.returns-clause-memory
returns-clause-memory c =
    zero_opened c.args.ranges.now c.in_ok-ranges.ranges.items c.in_ok-words.words (c.bytes_in.result / 8) c.in_ok-ranges.ensures.items c.in_ok-words.ensures
