use Rattle.phys_mem.proofs.WholeRanges.{sum_goes_on}
use Rattle.phys_mem.proofs.ranges.bytes_in.Goals as goal

pub loop-range-preserved : goal.loop-range-preserved
loop-range-preserved c =
    sum_goes_on c.args.ranges.now c.loop-range.range-index c.loop-range.sum c.saturating_add-sum.result c.loop-range-test.true c.loop-range.invariant
    c.saturating_add-sum.ensures
