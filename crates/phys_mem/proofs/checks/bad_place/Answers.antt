use Rattle.std.proofs.Common.{◌∙◌, sym, arith, not}
use Rattle.phys_mem.specs.Ranges.{is_range}
use Rattle.phys_mem.proofs.WholeRanges.{all_whole, none_behind}
use Rattle.phys_mem.proofs.checks.bad_place.Goals as goal

pub returns-clause-whole : goal.returns-clause-whole
returns-clause-whole c = all_whole 0 c.args.ranges.now (sym c.loop-place.invariant
    ∙ none_behind (λ r. not (is_range r)) c.args.ranges.now c.loop-place.place (omega arith))
