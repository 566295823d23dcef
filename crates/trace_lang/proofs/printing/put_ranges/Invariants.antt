use Rattle.std.proofs.Common.{◌≡◌, ◌++◌, take, flat_map}
use Rattle.trace_lang.specs.Canonical.{line_of, range_words}
use Rattle.trace_lang.proofs.printing.put_ranges.Given as goal

-- the lines so far
abbrev pub invariant-loop-range : goal.invariant-loop-range
invariant-loop-range l = l.text.items ≡ l.fn.text.items ++ flat_map (λ r. line_of (range_words r)) (take l.range-index l.ranges)
