use Rattle.std.proofs.Common.{◌≡◌, drop, not}
use Rattle.phys_mem.specs.Ranges.{is_range, first_place}
use Rattle.phys_mem.proofs.checks.bad_place.Given as goal

abbrev pub invariant-loop-place : goal.invariant-loop-place
invariant-loop-place l = first_place (λ r. not (is_range r)) l.place (drop l.place l.ranges) ≡ first_place (λ r. not (is_range r)) 0 l.ranges
