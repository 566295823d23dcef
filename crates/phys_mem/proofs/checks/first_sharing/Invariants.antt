use Rattle.std.proofs.Common.{◌≡◌, drop}
use Rattle.phys_mem.specs.Ranges.{share_byte, first_place}
use Rattle.phys_mem.proofs.checks.first_sharing.Given as goal

abbrev pub invariant-loop-place : goal.invariant-loop-place
invariant-loop-place l = first_place (λ other. share_byte other l.range) l.place (drop l.place l.ranges) ≡ first_place (λ other. share_byte other l.range) 0
    l.ranges
