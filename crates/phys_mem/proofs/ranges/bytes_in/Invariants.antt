use Rattle.std.proofs.Common.{◌≡◌, ◌^◌, ◌-◌, min, take}
use Rattle.phys_mem.specs.Ranges.{bytes_of}
use Rattle.phys_mem.proofs.ranges.bytes_in.Given as goal

-- the bytes of the ranges so far
abbrev pub invariant-loop-range : goal.invariant-loop-range
invariant-loop-range l = l.sum ≡ min (bytes_of (take l.range-index l.ranges)) (2 ^ 64 - 1)
