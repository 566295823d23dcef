use Rattle.std.proofs.Common.{◌≡◌, ◌+◌, ◌++◌, map}
use Rattle.std.specs.Prelude.{vec_len, vec_capacity}
use Rattle.drill_trace.specs.Drill.{level2_at, upto}
use Rattle.drill_trace.proofs.drill.put_level2.Given as goal

abbrev pub invariant-loop-i : goal.invariant-loop-i
invariant-loop-i l =
    (l.events.items ≡ l.fn.events.items ++ map level2_at (upto l.i)) × (vec_len l.events ≡ vec_len l.fn.events + l.i)
    × (vec_capacity l.events ≡ vec_capacity l.fn.events)
