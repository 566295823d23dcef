use Rattle.std.proofs.Common.{◌≡◌, ◌+◌, ◌++◌, map}
use Rattle.std.specs.Prelude.{vec_len, vec_capacity}
use Rattle.drill_trace.specs.Drill.{leaf_at, upto}
use Rattle.drill_trace.proofs.drill.put_leaves.Given as goal

abbrev pub invariant-loop-k : goal.invariant-loop-k
invariant-loop-k l =
    (l.events.items ≡ l.fn.events.items ++ map leaf_at (upto l.k)) × (vec_len l.events ≡ vec_len l.fn.events + l.k)
    × (vec_capacity l.events ≡ vec_capacity l.fn.events)
