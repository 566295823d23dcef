use Rattle.std.proofs.Common.{◌≡◌, ◌+◌, ◌-◌, ◌++◌}
use Rattle.std.specs.Prelude.{vec_len, vec_capacity}
use Rattle.drill_trace.specs.Drill.{events_from, drawn_events}
use Rattle.drill_trace.proofs.drill.put_drawn.Given as goal

abbrev pub invariant-loop-event : goal.invariant-loop-event
invariant-loop-event l =
    (l.events.items ++ events_from (drawn_events - l._event) l.draws.last ≡ l.fn.events.items ++ events_from drawn_events l.fn.start)
    × (vec_len l.events ≡ vec_len l.fn.events + l._event) × (vec_capacity l.events ≡ vec_capacity l.fn.events)
