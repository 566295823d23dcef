use Rattle.std.proofs.Common.{◌∙◌, arith}
use Rattle.drill_trace.specs.Drill.{drawn_events}
use Rattle.drill_trace.proofs.Lists.{drawn_more, all_drawn}
use Rattle.drill_trace.proofs.drill.put_drawn.Goals as goal

pub loop-event-preserved : goal.loop-event-preserved
loop-event-preserved c =
    let l = c.loop-event in (
      drawn_more drawn_events l._event l.draws.last c.draw_event.new.draws.last l.events.items c.push_reserved.new.self.items c.draw_event.result
          c.loop-event-test.true c.draw_event.ensures.event c.draw_event.ensures.last c.push_reserved.ensures.items ∙ l.invariant.0,
      omega (arith, l.invariant.1, c.push_reserved.ensures.len),
      c.push_reserved.ensures.capacity ∙ l.invariant.2,
    )

pub returns : goal.returns
returns c =
    all_drawn drawn_events c.loop-event._event c.loop-event.draws.last c.loop-event.events.items c.loop-event-test.false ∙ c.loop-event.invariant.0
