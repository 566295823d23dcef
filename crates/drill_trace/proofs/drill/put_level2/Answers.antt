use Rattle.std.proofs.Common.{◌∙◌, arith}
use Rattle.drill_trace.specs.Drill.{level2_at}
use Rattle.drill_trace.proofs.Lists.{grown}
use Rattle.drill_trace.proofs.drill.put_level2.Goals as goal

pub loop-i-preserved : goal.loop-i-preserved
loop-i-preserved c =
    let l = c.loop-i in (
      grown level2_at 4 l.i c.args.events.now.items l.events.items c.push_reserved.new.self.items c.store.result c.loop-i-test.true l.invariant.0
          c.store.ensures c.push_reserved.ensures.items,
      omega (arith, l.invariant.1, c.push_reserved.ensures.len),
      c.push_reserved.ensures.capacity ∙ l.invariant.2,
    )
