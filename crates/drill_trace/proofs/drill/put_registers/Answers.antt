use Rattle.std.proofs.Common.{◌∙◌, arith}
use Rattle.drill_trace.specs.Drill.{register_at}
use Rattle.drill_trace.proofs.Lists.{grown}
use Rattle.drill_trace.proofs.drill.put_registers.Goals as goal

pub loop-k-preserved : goal.loop-k-preserved
loop-k-preserved c =
    let l = c.loop-k in (
      grown register_at 16 l.k c.args.events.now.items l.events.items c.push_reserved.new.self.items c.register_by.result c.loop-k-test.true l.invariant.0
          c.register_by.ensures c.push_reserved.ensures.items,
      omega (arith, l.invariant.1, c.push_reserved.ensures.len),
      c.push_reserved.ensures.capacity ∙ l.invariant.2,
    )
