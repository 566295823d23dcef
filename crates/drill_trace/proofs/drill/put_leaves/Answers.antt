use Rattle.std.proofs.Common.{◌∙◌, arith}
use Rattle.drill_trace.specs.Drill.{leaf_at}
use Rattle.drill_trace.proofs.Lists.{grown}
use Rattle.drill_trace.proofs.drill.put_leaves.Goals as goal

pub loop-k-preserved : goal.loop-k-preserved
loop-k-preserved c =
    let l = c.loop-k in (
      grown leaf_at 64 l.k c.args.events.now.items l.events.items c.push_reserved.new.self.items c.leaf_at.result c.loop-k-test.true l.invariant.0
          c.leaf_at.ensures c.push_reserved.ensures.items,
      omega (arith, l.invariant.1, c.push_reserved.ensures.len),
      c.push_reserved.ensures.capacity ∙ l.invariant.2,
    )
