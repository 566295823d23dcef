use Rattle.descriptors.proofs.Bounds.{bounded1}
use Rattle.stage1_walk.specs.Under.{asked_under}
use Rattle.stage1_walk.proofs.Above.{own_bits, goes_down}
use Rattle.stage1_walk.proofs.step.table_below.Goals as goal

pub returns-in-Some : goal.returns-in-Some
returns-in-Some g c =
    let u = c.args.under.now in
    let own = own_bits u.config.now u.side c.args.entry.now.left c.args.word _ _ c.in-Some.ensures in
    let b = rw c.in-Some.ensures at (bounded1 u.config.now u.side c.args.entry.now.left c.args.word) in
    let l = rw c.is_too_large.ensures at c.if-not-is_too_large.true in
    (goes_down (asked_under u) c.args.entry.now c.args.word c.in-Some.address _ _ c.in-Some.ensures own l, b.0, b.1, b.2)
