use Rattle.std.proofs.Common.{ap, Err}
use Rattle.trails.specs.declared.outcome.Stop.TheVariants.{Fault as FaultStop}
use Rattle.translate.proofs.FirstStage.{walked_large1, walked_from1}
use Rattle.translate.proofs.stage1.stage1_on.Goals as goal

pub returns-in-Err-clause-walked : goal.returns-in-Err-clause-walked
returns-in-Err-clause-walked g c =
    let h = c.requires.of in
    let s = c.in-Err.ensures.small in
    walked_large1 c.args.under.now c.args.walk.now.access.now (g.S.Supply.memory c.args.supply.now) c.requires.accepted _
    (rw (c.walker1.ensures, c.moment.ensures, h.sizes, c.requires.base, c.requires.empty) at c.in-Err.ensures.item) _ _
    (rw (h.sizes, c.requires.base) at s.0) (ap (λ f. Err (FaultStop f)) (rw c.walker1.ensures at s.1))

pub returns-clause-walked : goal.returns-clause-walked
returns-clause-walked g c =
    let h = c.requires.of in
    walked_from1 c.args.under.now c.args.walk.now.access.now (g.S.Supply.memory c.args.supply.now) c.requires.accepted _
    (rw (c.walker1.ensures, c.moment.ensures, h.sizes, c.requires.base, c.requires.empty) at c.in_default.ensures.item) _ _ _
    (rw (h.sizes, c.requires.base) at c.in_default.ensures.small)
    (rw (h.sizes, c.start_table.ensures, c.requires.base) at c.stage1_from.ensures.walked)
