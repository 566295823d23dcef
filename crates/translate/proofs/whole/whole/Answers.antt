use Rattle.std.proofs.Common.{arith, Ok, Err}
use Rattle.trails.specs.declared.outcome.Stop.TheVariants.{Fault as FaultStop}
use Rattle.table_reads.proofs.Weaker.{rose_weaker}
use Rattle.translate.proofs.BothStages.{whole_stop1, whole_flat, whole_stop2, whole_ends}
use Rattle.translate.proofs.whole.whole.Goals as goal

pub returns-in-Err-clause-walked : goal.returns-in-Err-clause-walked
returns-in-Err-clause-walked g c =
    whole_stop1 c.args.under.now c.args.access.now (g.S.Supply.memory c.args.supply.now) _ _ c.in-Err.stop c.in-Err.ensures.walked

pub returns-then-not-config-clause-walked : goal.returns-then-not-config-clause-walked
returns-then-not-config-clause-walked g c =
    whole_flat c.args.under.now c.args.access.now (g.S.Supply.memory c.args.supply.now) _ c.in-Ok.output _ c.in-Ok.ensures.walked _
    (rw c.config-config.ensures.same at c.if-not-config.true)
    (rw (c.as_ref.ensures.value, c.config-config.ensures.same) at c.finish.ensures)

pub returns-in-Err-stage2_last-clause-walked : goal.returns-in-Err-stage2_last-clause-walked
returns-in-Err-stage2_last-clause-walked g c =
    let w = rw (c.in-Ok.ensures.out, c.in-Ok.ensures.same) at c.in-Err-stage2_last.ensures.came in
    whole_stop2 c.args.under.now c.args.access.now (g.S.Supply.memory c.args.supply.now) _ c.in-Ok.output _ c.in-Ok.ensures.walked _ _
    (rose_weaker _ _ _ _ c.in-Ok.ensures.later (omega arith)) (rw c.config-config.ensures.same at c.if-not-config.false) _ c.in-Err-stage2_last.stop w

pub returns-in-Err-stage2_end-clause-walked : goal.returns-in-Err-stage2_end-clause-walked
returns-in-Err-stage2_end-clause-walked g c =
    let w = rw (c.in-Ok.ensures.out, c.in-Ok.ensures.same) at
    (c.in-Ok-stage2_last.ensures.came.1 (Err c.in-Err-stage2_end.fault) c.in-Err-stage2_end.ensures.value) in
    whole_stop2 c.args.under.now c.args.access.now (g.S.Supply.memory c.args.supply.now) _ c.in-Ok.output _ c.in-Ok.ensures.walked _ _
    (rose_weaker _ _ _ _ c.in-Ok.ensures.later (omega arith)) (rw c.config-config.ensures.same at c.if-not-config.false) _
    (FaultStop c.in-Err-stage2_end.fault) w

pub returns-clause-walked : goal.returns-clause-walked
returns-clause-walked g c =
    let w = rw (c.in-Ok.ensures.out, c.in-Ok.ensures.same) at
    (c.in-Ok-stage2_last.ensures.came.1 (Ok c.in-Ok-stage2_end.leaf) c.in-Ok-stage2_end.ensures.value) in
    whole_ends c.args.under.now c.args.access.now (g.S.Supply.memory c.args.supply.now) _ c.in-Ok.output _ c.in-Ok.ensures.walked _ _
    (rose_weaker _ _ _ _ c.in-Ok.ensures.later (omega arith)) (rw c.config-config.ensures.same at c.if-not-config.false) _ c.in-Ok-stage2_end.leaf _ w
    (rw (c.as_ref-2.ensures.value, c.config-config.ensures.same) at c.finish-2.ensures)
