use Rattle.std.proofs.Common.{List, subst}
use Rattle.std.specs.Prelude.{fold, filter}
use Rattle.std.proofs.lemmas.List.{take_all}
use Rattle.trails.specs.declared.event.Event.TheVariants.{Dsb}
use Rattle.tlbi_ops.specs.declared.inval.Inval.{Inval}
use Rattle.machine_spec.specs.Invalidations.{completes}
use Rattle.machine_spec.specs.Machine.{killed}
use Rattle.cpu_model.specs.Cores.{AreCaches}
use Rattle.machine.proofs.Seated.{took_more}
use Rattle.machine.proofs.seat.take_all.Goals as goal

pub loop-inval-preserved : goal.loop-inval-preserved
loop-inval-preserved c =
    let l = c.loop-inval in
    took_more (completes (Dsb c.args.core c.args.kind)) c.args.inbox.now l.inval-index _ c.args.cpu.now l.cpu c.take_completed.new.cpu
    c.loop-inval-test.true l.invariant c.take_completed.ensures.rest c.take_completed.ensures.rows

pub returns-clause-rows : goal.returns-clause-rows
returns-clause-rows c h l held =
    subst (λ (xs : List Inval). AreCaches h c.args.cpu.now.number (fold killed l (filter (completes (Dsb c.args.core c.args.kind)) xs)) c.loop-inval.cpu)
    (take_all c.loop-inval.inval-index c.args.inbox.now c.loop-inval-test.false) (c.loop-inval.invariant.1 h l held)
