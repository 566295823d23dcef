use Rattle.std.proofs.Common.{arith}
use Rattle.translate.proofs.Begins1.{refused_stands}
use Rattle.translate.proofs.Entering.{begins_refused_off, begins_refused}
use Rattle.translate.proofs.Replays.{on_refused}
use Rattle.translate.proofs.replay.replay.Goals as goal

pub returns-in-Ok : goal.returns-in-Ok
returns-in-Ok c = rw c.items-items.ensures.items at c.replay_output.ensures

pub returns-in-Err : goal.returns-in-Err
returns-in-Err c =
    let h = begins_refused_off c.args.config.now c.args.access.now c.in-Err.fault c.if-not-config.true c.in-Err.ensures in
    rw c.faulted.ensures
    (on_refused _ _ c.args.trail.now c.in-Err.fault 0 (omega arith) (refused_stands c.args.config.now c.args.access.now c.in-Err.fault c.args.trail.now h))

pub returns-in-Ok-enter1 : goal.returns-in-Ok-enter1
returns-in-Ok-enter1 c = rw (c.items-items.ensures.items, c.of.ensures.value.config, c.of.ensures.value.access) at c.replay_on.ensures

pub returns-in-Err-enter1 : goal.returns-in-Err-enter1
returns-in-Err-enter1 c =
    let h = begins_refused c.args.config.now c.args.access.now c.in-Err-enter1.fault c.if-not-config.false c.in-Err-enter1.ensures.value in
    rw c.faulted-in-Err-enter1.ensures
    (on_refused _ _ c.args.trail.now c.in-Err-enter1.fault 0 (omega arith)
    (refused_stands c.args.config.now c.args.access.now c.in-Err-enter1.fault c.args.trail.now h))
