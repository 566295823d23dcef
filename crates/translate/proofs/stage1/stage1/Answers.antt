use Rattle.std.proofs.Common.{refl, Ok, Err, Some}
use Rattle.sysregs.specs.Registers.{config_of}
use Rattle.sysregs.specs.Sides.{side_of}
use Rattle.stage1_walk.proofs.Accepted.{accepted_size}
use Rattle.translate.proofs.FirstStage.{is_off, stage_off, stage_refused, stage_on}
use Rattle.translate.proofs.Entering.{begins_off, begins_refused_off, begins_refused, entered1, base_there1}
use Rattle.translate.proofs.stage1.stage1.Goals as goal

pub returns-in-Ok-clause-walked : goal.returns-in-Ok-clause-walked
returns-in-Ok-clause-walked g c =
    let k = config_of c.args.under.now.regs in
    let off = rw c.config-config.ensures.same at c.if-not-config.true in
    let h = begins_off k c.args.access.now c.in-Ok.out off (rw c.config-config.ensures.same at c.in-Ok.ensures) in
    stage_off c.args.under.now c.args.access.now (g.S.Supply.memory c.args.supply.now) _ _ c.in-Ok.out (is_off k c.args.access.now c.in-Ok.out h)
    c.requires.empty

pub returns-in-Err-clause-walked : goal.returns-in-Err-clause-walked
returns-in-Err-clause-walked g c =
    let k = config_of c.args.under.now.regs in
    let off = rw c.config-config.ensures.same at c.if-not-config.true in
    stage_refused c.args.under.now c.args.access.now (g.S.Supply.memory c.args.supply.now) _ _ c.in-Err.fault
    (begins_refused_off k c.args.access.now c.in-Err.fault off (rw c.config-config.ensures.same at c.in-Err.ensures)) c.requires.empty

pub returns-in-Err-enter1-clause-walked : goal.returns-in-Err-enter1-clause-walked
returns-in-Err-enter1-clause-walked g c =
    let k = config_of c.args.under.now.regs in
    let on = rw c.config-config.ensures.same at c.if-not-config.false in
    stage_refused c.args.under.now c.args.access.now (g.S.Supply.memory c.args.supply.now) _ _ c.in-Err-enter1.fault
    (begins_refused k c.args.access.now c.in-Err-enter1.fault on (rw c.config-config.ensures.same at c.in-Err-enter1.ensures.value)) c.requires.empty

pub stage1_on-requires-clause-base : goal.stage1_on-requires-clause-base
stage1_on-requires-clause-base g c =
    let k = config_of c.args.under.now.regs in
    let e = entered1 k c.args.access.now c.in-Ok-enter1.sizes (rw c.config-config.ensures.same at c.in-Ok-enter1.ensures.value) in
    let t = base_there1 c.args.under.now.regs (side_of c.args.access.now.va) c.start1-start.result.now (rw c.side-side.ensures at c.start1-start.ensures)
    (accepted_size k c.args.access.now e.0) in
    rw c.of-walk.ensures.value.access t.0

pub stage1_on-requires-clause-table : goal.stage1_on-requires-clause-table
stage1_on-requires-clause-table g c =
    let k = config_of c.args.under.now.regs in
    let e = entered1 k c.args.access.now c.in-Ok-enter1.sizes (rw c.config-config.ensures.same at c.in-Ok-enter1.ensures.value) in
    let t = base_there1 c.args.under.now.regs (side_of c.args.access.now.va) c.start1-start.result.now (rw c.side-side.ensures at c.start1-start.ensures)
    (accepted_size k c.args.access.now e.0) in
    (t.1, t.2)

pub returns-in-Ok-stage1_on-clause-walked : goal.returns-in-Ok-stage1_on-clause-walked
returns-in-Ok-stage1_on-clause-walked g c =
    let on = rw c.config-config.ensures.same at c.if-not-config.false in
    stage_on c.args.under.now c.args.access.now (g.S.Supply.memory c.args.supply.now) _ _ (Ok c.in-Ok-stage1_on.leaf)
    (Ok record { out = c.in-Ok-stage1_on.leaf.out; leaf = Some c.in-Ok-stage1_on.leaf }) on refl
    (rw c.of-walk.ensures.value.access at c.in-Ok-stage1_on.ensures.walked)

pub returns-in-Err-stage1_on-clause-walked : goal.returns-in-Err-stage1_on-clause-walked
returns-in-Err-stage1_on-clause-walked g c =
    let on = rw c.config-config.ensures.same at c.if-not-config.false in
    stage_on c.args.under.now c.args.access.now (g.S.Supply.memory c.args.supply.now) _ _ (Err c.in-Err-stage1_on.stop)
    (Err c.in-Err-stage1_on.stop) on refl
    (rw c.of-walk.ensures.value.access at c.in-Err-stage1_on.ensures.walked)
