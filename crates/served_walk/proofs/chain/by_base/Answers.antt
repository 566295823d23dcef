use Rattle.std.proofs.Common.{arith}
use Rattle.stage2_walk.proofs.Accepted.{accepted_sizes}
use Rattle.served_walk.proofs.ChainRows.{large_gave, root_gave, behind_base}
use Rattle.served_walk.proofs.chain.by_base.Goals as goal

pub root2-requires-clause-sized : goal.root2-requires-clause-sized
root2-requires-clause-sized g c = rw c.config.ensures.same (accepted_sizes _ c.args.ipa c.requires.accepted)

pub returns-in-Err-clause-gave : goal.returns-in-Err-clause-gave
returns-in-Err-clause-gave g c = λ met.
    large_gave g.F.Finds.holds g.F.Finds.row_at c.args.scene.now c.args.ipa c.requires.accepted c.args.s1ptw met _ _ c.in-Err.fault
    (rw c.regs.ensures at c.in-Err.ensures.item) (rw c.regs.ensures at c.in-Err.ensures.value)

pub walk2_from-requires-clause-room : goal.walk2_from-requires-clause-room
walk2_from-requires-clause-room g c =
    (behind_base c.args.scene.now.force.now c.args.ipa c.requires.accepted c.args.s1ptw c.args.trail.now _ _ c.in-Ok.from
    (rw c.regs.ensures at c.in-Ok.ensures.item) (rw c.regs.ensures at c.in-Ok.ensures.value) c.requires.room).0

pub returns-clause-most : goal.returns-clause-most
returns-clause-most g c =
    let a = behind_base c.args.scene.now.force.now c.args.ipa c.requires.accepted c.args.s1ptw c.args.trail.now _ _ c.in-Ok.from
    (rw c.regs.ensures at c.in-Ok.ensures.item) (rw c.regs.ensures at c.in-Ok.ensures.value) c.requires.room in
    omega (arith, a.1, c.walk2_from.ensures.most)

pub returns-clause-gave : goal.returns-clause-gave
returns-clause-gave g c = λ met.
    root_gave g.F.Finds.holds g.F.Finds.row_at c.args.scene.now c.args.ipa c.requires.accepted c.args.s1ptw met _ _ _ c.in-Ok.from _
    (rw c.regs.ensures at c.in-Ok.ensures.item) (rw c.regs.ensures at c.in-Ok.ensures.value)
    c.walk2_from.ensures.walked
