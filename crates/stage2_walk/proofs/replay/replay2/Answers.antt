use Rattle.std.proofs.Common.{◌<◌, length, arith}
use Rattle.sysregs.specs.declared.regs.Side.TheVariants.{Low}
use Rattle.stage2_walk.proofs.OnKept.{left_over}
use Rattle.stage2_walk.proofs.replay.replay2.Goals as goal

pub returns-in-Within-clause-replayed : goal.returns-in-Within-clause-replayed
returns-in-Within-clause-replayed c = λ s. (c.in-Within.ensures s).1

pub returns-in-Within-clause-table : goal.returns-in-Within-clause-table
returns-in-Within-clause-table c = (c.in-Within.ensures Low).0

pub returns-else-at-chain-clause-replayed : goal.returns-else-at-chain-clause-replayed
returns-else-at-chain-clause-replayed c = λ s.
    let h = c.in-Found.ensures s in
    let m = h.0 in
    let l : c.in-Found.at < length c.args.chain.now = omega arith in
    left_over _ c.in-Found.leaf c.args.chain.now c.in-Found.at l h.1
