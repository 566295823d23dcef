use Rattle.std.proofs.Common.{arith, length, ap}
use Rattle.served_walk.proofs.ChainRows.{refused_gave, text_of, conflict_of}
use Rattle.served_walk.proofs.chain.chain.Goals as goal

pub returns-in-Err-clause-gave : goal.returns-in-Err-clause-gave
returns-in-Err-clause-gave g c =
    refused_gave g.F.Finds.holds g.F.Finds.row_at c.args.scene.now c.args.ipa c.args.s1ptw _ _ c.in-Err.fault
    (rw c.config.ensures.same at c.in-Err.ensures)

pub by_table-requires-clause-room : goal.by_table-requires-clause-room
by_table-requires-clause-room g c = omega (arith, ap length ((c.in-None.ensures.gave c.args.s1ptw).0), c.requires.room)

pub returns-in-Some-by_table-clause-most : goal.returns-in-Some-by_table-clause-most
returns-in-Some-by_table-clause-most g c = omega (arith, ap length ((c.in-None.ensures.gave c.args.s1ptw).0), c.in-Some-by_table.ensures.most)

pub returns-in-Some-by_table-clause-gave : goal.returns-in-Some-by_table-clause-gave
returns-in-Some-by_table-clause-gave g c =
    let d = c.in-None.ensures.gave c.args.s1ptw in
    rw (d.0, d.1) at (c.in-Some-by_table.ensures.gave d.2)

pub by_base-requires-clause-room : goal.by_base-requires-clause-room
by_base-requires-clause-room g c =
    omega (arith, ap length ((c.in-None.ensures.gave c.args.s1ptw).0), ap length (c.in-None-by_table.ensures.gave.0), c.requires.room)

pub returns-clause-most : goal.returns-clause-most
returns-clause-most g c =
    omega (arith, ap length ((c.in-None.ensures.gave c.args.s1ptw).0), ap length (c.in-None-by_table.ensures.gave.0), c.by_base.ensures.most)

pub returns-clause-gave : goal.returns-clause-gave
returns-clause-gave g c =
    let d = c.in-None.ensures.gave c.args.s1ptw in
    let t = c.in-None-by_table.ensures.gave in
    rw (t.1, d.1) (rw (t.0, d.0) at (c.by_base.ensures.gave c.args.met.now d.2 t.2))

pub returns-in-Some-by_table-clause-text : goal.returns-in-Some-by_table-clause-text
returns-in-Some-by_table-clause-text g c = text_of _ c.in-Some-by_table.ensures.line

pub returns-in-Some-by_table-clause-conflict : goal.returns-in-Some-by_table-clause-conflict
returns-in-Some-by_table-clause-conflict g c = conflict_of c.args.trail.now c.by_table.new.trail c.by_table.new.met c.in-Some-by_table.result
    c.in-Some-by_table.ensures.line

pub returns-clause-text : goal.returns-clause-text
returns-clause-text g c = text_of _ c.by_base.ensures.line

pub returns-clause-conflict : goal.returns-clause-conflict
returns-clause-conflict g c = conflict_of c.args.trail.now c.by_base.new.trail c.by_table.new.met c.by_base.result c.by_base.ensures.line
