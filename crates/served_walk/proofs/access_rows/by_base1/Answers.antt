use Rattle.served_walk.proofs.RowBase.{large1_gave, table1_gave, sized_of}
use Rattle.served_walk.proofs.access_rows.by_base1.Goals as goal

pub root1-requires-clause-sized : goal.root1-requires-clause-sized
root1-requires-clause-sized g c = rw (c.config.ensures.same, c.requires.side) (sized_of _ c.args.access.now c.requires.accepted)

pub returns-in-Ok : goal.returns-in-Ok
returns-in-Ok g c = record {
  gave = table1_gave g.F.Finds.holds g.F.Finds.row_at c.args.words.now.scene.now c.args.access.now c.requires.on c.requires.accepted _ _ _ c.in-Ok.from _
      (rw (c.regs.ensures, c.requires.side) at c.in-Ok.ensures.value)
      (rw (c.requires.kept, (rw (c.requires.empty, c.regs.ensures, c.requires.side) at c.in-Ok.ensures.item)) at c.both_below.ensures.gave);
}

pub returns-in-Err : goal.returns-in-Err
returns-in-Err g c = record {
  gave = large1_gave g.F.Finds.holds g.F.Finds.row_at c.args.words.now.scene.now c.args.access.now c.requires.on c.requires.accepted _ _ c.in-Err.fault
      (rw (c.requires.empty, c.regs.ensures, c.requires.side) at c.in-Err.ensures.item) (rw (c.regs.ensures, c.requires.side) at c.in-Err.ensures.value);
}
