use Rattle.served_walk.proofs.RowWhole.{told, off_access}
use Rattle.served_walk.proofs.access_rows.off.Goals as goal

pub returns : goal.returns
returns g c = record {
  served = told g.F.Finds.holds g.F.Finds.row_at c.args.words.now.scene.now c.args.access.now _ _ _ _
      (off_access g.F.Finds.holds g.F.Finds.row_at c.args.words.now.scene.now c.args.access.now _ _ _ _ c.requires.off c.requires.accepted
      c.requires.fresh (rw c.requires.empty at c.output_below-outcome.ensures.gave))
      c.tell_second.ensures;
}
