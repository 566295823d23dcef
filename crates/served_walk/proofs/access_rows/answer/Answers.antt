use Rattle.served_walk.proofs.RowWhole.{refused_access}
use Rattle.served_walk.proofs.access_rows.answer.Goals as goal

pub returns-in-Err : goal.returns-in-Err
returns-in-Err g c = record {
  served = rw (c.requires.empty, c.requires.none)
      (refused_access g.F.Finds.holds g.F.Finds.row_at c.args.words.now.scene.now c.args.access.now c.args.words.now.met c.in-Err.fault c.requires.fresh
      (rw c.config.ensures.same at c.in-Err.ensures));
}
