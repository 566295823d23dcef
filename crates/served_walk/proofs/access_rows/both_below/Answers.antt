use Rattle.std.proofs.Common.{arith}
use Rattle.served_walk.proofs.RowAccess.{below_gave, below_stop}
use Rattle.served_walk.proofs.access_rows.both_below.Goals as goal

pub returns-in-Ok : goal.returns-in-Ok
returns-in-Ok g c = record {
  gave = λ v ends o.
      below_gave g.F.Finds.holds g.F.Finds.row_at c.args.words.now.scene.now c.args.access.now _ _ _ _ _ _ _ c.in-Ok.leaf _ _ _
      (c.in-Ok.ensures.gave v ends o) (rw c.in-Ok.ensures.same at c.output_below.ensures.gave);
}

pub returns-in-Err : goal.returns-in-Err
returns-in-Err g c = record {
  gave = λ v ends o.
      rw c.stopped.ensures
      (below_stop g.F.Finds.holds g.F.Finds.row_at c.args.words.now.scene.now c.args.access.now _ _ _ _ _ _ _ c.in-Err.stop (c.in-Err.ensures.gave v ends o)
      (omega (arith, c.in-Err.ensures.most, c.requires.room)));
}
