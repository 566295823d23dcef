use Rattle.std.proofs.Common.{refl}
use Rattle.served_walk.proofs.RowWhole.{told}
use Rattle.served_walk.proofs.access_rows.accepted.Goals as goal

pub returns : goal.returns
returns g c = record {
  served = told g.F.Finds.holds g.F.Finds.row_at c.args.words.now.scene.now c.args.access.now c.below_leaf-outcome.new.words.met _ _ _
      ((rw (c.in-None.ensures.same refl) at c.below_leaf-outcome.ensures.gave) c.in-None.ensures.gave.2) c.tell_second.ensures;
}
