use Rattle.std.proofs.Common.{refl}
use Rattle.served_walk.proofs.RowWhole.{base_access}
use Rattle.served_walk.proofs.access_rows.below_leaf.Goals as goal

pub returns-in-None : goal.returns-in-None
returns-in-None g c = record {
  gave = λ none.
      base_access g.F.Finds.holds g.F.Finds.row_at c.args.words.now.scene.now c.args.access.now c.requires.on c.requires.accepted c.args.words.now.met
      c.by_base1.new.words.met _ _ c.requires.fresh none c.in-None.ensures.gave.1
      (rw (c.in-None.ensures.same refl) at c.by_base1.ensures.gave);
}
