use Rattle.std.proofs.Common.{refl, arith}
use Rattle.served_walk.proofs.RowHits.{none1, leaf1_long, leaf1_unfit, leaf1_gave, two_by}
use Rattle.served_walk.proofs.RowWhole.{noted_first}
use Rattle.served_walk.proofs.access_rows.by_leaf1.Goals as goal

pub returns-then-items-gt-MOST_ITEMS-clause-gave : goal.returns-then-items-gt-MOST_ITEMS-clause-gave
returns-then-items-gt-MOST_ITEMS-clause-gave g c = (
  c.requires.empty,
  c.requires.none,
  leaf1_long g.F.Finds.holds g.F.Finds.row_at c.args.words.now.scene.now c.args.access.now c.requires.on c.requires.accepted c.in-One.only _
      (rw c.sought-sought.ensures at c.in-One.ensures.best) c.trail-items.ensures
      (λ n. omega (arith, c.if-items-gt-MOST_ITEMS.true, n)),
)

pub returns-in-Nothing-clause-gave : goal.returns-in-Nothing-clause-gave
returns-in-Nothing-clause-gave g c = (
  c.requires.empty,
  c.requires.none,
  none1 g.F.Finds.holds g.F.Finds.row_at c.args.words.now.scene.now c.args.access.now c.requires.on c.requires.accepted
      (rw c.sought-sought.ensures at c.in-Nothing.ensures.best),
)

pub returns-in-Ended-clause-gave : goal.returns-in-Ended-clause-gave
returns-in-Ended-clause-gave g c =
    rw c.requires.none
    (leaf1_gave g.F.Finds.holds g.F.Finds.row_at c.args.words.now.scene.now c.args.access.now c.requires.on c.requires.accepted c.in-One.only
    c.trail-items.result.now c.note.new.self c.in-Ended.len c.in-Ended.outcome _ (rw c.sought-sought.ensures at c.in-One.ensures.best)
    c.in-One.ensures.made c.trail-items.ensures
    (rw (c.config.ensures.same, (rw c.requires.empty at c.append.ensures)) at c.in-Ended.ensures)
    (rw (rw c.requires.empty at c.append.ensures) at c.cut.ensures) (noted_first _ _ _ c.note.ensures.services c.requires.fresh))

pub returns-in_default : goal.returns-in_default
returns-in_default g c = record {
  same = λ e. refl;
  gave = (
    c.cut-in_default.ensures,
    c.requires.none,
    leaf1_unfit g.F.Finds.holds g.F.Finds.row_at c.args.words.now.scene.now c.args.access.now c.requires.on c.requires.accepted c.in-One.only
        c.trail-items.result.now _ (rw c.sought-sought.ensures at c.in-One.ensures.best) c.trail-items.ensures
        (rw (c.config.ensures.same, (rw c.requires.empty at c.append.ensures)) at c.replay.ensures) c.in_default.not-Ended,
  );
}

pub returns-in-Two-clause-gave : goal.returns-in-Two-clause-gave
returns-in-Two-clause-gave g c =
    two_by g.F.Finds.holds g.F.Finds.row_at c.args.words.now.scene.now c.args.access.now c.requires.on c.requires.accepted c.in-Two.a c.in-Two.b _ _
    c.args.words.now.met _ _ _ (rw c.sought-sought.ensures at c.in-Two.ensures.best) c.trail.ensures c.trail-in-Two.ensures
    c.requires.fresh c.both_leaves.ensures
