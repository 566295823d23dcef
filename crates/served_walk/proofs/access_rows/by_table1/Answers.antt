use Rattle.std.proofs.Common.{arith}
use Rattle.served_walk.proofs.RowHits.{no_table1, table1_long, table1_unfit, table1_ended, table1_more}
use Rattle.served_walk.proofs.RowWhole.{noted_first}
use Rattle.served_walk.proofs.access_rows.by_table1.Goals as goal

pub returns-in-None-clause-gave : goal.returns-in-None-clause-gave
returns-in-None-clause-gave g c = (
  c.requires.empty,
  no_table1 g.F.Finds.holds g.F.Finds.row_at c.args.words.now.scene.now c.args.access.now
      c.requires.on c.requires.accepted (rw c.sought-sought.ensures at c.in-None.ensures.least),
)

pub returns-then-items-gt-MOST_ITEMS-clause-gave : goal.returns-then-items-gt-MOST_ITEMS-clause-gave
returns-then-items-gt-MOST_ITEMS-clause-gave g c = (
  c.requires.empty,
  table1_long g.F.Finds.holds g.F.Finds.row_at c.args.words.now.scene.now c.args.access.now c.requires.on c.requires.accepted c.in-Some.seen
      c.trail-items.result.now
      (rw c.sought-sought.ensures at c.in-Some.ensures.least) c.trail-items.ensures (λ n. omega (arith, c.if-items-gt-MOST_ITEMS.true, n)),
)

pub returns-in-Ended-clause-gave : goal.returns-in-Ended-clause-gave
returns-in-Ended-clause-gave g c =
    table1_ended g.F.Finds.holds g.F.Finds.row_at c.args.words.now.scene.now c.args.access.now c.requires.on c.requires.accepted c.in-Some.seen
    c.trail-items.result.now c.note.new.self c.in-Ended.len
    c.in-Ended.outcome _ (rw c.sought-sought.ensures at c.in-Some.ensures.least) c.in-Some.ensures.made c.trail-items.ensures
    (rw (c.config.ensures.same, (rw c.requires.empty at c.append.ensures)) at c.in-Ended.ensures)
    (rw (rw c.requires.empty at c.append.ensures) at c.cut.ensures) (noted_first _ _ _ c.note.ensures.services c.requires.fresh)

pub behind_row-requires-clause-more : goal.behind_row-requires-clause-more
behind_row-requires-clause-more g c = (rw (c.config.ensures.same, (rw c.requires.empty at c.append.ensures)) at c.in-More.ensures).0

pub returns-in-More-clause-gave : goal.returns-in-More-clause-gave
returns-in-More-clause-gave g c =
    table1_more g.F.Finds.holds g.F.Finds.row_at c.args.words.now.scene.now c.args.access.now c.requires.on c.requires.accepted c.in-Some.seen
    c.trail-items.result.now c.note-in-More.new.self c.behind_row.new.words.met _ _
    (rw c.sought-sought.ensures at c.in-Some.ensures.least) c.in-Some.ensures.made c.trail-items.ensures c.behind_row.ensures.gave
    (noted_first _ _ _ c.note-in-More.ensures.services c.requires.fresh)

pub returns-in-Other-clause-gave : goal.returns-in-Other-clause-gave
returns-in-Other-clause-gave g c = (
  c.cut-in-Other.ensures,
  table1_unfit g.F.Finds.holds g.F.Finds.row_at c.args.words.now.scene.now c.args.access.now c.requires.on c.requires.accepted c.in-Some.seen
      c.trail-items.result.now
      (rw c.sought-sought.ensures at c.in-Some.ensures.least) c.trail-items.ensures
      (rw (c.config.ensures.same, (rw c.requires.empty at c.append.ensures)) at c.in-Other.ensures),
)
