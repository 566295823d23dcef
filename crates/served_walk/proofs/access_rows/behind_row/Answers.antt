use Rattle.std.proofs.lemmas.Int.{to_z-of_z}
use Rattle.served_walk.proofs.RowBase.{row_left, row_table, row_some, row_first, row_rest, row_cut, row_from, row_room}
use Rattle.served_walk.proofs.access_rows.behind_row.Goals as goal

pub split_at-requires : goal.split_at-requires
split_at-requires g c = row_some g.F.Finds.holds g.F.Finds.row_at c.args.words.now.scene.now c.args.access.now c.requires.on c.requires.accepted
    c.args.items.now c.requires.more

pub both_below-requires-clause-table : goal.both_below-requires-clause-table
both_below-requires-clause-table g c =
    row_table g.F.Finds.holds g.F.Finds.row_at c.args.words.now.scene.now c.args.access.now c.requires.on c.requires.accepted c.args.items.now
    c.requires.more c.start_table-from.result
    (row_from g.F.Finds.holds g.F.Finds.row_at c.args.words.now.scene.now c.args.access.now c.requires.on c.requires.accepted c.args.items.now
    c.requires.more c.start_table-from.result c.item_at.result c.args.level
    (rw (to_z-of_z _ _ c.ranges.level) at c.start_table-from.ensures)
    (row_first g.F.Finds.holds g.F.Finds.row_at c.args.words.now.scene.now c.args.access.now c.requires.on c.requires.accepted c.args.items.now
    c.requires.more _ c.item_at.result c.split_at.ensures.front c.item_at.ensures) c.requires.level)

pub both_below-requires-clause-room : goal.both_below-requires-clause-room
both_below-requires-clause-room g c =
    row_room g.F.Finds.holds g.F.Finds.row_at c.args.words.now.scene.now c.args.access.now c.requires.on c.requires.accepted c.args.items.now
    c.requires.more c.start_table-from.result _
    (row_from g.F.Finds.holds g.F.Finds.row_at c.args.words.now.scene.now c.args.access.now c.requires.on c.requires.accepted c.args.items.now
    c.requires.more c.start_table-from.result c.item_at.result c.args.level
    (rw (to_z-of_z _ _ c.ranges.level) at c.start_table-from.ensures)
    (row_first g.F.Finds.holds g.F.Finds.row_at c.args.words.now.scene.now c.args.access.now c.requires.on c.requires.accepted c.args.items.now
    c.requires.more _ c.item_at.result c.split_at.ensures.front c.item_at.ensures) c.requires.level)
    (row_cut g.F.Finds.holds g.F.Finds.row_at c.args.words.now.scene.now c.args.access.now c.requires.on c.requires.accepted c.args.items.now
    c.requires.more _ _ c.requires.whole c.cut.ensures)

pub returns : goal.returns
returns g c = record {
  gave = row_left g.F.Finds.holds g.F.Finds.row_at c.args.words.now.scene.now c.args.access.now c.requires.on c.requires.accepted c.args.items.now
      c.requires.more _ _ _ c.start_table-from.result _
      (row_from g.F.Finds.holds g.F.Finds.row_at c.args.words.now.scene.now c.args.access.now c.requires.on c.requires.accepted c.args.items.now
      c.requires.more c.start_table-from.result c.item_at.result c.args.level
      (rw (to_z-of_z _ _ c.ranges.level) at c.start_table-from.ensures)
      (row_first g.F.Finds.holds g.F.Finds.row_at c.args.words.now.scene.now c.args.access.now c.requires.on c.requires.accepted c.args.items.now
      c.requires.more _ c.item_at.result c.split_at.ensures.front c.item_at.ensures) c.requires.level)
      (rw (
        (row_rest g.F.Finds.holds g.F.Finds.row_at c.args.words.now.scene.now c.args.access.now c.requires.on c.requires.accepted c.args.items.now
            c.requires.more _ c.split_at.ensures.back),
        (row_cut g.F.Finds.holds g.F.Finds.row_at c.args.words.now.scene.now c.args.access.now
            c.requires.on c.requires.accepted c.args.items.now c.requires.more _ _ c.requires.whole c.cut.ensures),
      )
      at c.both_below.ensures.gave);
}
