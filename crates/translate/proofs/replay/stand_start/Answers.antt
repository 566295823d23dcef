use Rattle.std.proofs.Common.{◌<◌, length, arith}
use Rattle.sysregs.specs.Sides.{side_of}
use Rattle.walk_spec.specs.Needs.{regime_of}
use Rattle.kept_items.proofs.StartTables.{base1_sound}
use Rattle.translate.proofs.Begins1.{started, start_top}
use Rattle.translate.proofs.replay.stand_start.Goals as goal

pub stand_granule-requires-clause-table : goal.stand_granule-requires-clause-table
stand_granule-requires-clause-table c =
    let u = c.args.under.now in
    rw c.start_table.ensures (base1_sound (regime_of u.config.now (side_of u.access.now.va)) c.item_at-item.result c.if-not-fits_start.ensures)

pub returns : goal.returns
returns c =
    let u = c.args.under.now in
    let l : 0 < length c.args.items.now = omega arith in
    let n = c.requires.of.sizes in
    let large = rw n at c.if-is_too_large.ensures in
    let top =
    start_top u.config.now u.access.now c.args.items.now c.requires.m c.requires.accepted c.item_at-item.result l c.item_at-item.ensures
    c.if-not-fits_start.ensures large in
    let d = rw (n, c.start_table.ensures) at (c.stand_granule.ensures top) in
    started u.config.now u.access.now c.args.items.now c.requires.m c.requires.accepted c.item_at-item.result l c.item_at-item.ensures
    c.if-not-fits_start.ensures large c.stand_granule.result d
