use Rattle.std.proofs.Common.{rules, arith, refl, length}
use mir.Val.{SFits}
use mir.Syntax.{w8}
use Rattle.std.proofs.lemmas.Int.{to_z-of_z}
use Rattle.geometry.specs.Tables.{left_below}
use Rattle.served_walk.proofs.ChainRows.{no_table, table_unfit, table_gave, room_by, has_room_by, more_is, appended}
use Rattle.served_walk.proofs.chain.by_table.Goals as goal

pub returns-in-None-clause-gave : goal.returns-in-None-clause-gave
returns-in-None-clause-gave g c = (
  refl,
  refl,
  no_table g.F.Finds.holds g.F.Finds.row_at c.args.scene.now c.args.ipa c.requires.accepted (rw c.sought.ensures at c.in-None.ensures.least),
)

pub returns-in_default : goal.returns-in_default
returns-in_default g c = record {
  most = omega arith;
  line = tt;
  sound = tt;
  gave = (
    refl,
    refl,
    table_unfit g.F.Finds.holds g.F.Finds.row_at c.args.scene.now c.args.ipa c.requires.accepted c.in-Some.seen _ _
        (rw c.sought.ensures at c.in-Some.ensures.least) c.trail-chain.ensures (rw c.config.ensures.same at c.replay2.ensures.replayed)
        (λ from e n. c.in_default.not-More from e),
  );
}

pub returns-then-not-has_room-clause-gave : goal.returns-then-not-has_room-clause-gave
returns-then-not-has_room-clause-gave g c = (
  refl,
  refl,
  table_unfit g.F.Finds.holds g.F.Finds.row_at c.args.scene.now c.args.ipa c.requires.accepted c.in-Some.seen _ _
      (rw c.sought.ensures at c.in-Some.ensures.least) c.trail-chain.ensures (rw c.config.ensures.same at c.in-More.ensures.replayed)
      (λ from e n. room_by _ _ _ (rw (c.left_below.ensures, to_z-of_z _ _ (let fits : SFits w8 c.in-More.from.level = search rules in fits)) at
      c.has_room.ensures) c.if-not-has_room.true
      (rw (← more_is c.in-More.from from e) at n)),
)

pub walk2_from-requires-clause-room : goal.walk2_from-requires-clause-room
walk2_from-requires-clause-room g c =
    let r = has_room_by (length c.trail-chain.result.now) (left_below c.in-More.from.level) c.has_room.result
    (rw (c.left_below.ensures, to_z-of_z _ _ (let fits : SFits w8 c.in-More.from.level = search rules in fits)) at c.has_room.ensures)
    c.if-not-has_room.false in
    let n = appended c.args.trail.now c.trail-chain.result.now c.append.new.trail c.append.ensures in
    omega (arith, r, n, c.requires.room)

pub returns-clause-most : goal.returns-clause-most
returns-clause-most g c =
    let r = has_room_by (length c.trail-chain.result.now) (left_below c.in-More.from.level) c.has_room.result
    (rw (c.left_below.ensures, to_z-of_z _ _ (let fits : SFits w8 c.in-More.from.level = search rules in fits)) at c.has_room.ensures)
    c.if-not-has_room.false in
    let n = appended c.args.trail.now c.trail-chain.result.now c.append.new.trail c.append.ensures in
    omega (arith, r, n, c.walk2_from.ensures.most)

pub returns-clause-gave : goal.returns-clause-gave
returns-clause-gave g c =
    table_gave g.F.Finds.holds g.F.Finds.row_at c.args.scene.now c.args.ipa c.requires.accepted c.args.s1ptw c.in-Some.seen _ c.in-More.from _ _ _ _ _ _
    (rw c.sought.ensures at c.in-Some.ensures.least) c.in-Some.ensures.made c.trail-chain.ensures
    (rw c.config.ensures.same at c.in-More.ensures.replayed) c.append.ensures c.note.ensures.services
    c.walk2_from.ensures.walked
