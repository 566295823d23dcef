use Rattle.std.proofs.Common.{arith, refl}
use Rattle.sysregs.specs.declared.regs.Side.TheVariants.{Low}
use Rattle.served_walk.proofs.ChainLeaf.{leaf_sound}
use Rattle.served_walk.proofs.ChainRows.{none_found, one_unfit, two_unfit, leaf_gave, two_gave, short_by, appended}
use Rattle.served_walk.proofs.chain.by_leaf.Goals as goal

pub returns-then-not-are_short-clause-gave : goal.returns-then-not-are_short-clause-gave
returns-then-not-are_short-clause-gave g c = λ p. (
  refl,
  refl,
  two_unfit g.F.Finds.holds g.F.Finds.row_at c.args.scene.now c.args.ipa c.requires.accepted c.in-Two.first c.in-Two.second _ _
      (rw c.sought.ensures at c.in-Two.ensures.best) c.trail-chain-in-Two.ensures c.trail-other.ensures
      (short_by _ _ _ c.are_short.ensures c.if-not-are_short.true),
)

pub returns-in-Nothing-clause-gave : goal.returns-in-Nothing-clause-gave
returns-in-Nothing-clause-gave g c = λ p. (
  refl,
  refl,
  none_found g.F.Finds.holds g.F.Finds.row_at c.args.scene.now c.args.ipa c.requires.accepted (rw c.sought.ensures at c.in-Nothing.ensures.best),
)

pub returns-else-chain-gt-MOST_CHAIN-clause-gave : goal.returns-else-chain-gt-MOST_CHAIN-clause-gave
returns-else-chain-gt-MOST_CHAIN-clause-gave g c = λ p.
    leaf_gave g.F.Finds.holds g.F.Finds.row_at c.args.scene.now c.args.ipa c.requires.accepted p c.in-One.only _ c.in-Ended.leaf _ _ _ _
    (rw c.sought.ensures at c.in-One.ensures.best) c.in-One.ensures.made c.trail-chain.ensures (rw c.config.ensures.same at c.in-Ended.ensures.replayed)
    c.append.ensures c.note.ensures.services

pub returns-then-chain-gt-MOST_CHAIN-clause-gave : goal.returns-then-chain-gt-MOST_CHAIN-clause-gave
returns-then-chain-gt-MOST_CHAIN-clause-gave g c = λ p. (
  refl,
  refl,
  one_unfit g.F.Finds.holds g.F.Finds.row_at c.args.scene.now c.args.ipa c.requires.accepted c.in-One.only _ _
      (rw c.sought.ensures at c.in-One.ensures.best) c.trail-chain.ensures (rw c.config.ensures.same at c.replay2.ensures.replayed)
      (λ l e n. omega (arith, c.if-chain-gt-MOST_CHAIN.true, n)),
)

pub returns-in_default : goal.returns-in_default
returns-in_default g c = record {
  most = omega arith;
  text = tt;
  sound = tt;
  conflict = tt;
  gave = λ p. (
    refl,
    refl,
    one_unfit g.F.Finds.holds g.F.Finds.row_at c.args.scene.now c.args.ipa c.requires.accepted c.in-One.only _ _
        (rw c.sought.ensures at c.in-One.ensures.best) c.trail-chain.ensures (rw c.config.ensures.same at c.replay2.ensures.replayed)
        (λ l e n. c.in_default.not-Ended l e),
  );
}

pub returns-else-chain-gt-MOST_CHAIN-clause-sound : goal.returns-else-chain-gt-MOST_CHAIN-clause-sound
returns-else-chain-gt-MOST_CHAIN-clause-sound g c =
    leaf_sound _ Low c.args.ipa _ c.in-Ended.leaf (c.in-Ended.ensures.replayed Low)

pub returns-else-not-are_short-clause-gave : goal.returns-else-not-are_short-clause-gave
returns-else-not-are_short-clause-gave g c = λ p.
    two_gave g.F.Finds.holds g.F.Finds.row_at c.args.scene.now c.args.ipa c.requires.accepted p c.in-Two.first c.in-Two.second _ _ _ _ _ _
    (rw c.sought.ensures at c.in-Two.ensures.best) c.trail-chain-in-Two.ensures c.trail-other.ensures c.append-in-Two.ensures
    c.keep_second.ensures.services c.keep_second.ensures.second c.keep_second.ensures.instead

pub returns-else-not-are_short-clause-conflict : goal.returns-else-not-are_short-clause-conflict
returns-else-not-are_short-clause-conflict g c =
    omega (arith, appended c.args.trail.now _ _ c.append-in-Two.ensures, c.keep_second.ensures.instead)
