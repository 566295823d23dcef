use Rattle.std.proofs.Common.{◌<◌, arith, length, sym, subst}
use Rattle.walk_spec.specs.Needs.{fits}
use Rattle.stage2_walk.specs.Under.{asked_under, regime_under}
use Rattle.stage2_walk.specs.Standing.{IsStood2}
use Rattle.walk_spec.proofs.Kept.{asks_none, asks_off, asks_by}
use Rattle.kept_items.proofs.StartTables.{base2_sound}
use Rattle.sysregs.specs.declared.regs.Side.TheVariants.{Low}
use Rattle.stage2_walk.proofs.OnKept.{asks_base}
use Rattle.stage2_walk.proofs.stand.stand_on.Goals as goal

pub returns-then-at-items : goal.returns-then-at-items
returns-then-at-items c = λ s.
    let e = asks_base (asked_under c.args.under.now) c.requires.accepted in
    (c.args.under.now.ipa, asks_none (fits (regime_under c.args.under.now s)) _ _ _ e c.args.items.now c.args.at c.if-at-items.true)

pub stand_behind-requires-clause-base : goal.stand_behind-requires-clause-base
stand_behind-requires-clause-base c =
    base2_sound (regime_under c.args.under.now Low) c.args.under.now.ipa c.item_at-item.result (c.if-not-fits_start.ensures Low c.args.under.now.ipa)

pub returns-then-not-fits_start : goal.returns-then-not-fits_start
returns-then-not-fits_start c = λ s.
    let e = asks_base (asked_under c.args.under.now) c.requires.accepted in
    let l : c.args.at < length c.args.items.now = omega arith in
    asks_off (fits (regime_under c.args.under.now s)) _ _ _ e c.args.items.now c.args.at c.item_at-item.result l c.item_at-item.ensures
    (sym (c.if-not-fits_start.ensures s c.args.under.now.ipa))

pub returns : goal.returns
returns c = λ s.
    let e = asks_base (asked_under c.args.under.now) c.requires.accepted in
    let l : c.args.at < length c.args.items.now = omega arith in
    let by =
    asks_by (fits (regime_under c.args.under.now s)) _ _ _ e c.args.items.now c.args.at c.item_at-item.result l c.item_at-item.ensures
    (sym (c.if-not-fits_start.ensures s c.args.under.now.ipa)) in
    subst (λ z. IsStood2 c.args.under.now.config.now c.args.items.now c.stand_behind.result z) (sym by) (c.stand_behind.ensures s)
