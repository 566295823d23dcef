use Rattle.std.proofs.Common.{sym, subst, drop}
use Rattle.sysregs.specs.Sides.{side_of}
use Rattle.walk_spec.specs.Needs.{regime_of}
use Rattle.translate.specs.Standing.{IsStoodWord}
use Rattle.translate.proofs.OnWords1.{word_flat, word_deep, word_denied, word_read}
use Rattle.translate.proofs.stand.stand_word.Goals as goal

pub returns-then-not-config : goal.returns-then-not-config
returns-then-not-config g c =
    let r = regime_of c.args.under.now.config.now (side_of c.args.under.now.access.now.va) in
    subst (λ s. IsStoodWord c.args.entry.now.left c.args.items.now c.stand_read.result s)
    (sym (word_flat r c.args.entry.now (drop c.args.at c.args.items.now) c.if-not-config.true)) c.stand_read.ensures

pub stand_read-requires-in-Ok-clause-at : goal.stand_read-requires-in-Ok-clause-at
stand_read-requires-in-Ok-clause-at g c = (c.in-Found.ensures (side_of c.args.under.now.access.now.va)).0

pub returns-in-Ok : goal.returns-in-Ok
returns-in-Ok g c =
    let r = regime_of c.args.under.now.config.now (side_of c.args.under.now.access.now.va) in
    let h = c.in-Found.ensures (side_of c.args.under.now.access.now.va) in
    subst (λ s. IsStoodWord c.args.entry.now.left c.args.items.now c.stand_read-in-Ok.result s)
    (sym (word_read r c.args.entry.now (drop c.args.at c.args.items.now) c.if-not-config.false c.in-Found.leaf _ h.1 c.in-Ok.ensures))
    c.stand_read-in-Ok.ensures

pub returns-in-Err : goal.returns-in-Err
returns-in-Err g c =
    let r = regime_of c.args.under.now.config.now (side_of c.args.under.now.access.now.va) in
    let h = c.in-Found.ensures (side_of c.args.under.now.access.now.va) in (
      h.0,
      word_denied r c.args.entry.now (drop c.args.at c.args.items.now) c.if-not-config.false c.in-Found.leaf _ h.1 c.in-Err.fault c.in-Err.ensures.0
          c.in-Err.ensures.1,
    )

pub returns-in-Refused : goal.returns-in-Refused
returns-in-Refused g c =
    let r = regime_of c.args.under.now.config.now (side_of c.args.under.now.access.now.va) in
    let h = c.in-Refused.ensures (side_of c.args.under.now.access.now.va) in
    (h.0, word_deep r c.args.entry.now (drop c.args.at c.args.items.now) c.if-not-config.false _ h.1)

pub returns-in-Within : goal.returns-in-Within
returns-in-Within g c =
    let r = regime_of c.args.under.now.config.now (side_of c.args.under.now.access.now.va) in
    let h = c.in-Within.ensures (side_of c.args.under.now.access.now.va) in
    (_, word_deep r c.args.entry.now (drop c.args.at c.args.items.now) c.if-not-config.false _ h.1.1)

pub returns-in-Before : goal.returns-in-Before
returns-in-Before g c =
    let r = regime_of c.args.under.now.config.now (side_of c.args.under.now.access.now.va) in
    let h = c.in-Before.ensures (side_of c.args.under.now.access.now.va) in
    (_, word_deep r c.args.entry.now (drop c.args.at c.args.items.now) c.if-not-config.false _ h.1)

pub returns-in-Unfit : goal.returns-in-Unfit
returns-in-Unfit g c =
    let r = regime_of c.args.under.now.config.now (side_of c.args.under.now.access.now.va) in
    word_deep r c.args.entry.now (drop c.args.at c.args.items.now) c.if-not-config.false _ (c.in-Unfit.ensures (side_of c.args.under.now.access.now.va))
