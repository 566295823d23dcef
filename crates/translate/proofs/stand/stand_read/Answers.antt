use Rattle.std.proofs.Common.{◌≤◌, ◌+◌, ◌<◌, length, arith, refl, sym, Ok}
use Rattle.sysregs.specs.Sides.{side_of}
use Rattle.walk_spec.specs.Ask.{done}
use Rattle.walk_spec.specs.Needs.{fits, regime_of, word}
use Rattle.walk_spec.proofs.Kept.{asks_none, asks_off, asks_by}
use Rattle.stage1_walk.specs.Kept.{needed1}
use Rattle.translate.proofs.OnWords1.{split_at, fits_is_word1}
use Rattle.translate.proofs.stand.stand_read.Goals as goal

pub returns-then-at-items : goal.returns-then-at-items
returns-then-at-items g c =
    let r = regime_of c.args.under.now.config.now (side_of c.args.under.now.access.now.va) in (
      word (needed1 c.args.entry.now c.args.place),
      asks_none (fits r) _ (word (needed1 c.args.entry.now c.args.place)) (λ i. done (Ok i)) refl c.args.items.now c.args.at c.if-at-items.true,
    )

pub returns-then-not-fits_entry : goal.returns-then-not-fits_entry
returns-then-not-fits_entry g c =
    let r = regime_of c.args.under.now.config.now (side_of c.args.under.now.access.now.va) in
    let l : c.args.at < length c.args.items.now = omega arith in
    asks_off (fits r) _ (word (needed1 c.args.entry.now c.args.place)) (λ i. done (Ok i)) refl c.args.items.now c.args.at c.item_at-item.result l
    c.item_at-item.ensures (sym c.if-not-fits_entry.ensures)

pub returns : goal.returns
returns g c =
    let r = regime_of c.args.under.now.config.now (side_of c.args.under.now.access.now.va) in
    let l : c.args.at < length c.args.items.now = omega arith in
    let m : c.args.at + 1 ≤ length c.args.items.now = omega arith in (
      m,
      asks_by (fits r) _ (word (needed1 c.args.entry.now c.args.place)) (λ i. done (Ok i)) refl c.args.items.now c.args.at c.item_at-item.result l
          c.item_at-item.ensures (sym c.if-not-fits_entry.ensures),
      fits_is_word1 r c.args.entry.now c.args.place c.item_at-item.result c.if-not-fits_entry.ensures,
      split_at c.args.items.now c.args.at c.item_at-item.result l c.item_at-item.ensures,
    )
