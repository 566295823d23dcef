use Rattle.std.proofs.Common.{◌≤◌, ◌+◌, sym, ap, subst, arith, ◌<◌, length}
use Rattle.stage2_walk.specs.Under.{asked_under, regime_under}
use Rattle.stage2_walk.specs.Standing.{IsStood2}
use Rattle.stage2_walk.proofs.OnWords.{word_at}
use Rattle.stage2_walk.proofs.OnKept.{kept_none, kept_off, kept_reaches, kept_stops, kept_goes}
use Rattle.stage2_walk.proofs.Starts.{table_within}
use Rattle.stage2_walk.proofs.stand.+stand_left.Goals as goal

pub returns-then-at-items : goal.returns-then-at-items
returns-then-at-items g t c = λ s. (
  table_within c.args.under.now.config.now _ c.args.under.now.sizes c.args.left c.requires.sizes (ap (λ f. f.level) c.table_at.ensures) c.requires.left
      c.requires.under.sound.start (rw c.table_at.ensures c.requires.table.0) (rw c.table_at.ensures c.requires.table.1),
  (
    word_at (asked_under c.args.under.now) c.args.left c.args.table c.place-place.result,
    kept_none (regime_under c.args.under.now s) (asked_under c.args.under.now) c.args.left c.args.table c.place-place.result c.place-place.ensures.value
        c.args.items.now c.args.at c.if-at-items.true,
    c.table_at.ensures,
  ),
)

pub returns-then-not-fits_word : goal.returns-then-not-fits_word
returns-then-not-fits_word g t c = λ s.
    let l : c.args.at < length c.args.items.now = omega arith in
    kept_off (regime_under c.args.under.now s) (asked_under c.args.under.now) c.args.left c.args.table c.place-place.result c.place-place.ensures.value
    c.args.items.now c.args.at c.item_at-item.result l c.item_at-item.ensures (c.if-not-fits_word.ensures s c.args.table)

pub returns-in-Down : goal.returns-in-Down
returns-in-Down g t c = λ s.
    let l : c.args.at < length c.args.items.now = omega arith in
    let e = kept_goes (regime_under c.args.under.now s) (asked_under c.args.under.now) c.args.left c.args.table c.place-place.result
    c.place-place.ensures.value c.args.items.now c.args.at c.item_at-item.result l c.item_at-item.ensures (c.if-not-fits_word.ensures s c.args.table)
    c.in-Down.table c.in-Down.ensures.value c.in-Down.ensures.sound.0 in
    subst (λ z. IsStood2 c.args.under.now.config.now c.args.items.now c.stand_left.result z) (sym e) (c.stand_left.ensures s)

pub returns-in-Reached : goal.returns-in-Reached
returns-in-Reached g t c = λ s.
    let l : c.args.at < length c.args.items.now = omega arith in
    let m : c.args.at + 1 ≤ length c.args.items.now = omega arith in (
      m,
      kept_reaches (regime_under c.args.under.now s) (asked_under c.args.under.now) c.args.left c.args.table c.place-place.result
          c.place-place.ensures.value c.args.items.now c.args.at c.item_at-item.result l c.item_at-item.ensures (c.if-not-fits_word.ensures s c.args.table)
          c.in-Reached.leaf c.in-Reached.ensures.value,
    )

pub returns-in-Stopped : goal.returns-in-Stopped
returns-in-Stopped g t c = λ s.
    let l : c.args.at < length c.args.items.now = omega arith in
    let m : c.args.at + 1 ≤ length c.args.items.now = omega arith in (
      m,
      kept_stops (regime_under c.args.under.now s) (asked_under c.args.under.now) c.args.left c.args.table c.place-place.result c.place-place.ensures.value
          c.args.items.now c.args.at c.item_at-item.result l c.item_at-item.ensures (c.if-not-fits_word.ensures s c.args.table) c.in-Stopped.fault
          c.in-Stopped.ensures.value,
    )
