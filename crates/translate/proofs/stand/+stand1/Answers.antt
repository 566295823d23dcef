use Rattle.std.proofs.Common.{◌≡◌, ◌≤◌, ◌<◌, length, drop, arith, ap, true}
use Rattle.sysregs.specs.Sides.{side_of}
use Rattle.walk_spec.specs.Needs.{regime_of}
use Rattle.walk_spec.specs.BothStages.{asked}
use Rattle.walk_spec.proofs.Kept.{rest_none}
use Rattle.geometry.specs.Tables.{most_left}
use Rattle.translate.specs.Standing.{EndsAtTop}
use Rattle.translate.proofs.Deeper.{word_needs_deep, deep_end}
use Rattle.translate.proofs.Tops.{down_top, reached_top}
use Rattle.translate.proofs.OnTables1.{by_word, by_reached, by_stopped, lifted, goes_here, ends_top, ends_untop}
use Rattle.translate.proofs.stand.+stand1.Goals as goal

pub returns-in-Down : goal.returns-in-Down
returns-in-Down g t c = λ top.
    let u = c.args.under.now in
    let e = c.entry1-entry.ensures in
    let h = c.in-Had.ensures in
    let few = c.requires.left.1 in
    let few2 : c.entry1-entry.result.left ≤ most_left = rw e few in
    let below : c.in-Had.next ≡ length c.args.items.now → EndsAtTop u.config.now (side_of u.access.now.va) c.args.items.now =
    (λ l. ends_top _ _ c.args.items.now h.3.0 c.in-Had.item c.in-Had.next h.3.1
    (down_top (asked u.config.now true u.access.now) c.entry1-entry.result c.in-Had.item few2 h.2 c.in-Down.table c.in-Down.ensures.value) l) in
    let s0 : 0 < c.args.left = rw (← ap (λ x. x.left) e) c.in-Down.ensures.sound.0 in
    lifted u.config.now u.access.now c.args.left c.args.table c.entry1-entry.result e c.in-Had.item c.args.items.now
    (drop c.args.at c.args.items.now) (drop c.in-Had.next c.args.items.now) h.1 c.in-Down.table c.in-Down.ensures.value s0 c.stand1.result
    (c.stand1.ensures below)

pub returns-in-Reached : goal.returns-in-Reached
returns-in-Reached g t c = λ top.
    let u = c.args.under.now in
    let e = c.entry1-entry.ensures in
    let h = c.in-Had.ensures in
    let few = c.requires.left.1 in
    let few2 : c.entry1-entry.result.left ≤ most_left = rw e few in (
      h.0,
      by_reached u.config.now u.access.now c.args.left c.args.table c.entry1-entry.result e c.in-Had.item (drop c.args.at c.args.items.now)
          (drop c.in-Had.next c.args.items.now) h.1 c.in-Reached.leaf c.in-Reached.ensures.value,
      λ l. ends_untop _ _ c.args.items.now h.3.0 c.in-Had.item c.in-Had.next h.3.1
          (reached_top (asked u.config.now true u.access.now) c.entry1-entry.result c.in-Had.item few2 h.2 c.in-Reached.leaf
          c.in-Reached.ensures.value) l,
    )

pub returns-in-Stopped : goal.returns-in-Stopped
returns-in-Stopped g t c = λ top.
    let u = c.args.under.now in
    let e = c.entry1-entry.ensures in
    let h = c.in-Had.ensures in (
      h.0,
      by_stopped u.config.now u.access.now c.args.left c.args.table c.entry1-entry.result e c.in-Had.item (drop c.args.at c.args.items.now)
          (drop c.in-Had.next c.args.items.now) h.1 c.in-Stopped.fault c.in-Stopped.ensures.value,
    )

pub returns-in-Refused : goal.returns-in-Refused
returns-in-Refused g t c = λ top.
    let u = c.args.under.now in
    let h = c.in-Refused.ensures in (
      h.0,
      by_word u.config.now u.access.now c.args.left c.args.table c.entry1-entry.result c.entry1-entry.ensures (drop c.args.at c.args.items.now)
          _ h.1,
    )

pub returns-then-at-items : goal.returns-then-at-items
returns-then-at-items g t c = λ top.
    let u = c.args.under.now in
    let h = c.in-Needs.ensures in (
      (
        h.0,
        by_word u.config.now u.access.now c.args.left c.args.table c.entry1-entry.result c.entry1-entry.ensures
            (drop c.args.at c.args.items.now) _ h.1,
      ),
      top c.if-at-items.true,
      goes_here u.config.now u.access.now c.args.left c.args.table (drop c.args.at c.args.items.now) _ c.requires.left.1
          (rest_none c.args.at c.args.items.now c.if-at-items.true) c.from1_at.ensures,
    )

pub returns-else-at-items : goal.returns-else-at-items
returns-else-at-items g t c = λ top.
    let u = c.args.under.now in
    let h = c.in-Needs.ensures in
    let l : c.args.at < length c.args.items.now = omega arith in (
      (
        h.0,
        by_word u.config.now u.access.now c.args.left c.args.table c.entry1-entry.result c.entry1-entry.ensures
            (drop c.args.at c.args.items.now) _ h.1,
      ),
      deep_end _ _ c.args.items.now c.args.at l (word_needs_deep (regime_of u.config.now (side_of u.access.now.va)) c.entry1-entry.result _ h.0 h.1),
    )

pub returns-in-Unfit : goal.returns-in-Unfit
returns-in-Unfit g t c =
    let u = c.args.under.now in
    λ top. by_word u.config.now u.access.now c.args.left c.args.table c.entry1-entry.result c.entry1-entry.ensures (drop c.args.at c.args.items.now)
    _ c.in-Unfit.ensures
