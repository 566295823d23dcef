use Rattle.std.proofs.Common.{rules, arith, ◌≡◌, ◌≤◌, ◌+◌, length, length-append, Err, refl, sym, subst, ap, ◌∙◌}
use Rattle.sysregs.specs.Sides.{hpd_of}
use Rattle.trails.specs.Lengths.{most_per_word}
use Rattle.stage1_walk.proofs.Above.{one_more, none_yet}
use Rattle.walk_spec.specs.declared.entry.Table1.{Table1}
use Rattle.stage1_walk.specs.Under.{asked_under}
use Rattle.stage1_walk.specs.Gave.{Walked1}
use Rattle.stage1_walk.proofs.OnEntries.{entry_here, last_given, word_stopped, word_last, word_goes}
use Rattle.stage1_walk.proofs.walk.walk1_under.Goals as goal

pub returns-in_err-word-clause-walked : goal.returns-in_err-word-clause-walked
returns-in_err-word-clause-walked g c =
    let gave = c.in_err-word.ensures.gave in
    let table : Table1 = record { address = c.loop-word.address; bits = c.bits_of.result } in
    let here = entry_here c.args.under.now c.loop-word.left table _ c.requires.under c.loop-word.invariant.place.0 in
    let e : c.from_residual.result ≡ Err c.in_err-word.field-0.0 = search rules in
    c.loop-word.invariant.walked _ _ _ (rw (← c.bits_of.ensures) (word_stopped _ _ _ _ _ here _ _ _ _ _ _ gave e))

pub loop-word-init : goal.loop-word-init
loop-word-init g c = record {
  left = omega arith;
  table = (c.requires.table.0, c.requires.table.1);
  place = (c.place-place.ensures.value, c.place-place.ensures.aligned);
  most = omega arith;
  walked = λ new r after w. subst
      (λ t. Walked1 g.S.Supply1.gives (asked_under c.args.under.now) c.args.left t c.args.supply.now c.args.trail.now new r after)
      (sym (none_yet c.args.table (hpd_of c.args.under.now.config.now c.args.under.now.side))) w;
}

pub loop-word-preserved : goal.loop-word-preserved
loop-word-preserved g c =
    let i = c.loop-word.invariant in
    let gave = c.in_ok-word.ensures.gave in
    let n : length c.word_of.new.trail ≤ length c.loop-word.trail + most_per_word =
    omega (arith, ap length gave.grown, length-append c.loop-word.trail gave.more, gave.most) in
    let s = c.in-Some.ensures in
    let last = last_given c.loop-word.trail c.word_of.new.trail gave.more _ gave.grown gave.word in
    let table : Table1 = record { address = c.loop-word.address; bits = c.bits_of.result } in
    let here = entry_here c.args.under.now c.loop-word.left table _ c.requires.under i.place.0 in
    let hpd = hpd_of c.args.under.now.config.now c.args.under.now.side in record {
      left = omega (arith, i.left);
      table = (s.2, s.3);
      place = (
        c.place_below-place.ensures.value _ (c.requires.under.granule ∙ sym c.requires.granule) (omega (arith, i.left, c.requires.left, s.1)),
        c.place_below-place.ensures.aligned,
      );
      most = omega (arith, i.most, n, s.1);
      walked = λ new r after w. i.walked new r after (rw (← c.bits_of.ensures)
          (word_goes _ _ _ _ _ here _ _ _ _ _ _ gave last.1 _ _ _ _ (s.0 last.0) s.1
          (rw (c.bits_of.ensures, one_more c.args.table.bits hpd c.loop-word.words c.in_ok-word.word) w)));
    }

pub returns-in-None-clause-walked : goal.returns-in-None-clause-walked
returns-in-None-clause-walked g c =
    let gave = c.in_ok-word.ensures.gave in
    let table : Table1 = record { address = c.loop-word.address; bits = c.bits_of.result } in
    let here = entry_here c.args.under.now c.loop-word.left table _ c.requires.under c.loop-word.invariant.place.0 in
    c.loop-word.invariant.walked _ _ _
    (rw (← c.bits_of.ensures) (word_last _ _ _ _ _ here _ _ _ _ _ _ gave c.last_place.ensures _ _ refl c.end_by.ensures.value))
