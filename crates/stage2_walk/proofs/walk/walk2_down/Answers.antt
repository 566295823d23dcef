use Rattle.std.proofs.Common.{rules, arith, ◌≡◌, ◌+◌, length, Err, refl, sym, ap, ◌∙◌}
use Rattle.table_reads.proofs.Weaker.{rose_weaker}
use Rattle.walk_spec.proofs.Walks.{one_longer}
use Rattle.stage2_walk.proofs.OnWords.{word_lacks, word_last, word_goes}
use Rattle.stage2_walk.proofs.walk.walk2_down.Goals as goal

pub returns-in_err-word-clause-down : goal.returns-in_err-word-clause-down
returns-in_err-word-clause-down g c =
    let h = rw c.loop-word.invariant.same at c.in_err-word.ensures.read in
    let e : c.from_residual.result ≡ Err c.in_err-word.field-0.0 = search rules in
    rw e (c.loop-word.invariant.walked _ _ _ (word_lacks _ _ _ _ _ _ c.loop-word.invariant.place.0 _ _ _ _ h.0 (ap Err h.1) h.2))

pub loop-word-preserved : goal.loop-word-preserved
loop-word-preserved g c =
    let i = c.loop-word.invariant in
    let h = rw i.same at c.in_ok-word.ensures.read in
    let l = c.in_ok-word.ensures.later in
    let s = c.in-Some.ensures in
    let n : length c.read_word.new.trail ≡ length c.loop-word.trail + 1 = one_longer _ _ _ h.0 in record {
      same = c.in_ok-word.ensures.same ∙ i.same;
      later = omega (arith, i.later, l);
      kept = search rules;
      left = omega (arith, i.left);
      table = (s.2, s.3);
      place = (
        c.place_below-place.ensures.value _ (c.requires.under.granule ∙ sym c.requires.granule) (omega (arith, i.left, c.requires.left, s.1)),
        c.place_below-place.ensures.aligned,
      );
      most = omega (arith, i.most, n, s.1);
      walked = λ k new r w. i.walked k new r
          (word_goes _ _ _ _ _ _ c.loop-word.invariant.place.0 _ _ _ h.0 h.1 _ _ _ _ _ (s.0 _) s.1
          (rose_weaker _ _ _ _ l (omega arith)) w);
    }

pub returns-in-None-clause-down : goal.returns-in-None-clause-down
returns-in-None-clause-down g c =
    let i = c.loop-word.invariant in
    let h = rw i.same at c.in_ok-word.ensures.read in (
      record { left = omega (arith, i.left, c.requires.left, c.requires.under.sound.start); end = c.in-None.ensures },
      λ e ends. i.walked _ _ _ (word_last _ _ _ _ _ _ i.place.0 _ _ _ h.0 h.1 _ _ e refl ends),
    )
