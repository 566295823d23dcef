use Rattle.std.proofs.Common.{arith, sym, ◌∙◌, ◌≡◌, ◌≤◌, ◌+◌, ◌-◌, ◌*◌}
use Rattle.std.proofs.lemmas.List.Elements.{All-push}
use Rattle.dump_file.specs.declared.dump.Segment.{Segment}
use Rattle.dump_file.proofs.Collected.{passed, taken, past}
use Rattle.dump_file.proofs.header.segments.Goals as goal

pub loop-index-preserved-in_default : goal.loop-index-preserved-in_default
loop-index-preserved-in_default c =
    let whole : 56 * c.loop-index.index + 56 - 56 * c.loop-index.index ≡ 56 = omega arith in
    record {
      within = c.loop-index.invariant.within;
      due = sym (passed _ _ _ _ _ c.loop-index-test.true (rw whole at c.in_default.ensures)) ∙ c.loop-index.invariant.due;
    }

pub returns-then-segment-size : goal.returns-then-segment-size
returns-then-segment-size c =
    let whole : 56 * c.loop-index.index + 56 - 56 * c.loop-index.index ≡ 56 = omega arith in
    rw c.from.ensures
    (sym c.loop-index.invariant.due ∙ past _ _ _ _ _ c.in-Some.segment c.loop-index-test.true (rw whole at c.in-Some.ensures) c.if-segment-size.true)

pub loop-index-preserved : goal.loop-index-preserved
loop-index-preserved c =
    let whole : 56 * c.loop-index.index + 56 - 56 * c.loop-index.index ≡ 56 = omega arith in
    record {
      within =
          rw c.in_ok-push.ensures.items (All-push (λ
          (s : Segment). s.offset + s.size ≤ c.args.size) _ _ c.loop-index.invariant.within c.if-segment-size.false);
      due = rw c.in_ok-push.ensures.items
          (sym (taken _ _ _ _ _ c.in-Some.segment c.loop-index-test.true (rw whole at c.in-Some.ensures) c.if-segment-size.false)
          ∙ c.loop-index.invariant.due);
    }
