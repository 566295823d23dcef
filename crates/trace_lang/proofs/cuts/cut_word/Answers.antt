use Rattle.std.proofs.Common.{arith, ◌≡◌, ℕ, true, get_or, sym, ◌∙◌}
use Rattle.std.proofs.lemmas.Bool.Decides.{nat_tests}
use Rattle.trace_lang.specs.Words.{is_blank, is_text}
use Rattle.trace_lang.proofs.Cutting.{cut_here, cut_nowhere, all_behind, all_passed}
use Rattle.trace_lang.proofs.cuts.cut_word.Goals as goal

blank_text : (b : ℕ) → is_blank b ≡ true → is_text b ≡ true
blank_text b h = grind (arith, nat_tests, h)

pub returns-then-is_blank-clause-parts : goal.returns-then-is_blank-clause-parts
returns-then-is_blank-clause-parts c = cut_here is_blank c.args.text.now c.loop-i.i c.loop-i-test.true c.loop-i.invariant.whole
    (sym c.is_blank.ensures ∙ c.if-is_blank.true)

pub returns-then-is_blank-clause-text : goal.returns-then-is_blank-clause-text
returns-then-is_blank-clause-text c = all_behind is_text c.args.text.now c.loop-i.i c.loop-i-test.true c.loop-i.invariant.text
    (blank_text (get_or c.args.text.now c.loop-i.i 0) (sym c.is_blank.ensures ∙ c.if-is_blank.true))

pub returns-clause-parts : goal.returns-clause-parts
returns-clause-parts c = cut_nowhere is_blank c.args.text.now c.loop-i.i c.loop-i-test.false c.loop-i.invariant.whole

pub returns-clause-text : goal.returns-clause-text
returns-clause-text c = all_passed is_text c.args.text.now (λ k l. c.loop-i.invariant.text k (omega arith))
