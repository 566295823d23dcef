use Rattle.std.proofs.Common.{◌≡◌, ℕ, ◌<◌, get_or, true, false}
use Rattle.trace_lang.specs.Words.{is_blank, is_text}
use Rattle.trace_lang.proofs.cuts.cut_word.Given as goal

abbrev pub invariant-loop-i : goal.invariant-loop-i
invariant-loop-i l = record {
  whole : (k : ℕ) → k < l.i → is_blank (get_or l.text k 0) ≡ false;
  text : (k : ℕ) → k < l.i → is_text (get_or l.text k 0) ≡ true;
}
