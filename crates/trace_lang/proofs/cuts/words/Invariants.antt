use Rattle.std.proofs.Common.{◌≡◌, ◌++◌, map, option_map, Some}
use Rattle.std.specs.List.{list_all}
use Rattle.trace_lang.specs.Words.{is_text, words_of}
use Rattle.trace_lang.specs.Views.{is_text_behind}
use Rattle.trace_lang.proofs.Cutting.{words_behind, left}
use Rattle.trace_lang.proofs.cuts.words.Given as goal

-- the words so far and those of what is left are those of the line, of which all that is read is text
abbrev pub invariant-loop-rest : goal.invariant-loop-rest
invariant-loop-rest l = record {
  words : map (λ w. w.now) l.words.items ++ words_behind (option_map (λ s. s.now) l.rest) ≡ words_of l.line;
  text : list_all is_text l.line ≡ is_text_behind (Some (option_map (λ s. s.now) l.rest));
}

abbrev pub decreases-loop-rest : goal.decreases-loop-rest
decreases-loop-rest l = left (option_map (λ s. s.now) l.rest)
