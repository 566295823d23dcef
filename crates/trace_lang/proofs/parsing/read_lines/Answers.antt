use Rattle.std.proofs.Common.{◌∙◌, ap, sym, option_map}
use Rattle.std.specs.List.{slice_split}
use Rattle.trace_lang.specs.Words.{is_end}
use Rattle.trace_lang.specs.Lines.{lines_met}
use Rattle.trace_lang.specs.Views.{state_of, parts_behind}
use Rattle.trace_lang.proofs.Keeping.{reached_keeps}
use Rattle.trace_lang.proofs.parsing.read_lines.Goals as goal

pub returns-clause-limits : goal.returns-clause-limits
returns-clause-limits c =
    reached_keeps 1 (slice_split is_end c.args.bytes.now) (state_of c.loop-rest.reading) (sym c.loop-rest.invariant.same
    ∙ ap (λ r. lines_met (state_of c.loop-rest.reading) c.loop-rest.number (parts_behind is_end (option_map (λ s. s.now) r))) c.in_default.is)
