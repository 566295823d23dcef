use Rattle.std.proofs.Common.{◌≤◌, take, flat_map}
use Rattle.explain_text.specs.Texts.{item_text}
use Rattle.explain_text.specs.Written.{Appended}
use Rattle.explain_text.proofs.lines.item_lines.Given as goal

-- the lines so far were written, and no count has fallen
abbrev pub invariant-loop-item : goal.invariant-loop-item
invariant-loop-item g l = record {
  later : g.O.Sink.faults l.fn.out ≤ g.O.Sink.faults l.out;
  text : Appended (g.O.Sink.written l.fn.out) (g.O.Sink.written l.out) (flat_map (item_text l.in_run) (take l.item-index l.items));
}
