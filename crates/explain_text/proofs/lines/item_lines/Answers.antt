use Rattle.std.proofs.Common.{rules}
use Rattle.explain_text.specs.Texts.{item_text}
use Rattle.explain_text.proofs.Sinks.{loop_stops}
use Rattle.explain_text.proofs.lines.item_lines.Goals as goal

pub returns-in_err-item_line-clause-text : goal.returns-in_err-item_line-clause-text
returns-in_err-item_line-clause-text g c =
    loop_stops _ _ _ c.item_line.result c.from_residual.result (item_text c.args.in_run) c.args.items.now c.loop-item.item-index _ c.loop-item-test.true
    (search rules) (search rules) c.loop-item.invariant.text c.item_line.ensures.text
