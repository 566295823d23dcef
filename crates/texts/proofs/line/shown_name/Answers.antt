use Rattle.texts.proofs.Shown.{all_shown}
use Rattle.texts.proofs.line.shown_name.Goals as goal

pub returns-clause-text : goal.returns-clause-text
returns-clause-text c = all_shown _ c.loop-i.i _ _ c.min-count.ensures c.loop-i.auto.i-end c.loop-i-test.false c.loop-i.invariant.text
