use Rattle.answers.proofs.Answered.{text_over}
use Rattle.answers.proofs.explain.answer_over.Goals as goal

pub returns-clause-text : goal.returns-clause-text
returns-clause-text g c =
    text_over _ c.args.dump.now _ _ _ _ _ c.if-words-gt0.false c.requires.opened c.walk-outcome.ensures.walked c.walk-outcome.ensures.fresh
