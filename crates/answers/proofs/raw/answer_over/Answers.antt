use Rattle.answers.proofs.Answered.{text_there}
use Rattle.answers.proofs.raw.answer_over.Goals as goal

pub returns-clause-text : goal.returns-clause-text
returns-clause-text g c = text_there _ _ _ _ _ _ _ _ c.if-image-gt0.false c.walk-outcome.ensures.walked c.walk-outcome.ensures.fresh
