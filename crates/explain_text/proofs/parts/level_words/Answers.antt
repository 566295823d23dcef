use Rattle.std.proofs.Common.{refl}
use Rattle.explain_text.proofs.Levels.{one_digit}
use Rattle.explain_text.proofs.parts.level_words.Goals as goal

pub returns-clause-text : goal.returns-clause-text
returns-clause-text c = rw (← one_digit c.args.level c.requires) refl
