use Rattle.std.proofs.Common.{refl}
use Rattle.explain_text.proofs.Levels.{one_digit}
use Rattle.explain_text.proofs.parts.base_head.Goals as goal

pub returns : goal.returns
returns c = rw (← one_digit c.args.level c.requires, ← c.stage_glyph.ensures) refl
