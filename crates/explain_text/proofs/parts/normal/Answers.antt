use Rattle.std.proofs.Common.{append_assoc, append-nil}
use Rattle.explain_text.proofs.parts.normal.Goals as goal

pub returns-clause-text : goal.returns-clause-text
returns-clause-text g c =
    rw (c.when.ensures.text, c.cache-2.ensures.text, c.literal-2.ensures.text, c.cache.ensures.text, c.literal.ensures.text) (simp (append_assoc, append-nil))
