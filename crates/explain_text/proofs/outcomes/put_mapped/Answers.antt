use Rattle.std.proofs.Common.{append_assoc, append-nil}
use Rattle.explain_text.proofs.outcomes.put_mapped.Goals as goal

pub returns-clause-text : goal.returns-clause-text
returns-clause-text g c =
    rw (
      c.literal-5.ensures.text,
      c.share.ensures.text,
      c.literal-4.ensures.text,
      c.mem.ensures.text,
      c.literal-3.ensures.text,
      c.rights-2.ensures.text,
      c.literal-2.ensures.text,
      c.rights.ensures.text,
      c.literal.ensures.text,
      c.headed.ensures.text,
    )
    (simp (append_assoc, append-nil))
