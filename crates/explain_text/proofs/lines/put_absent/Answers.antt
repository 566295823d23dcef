use Rattle.std.proofs.Common.{append_assoc, append-nil}
use Rattle.std.proofs.lemmas.Int.{to_z-of_z}
use Rattle.explain_text.proofs.lines.put_absent.Goals as goal

pub returns-clause-text : goal.returns-clause-text
returns-clause-text g c =
    rw (
      c.literal-2.ensures.text,
      c.when.ensures.text,
      c.hex_digits.ensures.text,
      c.level_at.ensures.text,
      c.stage.ensures.text,
      c.literal.ensures.text,
    )
    (simp (append_assoc, append-nil, to_z-of_z _ _ c.ranges.level))
