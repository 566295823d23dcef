use Rattle.std.proofs.Common.{refl}
use Rattle.explain_text.proofs.Sinks.{same_text}
use Rattle.statuses.proofs.refusals.no_file_line.Goals as goal

pub returns-clause-text : goal.returns-clause-text
returns-clause-text g c =
    same_text _ _ c.put.result _ _
    (rw (c.bytes.ensures, c.text-2.ensures.text, c.shown.ensures.text, c.as_bytes.ensures.value, c.text.ensures.text, c.new-line.ensures) refl)
    c.put.ensures.text
