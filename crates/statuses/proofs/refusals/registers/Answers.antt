use Rattle.std.proofs.Common.{append_assoc}
use Rattle.std.specs.Prelude.{codes}
use Rattle.statuses.specs.ErrText.{field_name_text}
use Rattle.statuses.proofs.refusals.registers.Goals as goal

pub returns-in-Unsupported-clause-text : goal.returns-in-Unsupported-clause-text
returns-in-Unsupported-clause-text c =
    rw (c.in-Unsupported.is, c.field_name.ensures.text, c.text-in-Unsupported.ensures.text)
    (append_assoc c.args.line.now (codes "unsupported ") (field_name_text c.in-Unsupported.at))
