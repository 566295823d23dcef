use Rattle.std.proofs.Common.{append_assoc}
use Rattle.std.specs.Prelude.{codes}
use Rattle.statuses.specs.ErrText.{line_why, field_name_text}
use Rattle.statuses.proofs.refusals.trace.Goals as goal

pub returns-in-OutOfRange-clause-text : goal.returns-in-OutOfRange-clause-text
returns-in-OutOfRange-clause-text c = rw c.in-OutOfRange.is c.trace_word-in-OutOfRange.ensures.text

pub returns-in-Unsupported-clause-text : goal.returns-in-Unsupported-clause-text
returns-in-Unsupported-clause-text c =
    rw (c.in-Unsupported.is, c.field_name.ensures.text, c.trace_line-in-Unsupported.ensures.text)
    (append_assoc c.args.line.now (line_why c.in-Unsupported.n (codes "unsupported ")) (field_name_text c.in-Unsupported.at))

pub returns-in-AfterEnd-clause-text : goal.returns-in-AfterEnd-clause-text
returns-in-AfterEnd-clause-text c = rw c.in-AfterEnd.is c.trace_line-in-AfterEnd.ensures.text
