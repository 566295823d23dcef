use Rattle.std.proofs.Common.{append_assoc}
use Rattle.std.specs.Prelude.{codes}
use Rattle.statuses.specs.ErrText.{registers_text}
use Rattle.statuses.proofs.refusals.refused.Goals as goal

pub returns-in-Regs-clause-text : goal.returns-in-Regs-clause-text
returns-in-Regs-clause-text c =
    rw (c.in-Regs.is, c.registers.ensures.text, c.text-in-Regs.ensures.text)
    (append_assoc c.args.line.now (codes "registers: ") (registers_text c.in-Regs.why))
