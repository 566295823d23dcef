use Rattle.std.proofs.Common.{rules, take}
use Rattle.std.proofs.Common.{subst}
use Rattle.texts.specs.Results.{Fails}
use Rattle.reg_file.specs.RegisterFile.{reg_refusal, regs_of}
use Rattle.answers.proofs.Registers.{are_registers, are_refused}
use Rattle.answers.proofs.explain.registers_in.Goals as goal

pub returns-in-Ok-read-clause-registers : goal.returns-in-Ok-read-clause-registers
returns-in-Ok-read-clause-registers g c =
    are_registers (g.F.Files.holds c.args.files.now c.args.name.now) _ _ c.args.size c.in-Ok.count c.fill_from.new.into
    c.requires (search rules) c.in-Ok.ensures.bytes c.in-Ok-read.regs c.in-Ok-read.ensures.registers c.in-Ok-read.ensures.accepted

pub returns-in-Err-Refused-clause-error : goal.returns-in-Err-Refused-clause-error
returns-in-Err-Refused-clause-error g c =
    rw c.from-in-Err-Refused.ensures
    (are_refused (g.F.Files.holds c.args.files.now c.args.name.now) _ _ c.args.size c.in-Ok.count c.fill_from.new.into
    c.requires (search rules) c.in-Ok.ensures.bytes c.in-Err-Refused.why
    (subst (λ e. Fails (reg_refusal e) (regs_of (take c.in-Ok.count c.fill_from.new.into))) c.in-Err-Refused.field-0-is c.in-Err-Refused.ensures.refused))
