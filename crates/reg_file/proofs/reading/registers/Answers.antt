use Rattle.std.proofs.Common.{arith, sym, subst, Result}
use Rattle.std.proofs.lemmas.Bool.Decides.{nat_tests}
use Rattle.sysregs.specs.declared.regs.Regs.{Regs}
use Rattle.reg_file.specs.declared.refusals.RegRefusal.{RegRefusal}
use Rattle.texts.specs.Results.{Gives}
use Rattle.reg_file.specs.RegisterFile.{reg_refusal}
use Rattle.reg_file.proofs.Documents.{no_text, of_table}
use Rattle.reg_file.proofs.reading.registers.Goals as goal

pub returns-in_default : goal.returns-in_default
returns-in_default c = let e = no_text c.args.bytes.now c.in_default.ensures.cases.0 in grind (arith, nat_tests, e)

pub returns-in-Ok-table_from_str : goal.returns-in-Ok-table_from_str
returns-in-Ok-table_from_str c =
    let same = of_table c.args.bytes.now c.in-Ok.text.now _ (omega arith) c.in-Ok.ensures.cases.1 c.in-Ok.ensures.cases.0 c.in-Ok-table_from_str.ensures.ok in
    subst (λ (due : Result Regs RegRefusal). Gives reg_refusal (λ regs. regs) c.from_table.result due) (sym same) c.from_table.ensures
