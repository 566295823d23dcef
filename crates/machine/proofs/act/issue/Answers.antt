use Rattle.std.proofs.Common.{Bool, get_or, ap, ◌∙◌, subst, Some}
use Rattle.std.proofs.lemmas.List.{get_or_default}
use Rattle.sysregs.specs.declared.regs.Regs.{Regs}
use Rattle.tlbi_ops.specs.declared.inval.Inval.{Inval}
use Rattle.tlbi_ops.specs.Operands.{inval_of}
use Rattle.machine_spec.specs.Invalidations.{is_at_el1}
use Rattle.machine_spec.specs.Machine.{mailed_by}
use Rattle.machine.specs.Seats.{SeatState, no_seat, IsSeatOf}
use Rattle.machine.proofs.act.issue.Goals as goal

pub returns : goal.returns
returns c h d v lt s =
    let a = c.args in
    let e = c.decode-inval.ensures
    ∙ ap (λ (b : Bool). inval_of a.op a.shared b a.operand c.regs-regs.result.now a.core a.moment) c.is_at_el1.ensures
    ∙ ap (λ (r : Regs). inval_of a.op a.shared (is_at_el1 a.from) a.operand r a.core a.moment)
    (c.regs-regs.ensures ∙ ap (λ (x : SeatState). x.core.bank.regs) (get_or_default a.seats.now a.core c.index-seats-core.result no_seat c.requires)) in
    subst (λ (i : Inval). IsSeatOf h d (mailed_by d v (Some i)) (get_or c.post_all.new.seats d no_seat)) e (c.post_all.ensures h d v lt s)
