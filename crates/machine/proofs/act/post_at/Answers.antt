use Rattle.std.proofs.Common.{Bool, cond, sym, ◌∙◌, subst}
use Rattle.machine_spec.specs.Machine.{mailed}
use Rattle.machine.specs.Seats.{IsSeatOf}
use Rattle.machine.proofs.act.post_at.Goals as goal

pub returns-then-reaches_core : goal.returns-then-reaches_core
returns-then-reaches_core c h v s =
    subst (λ (b : Bool). IsSeatOf h c.args.number (cond b (mailed v c.args.inval.now) v) c.post.new.self)
    (sym c.if-reaches_core.true ∙ c.reaches_core.ensures) (c.post.ensures h c.args.number v s)
