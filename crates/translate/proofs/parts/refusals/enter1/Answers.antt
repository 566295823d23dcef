use Rattle.std.proofs.Common.{ap, Err, ◌∙◌, sym}
use Rattle.translate.proofs.Entering.{unsized_refused, enter1_refused}
use Rattle.translate.proofs.parts.refusals.enter1.Goals as goal
use Rattle.translate.proofs.parts.refusals.enter1.Goals.{in_default-via-in-Some+else-not-is_refused, in_default-via-in_default}

pub returns-in_default-clause-value : goal.returns-in_default-clause-value
returns-in_default-clause-value c =
    elim c.in_default.branch [
      | in_default-via-in-Some+else-not-is_refused w ↦ ap Err c.refusal.ensures ∙
          enter1_refused c.args.config.now c.args.access.now (sym w.is_refused.ensures ∙ w.if-not-is_refused.false)
      | in_default-via-in_default w ↦ ap Err c.refusal.ensures ∙
          enter1_refused c.args.config.now c.args.access.now
          (unsized_refused c.args.config.now c.args.access.now (rw (w.in_default.is, c.requires.side) at c.requires.sized))
    ]
