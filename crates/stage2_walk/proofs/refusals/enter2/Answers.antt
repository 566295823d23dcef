use Rattle.std.proofs.Common.{ap, Err, ◌∙◌}
use Rattle.stage2_walk.proofs.Entered.{entered_in, entered_past, entered_none}
use Rattle.stage2_walk.proofs.refusals.enter2.Goals as goal
use Rattle.stage2_walk.proofs.refusals.enter2.Goals.{in_default-via-in-Some+else-ipa-power, in_default-via-in_default}

pub returns-in-Some-clause-entered : goal.returns-in-Some-clause-entered
returns-in-Some-clause-entered c = λ k h.
    entered_in k c.args.ipa c.args.s1ptw c.in-Some.sizes (rw c.in-Some.is at h) (rw c.power.ensures at c.if-ipa-power.true)

pub returns-in_default-clause-entered : goal.returns-in_default-clause-entered
returns-in_default-clause-entered c = λ k h.
    elim c.in_default.branch [
      | in_default-via-in-Some+else-ipa-power w ↦ ap Err c.refusal.ensures.value ∙
          entered_past k c.args.ipa c.args.s1ptw w.in-Some.sizes (rw w.in-Some.is at h) (rw w.power.ensures at w.if-ipa-power.false)
      | in_default-via-in_default w ↦ ap Err c.refusal.ensures.value ∙ entered_none k c.args.ipa c.args.s1ptw (rw w.in_default.is at h)
    ]
