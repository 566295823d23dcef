use Rattle.std.proofs.Common.{ap, sym}
use Rattle.walk_spec.proofs.FreshWalks.{fresh}
use Rattle.translate.specs.Deep.{outcome_by}
use Rattle.translate.proofs.whole.translate_at.Goals as goal

pub returns-in-Ok-clause-walked : goal.returns-in-Ok-clause-walked
returns-in-Ok-clause-walked g c = rw (
  sym (ap outcome_by c.in-Ok.is),
  ← ap (λ u. u.regs) c.of.ensures,
  ← ap (λ u. u.moment) c.of.ensures,
) c.whole.ensures.walked

pub returns-in-Ok-clause-fresh : goal.returns-in-Ok-clause-fresh
returns-in-Ok-clause-fresh g c = fresh c.args.force.now c.args.access.now c.args.moment _ _ _ _
    (rw (sym (ap outcome_by c.in-Ok.is), ← ap (λ u. u.regs) c.of.ensures, ← ap (λ u. u.moment) c.of.ensures) c.whole.ensures.walked)

pub returns-in-Err-clause-walked : goal.returns-in-Err-clause-walked
returns-in-Err-clause-walked g c =
    rw (
      c.stopped.ensures.value,
      sym (ap outcome_by c.in-Err.is),
      ← ap (λ u. u.regs) c.of.ensures,
      ← ap (λ u. u.moment) c.of.ensures,
    ) c.whole.ensures.walked

pub returns-in-Err-clause-fresh : goal.returns-in-Err-clause-fresh
returns-in-Err-clause-fresh g c = fresh c.args.force.now c.args.access.now c.args.moment _ _ _ _
    (rw (
      c.stopped.ensures.value,
      sym (ap outcome_by c.in-Err.is),
      ← ap (λ u. u.regs) c.of.ensures,
      ← ap (λ u. u.moment) c.of.ensures,
    ) c.whole.ensures.walked)
