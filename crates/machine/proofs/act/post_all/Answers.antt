use Rattle.std.proofs.Common.{ℕ, ◌<◌, arith, sym, subst, Some}
use Rattle.machine_spec.specs.Machine.{Core, mailed_by}
use Rattle.machine.proofs.Seated.{one_more, rest_stays}
use Rattle.machine.proofs.act.post_all.Goals as goal

pub loop-c-preserved : goal.loop-c-preserved
loop-c-preserved c =
    let l = c.loop-c in
    let lt = subst (λ (n : ℕ). l.c < n) (sym l.auto.seats) c.loop-c-test.true in
    let change : ℕ → Core → Core = λ d v. mailed_by d v (Some c.args.inval.now) in (
      one_more change c.args.seats.now l.seats l.c c.index-seats-c.result c.post_at.new.seat lt l.invariant.0 l.invariant.1 c.post_at.ensures,
      rest_stays change c.args.seats.now l.seats l.c c.index-seats-c.result c.post_at.new.seat lt l.invariant.0 l.invariant.1 c.post_at.ensures,
    )

pub returns : goal.returns
returns c h d v lt s = c.loop-c.invariant.0 h d v (omega (arith, lt, c.loop-c-test.false)) s
