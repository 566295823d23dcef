use Rattle.std.proofs.Common.{ℕ, ◌<◌, arith, sym, subst}
use Rattle.trails.specs.declared.event.Event.TheVariants.{Dsb}
use Rattle.machine_spec.specs.Machine.{Core, finished}
use Rattle.machine.proofs.Seated.{one_more, rest_stays}
use Rattle.machine.proofs.act.finish_all.Goals as goal

pub loop-seat-preserved : goal.loop-seat-preserved
loop-seat-preserved c =
    let l = c.loop-seat in
    let k = l.seat-index in
    let lt = subst (λ (n : ℕ). k < n) (sym l.auto.seats) c.loop-seat-test.true in
    let change : ℕ → Core → Core = λ d v. finished v (Dsb c.args.core c.args.kind) in (
      one_more change c.args.seats.now l.seats k c.seat-item.result c.finish.new.self lt l.invariant.0 l.invariant.1 (λ h v s. c.finish.ensures h k v s),
      rest_stays change c.args.seats.now l.seats k c.seat-item.result c.finish.new.self lt l.invariant.0 l.invariant.1 (λ h v s. c.finish.ensures h k v s),
    )

pub returns : goal.returns
returns c h d v lt s = c.loop-seat.invariant.0 h d v (omega (arith, lt, c.loop-seat-test.false)) s
