use Rattle.std.proofs.Common.{arith, ◌≡◌, ◌≤◌, ◌∙◌, ℕ, get_or, sym, subst}
use Rattle.std.proofs.lemmas.List.{length-replicate, get_or-replicate}
use Rattle.machine_spec.specs.Machine.{Core, no_core}
use Rattle.machine.specs.Seats.{no_seat, IsSeatOf}
use Rattle.machine.proofs.Seating.{each_more, longer}
use Rattle.machine.proofs.runner.seats_of.Goals as goal

nat_same : (a b : ℕ) → a ≤ b → b ≤ a → a ≡ b
nat_same a b x y = omega (arith, x, y)

pub loop-number-preserved : goal.loop-number-preserved
loop-number-preserved c =
    let i = c.loop-number.invariant in
    let e = c.push_reserved.ensures in (
      longer _ _ c.in_ok-seat.seat c.loop-number.number i.0 e.items,
      rw e.capacity i.1,
      (λ h size policy.
          each_more (λ d seat. IsSeatOf h d no_core seat) no_seat _ _ c.in_ok-seat.seat c.loop-number.number i.0 (i.2 h size policy)
          (c.in_ok-seat.ensures h size policy) e.items),
    )

pub returns-clause-each : goal.returns-clause-each
returns-clause-each c h size policy =
    let i = c.loop-number.invariant in
    let number = c.loop-number.number in
    let cores = c.args.cores in
    let all = c.loop-number-test.false in
    let most = c.loop-number.auto.number-end in
    let n = i.0 in record {
      count = n ∙ nat_same number cores most all ∙ sym (length-replicate cores no_core);
      each = λ d lt.
          subst (λ (v : Core). IsSeatOf h d v (get_or c.loop-number.seats.items d no_seat))
          (sym (get_or-replicate cores d no_core no_core (omega (arith, lt, n, most))))
          (i.2 h size policy d (omega (arith, lt, n)));
    }
