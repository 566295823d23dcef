use Rattle.std.proofs.Common.{◌≡◌, ◌≤◌, ◌++◌, append-nil, sym, ap, ◌∙◌, subst, arith}
use Rattle.std.specs.Prelude.{vec_len, vec_capacity, ◌+◌, All, IfSome}
use Rattle.std.proofs.lemmas.List.Elements.{All-push}
use Rattle.made_rows.specs.NewRows.{IsSmall}
use Rattle.made_rows.proofs.PassingAll.{Midway, listed, one_turn, last_turn}
use Rattle.made_rows.proofs.gather.pass_all.Goals.{in-Some, in_default}
use Rattle.made_rows.proofs.gather.pass_all.Goals as goal

pub loop-at-preserved : goal.loop-at-preserved
loop-at-preserved c =
    let turn = one_turn c.args.making.now c.args.trail.now c.loop-at.at c.loop-at.stand c.pass.new.stand c.loop-at.rows.items c.pass.result _
    c.loop-at-test.true c.loop-at.invariant.0 c.pass.ensures.passed in
    elim c.match-pass.branch [
      | in-Some w ↦
          let items : c.match-pass.rows.items ≡ c.loop-at.rows.items ++ listed c.pass.result =
          ap (λ r. r.items) w.rows-is ∙ w.push_reserved.ensures.items ∙ ap (λ o. c.loop-at.rows.items ++ listed o) (sym w.in-Some.is) in (
            λ known. subst (Midway c.args.making.now c.args.trail.now (c.loop-at.at + 1) c.pass.new.stand) (sym items) (turn known),
            subst (λ r. vec_len r ≤ c.loop-at.at + 1) (sym w.rows-is) (omega (arith, w.push_reserved.ensures.len, c.loop-at.invariant.1)),
            ap vec_capacity w.rows-is ∙ w.push_reserved.ensures.capacity ∙ c.loop-at.invariant.2,
            subst (λ r. All IsSmall r.items) (sym w.rows-is) (subst (All IsSmall) (sym w.push_reserved.ensures.items)
                (All-push IsSmall c.loop-at.rows.items w.in-Some.row c.loop-at.invariant.3
                (subst (λ o. IfSome o IsSmall) w.in-Some.is c.pass.ensures.small))),
            c.pass.ensures.leaf c.loop-at.invariant.4,
          )
      | in_default w ↦
          let items : c.match-pass.rows.items ≡ c.loop-at.rows.items ++ listed c.pass.result =
          ap (λ r. r.items) w.rows-is ∙ sym (append-nil c.loop-at.rows.items) ∙ ap (λ o. c.loop-at.rows.items ++ listed o) (sym w.in_default.is) in (
            λ known. subst (Midway c.args.making.now c.args.trail.now (c.loop-at.at + 1) c.pass.new.stand) (sym items) (turn known),
            subst (λ r. vec_len r ≤ c.loop-at.at + 1) (sym w.rows-is) (omega (arith, c.loop-at.invariant.1)),
            ap vec_capacity w.rows-is ∙ c.loop-at.invariant.2,
            subst (λ r. All IsSmall r.items) (sym w.rows-is) c.loop-at.invariant.3,
            c.pass.ensures.leaf c.loop-at.invariant.4,
          )
    ]

pub returns-clause-passed : goal.returns-clause-passed
returns-clause-passed c =
    last_turn c.args.making.now c.args.trail.now c.loop-at.at c.loop-at.stand c.loop-at.rows.items c.loop-at-test.false c.loop-at.invariant.0
