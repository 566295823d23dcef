use Rattle.std.proofs.Common.{◌≡◌, ◌≤◌}
use Rattle.std.specs.Prelude.{vec_len, vec_capacity, All, IfSome}
use Rattle.made_rows.specs.NewRows.{regime_for, AreKnown, IsSmall}
use Rattle.made_rows.proofs.PassingAll.{Midway}
use Rattle.made_rows.proofs.gather.pass_all.Given as goal

abbrev pub invariant-loop-at : goal.invariant-loop-at
invariant-loop-at l =
    (AreKnown (regime_for l.making) l.trail → Midway l.making l.trail l.at l.stand l.rows.items)
    × (vec_len l.rows ≤ l.at) × (vec_capacity l.rows ≡ vec_capacity l.fn.rows)
    × All IsSmall l.rows.items × IfSome l.stand.leaf IsSmall
