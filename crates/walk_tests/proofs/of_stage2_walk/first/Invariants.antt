use Rattle.std.proofs.Common.{◌≡◌, drop}
use Rattle.std.specs.Prelude.{◌==◌}
use Rattle.std.specs.List.{find}
use Rattle.walk_tests.proofs.of_stage2_walk.first.Given as goal

-- no word so far stood at the place
abbrev pub invariant-loop-place : goal.invariant-loop-place
invariant-loop-place l = find (λ w. w.0 == l.pa) (drop l.place-index l.words) ≡ find (λ w. w.0 == l.pa) l.words
