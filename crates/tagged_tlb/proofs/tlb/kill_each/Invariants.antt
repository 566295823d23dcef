use Rattle.std.proofs.Common.{◌≡◌, ◌++◌, take, drop, map, not, false, ℕ, ◌<◌, get_or, []}
use Rattle.std.specs.Prelude.{filter}
use Rattle.tlbi_ops.specs.Covers.{covers}
use Rattle.tagged_tlb.proofs.tlb.kill_each.Given as goal

abbrev pub invariant-loop-set : goal.invariant-loop-set
invariant-loop-set g l =
    (l.sets ≡ map (filter (λ r. not (covers l.inval r.tag))) (take l.set-index l.initial.sets) ++ drop l.set-index l.initial.sets)
    × (l.left ≡ false → (s : ℕ) → s < l.set-index → get_or l.sets s [] ≡ [])
