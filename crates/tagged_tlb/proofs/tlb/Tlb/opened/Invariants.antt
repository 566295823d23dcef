use Rattle.std.proofs.Common.{◌≡◌, replicate, []}
use Rattle.std.specs.Prelude.{vec_capacity}
use Rattle.tagged_tlb.proofs.tlb.Tlb.opened.Given as goal

abbrev pub invariant-loop-set : goal.invariant-loop-set
invariant-loop-set g l = (l.sets.items ≡ replicate l._set []) × (vec_capacity l.sets ≡ g.row.SETS)
