use Rattle.std.proofs.Common.{◌≡◌, drop}
use Rattle.tlbi_ops.specs.Covers.{is_stage1}
use Rattle.tagged_tlb.specs.Found.{first_hit}
use Rattle.served_walk.proofs.row_words.first_of_stage1.Given as goal

abbrev pub invariant-loop-at : goal.invariant-loop-at
invariant-loop-at l = first_hit (λ i. is_stage1 i.stage) 0 l.items ≡ first_hit (λ i. is_stage1 i.stage) l.at (drop l.at l.items)
