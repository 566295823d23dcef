use Rattle.std.proofs.Common.{◌≡◌, ◌≤◌, ◌+◌, ◌++◌, drop}
use Rattle.std.specs.Prelude.{vec_len, vec_capacity}
use Rattle.tagged_tlb.specs.Slots.{spares}
use Rattle.tagged_tlb.proofs.set.give_back.Given as goal

abbrev pub invariant-loop-head : goal.invariant-loop-head
invariant-loop-head l =
    (l.free.items ++ spares l.inval (drop l.head-index l.heads) ≡ l.initial.free.items ++ spares l.inval l.heads)
    × (vec_len l.free ≤ vec_len l.initial.free + l.head-index) × (vec_capacity l.free ≡ vec_capacity l.initial.free)
