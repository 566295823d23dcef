use Rattle.std.proofs.Common.{◌≡◌, drop}
use Rattle.std.specs.List.{list_any}
use Rattle.tagged_tlb.specs.Slots.{key_of_head}
use Rattle.tagged_tlb.proofs.set.some_has_key.Given as goal

abbrev pub invariant-loop-head : goal.invariant-loop-head
invariant-loop-head l = list_any (key_of_head l.row) l.heads ≡ list_any (key_of_head l.row) (drop l.head-index l.heads)
