use Rattle.std.proofs.Common.{◌≡◌, take}
use Rattle.tagged_tlb.proofs.set.copy_items.Given as goal

abbrev pub invariant-loop-item : goal.invariant-loop-item
invariant-loop-item l = l.trail ≡ take l.item-index l.items
