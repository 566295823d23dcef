use Rattle.std.proofs.Common.{◌≡◌, drop}
use Rattle.tagged_tlb.specs.Found.{first_hit}
use Rattle.tagged_tlb.specs.Slots.{was_made}
use Rattle.tagged_tlb.proofs.found.way_of.Given as goal

abbrev pub invariant-loop-way : goal.invariant-loop-way
invariant-loop-way l = first_hit (was_made l.made) 0 l.heads ≡ first_hit (was_made l.made) l.way (drop l.way l.heads)
