use Rattle.std.proofs.Common.{◌≡◌, drop}
use Rattle.tagged_tlb.specs.Found.{first_hit}
use Rattle.tagged_tlb.specs.Slots.{is_hit}
use Rattle.tagged_tlb.proofs.found.first_way.Given as goal

abbrev pub invariant-loop-way : goal.invariant-loop-way
invariant-loop-way l = first_hit (is_hit l.sought l.class l.start) 0 l.heads ≡ first_hit (is_hit l.sought l.class l.start) l.way (drop l.way l.heads)
