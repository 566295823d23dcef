use Rattle.std.proofs.Common.{◌≡◌, drop}
use Rattle.tagged_tlb.specs.Found.{looked}
use Rattle.tagged_tlb.specs.Slots.{is_hit, made_of}
use Rattle.tagged_tlb.proofs.found.look.Given as goal

abbrev pub invariant-loop-way : goal.invariant-loop-way
invariant-loop-way l =
    looked (is_hit l.sought l.class l.start) made_of l.set 0 l.initial.found l.heads
    ≡ looked (is_hit l.sought l.class l.start) made_of l.set l.way l.found (drop l.way l.heads)
