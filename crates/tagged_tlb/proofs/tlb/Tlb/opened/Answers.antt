use Rattle.std.proofs.Common.{false, [], length, ap, sym, ◌∙◌, subst, arith}
use Rattle.std.proofs.lemmas.List.{length-replicate}
use Rattle.tagged_tlb.specs.Classes.{AreMarked}
use Rattle.tagged_tlb.proofs.Classes.{marked_opened}
use Rattle.tagged_tlb.specs.declared.stages.Stages.{Stages}
use Rattle.tagged_tlb.specs.Stages.{AreStaged}
use Rattle.tagged_tlb.proofs.Staged.{staged_opened}
use Rattle.tagged_tlb.proofs.tlb.Tlb.opened.Goals as goal

pub invariant_of-result : goal.invariant_of-result
invariant_of-result g c =
    let none : Stages = record { stage1 = false; stage2 = false } in
    let all = ap length c.loop-set.invariant.0 ∙ length-replicate c.loop-set._set [] in (
      omega (arith, all, c.loop-set-test.false, c.loop-set.auto._set-end),
      subst (AreMarked 0) (sym c.loop-set.invariant.0) (marked_opened 0 c.loop-set._set),
      subst (AreStaged none) (sym c.loop-set.invariant.0) (staged_opened none c.loop-set._set),
    )
