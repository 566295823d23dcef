use Rattle.std.proofs.Common.{refl, true, not, ap, sym, ◌∙◌, get_or, arith}
use Rattle.std.specs.Prelude.{filter}
use Rattle.std.proofs.lemmas.Bool.{both_ways}
use Rattle.std.proofs.lemmas.List.Edits.{map_over_more}
use Rattle.tlbi_ops.specs.Covers.{covers}
use Rattle.tagged_tlb.proofs.Classes.{emptied, no_length}
use Rattle.tagged_tlb.proofs.tlb.kill_each.Goals as goal
use Rattle.tagged_tlb.proofs.tlb.kill_each.Goals.{then-len-gt0, else-len-gt0}

pub loop-set-preserved : goal.loop-set-preserved
loop-set-preserved g c = (
  rw c.kill.ensures
      (map_over_more (filter (λ r. not (covers c.args.inval.now r.tag))) c.args.sets.now c.loop-set.sets c.loop-set.set-index
      (get_or c.loop-set.sets c.loop-set.set-index c.set-item.result) c.loop-set-test.true c.loop-set.invariant.0 (ap
      (get_or c.loop-set.sets c.loop-set.set-index) c.set-item.is)),
  elim c.if-len-gt0.branch [
    | then-len-gt0 w ↦ λ h. absurd (both_ways true (sym w.left-is ∙ h) refl)
    | else-len-gt0 w ↦ λ h.
        emptied c.loop-set.sets c.loop-set.set-index c.kill.new.self (omega (arith, c.loop-set-test.true, c.loop-set.auto.sets))
        (no_length c.kill.new.self (omega (arith, c.len.ensures.value, w.if-len-gt0.false)))
        (c.loop-set.invariant.1 (sym w.left-is ∙ h))
  ],
)
