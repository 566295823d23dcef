use Rattle.std.proofs.Common.{◌∙◌, not, sym, subst}
use Rattle.std.specs.Prelude.{filter}
use Rattle.tlbi_ops.specs.Covers.{covers}
use Rattle.tagged_tlb.specs.Tied.{IsTied}
use Rattle.tagged_tlb.proofs.Ties.{killed_tied}
use Rattle.tagged_tlb.proofs.Staged.{all_spared}
use Rattle.tagged_tlb.proofs.tlb.Tlb.kill.Goals as goal

pub returns-then-may_take : goal.returns-then-may_take
returns-then-may_take g c =
    rw c.kill_rows.ensures (λ kind live f. killed_tied kind g.row.SETS (λ r. not (covers c.args.inval.now r.tag)) live c.args.self.now f)

pub returns-else-may_take : goal.returns-else-may_take
returns-else-may_take g c =
    let i = c.args.inval.now in
    let items = c.self.inside.sets.items in
    rw (← c.self.view_is)
    (λ kind live f. subst (λ v. IsTied kind g.row.SETS (filter (λ r. not (covers i r.tag)) live) v)
    (all_spared c.self.inside.stages i (sym c.may_take.ensures ∙ c.if-may_take.false) items c.self.invariant.2)
    (killed_tied kind g.row.SETS (λ r. not (covers i r.tag)) live items f))
