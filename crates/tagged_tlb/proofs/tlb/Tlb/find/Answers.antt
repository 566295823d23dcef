use Rattle.std.proofs.Common.{◌∙◌, subst}
use Rattle.tagged_tlb.specs.Found.{AllSeen, seen_row}
use Rattle.tagged_tlb.specs.Stands.{Stands}
use Rattle.tagged_tlb.specs.Tied.{IsTied}
use Rattle.tagged_tlb.proofs.tlb.Tlb.find.Goals as goal

pub returns-clause-stand : goal.returns-clause-stand
returns-clause-stand g c = λ d kind live told f.
    subst (λ v. IsTied kind g.row.SETS live v → AllSeen (λ s. Stands kind g.row.SETS s.slot.set s.made live (seen_row d v s)) c.search.result)
    (c.as_slice.ensures.value ∙ c.self.view_is) (c.search.ensures.stand d kind live told) f
