use Rattle.std.proofs.Common.{refl, sym, ap, ◌∙◌}
use Rattle.tagged_tlb.specs.Slots.{row_of, was_made}
use Rattle.tagged_tlb.specs.Stands.{is_made}
use Rattle.tagged_tlb.specs.Found.{first_hit}
use Rattle.tagged_tlb.proofs.Heads.{first_map}
use Rattle.tagged_tlb.proofs.set.Set.way_of.Goals as goal

pub returns : goal.returns
returns g c =
    rw (← c.self.view_is)
    (c.way_of.ensures ∙ ap (first_hit (was_made c.args.made) 0) c.as_slice.ensures.value
    ∙ sym (first_map (is_made c.args.made) (row_of c.self.inside.trails.items) (was_made c.args.made) (λ h. refl) 0 c.self.inside.heads.items))
