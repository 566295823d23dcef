use Rattle.std.proofs.Common.{refl, sym, ap, ◌∙◌}
use Rattle.tagged_tlb.specs.Slots.{row_of, hit, is_hit}
use Rattle.tagged_tlb.specs.Found.{first_hit}
use Rattle.tagged_tlb.proofs.Heads.{first_map}
use Rattle.tagged_tlb.proofs.set.Set.first_way.Goals as goal

pub returns : goal.returns
returns g c =
    rw (← c.self.view_is)
    (c.first_way.ensures ∙ ap (first_hit (is_hit c.args.sought.now c.args.class c.args.start) 0) c.as_slice.ensures.value
    ∙ sym (first_map (hit c.args.sought.now c.args.class c.args.start) (row_of c.self.inside.trails.items)
    (is_hit c.args.sought.now c.args.class c.args.start) (λ h. refl) 0 c.self.inside.heads.items))
