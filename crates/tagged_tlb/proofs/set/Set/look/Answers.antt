use Rattle.std.proofs.Common.{refl, sym, ap, ◌∙◌}
use Rattle.tagged_tlb.specs.Slots.{row_of, hit, is_hit, made_of, made_of_row}
use Rattle.tagged_tlb.specs.Found.{looked}
use Rattle.tagged_tlb.proofs.Heads.{looked_map}
use Rattle.tagged_tlb.proofs.set.Set.look.Goals as goal

pub returns : goal.returns
returns g c =
    rw (← c.self.view_is)
    (c.look.ensures ∙ ap (looked (is_hit c.args.sought.now c.args.class c.args.start) made_of c.args.set 0 c.args.found) c.as_slice.ensures.value
    ∙ sym (looked_map (hit c.args.sought.now c.args.class c.args.start) made_of_row (row_of c.self.inside.trails.items)
    (is_hit c.args.sought.now c.args.class c.args.start) made_of (λ h. refl) (λ h. refl) c.args.set 0 c.args.found c.self.inside.heads.items))
