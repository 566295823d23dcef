use Rattle.std.proofs.Common.{sym, ap, ◌∙◌}
use Rattle.tagged_tlb.specs.Sets.{same_key}
use Rattle.tagged_tlb.specs.Slots.{row_of, key_of_head}
use Rattle.std.specs.List.{list_any}
use Rattle.tagged_tlb.proofs.Heads.{any_map}
use Rattle.tagged_tlb.proofs.set.Set.has.Goals as goal

pub returns : goal.returns
returns g c =
    rw (← c.self.view_is)
    (c.some_has_key.ensures ∙ ap (list_any (key_of_head c.args.row.now)) c.as_slice.ensures.value
    ∙ sym (any_map (same_key c.args.row.now) (row_of c.self.inside.trails.items) c.self.inside.heads.items))
