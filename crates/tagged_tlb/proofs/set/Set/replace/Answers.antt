use Rattle.std.proofs.Common.{List, ◌∷◌, [], ◌++◌, ◌<◌, length, map, set, ap, sym, ◌∙◌, subst, arith}
use Rattle.std.specs.Prelude.{vec_len}
use Rattle.std.specs.List.{remove}
use Rattle.std.proofs.lemmas.List.{length-map}
use Rattle.tagged_tlb.specs.declared.row.Row.{Row}
use Rattle.tagged_tlb.specs.declared.head.Head.{Head}
use Rattle.tagged_tlb.specs.Slots.{row_of, head_with}
use Rattle.tagged_tlb.proofs.Heads.{moved, slot_below, full_here}
use Rattle.tagged_tlb.proofs.set.Set.replace.Goals as goal

pub index_mut-requires : goal.index_mut-requires
index_mut-requires g c =
    let hs : List Head = c.self.inside.heads.items in
    let within : c.args.at < length hs = subst (λ k. c.args.at < k) (length-map hs (row_of c.self.inside.trails.items)) (subst (λ v. c.args.at < length v)
    (sym c.self.view_is) c.requires) in
    let below = slot_below (vec_len c.self.inside.trails) hs c.self.inside.free.items c.self.invariant.5 c.args.at c.remove-old.result within in
    subst (λ (v : Head). v.slot < vec_len c.self.inside.trails) (sym c.remove-old.ensures.value) below

pub invariant_of-self : goal.invariant_of-self
invariant_of-self g c =
    let hs : List Head = c.self.inside.heads.items in
    let inv = c.self.invariant in
    let within : c.args.at < length hs = subst (λ k. c.args.at < k) (length-map hs (row_of c.self.inside.trails.items)) (subst (λ v. c.args.at < length v)
    (sym c.self.view_is) c.requires) in (
      omega (arith, inv.0, within, c.push_reserved.ensures.len, c.remove-old.ensures.len),
      inv.1,
      omega (arith, inv.2, c.push_reserved.ensures.capacity, c.remove-old.ensures.capacity),
      inv.3,
      inv.4,
      rw (c.push_reserved.ensures.items, c.remove-old.ensures.items, c.head_of.ensures)
          (moved (vec_len c.self.inside.trails) hs c.self.inside.free.items inv.5 c.args.at c.remove-old.result within
          (head_with c.args.row.now c.remove-old.result.slot) (ap (λ (v : Head). v.slot) c.remove-old.ensures.value)),
    )

pub returns : goal.returns
returns g c =
    let hs : List Head = c.self.inside.heads.items in
    let within : c.args.at < length hs = subst (λ k. c.args.at < k) (length-map hs (row_of c.self.inside.trails.items)) (subst (λ v. c.args.at < length v)
    (sym c.self.view_is) c.requires) in
    rw (← c.self.view_is, c.copy_items.ensures ∙ ap (λ (x : Row). x.trail) c.row.view_is)
    (ap (map (row_of (set c.self.inside.trails.items c.remove-old.result.slot c.args.row.now.trail)))
    (c.push_reserved.ensures.items ∙ ap (λ v. v ++ c.head_of.result ∷ []) c.remove-old.ensures.items
    ∙ ap (λ v. remove hs c.args.at ++ v ∷ []) c.head_of.ensures)
    ∙ full_here (vec_len c.self.inside.trails) hs c.self.inside.free.items c.self.invariant.5 c.args.at c.remove-old.result within
    c.self.inside.trails.items c.args.row.now (omega arith) c.remove-old.ensures.value)
