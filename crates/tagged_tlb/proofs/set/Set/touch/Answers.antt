use Rattle.std.proofs.Common.{List, ◌∷◌, [], ◌++◌, ◌<◌, length, map, ap, sym, ◌∙◌, subst, arith}
use Rattle.std.specs.Prelude.{vec_len}
use Rattle.std.specs.List.{remove}
use Rattle.std.proofs.lemmas.List.{length-map}
use Rattle.tagged_tlb.specs.declared.head.Head.{Head}
use Rattle.tagged_tlb.specs.Slots.{row_of}
use Rattle.tagged_tlb.proofs.Heads.{moved, moved_view}
use Rattle.tagged_tlb.proofs.set.Set.touch.Goals as goal

pub invariant_of-self : goal.invariant_of-self
invariant_of-self g c =
    let hs : List Head = c.self.inside.heads.items in
    let inv = c.self.invariant in
    let within : c.args.way < length hs = subst (λ k. c.args.way < k) (length-map hs (row_of c.self.inside.trails.items)) (subst
    (λ v. c.args.way < length v) (sym c.self.view_is) c.requires) in (
      omega (arith, inv.0, within, c.push_reserved.ensures.len, c.remove-head.ensures.len),
      inv.1,
      omega (arith, inv.2, c.push_reserved.ensures.capacity, c.remove-head.ensures.capacity),
      inv.3,
      inv.4,
      rw (c.push_reserved.ensures.items, c.remove-head.ensures.items)
          (moved (vec_len c.self.inside.trails) hs c.self.inside.free.items inv.5 c.args.way c.remove-head.result within c.remove-head.result (ap (λ
          (v : Head). v.slot) c.remove-head.ensures.value)),
    )

pub returns : goal.returns
returns g c =
    let hs : List Head = c.self.inside.heads.items in
    let within : c.args.way < length hs = subst (λ k. c.args.way < k) (length-map hs (row_of c.self.inside.trails.items)) (subst
    (λ v. c.args.way < length v) (sym c.self.view_is) c.requires) in
    rw (← c.self.view_is)
    (λ e.
    ap (map (row_of c.self.inside.trails.items))
    (c.push_reserved.ensures.items ∙ ap (λ v. v ++ c.remove-head.result ∷ []) c.remove-head.ensures.items
    ∙ ap (λ v. remove hs c.args.way ++ v ∷ []) c.remove-head.ensures.value)
    ∙ moved_view (vec_len c.self.inside.trails) hs c.self.inside.free.items c.self.invariant.5 c.args.way c.remove-head.result within
    c.self.inside.trails.items e)
