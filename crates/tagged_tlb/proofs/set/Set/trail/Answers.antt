use Rattle.std.proofs.Common.{List, ◌<◌, length, sym, ◌∙◌, subst, arith}
use Rattle.std.specs.Prelude.{vec_len}
use Rattle.std.proofs.lemmas.List.{length-map}
use Rattle.tagged_tlb.specs.declared.head.Head.{Head}
use Rattle.tagged_tlb.specs.Slots.{row_of}
use Rattle.tagged_tlb.proofs.Heads.{slot_below, trail_at}
use Rattle.tagged_tlb.proofs.set.Set.trail.Goals as goal

pub index-requires-2 : goal.index-requires-2
index-requires-2 g c =
    let hs : List Head = c.self.inside.heads.items in
    let within : c.args.way < length hs = subst (λ k. c.args.way < k) (length-map hs (row_of c.self.inside.trails.items)) (subst
    (λ v. c.args.way < length v) (sym c.self.view_is) c.requires) in
    let below = slot_below (vec_len c.self.inside.trails) hs c.self.inside.free.items c.self.invariant.5 c.args.way c.index.result.now within in
    subst (λ (v : Head). v.slot < vec_len c.self.inside.trails) (sym c.index.ensures) below

pub returns : goal.returns
returns g c =
    let hs : List Head = c.self.inside.heads.items in
    let within : c.args.way < length hs = subst (λ k. c.args.way < k) (length-map hs (row_of c.self.inside.trails.items)) (subst
    (λ v. c.args.way < length v) (sym c.self.view_is) c.requires) in
    let below = slot_below (vec_len c.self.inside.trails) hs c.self.inside.free.items c.self.invariant.5 c.args.way c.index.result.now within in
    let here = subst (λ (v : Head). v.slot < vec_len c.self.inside.trails) (sym c.index.ensures) below in
    rw (← c.self.view_is)
    (λ d. c.items.ensures.items ∙ c.index-2.ensures
    ∙ trail_at (vec_len c.self.inside.trails) c.self.inside.trails.items hs c.args.way c.index.result.now c.index-2.result.now d within c.index.ensures
    (omega (arith, here)))
