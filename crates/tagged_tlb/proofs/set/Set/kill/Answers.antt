use Rattle.std.proofs.Common.{◌≡◌, rules, List, ◌++◌, ◌+◌, length, map, not, ap, sym, ◌∙◌, arith}
use Rattle.std.specs.Prelude.{vec_len, filter}
use Rattle.std.proofs.lemmas.Fn.{filter_same}
use Rattle.std.proofs.lemmas.List.{length-append}
use Rattle.tlbi_ops.specs.Covers.{covers}
use Rattle.tagged_tlb.specs.declared.head.Head.{Head}
use Rattle.tagged_tlb.specs.Slots.{row_of, spares}
use Rattle.tagged_tlb.proofs.Heads.{stays, counted, killed_spread, killed_view, all_stay}
use Rattle.tagged_tlb.proofs.set.Set.kill.Goals as goal

pub invariant_of-self : goal.invariant_of-self
invariant_of-self g c =
    let hs : List Head = c.self.inside.heads.items in
    let i = c.args.inval.now in
    let inv = c.self.invariant in
    let kept = filter_same _ (λ (h : Head). not (covers c.args.inval.now h.tag)) _ (λ x b f k. search rules) _ _ c.retain.ensures.filtered in
    let slots = c.give_back.ensures.slots ∙ ap (λ v. c.self.inside.free.items ++ spares i v) c.as_slice.ensures.value in
    let a : length c.retain.new.self.items ≡ length (filter (stays i) hs) = ap length kept in
    let b : length c.give_back.new.free.items ≡ length c.self.inside.free.items + length (spares i hs) = ap length slots
    ∙ length-append c.self.inside.free.items (spares i hs) in
    let all = counted i hs in (
      omega (arith, inv.0, a, b, all),
      inv.1,
      omega (arith, inv.2, c.retain.ensures.capacity),
      omega (arith, inv.3, c.give_back.ensures.capacity),
      inv.4,
      rw (kept, slots) (killed_spread (vec_len c.self.inside.trails) i hs c.self.inside.free.items inv.5),
    )

pub returns-then-len-spare : goal.returns-then-len-spare
returns-then-len-spare g c =
    let kept = filter_same _ (λ (h : Head). not (covers c.args.inval.now h.tag)) _ (λ x b f k. search rules) _ _ c.retain.ensures.filtered in
    rw (← c.self.view_is)
    (ap (map (row_of c.self.inside.trails.items)) kept ∙ sym (killed_view c.args.inval.now c.self.inside.trails.items c.self.inside.heads.items))

pub returns-else-len-spare : goal.returns-else-len-spare
returns-else-len-spare g c =
    let hs : List Head = c.self.inside.heads.items in
    let i = c.args.inval.now in
    let slots = c.give_back.ensures.slots ∙ ap (λ v. c.self.inside.free.items ++ spares i v) c.as_slice.ensures.value in
    let b : length c.give_back.new.free.items ≡ length c.self.inside.free.items + length (spares i hs) = ap length slots
    ∙ length-append c.self.inside.free.items (spares i hs) in
    let z : length (spares i hs) ≡ 0 = omega (arith, b, c.len.ensures, c.len-spare.ensures, c.if-len-spare.false) in
    rw (← c.self.view_is)
    (sym (killed_view i c.self.inside.trails.items hs ∙ ap (map (row_of c.self.inside.trails.items)) (all_stay i hs z)))
