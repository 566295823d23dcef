use Rattle.std.proofs.Common.{ℕ, List, ◌∷◌, [], ◌++◌, ◌<◌, ◌-◌, length, map, set, ap, sym, ◌∙◌, subst, arith}
use Rattle.std.specs.Prelude.{vec_len}
use Rattle.std.proofs.lemmas.List.{length-map}
use Rattle.tagged_tlb.specs.declared.row.Row.{Row}
use Rattle.tagged_tlb.specs.declared.head.Head.{Head}
use Rattle.tagged_tlb.specs.Slots.{row_of, head_with}
use Rattle.tagged_tlb.proofs.Heads.{taken, free_slot_below, room_here, grown, grown_here}
use Rattle.tagged_tlb.proofs.set.Set.append.Goals as goal

pub invariant_of-self : goal.invariant_of-self
invariant_of-self g c =
    let hs : List Head = c.self.inside.heads.items in
    let inv = c.self.invariant in
    let n : ℕ = vec_len c.self.inside.trails in
    let short : length hs < g.row.WAYS = subst (λ k. k < g.row.WAYS) (length-map hs (row_of c.self.inside.trails.items)) (subst
    (λ v. length v < g.row.WAYS) (sym c.self.view_is) c.requires) in
    let room : n < g.row.WAYS = omega (arith, inv.0, c.len-spare.ensures, c.if-spare-eq0.true, short) in (
      omega (arith, inv.0, c.push_reserved.ensures.len, c.push_reserved-then-spare-eq0.ensures.len),
      omega (arith, room, c.push_reserved-then-spare-eq0.ensures.len),
      omega (arith, inv.2, c.push_reserved.ensures.capacity),
      inv.3,
      omega (arith, inv.4, c.push_reserved-then-spare-eq0.ensures.capacity),
      rw (c.push_reserved-then-spare-eq0.ensures.len, c.push_reserved.ensures.items, c.head_of.ensures)
          (grown n hs c.self.inside.free.items inv.5 (head_with c.args.row.now c.len.result) c.len.ensures),
    )

pub index_mut-requires : goal.index_mut-requires
index_mut-requires g c =
    let inv = c.self.invariant in
    let i : ℕ = c.len-spare.result - 1 in
    let within : i < length c.self.inside.free.items = omega (arith, c.len-spare.ensures, c.if-spare-eq0.false) in
    let below = free_slot_below (vec_len c.self.inside.trails) c.self.inside.heads.items c.self.inside.free.items inv.5 i c.remove-slot.result within in
    subst (λ v. v < vec_len c.self.inside.trails) (sym c.remove-slot.ensures.value) below

pub invariant_of-self-else-spare-eq0 : goal.invariant_of-self-else-spare-eq0
invariant_of-self-else-spare-eq0 g c =
    let inv = c.self.invariant in
    let i : ℕ = c.len-spare.result - 1 in
    let within : i < length c.self.inside.free.items = omega (arith, c.len-spare.ensures, c.if-spare-eq0.false) in (
      omega (arith, inv.0, within, c.push_reserved-else-spare-eq0.ensures.len, c.remove-slot.ensures.len),
      inv.1,
      omega (arith, inv.2, c.push_reserved-else-spare-eq0.ensures.capacity),
      omega (arith, inv.3, c.remove-slot.ensures.capacity),
      inv.4,
      rw (c.push_reserved-else-spare-eq0.ensures.items, c.remove-slot.ensures.items, c.head_of-else-spare-eq0.ensures)
          (taken (vec_len c.self.inside.trails) c.self.inside.heads.items c.self.inside.free.items inv.5 i c.remove-slot.result within
          (head_with c.args.row.now c.remove-slot.result) c.remove-slot.ensures.value),
    )

pub returns-then-spare-eq0 : goal.returns-then-spare-eq0
returns-then-spare-eq0 g c =
    let n : ℕ = vec_len c.self.inside.trails in
    let own = c.trail_of.ensures ∙ ap (λ (x : Row). x.trail) c.row.view_is in
    rw (← c.self.view_is)
    (ap (λ v. map (row_of v) c.push_reserved.new.self.items)
    (c.push_reserved-then-spare-eq0.ensures.items ∙ ap (λ v. c.self.inside.trails.items ++ v ∷ []) own)
    ∙ ap (map (row_of (c.self.inside.trails.items ++ c.args.row.now.trail ∷ [])))
    (c.push_reserved.ensures.items ∙ ap (λ v. c.self.inside.heads.items ++ v ∷ []) (c.head_of.ensures ∙ ap (head_with c.args.row.now) c.len.ensures))
    ∙ grown_here n c.self.inside.trails.items c.self.inside.heads.items c.self.inside.free.items c.args.row.now (omega arith) c.self.invariant.5)

pub returns-else-spare-eq0 : goal.returns-else-spare-eq0
returns-else-spare-eq0 g c =
    let i : ℕ = c.len-spare.result - 1 in
    let within : i < length c.self.inside.free.items = omega (arith, c.len-spare.ensures, c.if-spare-eq0.false) in
    rw (← c.self.view_is, c.copy_items.ensures ∙ ap (λ (x : Row). x.trail) c.row.view_is)
    (ap (map (row_of (set c.self.inside.trails.items c.remove-slot.result c.args.row.now.trail)))
    (c.push_reserved-else-spare-eq0.ensures.items ∙ ap (λ v. c.self.inside.heads.items ++ v ∷ []) c.head_of-else-spare-eq0.ensures)
    ∙ room_here (vec_len c.self.inside.trails) c.self.inside.heads.items c.self.inside.free.items c.self.invariant.5 i c.remove-slot.result within
    c.self.inside.trails.items c.args.row.now (omega arith) c.remove-slot.ensures.value)
