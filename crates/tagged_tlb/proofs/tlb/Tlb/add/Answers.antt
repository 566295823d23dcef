use Rattle.std.proofs.Common.{◌≡◌, ℕ, length, get_or, ◌<◌, sym, ap, ◌∙◌, subst, arith, set, refl}
use Rattle.std.specs.Prelude.{◌%◌}
use Rattle.tagged_tlb.specs.declared.row.Row.{Row}
use Rattle.tagged_tlb.specs.Slots.{IsFilled}
use Rattle.tagged_tlb.specs.Stages.{AreStaged}
use Rattle.tagged_tlb.proofs.Adds.{was_there, was_filled}
use Rattle.tagged_tlb.proofs.Classes.{filled_marked}
use Rattle.tagged_tlb.proofs.Staged.{filled_staged}
use Rattle.tagged_tlb.proofs.tlb.Tlb.add.Goals as goal

pub returns-then-has-clause-added : goal.returns-then-has-clause-added
returns-then-has-clause-added g c =
    let own = subst (λ (x : Row). c.index_mut-set.result.now ≡ get_or c.self.inside.sets.items (x.region.start % g.row.SETS) c.index_mut-set.result.now)
    c.row.view_is c.index_mut-set.ensures.value in
    rw (← c.self.view_is, ap (λ (x : Row). x.region.start) c.row.view_is)
    (λ h core l same fits at f. was_there h core g.row.SETS g.row.WAYS l c.args.row.now fits c.self.inside.sets.items c.args.by.now same c.requires.sets f at
    c.index_mut-set.result.now own (sym c.has.ensures ∙ c.if-has.true))

pub invariant_of-self-2 : goal.invariant_of-self-2
invariant_of-self-2 g c =
    let n : ℕ = g.row.SETS in
    let s = c.row.inside in
    let row : Row = record {
      trail = s.trail.now;
      tag = s.tag;
      key = s.key;
      region = s.region;
      made = s.made;
      kind = s.kind;
      global = s.global;
    } in
    let at : ℕ = row.region.start % n in
    let lt : at < length c.self.inside.sets.items = omega (arith, c.requires.sets, c.self.invariant.0) in
    let class : row.region.class < 64 = subst (λ (x : Row). x.region.class < 64) (sym c.row.view_is) c.requires.class in
    let filled : IsFilled c.index_mut-set.result.now row c.fill-lost.new.self =
    subst (λ (x : Row). IsFilled c.index_mut-set.result.now x c.fill-lost.new.self) (sym c.row.view_is) c.fill-lost.ensures.filled in (
      c.self.invariant.0,
      filled_marked c.self.inside.classes row.region.class class row refl c.self.inside.sets.items at c.index_mut-set.result.now c.fill-lost.new.self
          lt c.index_mut-set.ensures.value c.self.invariant.1 filled,
      subst (λ s. AreStaged s (set c.self.inside.sets.items at c.fill-lost.new.self)) (sym c.with_stage-self-inside.ensures)
          (filled_staged c.self.inside.stages row c.self.inside.sets.items at c.index_mut-set.result.now c.fill-lost.new.self lt
          c.index_mut-set.ensures.value c.self.invariant.2 filled),
    )

pub returns-clause-added : goal.returns-clause-added
returns-clause-added g c =
    let own = subst (λ (x : Row). c.index_mut-set.result.now ≡ get_or c.self.inside.sets.items (x.region.start % g.row.SETS) c.index_mut-set.result.now)
    c.row.view_is c.index_mut-set.ensures.value in
    rw (← c.self.view_is, ap (λ (x : Row). x.region.start) c.row.view_is)
    (λ h core l same fits at f. was_filled h core g.row.SETS g.row.WAYS l c.args.row.now fits c.self.inside.sets.items c.args.by.now same c.requires.sets f at
    c.index_mut-set.result.now own
    c.fill-lost.new.self c.fill-lost.result c.fill-lost.new.by (sym c.has.ensures ∙ c.if-has.false) c.fill-lost.ensures.room c.fill-lost.ensures.full)
