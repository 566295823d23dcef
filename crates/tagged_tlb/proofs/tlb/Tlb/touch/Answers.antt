use Rattle.std.proofs.Common.{◌≡◌, ◌∙◌, [], get_or, length, ◌<◌, sym, subst, arith}
use Rattle.std.proofs.lemmas.List.{get_or_default}
use Rattle.tagged_tlb.specs.Found.{IsWithin}
use Rattle.tagged_tlb.proofs.Touches.{touched_here}
use Rattle.tagged_tlb.proofs.Classes.{touched_marked}
use Rattle.tagged_tlb.proofs.Staged.{touched_staged}
use Rattle.tagged_tlb.proofs.tlb.Tlb.touch.Goals as goal

pub invariant_of-self : goal.invariant_of-self
invariant_of-self g c =
    let stands : IsWithin c.self.inside.sets.items c.args.slot = subst (λ v. IsWithin v c.args.slot) (sym c.self.view_is) c.requires in
    let one = c.index_mut-set.result.now in
    let one_is : one ≡ get_or c.self.inside.sets.items c.args.slot.set [] = c.index_mut-set.ensures.value
    ∙ get_or_default c.self.inside.sets.items c.args.slot.set one [] stands.0 in (
      c.self.invariant.0,
      touched_marked c.self.inside.classes c.self.inside.sets.items c.args.slot.set c.args.slot.way one c.touch.new.self stands.0 c.index_mut-set.ensures.value
          (subst (λ v. c.args.slot.way < length v) (sym one_is) stands.1) c.self.invariant.1 c.touch.ensures,
      touched_staged c.self.inside.stages c.self.inside.sets.items c.args.slot.set c.args.slot.way one c.touch.new.self stands.0 c.index_mut-set.ensures.value
          (subst (λ v. c.args.slot.way < length v) (sym one_is) stands.1) c.self.invariant.2 c.touch.ensures,
    )

pub returns : goal.returns
returns g c =
    let stands : IsWithin c.self.inside.sets.items c.args.slot = subst (λ v. IsWithin v c.args.slot) (sym c.self.view_is) c.requires in
    let at : c.args.slot.set < g.row.SETS = let lt = stands.0 in omega (arith, lt, c.self.invariant.0) in
    rw (← c.self.view_is)
    (λ d kind live told f. touched_here kind g.row.SETS c.args.slot.set c.args.slot.way d live c.self.inside.sets.items told f at stands.1
    c.index_mut-set.result.now c.index_mut-set.ensures.value c.touch.new.self c.touch.ensures)
