use Rattle.std.proofs.Common.{◌+◌, drop, get_or, subst}
use Rattle.std.proofs.lemmas.List.{drop_more, get_or_default}
use Rattle.tagged_tlb.specs.declared.row.Kind.TheVariants.{Leaf1}
use Rattle.tagged_tlb.specs.Sets.{to_end}
use Rattle.served_walk.specs.declared.met.Service.{Service}
use Rattle.walk_cache.specs.Services.{IsService}
use Rattle.walk_cache.proofs.Moves.{IsLeft, next}
use Rattle.walk_cache.proofs.kinds.Kinds.touch_all.Goals as goal

pub loop-service-preserved : goal.loop-service-preserved
loop-service-preserved g c = λ size live served fits told f are.
    let all = c.args.services.now in
    let i = c.loop-service.service-index in
    let h = c.loop-service.invariant size live served fits told f are in
    let none : Service = record { kind = Leaf1; seen = record { slot = record { set = 0; way = 0 }; made = record { step = 0; order = 0 } } } in
    let one : Service = get_or all i none in
    let n = next size live served h.0 one (drop (i + 1) all) (subst (IsLeft size live served h.0) (drop_more all i none c.loop-service-test.true) h.2) in (
      to_end h.0 n.0,
      c.touch.ensures size h.0 n.0 fits h.2.told h.1
          (subst (λ (v : Service). IsService size h.0 v n.0) (get_or_default all i none _ c.loop-service-test.true) n.1),
      n.2,
    )
