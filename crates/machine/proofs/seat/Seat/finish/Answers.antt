use Rattle.std.proofs.Common.{rules, not, ap, ◌∙◌, subst}
use Rattle.std.specs.Prelude.{List, fold, filter}
use Rattle.std.proofs.lemmas.Fn.{filter_same}
use Rattle.trails.specs.declared.event.Event.TheVariants.{Dsb}
use Rattle.tlbi_ops.specs.declared.inval.Inval.{Inval}
use Rattle.machine_spec.specs.Invalidations.{completes}
use Rattle.machine_spec.specs.Machine.{killed}
use Rattle.cpu_model.specs.Cores.{AreCaches}
use Rattle.machine.proofs.Seated.{other_rows}
use Rattle.machine.proofs.seat.Seat.finish.Goals as goal

pub returns : goal.returns
returns c =
    let stays = λ (i : Inval). not (completes (Dsb c.args.core c.args.kind) i) in
    let e = filter_same _ stays _ (λ x b f' k. search rules) _ _ c.retain.ensures.filtered in
    rw (← c.self.view_is) (λ h n v s.
    let taken = c.take_all.ensures.rows h v.cache s.caches in
    other_rows h n v (fold killed v.cache (filter (completes (Dsb c.args.core c.args.kind)) v.inbox)) (filter stays v.inbox) c.self.inside.cpu
    c.take_all.new.cpu c.self.inside.inbox.items _ c.take_all.ensures.rest
    (subst (λ (l : List Inval).
    AreCaches h c.self.inside.cpu.number (fold killed v.cache (filter (completes (Dsb c.args.core c.args.kind)) l)) c.take_all.new.cpu)
    (c.as_slice.ensures.value ∙ s.inbox) taken)
    (e ∙ ap (filter stays) s.inbox) s)
