use Rattle.std.proofs.Common.{◌≡◌, true, ap, sym, ◌∙◌, subst}
use Rattle.tagged_tlb.specs.Shapes.{keeps_rows}
use Rattle.tagged_tlb.specs.Sets.{touched}
use Rattle.walk_cache.specs.Services.{AreServices}
use Rattle.cpu_model.specs.Cores.{CoreState}
use Rattle.cpu_model.specs.Filled.{rows_of_step}
use Rattle.cpu_model.proofs.Filling.{step_filled}
use Rattle.cpu_model.proofs.cpu.Cpu.fill.Goals as goal

pub returns-clause-filled : goal.returns-clause-filled
returns-clause-filled c =
    let s = c.self.inside in
    let keeps : keeps_rows s.caches.size ≡ true = subst (λ (x : CoreState). keeps_rows x.caches.size ≡ true) (sym c.self.view_is) c.requires.keeps in
    rw (← c.self.view_is) (λ h l served end held told services stands.
    let moved = c.touch_all.ensures.touched h s.number l served held told
    (subst (λ v. AreServices h.size l.rows v served) (sym c.as_slice.ensures.value) services) in
    let made = ap (rows_of_step s.force c.args.moment c.args.walked.now.trail.now) c.as_slice-2.ensures.value
    ∙ c.rows_made.ensures.made end stands.stands stands.mapped in
    step_filled h s.number l served _ _ c.add_all.result c.add_all.new.caches (ap keeps_rows held.size_is ∙ keeps) made
    (c.add_all.ensures.filled h s.number record l { rows = touched h.policy l.rows served } moved))
