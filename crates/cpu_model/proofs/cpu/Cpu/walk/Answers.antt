use Rattle.std.proofs.Common.{◌≡◌, false, refl, sym, subst}
use Rattle.tagged_tlb.specs.Shapes.{keeps_rows}
use Rattle.phys_mem.specs.Words.{memory_of}
use Rattle.cpu_model.specs.Cores.{CoreState}
use Rattle.cpu_model.proofs.Fresh.{answered, kept}
use Rattle.cpu_model.proofs.cpu.Cpu.walk.Goals as goal

pub returns-clause-answer : goal.returns-clause-answer
returns-clause-answer c =
    let s = c.self.inside in
    let core : CoreState = record { number = s.number; bank = record { regs = s.force; queue = s.queue.items }; caches = s.caches } in
    rw (← c.self.view_is, c.asid-answer.ensures, c.vmid-answer.ensures, c.regs.ensures, c.regs-2.ensures, c.no_second.ensures)
    (λ h l held.
    answered core (memory_of c.args.phys.now) c.args.moment c.args.access.now (subst (λ (x : CoreState). keeps_rows x.caches.size ≡ false)
    (sym c.self.view_is) c.requires) h l held c.translate_at-answer.result
    c.translate_at-answer.new.trail c.translate_at-answer.ensures.fresh)

pub returns-clause-rest : goal.returns-clause-rest
returns-clause-rest c =
    rw (← c.self.view_is) (record { number = refl; bank = refl; caches = record { size_is = refl; policy_is = refl } })

pub returns-clause-rows : goal.returns-clause-rows
returns-clause-rows c =
    let s = c.self.inside in
    let core : CoreState = record { number = s.number; bank = record { regs = s.force; queue = s.queue.items }; caches = s.caches } in
    rw (← c.self.view_is) (λ h l held.
    kept core (memory_of c.args.phys.now) c.args.moment c.args.access.now (subst (λ (x : CoreState). keeps_rows x.caches.size ≡ false)
    (sym c.self.view_is) c.requires) h l held)
