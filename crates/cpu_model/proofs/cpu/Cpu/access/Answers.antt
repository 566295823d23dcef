use Rattle.std.proofs.Common.{sym, subst, true}
use Rattle.trails.specs.declared.step.Answer.{Answer}
use Rattle.trails.specs.Printed.{printed, HasText}
use Rattle.phys_mem.specs.Words.{memory_of}
use Rattle.cpu_model.specs.Cores.{visit_at}
use Rattle.cpu_model.proofs.Visits.{visited_text}
use Rattle.cpu_model.proofs.cpu.Cpu.access.Goals as goal

pub returns-then-keep_rows-clause-text : goal.returns-then-keep_rows-clause-text
returns-then-keep_rows-clause-text c h l held can =
    subst (λ (x : Answer). HasText (printed true x.outcome)) (sym (c.serve.ensures.answer h l held can))
    (visited_text (visit_at h c.args.self.now l (memory_of c.args.phys.now) c.args.moment) c.args.access.now)

pub returns-else-keep_rows-clause-text : goal.returns-else-keep_rows-clause-text
returns-else-keep_rows-clause-text c h l held can =
    subst (λ (x : Answer). HasText (printed true x.outcome)) (sym (c.walk.ensures.answer h l held))
    (visited_text (visit_at h c.args.self.now l (memory_of c.args.phys.now) c.args.moment) c.args.access.now)
