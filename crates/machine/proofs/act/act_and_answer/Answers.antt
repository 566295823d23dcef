use Rattle.std.proofs.Common.{sym, ◌∙◌}
use Rattle.phys_mem.specs.Words.{memory_of}
use Rattle.machine.specs.Seats.{world_with}
use Rattle.machine.proofs.Acts.{asked_stores_none, quiet_answer}
use Rattle.machine.proofs.act.act_and_answer.Goals as goal

pub returns-in-Some-clause-memory : goal.returns-in-Some-clause-memory
returns-in-Some-clause-memory c =
    asked_stores_none (memory_of c.args.phys.now) c.args.event.now c.in-Some.core c.in-Some.access (sym c.asked.ensures ∙ c.in-Some.is)

pub returns-in-Some-clause-answer : goal.returns-in-Some-clause-answer
returns-in-Some-clause-answer c h cores are can = c.answer.ensures.answer h cores c.args.event.now (sym c.asked.ensures ∙ c.in-Some.is) are can

pub returns-in-Some-clause-cores : goal.returns-in-Some-clause-cores
returns-in-Some-clause-cores c h cores are can = c.answer.ensures.cores h cores c.args.event.now (sym c.asked.ensures ∙ c.in-Some.is) are can

pub returns-in-None-clause-answer : goal.returns-in-None-clause-answer
returns-in-None-clause-answer c h cores are can =
    quiet_answer h (world_with c.args.moment (memory_of c.args.phys.now) cores) c.args.event.now (sym c.asked.ensures ∙ c.in-None.is)
