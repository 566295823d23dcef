use Rattle.std.proofs.Common.{◌≡◌, ◌++◌, length, get_or, take, drop, arith, refl, sym, ap, ◌∙◌, subst}
use Rattle.std.proofs.lemmas.List.{take_at}
use Rattle.trails.specs.declared.event.Event.{Event}
use Rattle.trails.specs.declared.event.Event.TheVariants.{Store}
use Rattle.machine.specs.Runs.{log_at}
use Rattle.machine.proofs.Steps.{Goes, Went, goes_from, went, doable, is_left, next_is}
use Rattle.machine.proofs.runner.Runner.step.Goals as goal
use Rattle.machine.proofs.runner.Runner.step.Goals.{After-act_and_answer}

pub overflow_add-self : goal.overflow_add-self
overflow_add-self c =
    let lt = is_left _ _ c.self.inside.done c.self.view_is c.requires c.self.invariant.3 in
    omega (arith, lt, c.events.ensures.limits.events)

pub act_and_answer-requires-clause-doable : goal.act_and_answer-requires-clause-doable
act_and_answer-requires-clause-doable c =
    let s = c.self.inside in
    let lt = is_left _ _ s.done c.self.view_is c.requires c.self.invariant.3 in
    let at = next_is s.trace s.done c.events.result.now (Store 0 0 0) c.events.ensures.value lt in
    doable s.trace c.events.ensures.limits s.done lt (get_or c.events.result.now s.done (Store 0 0 0)) at s.phys c.self.invariant.2

goes : (c : After-act_and_answer)
    → Goes c.self.inside.trace (log_at c.self.inside.trace c.self.inside.done) c.act_and_answer.new.phys c.act_and_answer.new.seats
    c.act_and_answer.new.slot
goes c =
    let s = c.self.inside in
    let d = c.act_and_answer in
    let e : Event = get_or c.events.result.now s.done (Store 0 0 0) in
    let lt = is_left _ _ s.done c.self.view_is c.requires c.self.invariant.3 in
    let g : Goes s.trace (log_at s.trace s.done) d.new.phys d.new.seats (record { event = e; answer = d.new.slot.answer }) =
    goes_from record {
      allowed = c.runs_are_allowed.ensures;
      serve = c.rows_can_serve.ensures;
      small = c.rows_are_small.ensures;
    } s.trace s.phys s.seats.items (log_at s.trace s.done) c.events.ensures.limits c.self.invariant.1
    c.self.invariant.0
    e d.new.slot.answer d.new.phys d.new.seats s.done s.trace s.phys c.as_mut_slice-seats.result.now
    c.self.invariant.3 refl refl c.as_mut_slice-seats.ensures.value
    (record {
      lt = lt;
      at = next_is s.trace s.done c.events.result.now (Store 0 0 0) c.events.ensures.value lt;
      memory = d.ensures.memory;
      answer = d.ensures.answer;
      len = d.auto.seats;
      cores = d.ensures.cores;
      text = d.ensures.text;
    }) in
    subst (λ (x : Event). Goes s.trace (log_at s.trace s.done) d.new.phys d.new.seats (record { event = x; answer = d.new.slot.answer }))
    (sym d.ensures.event) g

all_went : (c : After-act_and_answer)
    → Went c.self.inside.trace c.self.inside.done c.act_and_answer.new.phys c.act_and_answer.new.seats
    c.act_and_answer.new.slot
all_went c = went _ c.self.inside.done _ _ c.act_and_answer.new.slot c.self.invariant.3 (goes c)

seats_are : (c : After-act_and_answer)
    → take c.self.inside.seats.len (c.act_and_answer.new.seats ++ drop (length c.act_and_answer.new.seats) c.self.inside.seats.items)
    ≡ c.act_and_answer.new.seats
seats_are c = take_at _ _ _ (c.act_and_answer.auto.seats ∙ c.as_mut_slice-seats.ensures.len)

pub invariant_of-self : goal.invariant_of-self
invariant_of-self d =
    let c = (goal.at.invariant_of-self d).After-act_and_answer in
    let w = all_went c in
    rw (seats_are c) (
      w.run,
      c.act_and_answer.auto.seats ∙ ap length c.as_mut_slice-seats.ensures.value ∙ c.self.invariant.1,
      c.act_and_answer.ensures.ranges ∙ c.self.invariant.2,
      w.done,
    )

pub returns-clause-log : goal.returns-clause-log
returns-clause-log c = rw (← c.self.view_is) (all_went (goal.at.returns-clause-log c).After-act_and_answer).log

pub returns-clause-event : goal.returns-clause-event
returns-clause-event c = rw (← c.self.view_is) (goes (goal.at.returns-clause-event c).After-act_and_answer).event

pub returns-clause-allowed : goal.returns-clause-allowed
returns-clause-allowed c = rw (← c.self.view_is) (goes (goal.at.returns-clause-allowed c).After-act_and_answer).allowed

pub returns-clause-run : goal.returns-clause-run
returns-clause-run c = rw (← c.self.view_is) (all_went (goal.at.returns-clause-run c).After-act_and_answer).run.log_is

pub returns-clause-texts : goal.returns-clause-texts
returns-clause-texts c = (all_went (goal.at.returns-clause-texts c).After-act_and_answer).run.texts

pub returns-clause-machine : goal.returns-clause-machine
returns-clause-machine d =
    let c = (goal.at.returns-clause-machine d).After-act_and_answer in
    rw (← c.self.view_is, seats_are c) (all_went c).run.machine
