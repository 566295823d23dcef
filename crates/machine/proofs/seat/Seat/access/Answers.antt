use Rattle.std.proofs.Common.{ap, ◌∙◌, subst}
use Rattle.phys_mem.specs.Words.{memory_of}
use Rattle.machine_spec.specs.Machine.{Visit, visited}
use Rattle.cpu_model.specs.Cores.{AreCaches}
use Rattle.machine.specs.Seats.{SeatState}
use Rattle.machine.proofs.Seated.{other_rows, visit_is}
use Rattle.machine.proofs.seat.Seat.access.Goals as goal

pub returns-clause-answer : goal.returns-clause-answer
returns-clause-answer c =
    let seat : SeatState = record { core = c.self.inside.cpu; inbox = c.self.inside.inbox.items } in
    rw (← c.self.view_is) (λ h cores n v s can.
    c.access.ensures.answer h v.cache s.caches can
    ∙ ap (λ (p : Visit). (visited p c.args.access.now).answer) (visit_is h n v seat c.args.moment (memory_of c.args.phys.now) cores s))

pub returns-clause-core : goal.returns-clause-core
returns-clause-core c =
    let seat : SeatState = record { core = c.self.inside.cpu; inbox = c.self.inside.inbox.items } in
    rw (← c.self.view_is) (λ h cores n v s can.
    other_rows h n v _ v.inbox c.self.inside.cpu c.access.new.self c.self.inside.inbox.items c.self.inside.inbox.items c.access.ensures.rest
    (subst (λ (p : Visit). AreCaches h c.self.inside.cpu.number (visited p c.args.access.now).cache c.access.new.self)
    (visit_is h n v seat c.args.moment (memory_of c.args.phys.now) cores s) (c.access.ensures.rows h v.cache s.caches can))
    s.inbox s)
