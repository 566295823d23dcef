use Rattle.std.proofs.Common.{◌≡◌, ℕ, ◌<◌, ◌≤◌, get_or}
use Rattle.trails.specs.declared.event.Event.TheVariants.{Dsb}
use Rattle.machine_spec.specs.Header.{Header}
use Rattle.machine_spec.specs.Machine.{Core, finished}
use Rattle.machine.specs.Seats.{no_seat, IsSeatOf}
use Rattle.machine.proofs.act.finish_all.Given as goal

abbrev pub invariant-loop-seat : goal.invariant-loop-seat
invariant-loop-seat l =
    ((h : Header) → (d : ℕ) → (v : Core) → d < l.seat-index → IsSeatOf h d v (get_or l.initial.seats d no_seat) →
    IsSeatOf h d (finished v (Dsb l.core l.kind)) (get_or l.seats d no_seat))
    × ((d : ℕ) → l.seat-index ≤ d → get_or l.seats d no_seat ≡ get_or l.initial.seats d no_seat)
