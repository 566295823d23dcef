use Rattle.std.proofs.Common.{◌≡◌, ℕ, ◌<◌, ◌≤◌, get_or, Some}
use Rattle.machine_spec.specs.Header.{Header}
use Rattle.machine_spec.specs.Machine.{Core, mailed_by}
use Rattle.machine.specs.Seats.{no_seat, IsSeatOf}
use Rattle.machine.proofs.act.post_all.Given as goal

abbrev pub invariant-loop-c : goal.invariant-loop-c
invariant-loop-c l =
    ((h : Header) → (d : ℕ) → (v : Core) → d < l.c → IsSeatOf h d v (get_or l.initial.seats d no_seat) →
    IsSeatOf h d (mailed_by d v (Some l.inval)) (get_or l.seats d no_seat))
    × ((d : ℕ) → l.c ≤ d → get_or l.seats d no_seat ≡ get_or l.initial.seats d no_seat)
