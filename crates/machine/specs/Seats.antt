-- A core with its inbox (this project's own rules).
use Rattle.std.specs.Prelude.{◌≡◌, ◌<◌, ℕ, List, [], length, get_or, nat_lt, if◌then◌else◌}
use Rattle.tlbi_ops.specs.declared.inval.Inval.{Inval}
use Rattle.trails.specs.declared.event.Event.{Event}
use Rattle.table_reads.specs.Memory.{Memory}
use Rattle.machine_spec.specs.Header.{Header}
use Rattle.machine_spec.specs.Machine.{Core, World, no_core, core_numbered, moved, most_held, delivered}
use Rattle.cpu_model.specs.Cores.{CoreState, no_core_state, AreCaches, CanServe}

-- a core, and the invalidations that have reached it and have not taken effect, oldest first
pub record SeatState : Type 0 where
  pub core : CoreState
  pub inbox : List Inval

-- a core at first, with an empty inbox
abbrev pub no_seat : SeatState
no_seat = record { core = no_core_state; inbox = [] }

-- a seat is a core of the definitions, under a header and by its number: registers, queue and inbox are equal, and its caches hold
-- the core's rows
pub record IsSeatOf (h : Header) (c : ℕ) (core : Core) (seat : SeatState) : Type 0 where
  pub number : seat.core.number ≡ c
  pub bank : seat.core.bank ≡ core.bank
  pub inbox : seat.inbox ≡ core.inbox
  pub caches : AreCaches h seat.core.number core.cache seat.core

-- the seats are the cores of the definitions, each by its number
pub record AreSeatsOf (h : Header) (cores : List Core) (seats : List SeatState) : Type 0 where
  pub count : length seats ≡ length cores
  pub each : (c : ℕ) → c < length seats → IsSeatOf h c (get_or cores c no_core) (get_or seats c no_seat)

-- a core whose inbox has room for one more: where it was full, its oldest has taken effect
abbrev pub with_room : (core : Core) → Core
with_room v = if nat_lt (length v.inbox) most_held then v else delivered v

-- the machine of the definitions with a memory and cores, at a step
abbrev pub world_with : (step : ℕ) (memory : Memory) (cores : List Core) → World
world_with k m cores = record { step = k; memory = m; cores = cores }

-- each seat is what an event makes of the core of its number
abbrev pub AreMoved : (header : Header) (world : World) (event : Event) (seats : List SeatState) → Type 0
AreMoved h w e seats = (c : ℕ) → c < length seats → IsSeatOf h c (moved h w e c (core_numbered w c)) (get_or seats c no_seat)

-- the rows of each core can serve in a step
abbrev pub CanAnswer : (step : ℕ) (cores : List Core) → Type 0
CanAnswer k cores = (c : ℕ) → c < length cores → CanServe k (get_or cores c no_core).cache.rows
