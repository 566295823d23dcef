-- The laws of the machine: of each of its runs, whatever rows its cores keep. They are this project's own, of the
-- definitions alone.
use Rattle.std.specs.Prelude.{◌≡◌, ℕ, ◌<◌, false, List, length, take, slice_get, All, Option, Some, None}
use Rattle.sysregs.specs.declared.regs.Regs.{Regs}
use Rattle.trails.specs.declared.event.Event.{Event}
use Rattle.trails.specs.declared.event.Event.TheVariants.{Access as AccessOf, Prefetch}
use Rattle.trails.specs.declared.outcome.Access.{Access}
use Rattle.trails.specs.declared.step.Answer.{Answer}
use Rattle.trails.specs.declared.step.Step.{Step}
use Rattle.table_reads.specs.Memory.{Memory}
use Rattle.trace_lang.specs.declared.header.Size.TheVariants.{NoRows}
use Rattle.trace_lang.specs.Traces.{core_of}
use Rattle.walk_spec.specs.Fresh.{fresh_items, fresh_outcome}
use Rattle.machine_spec.specs.Header.{Header}
use Rattle.machine_spec.specs.Moments.{memory_after, regs_after}
use Rattle.machine_spec.specs.Allowed.{is_conflict, IsAnswer, case_of, AllAllowed}
use Rattle.machine_spec.specs.Unchanged.{IsUnchanged, read_at}
use Rattle.machine_spec.specs.Machine.{run_of}

-- each event is of a core of the machine
abbrev pub AreOfCores : (header : Header) (events : List Event) → Type 0
AreOfCores h events = All (λ e. core_of e < h.cores) events

-- Every step of every run is allowed.
abbrev pub RunsAreAllowed : Type 0
RunsAreAllowed = (h : Header) (events : List Event) → AreOfCores h events → AllAllowed h (run_of h events)

-- An answer is that of the fresh walk at a moment, but for the moments of its items.
pub record IsAsFresh (regs : Regs) (m : Memory) (a : Access) (k : ℕ) (r : Answer) : Type 0 where
  pub outcome : r.outcome ≡ fresh_outcome m regs a k
  pub items : read_at k r.first ≡ fresh_items m regs a k

-- An allowed answer without a conflict, whose first trail memory and registers of now would give again, is that of the fresh
-- walk.
abbrev pub UnchangedIsFresh : Type 0
UnchangedIsFresh =
    (h : Header) (log : List Step) (c : ℕ) (a : Access) (r : Answer) → IsAnswer (case_of h log c a) r → is_conflict r.outcome ≡ false →
    IsUnchanged (regs_after c log) (memory_after h log) a r.first → IsAsFresh (regs_after c log) (memory_after h log) a (length log) r

-- An answer that is the fresh walk of its moment: nothing is old or stale, and no row is evicted.
pub record IsFreshNow (h : Header) (log : List Step) (c : ℕ) (a : Access) (r : Answer) : Type 0 where
  pub outcome : r.outcome ≡ fresh_outcome (memory_after h log) (regs_after c log) a (length log)
  pub first : r.first ≡ fresh_items (memory_after h log) (regs_after c log) a (length log)
  pub second : r.second ≡ None
  pub old : r.old ≡ false
  pub stale : r.stale ≡ false
  pub evicted : r.evicted ≡ 0

abbrev pub IsFreshAnswer : (header : Header) (log : List Step) (core : ℕ) (access : Access) (answer : Option Answer) → Type 0
IsFreshAnswer h log c a None = ⊥
IsFreshAnswer h log c a (Some r) = IsFreshNow h log c a r

-- an access is fresh behind a log; the other events have no answer
abbrev pub IsFreshFor : (header : Header) (log : List Step) (event : Event) (answer : Option Answer) → Type 0
IsFreshFor h log (AccessOf core access) r = IsFreshAnswer h log core access r
IsFreshFor h log (Prefetch core access) r = IsFreshAnswer h log core access r
IsFreshFor h log _ r = r ≡ None

-- Without rows each access is the fresh walk of its moment.
abbrev pub RunsWithoutRowsAreFresh : Type 0
RunsWithoutRowsAreFresh =
    (h : Header) (events : List Event) → AreOfCores h events → h.size ≡ NoRows →
    (k : ℕ) (s : Step) → slice_get (run_of h events) k ≡ Some s → IsFreshFor h (take k (run_of h events)) s.event s.answer
