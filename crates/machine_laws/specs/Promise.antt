-- What a run promises, in one piece: each step is allowed, and fresh where it has to be.
use Rattle.std.specs.Prelude.{◌≡◌, ℕ, false, List, length, take, slice_get, Option, Some, None}
use Rattle.trails.specs.declared.event.Event.{Event}
use Rattle.trails.specs.declared.event.Event.TheVariants.{Access as AccessOf, Prefetch}
use Rattle.trails.specs.declared.outcome.Access.{Access}
use Rattle.trails.specs.declared.step.Answer.{Answer}
use Rattle.trails.specs.declared.step.Step.{Step}
use Rattle.trace_lang.specs.declared.header.Size.TheVariants.{NoRows}
use Rattle.machine_spec.specs.Header.{Header}
use Rattle.machine_spec.specs.Moments.{memory_after, regs_after}
use Rattle.machine_spec.specs.Allowed.{is_conflict, AllAllowed}
use Rattle.machine_spec.specs.Unchanged.{IsUnchanged}
use Rattle.machine_spec.specs.Machine.{run_of}
use Rattle.machine_laws.specs.Headline.{AreOfCores, IsAsFresh, IsFreshFor}

-- an answer that is no conflict is that of the fresh walk, if memory and registers of now would give its first trail again
abbrev pub IsFreshIfUnchanged : (header : Header) (log : List Step) (core : ℕ) (access : Access) (answer : Option Answer) → Type 0
IsFreshIfUnchanged h log c a None = Unit {0}
IsFreshIfUnchanged h log c a (Some r) =
    is_conflict r.outcome ≡ false → IsUnchanged (regs_after c log) (memory_after h log) a r.first →
    IsAsFresh (regs_after c log) (memory_after h log) a (length log) r

-- the same of an event behind a log; an access and a prefetch have an answer
abbrev pub IsFreshWhereUnchanged : (header : Header) (log : List Step) (event : Event) (answer : Option Answer) → Type 0
IsFreshWhereUnchanged h log (AccessOf core access) r = IsFreshIfUnchanged h log core access r
IsFreshWhereUnchanged h log (Prefetch core access) r = IsFreshIfUnchanged h log core access r
IsFreshWhereUnchanged h log _ r = Unit {0}

-- each event of a log and its answer meet a condition behind the steps before them
abbrev pub EachStep : (condition : List Step → Event → Option Answer → Type 0) (log : List Step) → Type 0
EachStep P log = (k : ℕ) (s : Step) → slice_get log k ≡ Some s → P (take k log) s.event s.answer

-- A log keeps the promise: each step is allowed, fresh where its trail is unchanged, and without rows always fresh.
pub record KeepsPromise (header : Header) (log : List Step) : Type 0 where
  pub allowed : AllAllowed header log
  pub unchanged : EachStep (IsFreshWhereUnchanged header) log
  pub without_rows : header.size ≡ NoRows → EachStep (IsFreshFor header) log

-- Every run of events of the machine's cores keeps the promise.
abbrev pub RunsKeepTheirPromise : Type 0
RunsKeepTheirPromise = (h : Header) (events : List Event) → AreOfCores h events → KeepsPromise h (run_of h events)
