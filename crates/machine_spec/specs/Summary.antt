-- What a run comes to in numbers (this project's own rule).
use Rattle.std.specs.Prelude.{ℕ, ◌+◌, Bool, true, false, List, fold, Option, Some, None}
use Rattle.trails.specs.declared.outcome.Outcome.{Outcome}
use Rattle.trails.specs.declared.outcome.Outcome.TheVariants.{Mapped, Faulted, Absent, Conflict}
use Rattle.trails.specs.declared.event.Event.{Event}
use Rattle.trails.specs.declared.event.Event.TheVariants.{Access, Prefetch}
use Rattle.trails.specs.declared.step.Answer.{Answer}
use Rattle.trails.specs.declared.step.Step.{Step}

-- how many accesses and prefetches there were, how they came out (a place that memory lacks is a fault), how many answers
-- were old and stale, and how many rows were evicted
pub record Summary : Type 0 where
  pub accesses : ℕ
  pub prefetches : ℕ
  pub mapped : ℕ
  pub faulted : ℕ
  pub conflicts : ℕ
  pub old : ℕ
  pub stale : ℕ
  pub evicted : ℕ

abbrev pub no_steps : Summary
no_steps = record { accesses = 0; prefetches = 0; mapped = 0; faulted = 0; conflicts = 0; old = 0; stale = 0; evicted = 0 }

abbrev pub one_if : (holds : Bool) → ℕ
one_if true = 1
one_if false = 0

abbrev pub with_event : (summary : Summary) (event : Event) → Summary
with_event s (Access core access) = record s { accesses = s.accesses + 1 }
with_event s (Prefetch core access) = record s { prefetches = s.prefetches + 1 }
with_event s _ = s

abbrev pub with_outcome : (summary : Summary) (outcome : Outcome) → Summary
with_outcome s (Mapped pa perms mem sh) = record s { mapped = s.mapped + 1 }
with_outcome s (Faulted fault) = record s { faulted = s.faulted + 1 }
with_outcome s (Absent stage level pa s1ptw) = record s { faulted = s.faulted + 1 }
with_outcome s Conflict = record s { conflicts = s.conflicts + 1 }

abbrev pub with_marks : (summary : Summary) (answer : Answer) → Summary
with_marks s a = record s { old = s.old + one_if a.old; stale = s.stale + one_if a.stale; evicted = s.evicted + a.evicted }

abbrev pub with_answer : (summary : Summary) (answer : Option Answer) → Summary
with_answer s None = s
with_answer s (Some a) = with_marks (with_outcome s a.outcome) a

-- the summary of a log
abbrev pub summary : (log : List Step) → Summary
summary log = fold (λ s t. with_answer (with_event s t.event) t.answer) no_steps log
