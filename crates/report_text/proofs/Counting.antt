-- How far the numbers of a summary come with each step.
use Rattle.std.proofs.Common.{◌≡◌, ℕ, ◌+◌, ◌-◌, ◌*◌, ◌^◌, ◌≤◌, ◌<◌, List, [], ◌∷◌}
use Rattle.std.proofs.Common.{◌++◌, Bool, true, false, Option, Some, None, IfSome, arith, sym}
use Rattle.std.proofs.lemmas.List.Sums.{fold_push}
use Rattle.trails.specs.declared.outcome.Outcome.{Outcome}
use Rattle.trails.specs.declared.outcome.Outcome.TheVariants.{Mapped, Faulted, Absent, Conflict}
use Rattle.trails.specs.declared.event.Event.{Event}
use Rattle.trails.specs.declared.event.Event.TheVariants.{Store, Msr, Settle, Isb, Tlbi, Dsb, Deliver, Access, Prefetch}
use Rattle.trails.specs.declared.step.Answer.{Answer}
use Rattle.trails.specs.declared.step.Step.{Step}
use Rattle.machine_spec.specs.Summary.{Summary, no_steps, one_if, with_event, with_outcome, with_marks, with_answer, summary}
use Rattle.report_text.specs.Bounds.{Within}

-- wider bounds
pub wider : (n m k l : ℕ) (s : Summary) → n ≤ k → m ≤ l → Within n m s → Within k l s
wider n m k l s g h w = record {
  accesses = (let x = w.accesses in omega arith);
  prefetches = (let x = w.prefetches in omega arith);
  mapped = (let x = w.mapped in omega arith);
  faulted = (let x = w.faulted in omega arith);
  conflicts = (let x = w.conflicts in omega arith);
  old = (let x = w.old in omega arith);
  stale = (let x = w.stale in omega arith);
  evicted = (let x = w.evicted in omega arith);
}

-- no step
pub starts_within : Within 0 0 no_steps
starts_within = record {
  accesses = omega arith;
  prefetches = omega arith;
  mapped = omega arith;
  faulted = omega arith;
  conflicts = omega arith;
  old = omega arith;
  stale = omega arith;
  evicted = omega arith;
}

-- each count is at most one more than before, and no further row was evicted
grows : (n m : ℕ) (s t : Summary) → t.accesses ≤ s.accesses + 1 → t.prefetches ≤ s.prefetches + 1 → t.mapped ≤ s.mapped + 1
    → t.faulted ≤ s.faulted + 1
    → t.conflicts ≤ s.conflicts + 1 → t.old ≤ s.old + 1 → t.stale ≤ s.stale + 1 → t.evicted ≤ s.evicted → Within n m s → Within (n + 1) m t
grows n m s t a p q f c o e r w = record {
  accesses = (let x = w.accesses in omega arith);
  prefetches = (let x = w.prefetches in omega arith);
  mapped = (let x = w.mapped in omega arith);
  faulted = (let x = w.faulted in omega arith);
  conflicts = (let x = w.conflicts in omega arith);
  old = (let x = w.old in omega arith);
  stale = (let x = w.stale in omega arith);
  evicted = (let x = w.evicted in omega arith);
}

one_more : (n m : ℕ) (s : Summary) → Within n m s → Within (n + 1) m s
one_more n m s w = wider n m (n + 1) m s (omega arith) (omega arith) w

-- an event
pub event_within : (n m : ℕ) (s : Summary) (e : Event) → Within n m s → Within (n + 1) m (with_event s e)
event_within n m s (Store core pa value) w = one_more n m s w
event_within n m s (Msr core reg value) w = one_more n m s w
event_within n m s (Settle core) w = one_more n m s w
event_within n m s (Isb core) w = one_more n m s w
event_within n m s (Tlbi core from op shared operand) w = one_more n m s w
event_within n m s (Dsb core kind) w = one_more n m s w
event_within n m s (Deliver core) w = one_more n m s w
event_within n m s (Access core access) w =
    grows n m s (with_event s (Access core access)) (omega arith) (omega arith) (omega arith) (omega arith) (omega arith) (omega arith) (omega arith)
    (omega arith) w
event_within n m s (Prefetch core access) w =
    grows n m s (with_event s (Prefetch core access)) (omega arith) (omega arith) (omega arith) (omega arith) (omega arith) (omega arith) (omega arith)
    (omega arith) w

-- an outcome
pub outcome_within : (n m : ℕ) (s : Summary) (o : Outcome) → Within n m s → Within (n + 1) m (with_outcome s o)
outcome_within n m s (Mapped pa perms mem sh) w =
    grows n m s (with_outcome s (Mapped pa perms mem sh)) (omega arith) (omega arith) (omega arith) (omega arith) (omega arith) (omega arith) (omega arith)
    (omega arith) w
outcome_within n m s (Faulted fault) w =
    grows n m s (with_outcome s (Faulted fault)) (omega arith) (omega arith) (omega arith) (omega arith) (omega arith) (omega arith) (omega arith)
    (omega arith) w
outcome_within n m s (Absent stage level pa s1ptw) w =
    grows n m s (with_outcome s (Absent stage level pa s1ptw)) (omega arith) (omega arith) (omega arith) (omega arith) (omega arith) (omega arith)
    (omega arith) (omega arith) w
outcome_within n m s Conflict w =
    grows n m s (with_outcome s Conflict) (omega arith) (omega arith) (omega arith) (omega arith) (omega arith) (omega arith) (omega arith) (omega arith) w

one_at_most : (n k : ℕ) (b : Bool) → k ≤ n → k + one_if b ≤ n + 1
one_at_most n k true h = omega arith
one_at_most n k false h = omega arith

-- what is told of an answer
pub marks_within : (n m : ℕ) (s : Summary) (a : Answer) → a.evicted < 2 ^ 32 → Within n m s → Within (n + 1) (m + (2 ^ 32 - 1)) (with_marks s a)
marks_within n m s a h w = record {
  accesses = (let x = w.accesses in omega arith);
  prefetches = (let x = w.prefetches in omega arith);
  mapped = (let x = w.mapped in omega arith);
  faulted = (let x = w.faulted in omega arith);
  conflicts = (let x = w.conflicts in omega arith);
  old = one_at_most n s.old a.old w.old;
  stale = one_at_most n s.stale a.stale w.stale;
  evicted = (let x = w.evicted in omega arith);
}

-- an answer, if there is one
answer_within : (i : ℕ) (s : Summary) (o : Option Answer) → IfSome o (λ a. a.evicted < 2 ^ 32) → Within (3 * i + 1) ((2 ^ 32 - 1) * i) s
    → Within (3 * (i + 1)) ((2 ^ 32 - 1) * (i + 1)) (with_answer s o)
answer_within i s None h w = wider (3 * i + 1) ((2 ^ 32 - 1) * i) (3 * (i + 1)) ((2 ^ 32 - 1) * (i + 1)) s (omega arith) (omega arith) w
answer_within i s (Some a) h w =
    wider (3 * i + 1 + 1 + 1) ((2 ^ 32 - 1) * i + (2 ^ 32 - 1)) (3 * (i + 1)) ((2 ^ 32 - 1) * (i + 1)) (with_answer s (Some a)) (omega arith) (omega arith)
    (marks_within (3 * i + 1 + 1) ((2 ^ 32 - 1) * i) (with_outcome s a.outcome) a h (outcome_within (3 * i + 1) ((2 ^ 32 - 1) * i) s a.outcome w))

-- a step
pub step_within : (i : ℕ) (s : Summary) (t : Step) → IfSome t.answer (λ a. a.evicted < 2 ^ 32) → Within (3 * i) ((2 ^ 32 - 1) * i) s
    → Within (3 * (i + 1)) ((2 ^ 32 - 1) * (i + 1)) (with_answer (with_event s t.event) t.answer)
step_within i s t h w = answer_within i (with_event s t.event) t.answer h (event_within (3 * i) ((2 ^ 32 - 1) * i) s t.event w)

-- one more step is summed up
pub summary_more : (log : List Step) (x : Step) → with_answer (with_event (summary log) x.event) x.answer ≡ summary (log ++ x ∷ [])
summary_more log x = sym (fold_push (λ s t. with_answer (with_event s t.event) t.answer) no_steps log x)
