-- Runs keep their promise: from the three theorems of the headline.
use Rattle.std.proofs.Common.{List, Option, Some, None, ℕ}
use Rattle.trails.specs.declared.event.Event.{Event}
use Rattle.trails.specs.declared.event.Event.TheVariants.{Store, Msr, Settle, Isb, Tlbi, Dsb, Deliver, Access as AccessOf, Prefetch}
use Rattle.trails.specs.declared.outcome.Access.{Access}
use Rattle.trails.specs.declared.step.Answer.{Answer}
use Rattle.trails.specs.declared.step.Step.{Step}
use Rattle.machine_spec.specs.Header.{Header}
use Rattle.machine_spec.specs.Allowed.{IsAnswered, IsAllowedFor}
use Rattle.machine_laws.specs.Headline.{RunsAreAllowed, RunsWithoutRowsAreFresh}
use Rattle.machine_laws.specs.Promise.{IsFreshIfUnchanged, IsFreshWhereUnchanged, RunsKeepTheirPromise}
use Rattle.machine_laws.proofs.WalkLaws.{laws_hold}
use Rattle.machine_laws.proofs.Plans.{plans_are_fine}
use Rattle.machine_laws.proofs.Fine.{ServesWell, MakesWell}
use Rattle.machine_laws.proofs.Served.{serves_well}
use Rattle.machine_laws.proofs.Makes.{makes_well}
use Rattle.machine_laws.proofs.Theorem.{runs_allowed}
use Rattle.machine_laws.proofs.Unchanged.{unchanged_is_fresh}
use Rattle.machine_laws.proofs.NoRows.{fresh_without_rows}

pub all_served : ServesWell
all_served = serves_well laws_hold (plans_are_fine laws_hold)

pub all_made : MakesWell
all_made = makes_well laws_hold

pub runs_are_allowed : RunsAreAllowed
runs_are_allowed = runs_allowed all_served all_made

pub runs_without_rows_are_fresh : RunsWithoutRowsAreFresh
runs_without_rows_are_fresh = fresh_without_rows all_served all_made

answer_unchanged : (h : Header) (log : List Step) (c : ℕ) (a : Access) (r : Option Answer) → IsAnswered h log c a r → IsFreshIfUnchanged h log c a r
answer_unchanged h log c a None ok = tt
answer_unchanged h log c a (Some r) ok = unchanged_is_fresh h log c a r ok

step_unchanged : (h : Header) (log : List Step) (e : Event) (r : Option Answer) → IsAllowedFor h log e r → IsFreshWhereUnchanged h log e r
step_unchanged h log (Store core pa value) r ok = tt
step_unchanged h log (Msr core reg value) r ok = tt
step_unchanged h log (Settle core) r ok = tt
step_unchanged h log (Isb core) r ok = tt
step_unchanged h log (Tlbi core from op shared operand) r ok = tt
step_unchanged h log (Dsb core kind) r ok = tt
step_unchanged h log (Deliver core) r ok = tt
step_unchanged h log (AccessOf core a) r ok = answer_unchanged h log core a r ok
step_unchanged h log (Prefetch core a) r ok = answer_unchanged h log core a r ok

pub runs_keep_their_promise : RunsKeepTheirPromise
runs_keep_their_promise h events own =
    let ok = runs_are_allowed h events own in
    record {
      allowed = ok;
      unchanged = λ k s at. step_unchanged h _ s.event s.answer (ok k s at);
      without_rows = runs_without_rows_are_fresh h events own;
    }
