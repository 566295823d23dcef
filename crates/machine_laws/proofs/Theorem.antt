-- Every step of every run is allowed, where every access is served well and every reply makes rows well.
use Rattle.std.proofs.Common.{◌≡◌, ℕ, ◌<◌, Bool, true, false, not, List, [], ◌∷◌, ◌++◌, length, refl, sym, ap, subst, Some, None, arith}
use Rattle.std.specs.Prelude.{◌&&◌, fold}
use Rattle.std.specs.List.{list_any}
use Rattle.std.proofs.lemmas.List.{take_all, length-replicate, get_or-replicate}
use Rattle.std.proofs.lemmas.List.Sums.{fold_push}
use Rattle.std.proofs.lemmas.List.Elements.{All-pop}
use Rattle.sysregs.specs.declared.regs.Side.{Side}
use Rattle.sysregs.specs.Registers.{asid_of, vmid_of}
use Rattle.sysregs.specs.Sides.{side_of}
use Rattle.trails.specs.declared.item.Item.{Item}
use Rattle.trails.specs.declared.outcome.Access.{Access}
use Rattle.trails.specs.declared.event.Event.{Event}
use Rattle.trails.specs.declared.event.Event.TheVariants.{Store, Msr, Settle, Isb, Tlbi, Dsb, Deliver, Access as AccessOf, Prefetch}
use Rattle.trails.specs.declared.step.Step.{Step}
use Rattle.walk_spec.specs.Ask.{Fed, ended, lacks}
use Rattle.walk_spec.specs.Needs.{Need, stage1_base, stage2_base, word}
use Rattle.walk_spec.specs.Steps.{End, stops, reaches}
use Rattle.walk_spec.specs.BothStages.{Landing}
use Rattle.walk_spec.specs.Fresh.{fed_outcome}
use Rattle.machine_spec.specs.Header.{Header}
use Rattle.machine_spec.specs.Moments.{regs_after, memory_after}
use Rattle.machine_spec.specs.Kept.{View, now, regs_when}
use Rattle.machine_spec.specs.Allowed.{is_changed, is_conflict, Case, IsRight, IsAnswer, case_of, IsAllowed, AllAllowed}
use Rattle.tagged_tlb.specs.Sets.{Cache}
use Rattle.machine_spec.specs.Served.{Place, Reply, Halt, came, clash, served}
use Rattle.machine_spec.specs.Machine.{Core, World, no_core, visited_by, visited, core_numbered, opened, after_event}
use Rattle.machine_spec.specs.Machine.{world_after, answer_in, answer_to, step_of, run_from, run_of}
use Rattle.trace_lang.specs.Traces.{core_of}
use Rattle.machine_laws.specs.Headline.{AreOfCores, RunsAreAllowed}
use Rattle.machine_laws.proofs.Facts.{view_of, Facts, AllFacts}
use Rattle.machine_laws.proofs.Fine.{place_of, RightBy, ServesWell, MakesWell}
use Rattle.machine_laws.proofs.Lists.{from_end, none_some}
use Rattle.machine_laws.proofs.Logs.{each_more}
use Rattle.machine_laws.proofs.Events.{visit_at, place_is, keeps}

-- AN ANSWER

-- an outcome that is right by one trail is no conflict
one_trail : (q : Case) (items : List Item) (end : Fed Need (End Landing)) → IsRight q items None (fed_outcome end) → is_conflict (fed_outcome end) ≡ false
one_trail q items (ended (stops f)) h = refl
one_trail q items (ended (reaches l)) h = refl
one_trail q items (lacks (word w)) h = refl
one_trail q items (lacks stage1_base) h = none_some h.other h.both
one_trail q items (lacks (stage2_base x)) h = none_some h.other h.both

regs_now : (v : View) → regs_after v.core v.log ≡ regs_when v (now v)
regs_now v = ap (regs_after v.core) (sym (take_all (length v.log) v.log (omega arith)))

not_stale : (b : Bool) (c d : Bool) → b ≡ false → c ≡ d → c ≡ (not b && d)
not_stale true c d h e = absurd cc
not_stale false c d h e = e

module _ (h : Header) (log : List Step) (c : ℕ) (a : Access) (l : Cache) where
  answered : (r : Reply) (t : Halt) → RightBy (view_of h log c (side_of a.va)) a r t
      → IsAnswer (case_of h log c a) (visited_by (visit_at (view_of h log c (side_of a.va))
      (place_of (view_of h log c (side_of a.va)) l.rows) l) a r t).answer
  answered r (came end) right = record {
    asid_is = ap asid_of (regs_now (view_of h log c (side_of a.va)));
    vmid_is = ap vmid_of (regs_now (view_of h log c (side_of a.va)));
    old_is = refl;
    stale_is = not_stale (is_conflict (fed_outcome end)) _ _ (one_trail (case_of h log c a) r.items end right)
        (ap (λ g. list_any (is_changed g (side_of a.va) (memory_after h log)) r.items) (regs_now (view_of h log c (side_of a.va))));
    right = right;
  }
  answered r (clash one two) right = record {
    asid_is = ap asid_of (regs_now (view_of h log c (side_of a.va)));
    vmid_is = ap vmid_of (regs_now (view_of h log c (side_of a.va)));
    old_is = refl;
    stale_is = refl;
    right = right;
  }

module _ (serves : ServesWell) (h : Header) (log : List Step) (w : World) (all : AllFacts h log w) where
  answer_is : (c : ℕ) → c < h.cores → (a : Access) → IsAnswer (case_of h log c a) (answer_in h w c a)
  answer_is c lt a =
      let v : View = view_of h log c (side_of a.va) in
      let x : Core = core_numbered w c in
      let r : Reply = served (place_of v x.cache.rows) a in
      subst (λ (p : Place). IsAnswer (case_of h log c a) (visited (visit_at v p x.cache) a).answer) (sym (place_is h log w all c (side_of a.va) lt))
      (answered h log c a x.cache r r.halt (serves v x a refl (all.each c (side_of a.va) lt)).right)

  -- the step of an event is allowed behind the log
  allowed_one : (e : Event) → core_of e < h.cores → IsAllowed h log (step_of h w e)
  unfolding answer_to
  allowed_one (Store core pa value) own = refl
  allowed_one (Msr core reg value) own = refl
  allowed_one (Settle core) own = refl
  allowed_one (Isb core) own = refl
  allowed_one (Tlbi core from op shared operand) own = refl
  allowed_one (Dsb core kind) own = refl
  allowed_one (Deliver core) own = refl
  allowed_one (AccessOf core a) own = answer_is core own a
  allowed_one (Prefetch core a) own = answer_is core own a

-- RUNS

pub world_on : (h : Header) (events : List Event) (e : Event) → world_after h (events ++ e ∷ []) ≡ after_event h (world_after h events) e
world_on h events e = fold_push (after_event h) (opened h) events e

run_more : (h : Header) (w : World) (events : List Event) (e : Event)
    → run_from h w (events ++ e ∷ []) ≡ run_from h w events ++ step_of h (fold (after_event h) w events) e ∷ []
run_more h w [] e = refl
run_more h w (d ∷ events) e = ap (λ log. step_of h w d ∷ log) (run_more h (after_event h w d) events e)

pub run_on : (h : Header) (events : List Event) (e : Event) → run_of h (events ++ e ∷ []) ≡ run_of h events ++ step_of h (world_after h events) e ∷ []
run_on h events e = run_more h (opened h) events e

start_facts : (h : Header) (c : ℕ) (t : Side) → Facts (view_of h [] c t) no_core
start_facts h c t = record { bank_is = refl; mail = λ i m. absurd m; rows = λ r m. absurd m; apart = tt }

start_all : (h : Header) → AllFacts h [] (opened h)
start_all h = record {
  step_is = refl;
  memory_is = refl;
  count = length-replicate h.cores no_core;
  each = λ c t lt. rw (get_or-replicate h.cores c no_core no_core lt) (start_facts h c t);
}

-- the facts of the machine behind a run, and each of its steps is allowed
abbrev IsFine : Header → List Event → Type 0
IsFine h events = AreOfCores h events → AllFacts h (run_of h events) (world_after h events) × AllAllowed h (run_of h events)

fine_run : ServesWell → MakesWell → (h : Header) (events : List Event) → IsFine h events
fine_run serves makes h events = from_end (IsFine h) more (λ own. (start_all h, λ k s at. none_some s at)) events
  where
    more : (es : List Event) (e : Event) → IsFine h es → IsFine h (es ++ e ∷ [])
    more es e fine own =
        let parts = All-pop (λ d. core_of d < h.cores) (es ++ e ∷ []) es (Some e) refl own in
        let before = fine parts.0 in
        let log : List Step = run_of h es in
        let w : World = world_after h es in
        rw (run_on h es e, world_on h es e)
        (keeps serves makes h log w before.0 e parts.1, each_more (IsAllowed h) log (step_of h w e) before.1 (allowed_one serves h log w before.0 e parts.1))

pub facts_of_run : ServesWell → MakesWell → (h : Header) (events : List Event) → AreOfCores h events
    → AllFacts h (run_of h events) (world_after h events)
facts_of_run serves makes h events own = (fine_run serves makes h events own).0

pub runs_allowed : ServesWell → MakesWell → RunsAreAllowed
runs_allowed serves makes h events own = (fine_run serves makes h events own).1
