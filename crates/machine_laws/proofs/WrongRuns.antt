-- The wrong answers behind small runs, computed; the right ones are those of the runs themselves.
use Rattle.std.proofs.Common.{◌≡◌, ℕ, zero, suc, ◌<◌, Bool, true, false, List, [], ◌∷◌, ◌++◌}
use Rattle.std.proofs.Common.{length, take, inl, inr, refl, sym, ap, ◌∙◌, subst, Some}
use Rattle.std.specs.Prelude.{slice_get, nat_lt, pos}
use Rattle.std.specs.List.{list_all}
use Rattle.std.proofs.lemmas.Bool.{ltb-true, leb-true, eqb-false}
use Rattle.std.proofs.lemmas.Option.{same_Some}
use Rattle.std.proofs.lemmas.List.{take_at}
use Rattle.std.proofs.lemmas.List.Elements.{All-nil, All-cons}
use Rattle.permissions.specs.declared.bits.El.TheVariants.{El0, El1}
use Rattle.permissions.specs.declared.set.Perms.{Perms}
use Rattle.attributes.specs.declared.kinds.MemType.{MemType}
use Rattle.attributes.specs.declared.kinds.Share.{Share}
use Rattle.fault_codes.specs.declared.fault.Fault.{Fault}
use Rattle.fault_codes.specs.declared.fault.Stage.TheVariants.{S1}
use Rattle.fault_codes.specs.declared.fault.Class.TheVariants.{Permission}
use Rattle.trails.specs.declared.item.Item.{Item}
use Rattle.trails.specs.declared.outcome.Outcome.TheVariants.{Mapped, Faulted}
use Rattle.trails.specs.declared.event.Barrier.TheVariants.{Nsh, Ish}
use Rattle.trails.specs.declared.event.Event.{Event}
use Rattle.trails.specs.declared.event.Event.TheVariants.{Dsb, Access as AccessOf}
use Rattle.trails.specs.declared.outcome.Access.{Access}
use Rattle.trails.specs.declared.step.Answer.{Answer}
use Rattle.walk_spec.proofs.Worked.{on_worked_walks}
use Rattle.walk_laws.proofs.Places.{first_of_and, second_of_and}
use Rattle.walk_spec.specs.Ask.{Stands, needs, bad, ends}
use Rattle.walk_spec.specs.Needs.{Need, stage1_base, stage2_base, word}
use Rattle.walk_spec.specs.Steps.{End, stops, reaches}
use Rattle.walk_spec.specs.BothStages.{Landing}
use Rattle.walk_laws.specs.Shift.{stands}
use Rattle.machine_spec.specs.Header.{Header}
use Rattle.machine_spec.specs.Allowed.{Case, config_now, IsConflict, case_of, IsAllowed}
use Rattle.machine_spec.specs.Machine.{world_after, answer_in, step_of, run_of}
use Rattle.machine_spec.proofs.Worked.{on_worked_runs}
use Rattle.trace_lang.specs.Traces.{core_of}
use Rattle.machine_laws.specs.Headline.{AreOfCores}
use Rattle.machine_laws.specs.NotAllowedRuns.{two_cores, global_page, asid_page, read, read_once, page_gone, trail, front, Allows, under_asid_2, other_gone}
use Rattle.machine_laws.specs.NotAllowedRuns.{read_below, leaf2_gone, ChainsUpToTheirUse, LeavesOfTheirAsid, LeavesUpToTheirEnd, TablesUpToTheirUse}
use Rattle.machine_laws.specs.NotAllowedRuns.{BasesOfTheirWord, FaultsOfNow, AccessesAreJudged, ConflictsOfLeaves, WrongAnswersAreRefused}
use Rattle.machine_laws.proofs.Logs.{get-last}
use Rattle.machine_laws.proofs.Wrong.{nothing_false_is_allowed}
use Rattle.machine_laws.proofs.Promised.{runs_are_allowed}
use Rattle.machine_laws.proofs.Theorem.{run_on}

-- THE NEXT STEP OF A RUN

abbrev are_of_cores : Header → List Event → Bool
are_of_cores h events = list_all (λ e. nat_lt (core_of e) h.cores) events

of_cores : (h : Header) (events : List Event) → are_of_cores h events ≡ true → AreOfCores h events
of_cores h [] ok = All-nil (λ e. core_of e < h.cores)
of_cores h (e ∷ events) ok =
    let within : nat_lt (core_of e) h.cores ≡ true = first_of_and (nat_lt (core_of e) h.cores) (are_of_cores h events) ok in
    All-cons (λ e. core_of e < h.cores) e events (ltb-true (core_of e) h.cores within)
    (of_cores h events (second_of_and (nat_lt (core_of e) h.cores) (are_of_cores h events) ok))

next_allowed : (h : Header) (events : List Event) (e : Event) → AreOfCores h (events ++ e ∷ [])
    → IsAllowed h (run_of h events) (step_of h (world_after h events) e)
next_allowed h events e own =
    let log = run_of h events in
    let s = step_of h (world_after h events) e in
    let is = run_on h events e in
    let at : slice_get (run_of h (events ++ e ∷ [])) (length log) ≡ Some s = ap (λ l. slice_get l (length log)) is ∙ get-last log s in
    subst (λ l. IsAllowed h l s) (ap (take (length log)) is ∙ take_at log (s ∷ []) (length log) refl)
    (runs_are_allowed h (events ++ e ∷ []) own (length log) s at)

-- the answer of a run is allowed behind it
allows : (events : List Event) (a : Access) (r : Answer) → are_of_cores two_cores (events ++ AccessOf 0 a ∷ []) ≡ true
    → answer_in two_cores (world_after two_cores events) 0 a ≡ r → Allows events a r
unfolding on_worked_runs
allows events a r own is =
    subst (Allows events a) is (next_allowed two_cores events (AccessOf 0 a) (of_cores two_cores (events ++ AccessOf 0 a ∷ []) own))

-- WHAT IS WRONG

not_mapped : (pa : ℕ) (perms : Perms) (mem : MemType) (sh : Share) (f : Fault) → Mapped pa perms mem sh ≡ Faulted f → ⊥
not_mapped pa perms mem sh f e = absurd cc

-- a walk that has ended, and one that needs stage 2
abbrev has_ended : Stands Need Item (End Landing) → Bool
has_ended (needs n) = false
has_ended bad = false
has_ended (ends e items) = true

abbrev needs_stage2 : Stands Need Item (End Landing) → Bool
needs_stage2 (needs stage1_base) = false
needs_stage2 (needs (stage2_base x)) = true
needs_stage2 (needs (word w)) = false
needs_stage2 bad = false
needs_stage2 (ends e items) = false

not_ended : (s : Stands Need Item (End Landing)) (e : End Landing) → has_ended s ≡ false → s ≡ ends e [] → ⊥
not_ended s e not h = let is : has_ended s ≡ true = ap has_ended h in absurd cc

not_stage2 : (s : Stands Need Item (End Landing)) (x : ℕ) → needs_stage2 s ≡ false → s ≡ needs (stage2_base x) → ⊥
not_stage2 s x not h = let is : needs_stage2 s ≡ true = ap needs_stage2 h in absurd cc

front_of : {X : Type 0} (front rest xs : List X) → xs ≡ front ++ rest → front ≡ take (length front) xs
front_of front rest xs e = sym (ap (take (length front)) e ∙ take_at front rest (length front) refl)

-- THE PAIRS

asid_held : LeavesOfTheirAsid
unfolding on_worked_walks on_worked_runs
asid_held = record {
  wrong = λ r. eqb-false 1 2 refl (r.right.kept.items.1.1.0.asid refl);
  right = allows (under_asid_2 global_page) _ _ refl refl;
  wrong_table = λ r. eqb-false 1 2 refl (r.right.kept.items.1.0.asid refl);
}

ended : LeavesUpToTheirEnd
unfolding on_worked_walks on_worked_runs
ended = record {
  wrong = λ r. r.right.kept.items.1.1.0.live refl 8 _ (leb-true 7 8 refl) refl refl refl
      record { step = 9; event = Dsb 0 Nsh; later = leb-true 9 9 refl; earlier = leb-true 10 10 refl; is = refl; ends = refl };
  right = allows (read_once asid_page ++ page_gone 0 0 false ∷ []) _ _ refl refl;
  wrong_of_another = λ r. r.right.kept.items.1.1.0.live refl 8 _ (leb-true 7 8 refl) refl refl refl
      record { step = 9; event = Dsb 1 Ish; later = leb-true 9 9 refl; earlier = leb-true 10 10 refl; is = refl; ends = refl };
  right_of_another = allows (read_once asid_page ++ page_gone 1 0 true ∷ Dsb 0 Ish ∷ []) _ _ refl refl;
}

used : TablesUpToTheirUse
unfolding on_worked_walks on_worked_runs
used = record {
  right = allows other_gone _ _ refl refl;
  wrong = λ r. r.right.kept.items.1.0.live refl 8 _ (leb-true 7 8 refl) refl refl refl
      record { step = 9; event = Dsb 0 Nsh; later = leb-true 9 9 refl; earlier = leb-true 10 10 refl; is = refl; ends = refl };
}

chains : ChainsUpToTheirUse
unfolding on_worked_walks on_worked_runs
chains = record {
  right = allows (read_below ++ leaf2_gone ∷ Dsb 0 Nsh ∷ []) _ _ refl refl;
  right_before = allows (read_below ++ leaf2_gone ∷ []) _ _ refl refl;
  wrong = λ r. r.right.kept.items.1.1.1.1.1.1.1.0.live refl 16 _ (leb-true 15 16 refl) refl refl refl
      record { step = 17; event = Dsb 0 Nsh; later = leb-true 17 17 refl; earlier = leb-true 18 18 refl; is = refl; ends = refl };
}

bases : BasesOfTheirWord
unfolding on_worked_walks on_worked_runs
bases = record {
  right = allows (read_once asid_page) _ _ refl refl;
  later = λ r. eqb-false 8 7 refl (r.right.kept.items.0.at_base refl);
  earlier = λ r. eqb-false 7 8 refl (r.right.kept.items.0.at_base refl);
}

faults : FaultsOfNow
unfolding on_worked_walks on_worked_runs
faults = record {
  right = allows (read_once 0) _ _ refl refl;
  wrong = λ r. eqb-false 7 8 refl (r.right.read refl refl);
  old_leaf = allows (read_once asid_page) _ _ refl refl;
}

judged : AccessesAreJudged
unfolding on_worked_walks on_worked_runs
judged = record {
  right = allows (read_once asid_page) _ _ refl refl;
  wrong = λ r. ((nothing_false_is_allowed two_cores (run_of two_cores (read_once asid_page)) 0 (read El0 0) _).outcomes refl).of_walk
      (stops record { stage = S1; level = pos 3; class = Permission; s1ptw = false }) refl (λ e. not_mapped _ _ _ _ _ e) r;
}

-- CONFLICTS OF THE BASE AND THE TABLE ALONE

abbrev here : Case
here = case_of two_cores (run_of two_cores (read_once asid_page)) 0 (read El1 0)

abbrev walked : (judged : Bool) (items : List Item) → Stands Need Item (End Landing)
walked j items = stands (config_now here) j here.access items

-- they lead to no translation, and no front of them needs stage 2
not_landed : (items : List Item) → items ≡ front 7 7 → (l : Landing) → walked false items ≡ ends (reaches l) [] → ⊥
unfolding on_worked_walks on_worked_runs
not_landed items is l h =
    not_ended (walked false (front 7 7)) (reaches l) refl (subst (λ xs. walked false xs ≡ ends (reaches l) []) is h)

no_front : (n x : ℕ) → walked true (take n (front 7 7)) ≡ needs (stage2_base x) → ⊥
unfolding on_worked_walks on_worked_runs
no_front zero x h = not_stage2 _ x refl h
no_front (suc zero) x h = not_stage2 _ x refl h
no_front (suc (suc zero)) x h = not_stage2 _ x refl h
no_front (suc (suc (suc n))) x h = not_stage2 _ x refl h

not_forked : (items pre rest : List Item) → items ≡ front 7 7 → items ≡ pre ++ rest → (x : ℕ) → walked true pre ≡ needs (stage2_base x) → ⊥
not_forked items pre rest is cut x h =
    no_front (length pre) x (subst (λ xs. walked true xs ≡ needs (stage2_base x)) (front_of pre rest (front 7 7) (sym is ∙ cut)) h)

as_first : IsConflict here (front 7 7) (Some (trail 7 7 7 0 asid_page)) → ⊥
as_first r = elim r.how [
  | inl t ↦ not_landed (front 7 7) refl t.lands_first.0 t.lands_first.1
  | inr f ↦ not_forked (front 7 7) f.front f.one refl f.first_is f.ipa f.walk_needs
]

as_second : IsConflict here (trail 7 7 7 0 asid_page) (Some (front 7 7)) → ⊥
as_second r =
    let is : r.other ≡ front 7 7 = sym (same_Some (front 7 7) r.other r.both) in
    elim r.how [
      | inl t ↦ not_landed r.other is t.lands_second.0 t.lands_second.1
      | inr f ↦ not_forked r.other f.front f.two is f.second_is f.ipa f.walk_needs
    ]

conflicts : ConflictsOfLeaves
conflicts = record { first = λ r. as_first r.right; second = λ r. as_second r.right }

pub wrong_answers_are_refused : WrongAnswersAreRefused
wrong_answers_are_refused =
    record { asid = asid_held; leaves = ended; tables = used; chains = chains; bases = bases; faults = faults; judged = judged; conflicts = conflicts }
