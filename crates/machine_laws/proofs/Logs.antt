-- What a log means after one more step.
use Rattle.std.proofs.Common.{◌≡◌, ℕ, zero, suc, ◌<◌, ◌≤◌, List, [], ◌∷◌, ◌++◌, length, map}
use Rattle.std.proofs.Common.{take, inl, inr, refl, sym, ap, ◌∙◌, subst, Some, Option, arith}
use Rattle.std.specs.Prelude.{slice_get}
use Rattle.std.specs.Option.{option_and_then}
use Rattle.std.proofs.lemmas.Bool.{cases_lt}
use Rattle.std.proofs.lemmas.List.{length-append, map-append, length-map, take-append-le, take_at}
use Rattle.std.proofs.lemmas.List.Sums.{fold_push}
use Rattle.std.proofs.lemmas.Option.{slice_get_within, option_and_then_some, same_Some}
use Rattle.sysregs.specs.declared.regs.Regs.{Regs}
use Rattle.trails.specs.declared.event.Event.{Event}
use Rattle.trails.specs.declared.event.Event.TheVariants.{Store, Msr, Settle, Isb, Tlbi, Dsb, Deliver, Access, Prefetch}
use Rattle.trails.specs.declared.step.Step.{Step}
use Rattle.tlbi_ops.specs.declared.inval.Inval.{Inval}
use Rattle.tlbi_ops.specs.Operands.{inval_of}
use Rattle.machine_spec.specs.Header.{Header}
use Rattle.machine_spec.specs.Moments.{zeros, stored, memory_after, no_bank, banked, bank_after, regs_after, regs_at}
use Rattle.machine_spec.specs.Invalidations.{issued_by, event_at, inval_at}
use Rattle.machine_laws.proofs.Lists.{none_some}

pub get-old : {X : Type 0} (xs ys : List X) (k : ℕ) → k < length xs → slice_get (xs ++ ys) k ≡ slice_get xs k
get-old [] ys k h = absurd (omega arith)
get-old (x ∷ xs) ys zero h = refl
get-old (x ∷ xs) ys (suc k) h = get-old xs ys k (omega arith)

pub get-last : {X : Type 0} (xs : List X) (x : X) → slice_get (xs ++ x ∷ []) (length xs) ≡ Some x
get-last [] x = refl
get-last (y ∷ ys) x = get-last ys x

pub event-old : (log : List Step) (s : Step) (k : ℕ) → k < length log → event_at (log ++ s ∷ []) k ≡ event_at log k
event-old log s k h = rw map-append (get-old (map (λ s. s.event) log) (s.event ∷ []) k (simp length-map h))

pub event-last : (log : List Step) (s : Step) → event_at (log ++ s ∷ []) (length log) ≡ Some s.event
event-last log s = rw (map-append, ← length-map log (λ (s : Step). s.event)) (get-last (map (λ s. s.event) log) s.event)

pub event-within : (log : List Step) (k : ℕ) (e : Event) → event_at log k ≡ Some e → k < length log
event-within log k e h = simp length-map at (slice_get_within (map (λ s. s.event) log) k e h)

-- what holds of each step behind those before it still does with one more step
pub each_more : (P : List Step → Step → Type 0) (log : List Step) (s : Step) → ((k : ℕ) (t : Step) → slice_get log k ≡ Some t → P (take k log) t)
    → P log s → (k : ℕ) (t : Step) → slice_get (log ++ s ∷ []) k ≡ Some t → P (take k (log ++ s ∷ [])) t
each_more P log s old new k t at =
    elim (cases_lt k (length log)) as (λ _. P (take k (log ++ s ∷ [])) t) [
      | inl lt ↦ rw (take-append-le k log (s ∷ []) (omega arith)) (old k t (sym (get-old log (s ∷ []) k lt) ∙ at))
      | inr ge ↦
          let within = slice_get_within (log ++ s ∷ []) k t at in
          let within2 = simp length-append at within in
          let e : k ≡ length log = omega arith in
          let eq : s ≡ t = same_Some s t (sym (get-last log s) ∙ subst (λ n. slice_get (log ++ s ∷ []) n ≡ Some t) e at) in
          let front : take k (log ++ s ∷ []) ≡ log = take_at log (s ∷ []) k (sym e) in
          rw (front, ← eq) new
    ]

-- REGISTERS AND MEMORY

pub regs-old : (log : List Step) (s : Step) (c k : ℕ) → k ≤ length log → regs_at (log ++ s ∷ []) c k ≡ regs_at log c k
regs-old log s c k h = ap (regs_after c) (take-append-le k log (s ∷ []) h)

pub bank-last : (c : ℕ) (log : List Step) (s : Step) → bank_after c (log ++ s ∷ []) ≡ banked c (bank_after c log) s.event
bank-last c log s = fold_push (λ b (s : Step). banked c b s.event) no_bank log s

pub memory-old : (h : Header) (log : List Step) (s : Step) (k : ℕ) → k ≤ length log → memory_after h (take k (log ++ s ∷ []))
    ≡ memory_after h (take k log)
memory-old h log s k le = ap (memory_after h) (take-append-le k log (s ∷ []) le)

pub memory-last : (h : Header) (log : List Step) (s : Step) → memory_after h (log ++ s ∷ []) ≡ stored (memory_after h log) s.event
memory-last h log s = fold_push (λ m (s : Step). stored m s.event) (zeros h.ranges) log s

-- INVALIDATIONS

-- the invalidation of an event that comes after this log
abbrev pub inval_by : List Step → Event → Option Inval
inval_by log e = issued_by (λ c. regs_after c log) (length log) e

pub inval-old : (log : List Step) (s : Step) (k : ℕ) → k < length log → inval_at (log ++ s ∷ []) k ≡ inval_at log k
inval-old log s k h =
    ap (option_and_then (issued_by (λ c. regs_after c (take k (log ++ s ∷ []))) k)) (event-old log s k h)
    ∙ ap (λ (v : List Step). option_and_then (issued_by (λ c. regs_after c v) k) (event_at log k)) (take-append-le k log (s ∷ []) (omega arith))

pub inval-last : (log : List Step) (s : Step) → inval_at (log ++ s ∷ []) (length log) ≡ inval_by log s.event
inval-last log s =
    ap (option_and_then (issued_by (λ c. regs_after c (take (length log) (log ++ s ∷ []))) (length log))) (event-last log s)
    ∙ ap (λ (v : List Step). issued_by (λ c. regs_after c v) (length log) s.event) (take_at log (s ∷ []) (length log) refl)

pub inval-within : (log : List Step) (k : ℕ) (i : Inval) → inval_at log k ≡ Some i → k < length log
inval-within log k i h = option_and_then_some (issued_by (λ c. regs_at log c k) k) (event_at log k) i h (λ e at is. event-within log k e at)

-- an invalidation's number is that of its step
pub issued_in : (g : ℕ → Regs) (k : ℕ) (e : Event) (i : Inval) → issued_by g k e ≡ Some i → i.issued ≡ k
unfolding issued_by inval_of
issued_in g k (Tlbi core from op shared operand) i h = ap (λ (v : Inval). v.issued) (sym (same_Some _ i h))
issued_in g k (Store core pa value) i h = none_some i h
issued_in g k (Msr core reg value) i h = none_some i h
issued_in g k (Settle core) i h = none_some i h
issued_in g k (Isb core) i h = none_some i h
issued_in g k (Dsb core kind) i h = none_some i h
issued_in g k (Deliver core) i h = none_some i h
issued_in g k (Access core access) i h = none_some i h
issued_in g k (Prefetch core access) i h = none_some i h

pub issued_at : (log : List Step) (k : ℕ) (i : Inval) → inval_at log k ≡ Some i → i.issued ≡ k
issued_at log k i h =
    option_and_then_some (issued_by (λ c. regs_at log c k) k) (event_at log k) i h (λ e at is. issued_in (λ c. regs_at log c k) k e i is)
