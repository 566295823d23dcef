-- Words for worked runs: headers, items, outcomes and answers as a report shows them; and what the checker unfolds.
use Rattle.std.proofs.Common.{◌≡◌, ℕ, List, [], ◌∷◌, map, pos, false, true}
use Rattle.std.specs.Prelude.{⊤, Option, Some, None, slice_get}
use Prim.Native.String.{String}
use Rattle.sysregs.specs.Equality.{same_fields}
use Rattle.attributes.specs.declared.kinds.MemType.{MemType}
use Rattle.attributes.specs.declared.kinds.Share.{Share}
use Rattle.fault_codes.specs.declared.fault.Stage.{Stage}
use Rattle.fault_codes.specs.declared.fault.Stage.TheVariants.{S1, S2}
use Rattle.fault_codes.specs.declared.fault.Class.{Class}
use Rattle.fault_codes.specs.declared.fault.Class.TheVariants.{External}
use Rattle.trails.specs.declared.item.Item.{Item}
use Rattle.trails.specs.declared.item.What.TheVariants.{Base, Word}
use Rattle.trails.specs.declared.outcome.Outcome.{Outcome}
use Rattle.trails.specs.declared.outcome.Outcome.TheVariants.{Mapped, Faulted, Absent, Conflict}
use Rattle.trails.specs.declared.event.Event.{Event}
use Rattle.trails.specs.declared.step.Answer.{Answer}
use Rattle.trails.specs.declared.step.Step.{Step}
use Rattle.trace_lang.specs.declared.header.Size.{Size}
use Rattle.trace_lang.specs.declared.header.Policy.{Policy}
use Rattle.tlbi_ops.specs.Operands.{inval_of}
use Rattle.tlbi_ops.specs.Covers.{covers}
use Rattle.walk_spec.proofs.Worked.{rights}
use Rattle.machine_spec.specs.Header.{Header}
use Rattle.machine_spec.specs.Moments.{stored, banked}
use Rattle.machine_spec.specs.Invalidations.{issued_by, completes}
use Rattle.machine_spec.specs.Marks.{mark}
use Rattle.machine_spec.specs.Machine.{acted, answer_to, run_of}
use Rattle.machine_spec.specs.Summary.{Summary, summary}

-- what unfolds where a run is computed, besides what unfolds for a walk
unfoldable pub on_worked_runs : ⊤
unfolding inval_of covers stored banked issued_by completes mark same_fields acted answer_to
on_worked_runs = tt

abbrev pub header : ℕ → List (ℕ × ℕ) → Size → Policy → Header
header cores ranges size policy = record { cores = cores; ranges = ranges; size = size; policy = policy }

-- the items that a report shows: level, place, value and moment
abbrev pub start1 : ℕ → ℕ → ℕ → Item
start1 level p k = record { stage = S1; level = pos level; what = Base; pa = p; value = p; moment = k }

abbrev pub start2 : ℕ → ℕ → ℕ → Item
start2 level p k = record { stage = S2; level = pos level; what = Base; pa = p; value = p; moment = k }

abbrev pub word1 : ℕ → ℕ → ℕ → ℕ → Item
word1 level p v k = record { stage = S1; level = pos level; what = Word; pa = p; value = v; moment = k }

abbrev pub word2 : ℕ → ℕ → ℕ → ℕ → Item
word2 level p v k = record { stage = S2; level = pos level; what = Word; pa = p; value = v; moment = k }

abbrev pub mapped : ℕ → String → String → MemType → Share → Outcome
mapped p el0 el1 mem sh = Mapped p (rights el0 el1) mem sh

abbrev pub fault : Stage → ℕ → Class → Outcome
fault s level class = Faulted record { stage = s; level = pos level; class = class; s1ptw = false }

-- a fault of stage 2 for the place of a stage 1 descriptor
abbrev pub fault2 : ℕ → Class → Outcome
fault2 level class = Faulted record { stage = S2; level = pos level; class = class; s1ptw = true }

-- an answer as a report shows it
pub record Told : Type 0 where
  pub step : ℕ
  pub asid : ℕ
  pub vmid : ℕ
  pub outcome : Outcome
  pub first : List Item
  pub second : Option (List Item)

abbrev pub told : ℕ → ℕ → ℕ → Outcome → List Item → Told
told k asid vmid o first = record { step = k; asid = asid; vmid = vmid; outcome = o; first = first; second = None }

abbrev pub conflict_told : ℕ → ℕ → ℕ → List Item → List Item → Told
conflict_told k asid vmid first second =
    record { step = k; asid = asid; vmid = vmid; outcome = Conflict; first = first; second = Some second }

-- a place that memory lacks is shown as an external abort
abbrev shown : Outcome → Outcome
shown (Mapped p perms mem sh) = Mapped p perms mem sh
shown (Faulted f) = Faulted f
shown (Absent s level p s1ptw) = Faulted record { stage = s; level = level; class = External; s1ptw = s1ptw }
shown Conflict = Conflict

abbrev told_of : ℕ → Option Answer → Option Told
told_of k None = None
told_of k (Some a) = Some record { step = k; asid = a.asid; vmid = a.vmid; outcome = shown a.outcome; first = a.first; second = a.second }

abbrev told_by : ℕ → Option Step → Option Told
told_by k None = None
told_by k (Some s) = told_of k s.answer

-- a run has these answers
abbrev ReportsAs : List Step → List Told → Type 0
ReportsAs log answers = map (λ (t : Told). told_by t.step (slice_get log t.step)) answers ≡ map Some answers

abbrev counts : Summary → List ℕ
counts s = s.accesses ∷ s.prefetches ∷ s.mapped ∷ s.faulted ∷ s.conflicts ∷ s.old ∷ s.stale ∷ s.evicted ∷ []

abbrev SumsTo : List Step → Option (List ℕ) → Type 0
SumsTo log None = Unit {0}
SumsTo log (Some numbers) = counts (summary log) ≡ numbers

-- the run of a trace has these answers, and comes to this summary, where one is given
abbrev pub Comes : Header → List Event → List Told → Option (List ℕ) → Type 0
Comes h events answers numbers = ReportsAs (run_of h events) answers × SumsTo (run_of h events) numbers
