-- Answers that are not allowed. Each law says what is wrong with an answer to an access by a core behind a log, whatever the rest
-- of it is, so that no change of what is allowed lets it through unseen. They are this project's own.
use Rattle.std.specs.Prelude.{◌≡◌, ◌⊎◌, ℕ, ℤ, Bool, true, false, not, List, take, Some, None}
use Rattle.std.specs.List.{Contains}
use Rattle.sysregs.specs.Registers.{config_of, asid_of, vmid_of}
use Rattle.sysregs.specs.Sides.{side_of}
use Rattle.fault_codes.specs.declared.fault.Stage.{Stage}
use Rattle.trails.specs.declared.item.Item.{Item}
use Rattle.trails.specs.declared.item.What.TheVariants.{Base, Word}
use Rattle.trails.specs.declared.outcome.Access.{Access}
use Rattle.trails.specs.declared.outcome.Outcome.TheVariants.{Absent, Conflict}
use Rattle.trails.specs.declared.event.Event.TheVariants.{Access as AccessOf, Prefetch}
use Rattle.trails.specs.declared.step.Answer.{Answer}
use Rattle.trails.specs.declared.step.Step.{Step}
use Rattle.walk_spec.specs.Ask.{needs, lacks}
use Rattle.walk_spec.specs.Needs.{word, WordNeed}
use Rattle.walk_spec.specs.Steps.{End}
use Rattle.walk_spec.specs.BothStages.{Landing, outcome_of}
use Rattle.walk_spec.specs.Fresh.{fed_outcome}
use Rattle.walk_laws.specs.Shift.{stands}
use Rattle.machine_spec.specs.Header.{Header}
use Rattle.machine_spec.specs.Moments.{memory_after, regs_after, regs_at}
use Rattle.machine_spec.specs.Kept.{base_by}
use Rattle.machine_spec.specs.Allowed.{is_conflict, IsAnswer, config_now, case_of, Ends, IsAllowed}

-- an answer isn't allowed
abbrev pub IsWrong : (header : Header) (log : List Step) (core : ℕ) (access : Access) (answer : Answer) → Type 0
IsWrong h log c a r = IsAnswer (case_of h log c a) r → ⊥

-- an item stands on a trail of an answer, of which a conflict has two
abbrev pub IsShown : (answer : Answer) (item : Item) → Type 0
IsShown r i = Contains r.first i ⊎ ((second : List Item) × (r.second ≡ Some second) × Contains second i)

-- What may not stand on a trail: a word that memory didn't hold at the item's moment, a base that the register didn't give then, and
-- an item that was read under other register fields or another VMID than those of now.
pub record ItemsAreTrue (h : Header) (log : List Step) (c : ℕ) (a : Access) (r : Answer) (i : Item) : Type 0 where
  pub word : i.what ≡ Word → (memory_after h (take i.moment log) i.pa ≡ Some i.value → ⊥) → IsWrong h log c a r
  pub base : i.what ≡ Base → (base_by (regs_at log c i.moment) (side_of a.va) i.stage ≡ i.value → ⊥) → IsWrong h log c a r
  pub fields : (config_of (regs_at log c i.moment) ≡ config_of (regs_after c log) → ⊥) → IsWrong h log c a r
  pub vmid : (vmid_of (regs_at log c i.moment) ≡ vmid_of (regs_after c log) → ⊥) → IsWrong h log c a r

-- What an answer that is no conflict may not say: another outcome than that of the walk that ends on its trail, or that needs a word
-- behind it; a place to lack that memory has; and a second trail.
pub record OutcomesAreTrue (h : Header) (log : List Step) (c : ℕ) (a : Access) (r : Answer) : Type 0 where
  pub of_walk : (end : End Landing) → Ends (case_of h log c a) true r.first end → (r.outcome ≡ outcome_of end → ⊥) → IsWrong h log c a r
  pub of_need : (need : WordNeed) → stands (config_now (case_of h log c a)) true a r.first ≡ needs (word need) →
      (r.outcome ≡ fed_outcome (lacks (word need)) → ⊥) → IsWrong h log c a r
  pub lacking : (s : Stage) (l : ℤ) (p : ℕ) (by_walk : Bool) (v : ℕ) →
      r.outcome ≡ Absent s l p by_walk → memory_after h log p ≡ Some v → IsWrong h log c a r
  pub alone : (r.second ≡ None → ⊥) → IsWrong h log c a r

-- A conflict may not be of one trail, nor of two that are equal.
pub record ConflictsAreTrue (h : Header) (log : List Step) (c : ℕ) (a : Access) (r : Answer) : Type 0 where
  pub one : r.second ≡ None → IsWrong h log c a r
  pub equal : r.second ≡ Some r.first → IsWrong h log c a r

-- No answer may have another ASID or VMID than that of now, say the opposite of `old` or `stale`, or have the two exchanged.
pub record AnswersAreTrue (h : Header) (log : List Step) (c : ℕ) (a : Access) (r : Answer) : Type 0 where
  pub items : (i : Item) → IsShown r i → ItemsAreTrue h log c a r i
  pub outcomes : is_conflict r.outcome ≡ false → OutcomesAreTrue h log c a r
  pub conflicts : r.outcome ≡ Conflict → ConflictsAreTrue h log c a r
  pub asid : (r.asid ≡ asid_of (regs_after c log) → ⊥) → IsWrong h log c a r
  pub vmid : (r.vmid ≡ vmid_of (regs_after c log) → ⊥) → IsWrong h log c a r
  pub old : IsAnswer (case_of h log c a) r → IsWrong h log c a (record r { old = not r.old })
  pub stale : IsAnswer (case_of h log c a) r → IsWrong h log c a (record r { stale = not r.stale })
  pub exchanged : IsAnswer (case_of h log c a) r → (r.old ≡ r.stale → ⊥) → IsWrong h log c a (record r { old = r.stale; stale = r.old })
  pub unanswered : IsAllowed h log record { event = AccessOf c a; answer = None } → ⊥
  pub not_fetched : IsAllowed h log record { event = Prefetch c a; answer = None } → ⊥

-- So it is behind every log.
abbrev pub NothingFalseIsAllowed : Type 0
NothingFalseIsAllowed = (h : Header) (log : List Step) (c : ℕ) (a : Access) (r : Answer) → AnswersAreTrue h log c a r
