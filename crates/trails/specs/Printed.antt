-- Which outcomes have a text, and how they are printed. The forms are this project's own rules.
use Rattle.std.specs.Prelude.{Bool, true, List, All, Option, Some, None}
use Rattle.fault_codes.specs.declared.fault.Class.TheVariants.{External}
use Rattle.fault_codes.specs.Status.{HasStatus}
use Rattle.trails.specs.declared.outcome.Outcome.{Outcome}
use Rattle.trails.specs.declared.outcome.Outcome.TheVariants.{Faulted, Absent}
use Rattle.trails.specs.declared.outcome.Stop.{Stop}
use Rattle.trails.specs.declared.outcome.Stop.TheVariants.{Fault}
use Rattle.trails.specs.declared.step.Answer.{Answer}
use Rattle.trails.specs.declared.step.Step.{Step}

-- the outcome that is printed: in a run a word that memory lacks is an external abort
abbrev pub printed : (in_run : Bool) (outcome : Outcome) → Outcome
printed true (Absent stage level pa s1ptw) = Faulted (record { stage = stage; level = level; class = External; s1ptw = s1ptw })
printed _ outcome = outcome

-- an outcome has a text: if it is a fault, it has a status code
abbrev pub HasText : (outcome : Outcome) → Type 0
HasText (Faulted fault) = HasStatus fault
HasText _ = Unit {0}

-- the same of what stops a walk
abbrev pub HasTextStop : (stop : Stop) → Type 0
HasTextStop (Fault fault) = HasStatus fault
HasTextStop _ = Unit {0}

-- the answer of an event, if there is one, has a text in a run
abbrev pub HasTextInRun : (answer : Option Answer) → Type 0
HasTextInRun None = Unit {0}
HasTextInRun (Some a) = HasText (printed true a.outcome)

-- each answer of a log has one
abbrev pub HaveTexts : (log : List Step) → Type 0
HaveTexts log = All (λ s. HasTextInRun s.answer) log
