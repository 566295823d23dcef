-- The report of a run, from its log. Its form is this project's own rule.
use Rattle.std.specs.Prelude.{ℕ, ◌+◌, List, [], ◌∷◌, ◌++◌, true, flat_map, codes, decimal, Option, Some, None}
use Rattle.trails.specs.declared.item.Item.{Item}
use Rattle.trails.specs.declared.outcome.Access.{Access}
use Rattle.trails.specs.declared.event.Event.{Event}
use Rattle.trails.specs.declared.event.Event.TheVariants.{Access as AccessOf, Prefetch}
use Rattle.trails.specs.declared.step.Answer.{Answer}
use Rattle.trails.specs.declared.step.Step.{Step}
use Rattle.texts.specs.Texts.{joined_text}
use Rattle.explain_text.specs.Texts.{item_text}
use Rattle.explain_text.specs.Explained.{access_text, outcome_text}
use Rattle.machine_spec.specs.Summary.{Summary, summary}

-- the line of an event, as `event 8 core 0 access 0x40201abc el1 read asid 0x0 vmid 0x0`: the number of its step, counted
-- from 0 over all steps, its core, and its access
abbrev pub event_text : (number core : ℕ) (word : List ℕ) (access : Access) (asid vmid : ℕ) → List ℕ
event_text n core word access asid vmid =
    joined_text (codes "event " ∷ decimal n ∷ codes " core " ∷ decimal core ∷ codes " " ∷ access_text word access asid vmid ∷ codes "\n" ∷ [])

-- the items of a second trail, which a conflict has, behind the line `or`
abbrev pub second_text : (second : Option (List Item)) → List ℕ
second_text None = []
second_text (Some items) = codes "or\n" ++ flat_map (item_text true) items

-- the lines of an answer: the items of its first trail with their moments, those of a second one, and the outcome
abbrev pub answer_text : (answer : Answer) → List ℕ
answer_text a = flat_map (item_text true) a.first ++ (second_text a.second ++ outcome_text true a.outcome)

-- the lines of an event that is answered, with its word
abbrev pub answered_text : (number core : ℕ) (word : List ℕ) (access : Access) (answer : Option Answer) → List ℕ
answered_text n core word access None = []
answered_text n core word access (Some a) = event_text n core word access a.asid a.vmid ++ answer_text a

-- the lines of an event with its answer: only accesses and prefetches have some
abbrev pub lines_of : (number : ℕ) (event : Event) (answer : Option Answer) → List ℕ
lines_of n (AccessOf core access) a = answered_text n core (codes "access") access a
lines_of n (Prefetch core access) a = answered_text n core (codes "prefetch") access a
lines_of n _ a = []

-- the lines of a step
abbrev pub step_text : (number : ℕ) (step : Step) → List ℕ
step_text n s = lines_of n s.event s.answer

-- the lines of steps from a number on
unfoldable pub steps_text : (number : ℕ) (log : List Step) → List ℕ
steps_text n [] = []
steps_text n (s ∷ log) = step_text n s ++ steps_text (n + 1) log

-- the front of the summary line: how many accesses and prefetches there were, and how they came out
abbrev pub outcomes_text : (summary : Summary) → List ℕ
outcomes_text s =
    joined_text
    (codes "summary accesses " ∷ decimal s.accesses ∷ codes " prefetches " ∷ decimal s.prefetches ∷ codes " mapped " ∷ decimal s.mapped ∷
    codes " faulted " ∷ decimal s.faulted ∷ codes " conflicts " ∷ decimal s.conflicts ∷ [])

-- its end: how many answers were old and stale, and how many rows were evicted
abbrev pub marks_text : (summary : Summary) → List ℕ
marks_text s =
    joined_text
    (codes " old " ∷ decimal s.old ∷ codes " stale " ∷ decimal s.stale ∷ codes " evicted " ∷ decimal s.evicted ∷ codes "\n" ∷ [])

-- the summary line
abbrev pub summary_text : (summary : Summary) → List ℕ
summary_text s = outcomes_text s ++ marks_text s

-- the report of a log: the lines of each step in order, and the summary line
abbrev pub report_text : (log : List Step) → List ℕ
report_text log = steps_text 0 log ++ summary_text (summary log)
