-- The lines of the steps of a log, and of one more.
use Rattle.std.proofs.Common.{◌≡◌, ℕ, ◌+◌, OnOk, List, [], ◌∷◌, ◌++◌, length, Option, Result, Ok}
use Rattle.std.proofs.Common.{Err, refl, sym, ◌∙◌, ap, append_assoc, append-nil, arith, subst}
use Rattle.std.proofs.lemmas.List.{length-append}
use Rattle.trails.specs.declared.step.Step.{Step}
use Rattle.explain_text.specs.Written.{Appended, Wrote}
use Rattle.explain_text.proofs.Sinks.{appended_none}
use Rattle.machine_spec.specs.Summary.{Summary, summary, with_event, with_answer}
use Rattle.report_text.specs.Report.{step_text, steps_text, summary_text, report_text}
use Rattle.report_text.specs.Waits.{Handed, Started, Adds}
use Rattle.report_text.specs.Reports.{ReportState, IsReportOf, GoesOn}
use Rattle.report_text.proofs.Counting.{summary_more}
use Rattle.report_text.proofs.Pages.{started_in}

-- steps behind others
steps_then : (n : ℕ) (xs ys : List Step) → steps_text n (xs ++ ys) ≡ steps_text n xs ++ steps_text (n + length xs) ys
unfolding steps_text
steps_then n [] ys = let same : n ≡ n + length {A = Step} [] = omega arith in ap (λ (k : ℕ). steps_text k ys) same
steps_then n (x ∷ xs) ys =
    let later : n + 1 + length xs ≡ n + length (x ∷ xs) = omega arith in
    ap (λ (t : List ℕ). step_text n x ++ t) (steps_then (n + 1) xs ys ∙ ap (λ (k : ℕ). steps_text (n + 1) xs ++ steps_text k ys) later)
    ∙ sym (append_assoc (step_text n x) (steps_text (n + 1) xs) (steps_text (n + length (x ∷ xs)) ys))

steps_one : (n : ℕ) (x : Step) → steps_text n (x ∷ []) ≡ step_text n x
unfolding steps_text
steps_one n x = append-nil (step_text n x)

-- one more step
steps_more : (log : List Step) (x : Step) → steps_text 0 (log ++ x ∷ []) ≡ steps_text 0 log ++ step_text (length log) x
steps_more log x =
    let place : 0 + length log ≡ length log = omega arith in
    steps_then 0 log (x ∷ []) ∙ ap (λ (t : List ℕ). steps_text 0 log ++ t) (ap (λ (k : ℕ). steps_text k (x ∷ [])) place
    ∙ steps_one (length log) x)

steps_on : (n : ℕ) (x : Step) (more : List Step) → steps_text n (x ∷ more) ≡ step_text n x ++ steps_text (n + 1) more
unfolding steps_text
steps_on n x more = refl

-- the lines of one more step are a first part of what each longer log has
report_parts : (log : List Step) (x : Step) (more : List Step)
    → (steps_text 0 log ++ step_text (length log) x) ++ (steps_text (length log + 1) more ++ summary_text (summary (log ++ x ∷ more)))
    ≡ report_text (log ++ x ∷ more)
report_parts log x more =
    let end : List ℕ = summary_text (summary (log ++ x ∷ more)) in
    let place : 0 + length log ≡ length log = omega arith in
    sym (append_assoc (steps_text 0 log ++ step_text (length log) x) (steps_text (length log + 1) more) end)
    ∙ ap (λ (t : List ℕ). t ++ end)
    (append_assoc (steps_text 0 log) (step_text (length log) x) (steps_text (length log + 1) more)
    ∙ ap (λ (t : List ℕ). steps_text 0 log ++ t) (sym (steps_on (length log) x more) ∙ ap (λ (k : ℕ). steps_text k (x ∷ more)) (sym place))
    ∙ sym (steps_then 0 log (x ∷ more)))

-- a step that was put
pub goes_on_by : {T E : Type 0} (a b : Option (List ℕ)) (r : Result T E) (old new : ReportState) (x : Step)
    → Adds a b r old.waits new.waits (step_text old.steps x)
    → new.counted ≡ with_answer (with_event old.counted x.event) x.answer → new.steps ≡ old.steps + 1
    → (before : Option (List ℕ)) (log : List Step) → IsReportOf before a old log → GoesOn before b r new log x
goes_on_by a b (Ok y) old new x p counted steps before log h = record {
  text = subst (Handed before b new.waits) (ap (λ (k : ℕ). steps_text 0 log ++ step_text k x) h.steps ∙ sym (steps_more log x))
      (p before (steps_text 0 log) h.text);
  counted = counted ∙ ap (λ (s : Summary). with_answer (with_event s x.event) x.answer) h.counted ∙ summary_more log x;
  steps = steps ∙ ap (λ (k : ℕ). k + 1) h.steps ∙ sym (length-append log (x ∷ []));
}
goes_on_by a b (Err y) old new x p counted steps before log h =
    λ more.
    let first : Started before b (steps_text 0 log ++ step_text (length log) x) =
    subst (λ (k : ℕ). Started before b (steps_text 0 log ++ step_text k x)) h.steps (p before (steps_text 0 log) h.text) in
    subst (Started before b) (report_parts log x more)
    (started_in before b (steps_text 0 log ++ step_text (length log) x) (steps_text (length log + 1) more ++ summary_text (summary (log ++ x ∷ more)))
    first)

-- the summary line ends the report
pub ends_by : {T E : Type 0} (a b : Option (List ℕ)) (r : Result T E) (old : ReportState) (left : List ℕ) → OnOk r (left ≡ [])
    → Adds a b r old.waits left (summary_text old.counted)
    → (before : Option (List ℕ)) (log : List Step) → IsReportOf before a old log → Wrote before b r (report_text log)
ends_by a b (Ok x) old left e p before log h =
    let text : steps_text 0 log ++ summary_text old.counted ≡ report_text log = ap (λ (s : Summary). steps_text 0 log ++ summary_text s) h.counted in
    let g = p before (steps_text 0 log) h.text in
    let whole : g.0 ≡ report_text log = sym (append-nil g.0) ∙ ap (λ (t : List ℕ). g.0 ++ t) (sym e) ∙ g.2 ∙ text in
    subst (Appended before b) whole g.1
ends_by a b (Err x) old left e p before log h =
    let text : steps_text 0 log ++ summary_text old.counted ≡ report_text log = ap (λ (s : Summary). steps_text 0 log ++ summary_text s) h.counted in
    subst (Started before b) text (p before (steps_text 0 log) h.text)

-- nothing is written yet
pub nothing_yet : (a : Option (List ℕ)) (waits : List ℕ) → waits ≡ [] → Handed a a waits (steps_text 0 [])
unfolding steps_text
nothing_yet a waits e = ([], appended_none a, e)
