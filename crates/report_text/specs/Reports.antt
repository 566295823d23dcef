-- A report that is written while its steps are done (this project's own rule).
use Rattle.std.specs.Prelude.{◌≡◌, ℕ, List, [], ◌∷◌, ◌++◌, length, Option, Result, Ok, Err}
use Rattle.trails.specs.declared.step.Step.{Step}
use Rattle.machine_spec.specs.Summary.{Summary, summary}
use Rattle.report_text.specs.Report.{steps_text, report_text}
use Rattle.report_text.specs.Waits.{Handed, Started}

-- what was counted, of how many steps
pub record TallyState : Type 0 where
  pub counted : Summary
  pub steps : ℕ

-- what waits of its text, what was counted, and how many steps it has
pub record ReportState : Type 0 where
  pub waits : List ℕ
  pub counted : Summary
  pub steps : ℕ

-- It has the steps of this log: their lines were handed on or wait, and they are counted. `before` was written before it.
pub record IsReportOf (before now : Option (List ℕ)) (report : ReportState) (log : List Step) : Type 0 where
  pub text : Handed before now report.waits (steps_text 0 log)
  pub counted : report.counted ≡ summary log
  pub steps : report.steps ≡ length log

-- a step was put behind a log: at Ok the report has it too, at Err a first part of each longer report was written
abbrev pub GoesOn : {T E : Type 0} (before now : Option (List ℕ)) (result : Result T E) (report : ReportState) (log : List Step) (step : Step) → Type 0
GoesOn before now (Ok _) report log step = IsReportOf before now report (log ++ step ∷ [])
GoesOn before now (Err _) report log step = (more : List Step) → Started before now (report_text (log ++ step ∷ more))
