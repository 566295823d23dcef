use Rattle.std.proofs.Common.{◌≡◌}
use Rattle.run_tests.proofs.of_report_text.report.Given as goal

-- the report has as many steps as turns
abbrev pub invariant-loop-step : goal.invariant-loop-step
invariant-loop-step g l = l.report.steps ≡ l.step-index
