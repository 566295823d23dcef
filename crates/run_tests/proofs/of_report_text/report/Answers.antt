use Rattle.std.proofs.Common.{None}
use Rattle.run_tests.proofs.of_report_text.report.Goals as goal

pub loop-step-init : goal.loop-step-init
loop-step-init g c = (c.new-report.ensures None).steps
