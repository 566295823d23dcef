use Rattle.run_answer.proofs.Playing.{ready_report, ready_printable}
use Rattle.run_answer.proofs.run.ready.Goals as goal

pub returns-clause-report : goal.returns-clause-report
returns-clause-report c = ready_report c.args.trace c.opened.ensures.limits c.runs_keep_their_promise.ensures c.opened.result c.opened.ensures.trace

pub returns-clause-printable : goal.returns-clause-printable
returns-clause-printable c = ready_printable c.args.trace c.opened.ensures.limits c.opened.result c.opened.ensures.trace c.opened.ensures.log
