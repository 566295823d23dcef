use Rattle.std.proofs.Common.{IfOk, subst}
use Rattle.run_answer.specs.Run.{IsSummary, summary_line}
use Rattle.run_answer.proofs.Playing.{ready_summary}
use Rattle.run_answer.proofs.drilled.drill.Goals as goal

pub returns-clause-text : goal.returns-clause-text
returns-clause-text c =
    subst (λ t. IfOk c.opened.result (λ m. IsSummary t (summary_line m))) c.in_ok-made_trace.ensures
    (ready_summary c.in_ok-made_trace.field-0 c.opened.ensures.limits c.runs_keep_their_promise.ensures c.opened.result c.opened.ensures.trace)
