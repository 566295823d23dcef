use Rattle.std.proofs.Common.{◌≤◌, length, ap, ◌∙◌, subst, arith}
use Rattle.std.proofs.lemmas.List.{take_all}
use Rattle.explain_text.specs.Written.{Wrote}
use Rattle.machine_spec.specs.Machine.{run_of}
use Rattle.machine_spec.specs.Summary.{summary}
use Rattle.report_text.specs.Report.{summary_text}
use Rattle.run_answer.specs.Run.{summary_line}
use Rattle.run_answer.proofs.drilled.sum_up.Goals as goal

pub returns-clause-text : goal.returns-clause-text
unfolding summary_line
returns-clause-text g c =
    let i = c.loop-k.invariant in
    let t = c.args.machine.now.trace in
    let none = ap length c.requires.0 in
    let all : length t.events ≤ c.loop-k.k = omega (arith, c.loop-k-test.false, c.left-k-end.ensures, none) in
    subst (Wrote _ _ c.put.result)
    (ap summary_text (i.counted ∙ ap summary (i.log ∙ ap (run_of t.header) (take_all c.loop-k.k t.events all)))) c.put.ensures.text
