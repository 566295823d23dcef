use Rattle.std.proofs.Common.{◌++◌, ap, ◌∙◌, subst}
use Rattle.explain_text.specs.Written.{Wrote}
use Rattle.report_text.specs.Report.{summary_text}
use Rattle.report_text.proofs.tally.Tally.put.Goals as goal

pub returns-clause-text : goal.returns-clause-text
returns-clause-text g c =
    rw (← c.self.view_is) (subst (Wrote _ _ c.put.result)
    (c.bytes.ensures ∙ c.put_summary_line.ensures ∙ ap (λ l. l ++ summary_text c.self.inside.counts) c.new-line.ensures) c.put.ensures.text)
