use Rattle.report_text.specs.Reports.{ReportState}
use Rattle.report_text.proofs.Steps.{ends_by}
use Rattle.report_text.proofs.writing.Report.end.Goals as goal

pub returns-clause-text : goal.returns-clause-text
returns-clause-text g c =
    let old : ReportState = record { waits = c.self.inside.page; counted = c.self.inside.tally.counted; steps = c.self.inside.tally.steps } in
    rw (← c.self.view_is) (ends_by _ _ c.put_summary.result old _ c.put_summary.ensures.empty (rw c.counts.ensures at c.put_summary.ensures.text))
