use Rattle.report_text.specs.Reports.{ReportState}
use Rattle.report_text.proofs.Steps.{goes_on_by}
use Rattle.report_text.proofs.writing.Report.step.Goals as goal

pub returns-clause-text : goal.returns-clause-text
returns-clause-text g c =
    let old : ReportState = record { waits = c.self.inside.page; counted = c.self.inside.tally.counted; steps = c.self.inside.tally.steps } in
    rw (← c.self.view_is) (goes_on_by _ _ c.put_step.result old _ c.args.step.now
    (rw c.steps-number.ensures at c.put_step.ensures.text) c.step.ensures.counted c.step.ensures.steps)
