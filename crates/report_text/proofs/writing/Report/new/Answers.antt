use Rattle.report_text.proofs.Steps.{nothing_yet}
use Rattle.report_text.proofs.writing.Report.new.Goals as goal

pub returns : goal.returns
returns c = λ now. record { text = nothing_yet now _ c.new.ensures; counted = c.new-2.ensures.counted; steps = c.new-2.ensures.steps }
