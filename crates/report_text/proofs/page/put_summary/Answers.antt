use Rattle.report_text.proofs.Pages.{adds}
use Rattle.report_text.proofs.page.put_summary.Goals as goal

pub returns-clause-text : goal.returns-clause-text
returns-clause-text g c = adds _ _ c.pass_on.result _ _ _ _ c.put_summary_line.ensures c.pass_on.ensures.text
