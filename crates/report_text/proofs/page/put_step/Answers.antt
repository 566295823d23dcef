use Rattle.report_text.proofs.Pages.{adds}
use Rattle.report_text.proofs.page.put_step.Goals as goal

pub returns-clause-text : goal.returns-clause-text
returns-clause-text g c = adds _ _ c.pass_on.result _ _ _ _ c.put_step_lines.ensures.text c.pass_on.ensures.text
