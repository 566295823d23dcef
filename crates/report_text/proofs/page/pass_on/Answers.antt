use Rattle.explain_text.proofs.Sinks.{same_text}
use Rattle.report_text.proofs.Pages.{handed}
use Rattle.report_text.proofs.page.pass_on.Goals as goal

pub returns-clause-text : goal.returns-clause-text
returns-clause-text g c = handed _ _ c.put-handed.result _ _ c.clear.ensures (same_text _ _ c.put-handed.result _ _ c.bytes-2.ensures c.put-handed.ensures.text)
