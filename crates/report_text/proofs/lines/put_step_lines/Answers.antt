use Rattle.report_text.proofs.lines.put_step_lines.Goals as goal

pub returns-in-Prefetch-clause-text : goal.returns-in-Prefetch-clause-text
returns-in-Prefetch-clause-text g c = rw (← c.step.view_is, c.if-not-step.false, c.in-Prefetch.is) c.put_answered-in-Prefetch.ensures.text
