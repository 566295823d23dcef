use Rattle.trace_lang.proofs.Cutting.{stripped, not_stripped, returned, not_returned}
use Rattle.trace_lang.proofs.cuts.without_return.Goals as goal

pub returns-in-Some : goal.returns-in-Some
returns-in-Some c =
    let h = c.in-Some.ensures.cases in
    returned c.args.line.now _ _ c.as_slice.ensures (stripped c.args.line.now _ c.in-Some.text.now h.0 h.1)

pub returns-in-None : goal.returns-in-None
returns-in-None c = not_returned c.args.line.now _ c.as_slice.ensures (not_stripped c.args.line.now _ c.in-None.ensures.cases)
