use Rattle.trace_lang.proofs.Again.{text_back}
use Rattle.trace_lang.proofs.printing.parse_of_print.Goals as goal

pub returns : goal.returns
returns c = text_back
