use Rattle.std.proofs.Common.{sym}
use Rattle.translate.proofs.whole.translate.Goals as goal

pub returns-clause-fresh : goal.returns-clause-fresh
returns-clause-fresh g c = rw (sym c.of.ensures) c.translate_at-outcome.ensures.fresh
