use Rattle.tlbi_ops.proofs.Extents.{stays_below, ends_below}
use Rattle.tlbi_ops.proofs.laws.operands_end.Goals as goal

pub returns-clause-below : goal.returns-clause-below
returns-clause-below c = stays_below

pub returns-clause-fits : goal.returns-clause-fits
returns-clause-fits c = ends_below
