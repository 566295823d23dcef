use Rattle.tlbi_ops.proofs.Wider.{widens}
use Rattle.tlbi_ops.proofs.laws.operations_widen.Goals as goal

pub returns : goal.returns
returns c = widens
