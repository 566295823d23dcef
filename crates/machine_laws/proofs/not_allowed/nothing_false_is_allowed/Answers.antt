use Rattle.machine_laws.proofs.Wrong.{nothing_false_is_allowed}
use Rattle.machine_laws.proofs.not_allowed.nothing_false_is_allowed.Goals as goal

pub returns : goal.returns
returns c = nothing_false_is_allowed
