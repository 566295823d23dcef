use Rattle.machine_laws.proofs.Quiet.{nothing_covered_changes_nothing}
use Rattle.machine_laws.proofs.rules.nothing_covered_changes_nothing.Goals as goal

pub returns : goal.returns
returns c = nothing_covered_changes_nothing
