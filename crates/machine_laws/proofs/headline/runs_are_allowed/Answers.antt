use Rattle.machine_laws.proofs.Promised.{runs_are_allowed}
use Rattle.machine_laws.proofs.headline.runs_are_allowed.Goals as goal

pub returns : goal.returns
returns c = runs_are_allowed
