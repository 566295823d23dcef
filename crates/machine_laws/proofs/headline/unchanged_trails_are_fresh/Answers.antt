use Rattle.machine_laws.proofs.Unchanged.{unchanged_is_fresh}
use Rattle.machine_laws.proofs.headline.unchanged_trails_are_fresh.Goals as goal

pub returns : goal.returns
returns c = unchanged_is_fresh
