use Rattle.machine_laws.proofs.Promised.{runs_without_rows_are_fresh}
use Rattle.machine_laws.proofs.headline.runs_without_rows_are_fresh.Goals as goal

pub returns : goal.returns
returns c = runs_without_rows_are_fresh
