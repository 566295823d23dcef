use Rattle.machine_laws.proofs.Quiet.{no_rows_made_changes_none}
use Rattle.machine_laws.proofs.rules.no_rows_made_changes_none.Goals as goal

pub returns : goal.returns
returns c = no_rows_made_changes_none
