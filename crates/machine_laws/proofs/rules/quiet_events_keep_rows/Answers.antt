use Rattle.machine_laws.proofs.Quiet.{quiet_events_keep_rows}
use Rattle.machine_laws.proofs.rules.quiet_events_keep_rows.Goals as goal

pub returns : goal.returns
returns c = quiet_events_keep_rows
