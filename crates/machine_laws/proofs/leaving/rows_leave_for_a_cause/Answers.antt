use Rattle.machine_laws.proofs.LeavingRuns.{rows_leave_for_a_cause}
use Rattle.machine_laws.proofs.leaving.rows_leave_for_a_cause.Goals as goal

pub returns : goal.returns
returns c = rows_leave_for_a_cause
