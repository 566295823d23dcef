use Rattle.walk_laws.proofs.Shifts.{table1_shifts}
use Rattle.walk_laws.proofs.shift.table1_shifts.Goals as goal

pub returns : goal.returns
returns c = table1_shifts
