use Rattle.walk_laws.proofs.Shifts.{table2_shifts}
use Rattle.walk_laws.proofs.shift.table2_shifts.Goals as goal

pub returns : goal.returns
returns c = table2_shifts
