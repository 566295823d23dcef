use Rattle.walk_laws.proofs.Shifts.{walk_shifts}
use Rattle.walk_laws.proofs.shift.walk_shifts.Goals as goal

pub returns : goal.returns
returns c = walk_shifts
