use Rattle.walk_laws.proofs.Shifts.{stage2_shifts}
use Rattle.walk_laws.proofs.shift.stage2_shifts.Goals as goal

pub returns : goal.returns
returns c = stage2_shifts
