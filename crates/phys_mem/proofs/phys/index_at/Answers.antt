use Rattle.std.proofs.Common.{sym}
use Rattle.phys_mem.proofs.Places.{within_if}
use Rattle.phys_mem.proofs.phys.index_at.Goals as goal

pub returns-clause-within : goal.returns-clause-within
returns-clause-within c = within_if c.args.ranges.now c.args.pa _ c.requires.whole (sym c.index_in.ensures)
