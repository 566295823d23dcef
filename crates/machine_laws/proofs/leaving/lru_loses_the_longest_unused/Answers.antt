use Rattle.machine_laws.proofs.LeavingRuns.{lru_loses_the_longest_unused}
use Rattle.machine_laws.proofs.leaving.lru_loses_the_longest_unused.Goals as goal

pub returns : goal.returns
returns c = lru_loses_the_longest_unused
