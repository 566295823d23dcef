use Rattle.machine_laws.proofs.Quiet.{barrier_empties_inboxes}
use Rattle.machine_laws.proofs.rules.barrier_empties_inboxes.Goals as goal

pub returns : goal.returns
returns c = barrier_empties_inboxes
