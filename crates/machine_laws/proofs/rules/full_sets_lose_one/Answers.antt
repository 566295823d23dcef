use Rattle.machine_laws.proofs.Sets.{full_sets_lose_one}
use Rattle.machine_laws.proofs.rules.full_sets_lose_one.Goals as goal

pub returns : goal.returns
returns c = full_sets_lose_one
