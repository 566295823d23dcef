use Rattle.machine_laws.proofs.Promised.{runs_keep_their_promise}
use Rattle.machine_laws.proofs.promise.runs_keep_their_promise.Goals as goal

pub returns : goal.returns
returns c = runs_keep_their_promise
