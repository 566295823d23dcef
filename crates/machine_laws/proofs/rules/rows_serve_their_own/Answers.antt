use Rattle.machine_laws.proofs.Own.{rows_serve_their_own}
use Rattle.machine_laws.proofs.rules.rows_serve_their_own.Goals as goal

pub returns : goal.returns
returns c = rows_serve_their_own
