use Rattle.served_walk.proofs.RowsOfRuns.{rows_can_serve}
use Rattle.served_walk.proofs.rows.rows_can_serve.Goals as goal

pub returns : goal.returns
returns c = rows_can_serve
