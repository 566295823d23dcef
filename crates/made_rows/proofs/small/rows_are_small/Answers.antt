use Rattle.made_rows.proofs.SmallRows.{rows_are_small}
use Rattle.made_rows.proofs.small.rows_are_small.Goals as goal

pub returns : goal.returns
returns c = rows_are_small
