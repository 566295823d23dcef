use Rattle.toml.proofs.Views.{table_get}
use Rattle.reg_file.proofs.entries.entry.Goals as goal

pub returns : goal.returns
returns c = rw (← c.key.ensures.text) (table_get c.get.result c.key.result.now c.args.table.now.entries c.get.ensures.value)
