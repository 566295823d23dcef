use Rattle.machine_laws.proofs.Outlived.{no_row_outlives_its_vmid}
use Rattle.machine_laws.proofs.rules.no_row_outlives_its_vmid.Goals as goal

pub returns : goal.returns
returns c = no_row_outlives_its_vmid
