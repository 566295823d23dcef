-- How a walk ends, and how it goes on by what a word leads to.
use Rattle.fault_codes.specs.declared.fault.Fault.{Fault}
use Rattle.trails.specs.declared.item.Item.{Item}
use Rattle.table_reads.specs.declared.lead.Lead.{Lead}
use Rattle.table_reads.specs.declared.lead.Lead.TheVariants.{Down, Reached, Stopped}
use Rattle.walk_spec.specs.Ask.{Ask, done}

-- how a walk ends: with a fault, or at a leaf
pub data End (L : Type 0) : Type 0 where
  stops : Fault → End L
  reaches : L → End L

-- a leaf and a fault end the walk; a table is walked below
abbrev pub step_then : {N L T : Type 0} → (below : T → Ask N Item (End L)) → (step : Lead L T) → Ask N Item (End L)
step_then below (Down table) = below table
step_then below (Reached l) = done (reaches l)
step_then below (Stopped f) = done (stops f)
