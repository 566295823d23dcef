-- Sizes that are in range.
use Rattle.std.specs.Prelude.{Bool}
use Rattle.fault_codes.specs.declared.fault.Stage.{Stage}
use Rattle.fault_codes.specs.declared.fault.Stage.TheVariants.{S1, S2}
use Rattle.table_reads.specs.Numbers.{is_sized1, is_sized2}
use Rattle.walk_spec.specs.Needs.{Regime}

-- the sizes of a stage are in range
abbrev pub is_sized : (regime : Regime) (stage : Stage) → Bool
is_sized r S1 = is_sized1 r.config r.side
is_sized r S2 = is_sized2 r.config
