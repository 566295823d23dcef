-- Which accesses a row of stage 1 may serve (this project's own rules).
use Rattle.std.specs.Prelude.{◌≡◌, true, false}
use Rattle.trails.specs.declared.outcome.Access.{Access}
use Rattle.walk_spec.specs.Stage1.{untagged}
use Rattle.walk_spec.specs.BothStages.{is_refused1}
use Rattle.tagged_tlb.specs.declared.row.Row.{Row}
use Rattle.tagged_tlb.specs.Rows.{holds}

-- its region holds the address, and under its fields stage 1 is on and doesn't refuse the access
pub record MayServe (r : Row) (a : Access) : Type 0 where
  pub held : holds r.region (untagged a.va) ≡ true
  pub on : r.key.config.m ≡ true
  pub accepted : is_refused1 r.key.config a ≡ false
