-- What code shows of the reply to an access.
use Rattle.std.specs.Prelude.{◌≡◌, ◌-◌, List, ◌++◌, length, take, Option, Some, None, Result, Ok, Err}
use Rattle.trails.specs.declared.item.Item.{Item}
use Rattle.trails.specs.declared.outcome.Outcome.{Outcome}
use Rattle.trails.specs.declared.outcome.Outcome.TheVariants.{Conflict}
use Rattle.trails.specs.declared.outcome.Stop.{Stop as Stopped}
use Rattle.trails.specs.declared.outcome.Stop.TheVariants.{Fault as FaultStop, Absent, Conflict as IsConflict}
use Rattle.walk_spec.specs.Steps.{reaches}
use Rattle.walk_spec.specs.BothStages.{Landing, outcome_of}
use Rattle.walk_spec.specs.Fresh.{fed_outcome}
use Rattle.tagged_tlb.specs.declared.row.Row.{Row}
use Rattle.machine_spec.specs.Served.{Halt, came, clash, Reply}
use Rattle.translate.specs.Deep.{outcome_by}
use Rattle.served_walk.specs.ServedWord.{Second}

-- trails and outcome by how the service stopped
abbrev pub ShowsHalt : (items : List Item) (halt : Halt) (first : List Item) (second : Option (List Item)) (outcome : Outcome) → Type 0
ShowsHalt items (came end) first second o = (first ≡ items) × (second ≡ None) × (o ≡ fed_outcome end)
ShowsHalt items (clash one two) first second o = (first ≡ items ++ one) × (second ≡ Some (items ++ two)) × (o ≡ Conflict)

-- both trails, the rows that served, and the outcome
pub record Shows (r : Reply) (first : List Item) (second : Option (List Item)) (by : List Row) (o : Outcome) : Type 0 where
  pub halt : ShowsHalt r.items r.halt first second o
  pub by_is : by ≡ r.by

-- the second trail: at a conflict, that of the second chain
abbrev pub second_of : (result : Result Landing Stopped) (first : List Item) (second : Second) → Option (List Item)
second_of (Ok l) first two = None
second_of (Err (FaultStop f)) first two = None
second_of (Err (Absent s level pa s1ptw)) first two = None
second_of (Err IsConflict) first two = Some (take (length first - two.instead) first ++ two.chain)

-- how the access comes out
abbrev pub comes_out : (result : Result Landing Stopped) → Outcome
comes_out (Ok l) = outcome_of (reaches l)
comes_out (Err x) = outcome_by (Err x)
