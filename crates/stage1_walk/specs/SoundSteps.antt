-- What a step keeps to.
use Rattle.std.specs.Prelude.{ℕ, ◌<◌, ◌^◌, ◌%◌, ◌≡◌, Bool, Option, Some, None, Result, Ok, Err}
use Rattle.fault_codes.specs.Status.{HasStatus}
use Rattle.trails.specs.declared.outcome.Stop.{Stop}
use Rattle.trails.specs.declared.outcome.Stop.TheVariants.{Fault}
use Rattle.table_reads.specs.declared.lead.Lead.{Lead}
use Rattle.table_reads.specs.declared.lead.Lead.TheVariants.{Down, Reached, Stopped}
use Rattle.descriptors.specs.declared.kinds.Kind1.{Kind1}
use Rattle.descriptors.specs.declared.kinds.Kind1.TheVariants.{Leaf}
use Rattle.walk_spec.specs.declared.leaf.Leaf1.{Leaf1}
use Rattle.walk_spec.specs.declared.leaf.Fields1.{Fields1}
use Rattle.permissions.specs.declared.bits.TableBits.{TableBits}
use Rattle.permissions.specs.Rights.{joined}
use Rattle.walk_spec.specs.declared.entry.Table1.{Table1}
use Rattle.walk_spec.specs.declared.entry.Entry1.{Entry1}

-- the next table has a level below, and can be read; a fault has a status code
abbrev pub IsSoundStep : (left : ℕ) (step : Lead Leaf1 Table1) → Type 0
IsSoundStep left (Down table) = (0 < left) × (table.address < 2 ^ 52) × (table.address % 8 ≡ 0)
IsSoundStep left (Reached l) = Unit {0}
IsSoundStep left (Stopped f) = HasStatus f

-- what a word means that has these fields and this access flag
abbrev pub kind_of : (af : Bool) (fields : Fields1) → Kind1
kind_of af f = Leaf f.out f.attr_index f.bits f.sh af f.global f.contiguous

-- the table at an address to which a word of an entry leads, with its bits joined to those of the entry's own table
abbrev pub below : (entry : Entry1) (bits : TableBits) (address : ℕ) → Table1
below e bits address = record { address = address; bits = joined e.table.bits bits }

-- a word of an entry leads down to the table at this address, wherever it stands, or it doesn't
abbrev pub GoesDown : (step : ℕ → Lead Leaf1 Table1) (entry : Entry1) (bits : TableBits) (address : Option ℕ) → Type 0
GoesDown step e bits (Some a) = ((place : ℕ) → Down (below e bits a) ≡ step place) × (0 < e.left) × (a < 2 ^ 52) × (a % 8 ≡ 0)
GoesDown step e bits None = (place : ℕ) (t : Table1) → Down t ≡ step place → ⊥

-- the answer where a word leads to a leaf or a fault
abbrev pub EndsIn : (lead : Lead Leaf1 Table1) (result : Result Leaf1 Stop) → Type 0
EndsIn (Down table) r = ⊥
EndsIn (Reached l) r = r ≡ Ok l
EndsIn (Stopped f) r = r ≡ Err (Fault f)
