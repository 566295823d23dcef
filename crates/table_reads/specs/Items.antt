-- The items and the faults of a table.
use Rattle.std.specs.Prelude.{ℕ, Bool, ℤ}
use Rattle.geometry.specs.Tables.{level_of}
use Rattle.fault_codes.specs.declared.fault.Stage.{Stage}
use Rattle.fault_codes.specs.declared.fault.Class.{Class}
use Rattle.fault_codes.specs.declared.fault.Fault.{Fault}
use Rattle.trails.specs.declared.item.Item.{Item}
use Rattle.trails.specs.declared.item.What.TheVariants.{Base, Word}
use Rattle.table_reads.specs.declared.sizes.Sizes.{Sizes}

-- the item of a base, read at a moment
abbrev pub base_item : (moment : ℕ) (stage : Stage) (sizes : Sizes) (base : ℕ) → Item
base_item k s n base = record { stage = s; level = level_of n.start; what = Base; pa = base; value = base; moment = k }

-- the item of a word of a level, read at a moment
abbrev pub word_item : (moment : ℕ) (stage : Stage) (level : ℤ) (place value : ℕ) → Item
word_item k s level place value = record { stage = s; level = level; what = Word; pa = place; value = value; moment = k }

-- a fault with so many levels left, with the mark s1ptw
abbrev pub fault_at : (stage : Stage) (s1ptw : Bool) (class : Class) (left : ℕ) → Fault
fault_at s s1ptw class left = record { stage = s; level = level_of left; class = class; s1ptw = s1ptw }
