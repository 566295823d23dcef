-- Words of stage 1 that were kept.
use Rattle.std.specs.Prelude.{ℕ, false}
use Rattle.fault_codes.specs.declared.fault.Stage.TheVariants.{S1}
use Rattle.walk_spec.specs.declared.entry.Entry1.{Entry1}
use Rattle.walk_spec.specs.Needs.{WordNeed}

-- the word of an entry, needed at a physical place
abbrev pub needed1 : (entry : Entry1) (place : ℕ) → WordNeed
needed1 e place = record { stage = S1; left = e.left; place = place; s1ptw = false; address = e.address; table = e.table.address }
