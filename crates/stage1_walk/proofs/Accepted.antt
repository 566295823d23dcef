-- What an access that is not refused tells.
use Rattle.std.proofs.Common.{◌≡◌, Bool, true, false, not, ◌||◌, refl}
use Rattle.table_reads.specs.Numbers.{is_sized1}
use Rattle.sysregs.specs.declared.regs.Config.{Config}
use Rattle.sysregs.specs.Sides.{side_of}
use Rattle.trails.specs.declared.outcome.Access.{Access}
use Rattle.walk_spec.specs.BothStages.{is_refused1}

first_true : (a b c d : Bool) → (((not a || b) || c) || d) ≡ false → a ≡ true
first_true true b c d h = refl
first_true false b c d h = absurd cc

-- TxSZ is in range
pub accepted_size : (c : Config) (a : Access) → is_refused1 c a ≡ false → is_sized1 c (side_of a.va) ≡ true
unfolding is_refused1
accepted_size c a h = first_true _ _ _ _ h
