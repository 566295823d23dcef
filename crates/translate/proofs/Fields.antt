-- Register fields that differ in the management of access flags alone give the same numbers.
use Rattle.std.proofs.Common.{◌≡◌, refl, sym, subst, Bool, false, Ok}
use Rattle.geometry.specs.Tables.{level_of}
use Rattle.sysregs.specs.declared.regs.Config.{Config}
use Rattle.sysregs.specs.declared.regs.Regs.{Regs}
use Rattle.sysregs.specs.declared.regs.Side.{Side}
use Rattle.sysregs.specs.Registers.{config_of}
use Rattle.permissions.specs.Rights.{no_bits}
use Rattle.table_reads.specs.Numbers.{sizes1, sizes2}
use Rattle.table_reads.specs.Places.{is_too_large}
use Rattle.walk_spec.specs.Fresh.{start_base1, start_base2}
use Rattle.translate.specs.Parts.{AreFieldsOf, root1_of, root2_of}

pub same_sizes1 : (c : Config) (regs : Regs) (s : Side) → AreFieldsOf c regs → sizes1 c s ≡ sizes1 (config_of regs) s
unfolding sizes1
same_sizes1 c regs s h = subst (λ z. sizes1 z s ≡ sizes1 (config_of regs) s) (sym h) refl

pub same_sizes2 : (c : Config) (regs : Regs) → AreFieldsOf c regs → sizes2 c ≡ sizes2 (config_of regs)
unfolding sizes2
same_sizes2 c regs h = subst (λ z. sizes2 z ≡ sizes2 (config_of regs)) (sym h) refl

-- a base that is not too large is a table
pub root1_small : (regs : Regs) (s : Side) → is_too_large (sizes1 (config_of regs) s) (start_base1 regs s) ≡ false
    → Ok record { base = start_base1 regs s; level = level_of (sizes1 (config_of regs) s).start; tables = no_bits } ≡ root1_of regs s
root1_small regs s h = rw h refl

pub root2_small : (regs : Regs) (s1ptw : Bool) → is_too_large (sizes2 (config_of regs)) (start_base2 regs) ≡ false
    → Ok record { base = start_base2 regs; level = level_of (sizes2 (config_of regs)).start } ≡ root2_of regs s1ptw
root2_small regs s1ptw h = rw h refl
