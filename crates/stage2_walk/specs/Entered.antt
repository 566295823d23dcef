-- What stage 2 decides before any table.
use Rattle.std.specs.Prelude.{◌≡◌, ℕ, Bool, true, false, if◌then◌else◌, Option, Some, None, Result, Ok, Err}
use Rattle.geometry.specs.Tables.{most_left}
use Rattle.sysregs.specs.declared.regs.Config.{Config}
use Rattle.fault_codes.specs.declared.fault.Stage.TheVariants.{S2}
use Rattle.fault_codes.specs.declared.fault.Class.TheVariants.{Translation}
use Rattle.fault_codes.specs.declared.fault.Fault.{Fault}
use Rattle.table_reads.specs.declared.sizes.Sizes.{Sizes}
use Rattle.table_reads.specs.Numbers.{is_sized2, sizes2}
use Rattle.table_reads.specs.Items.{fault_at}
use Rattle.walk_spec.specs.Stage2.{is_refused2}

-- these are the numbers of stage 2, which are there where its sizes are in range and suit each other
abbrev pub IsSized2 : (config : Config) (sizes : Option Sizes) → Type 0
IsSized2 c None = is_sized2 c ≡ false
IsSized2 c (Some n) = (is_sized2 c ≡ true) × (n ≡ sizes2 c)

-- the numbers under which an IPA is walked, or the fault of one that is refused
abbrev pub enter2_of : (config : Config) (ipa : ℕ) (s1ptw : Bool) → Result Sizes Fault
enter2_of c ipa s1ptw = if is_refused2 c ipa then Err (fault_at S2 s1ptw Translation most_left) else Ok (sizes2 c)
