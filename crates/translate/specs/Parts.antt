-- The parts of the walk of an access, each by the register fields.
use Rattle.std.specs.Prelude.{ℕ, ◌≡◌, ◌%◌, ◌^◌, Bool, true, false, if◌then◌else◌, ℤ, Option, Some, None, Result, Ok, Err}
use Rattle.geometry.specs.Tables.{most_left, level_of}
use Rattle.sysregs.specs.declared.regs.Config.{Config}
use Rattle.sysregs.specs.declared.regs.Regs.{Regs}
use Rattle.sysregs.specs.declared.regs.Side.{Side}
use Rattle.sysregs.specs.Registers.{config_of}
use Rattle.sysregs.specs.Sides.{side_of}
use Rattle.permissions.specs.Rights.{no_bits}
use Rattle.fault_codes.specs.declared.fault.Stage.{Stage}
use Rattle.fault_codes.specs.declared.fault.Stage.TheVariants.{S1, S2}
use Rattle.fault_codes.specs.declared.fault.Class.{Class}
use Rattle.fault_codes.specs.declared.fault.Class.TheVariants.{Translation, AddressSize, Permission}
use Rattle.fault_codes.specs.declared.fault.Fault.{Fault}
use Rattle.trails.specs.declared.outcome.Access.{Access}
use Rattle.trails.specs.declared.outcome.Outcome.{Outcome}
use Rattle.table_reads.specs.declared.sizes.Sizes.{Sizes}
use Rattle.table_reads.specs.Numbers.{sizes1, sizes2}
use Rattle.table_reads.specs.Places.{is_too_large}
use Rattle.table_reads.specs.Items.{fault_at}
use Rattle.walk_spec.specs.declared.leaf.Leaf1.{Leaf1}
use Rattle.walk_spec.specs.declared.leaf.Leaf2.{Leaf2}
use Rattle.walk_spec.specs.Steps.{reaches}
use Rattle.walk_spec.specs.Stage2.{is_refused2}
use Rattle.walk_spec.specs.BothStages.{is_refused1, is_refused_off, off_leaf, landed, judged2, outcome_of}
use Rattle.walk_spec.specs.Fresh.{start_base1, start_base2}
use Rattle.stage1_walk.specs.declared.walk.From1.{From1}
use Rattle.stage2_walk.specs.declared.walk.From2.{From2}
use Rattle.translate.specs.declared.parts.ends.Gives.{Gives}
use Rattle.translate.specs.declared.begin.Begin1.{Begin1}
use Rattle.translate.specs.declared.begin.Begin1.TheVariants.{Off, On}

-- register fields that are those of the registers but for the management of access flags and dirty state in stage 1
abbrev pub AreFieldsOf : (config : Config) (regs : Regs) → Type 0
AreFieldsOf c regs = c ≡ record (config_of regs) { ha1 = c.ha1; hd1 = c.hd1 }

-- a fault that has no word, of level 0
abbrev pub refusal : (stage : Stage) (s1ptw : Bool) (class : Class) → Fault
refusal s s1ptw class = fault_at s s1ptw class most_left

-- stage 1 while it is off gives VA bits 51 to 0, or refuses the access
abbrev pub off1_of : (config : Config) (access : Access) → Result ℕ Fault
off1_of c a = if is_refused_off c a then Err (refusal S1 false AddressSize) else Ok (a.va % 2 ^ 52)

-- stage 1 while it is on walks with the numbers of the access's side, or refuses the access
abbrev pub enter1_of : (config : Config) (access : Access) → Result Sizes Fault
enter1_of c a = if is_refused1 c a then Err (refusal S1 false Translation) else Ok (sizes1 c (side_of a.va))

-- before the base of stage 1, while it is on
abbrev pub begin1_on : (config : Config) (access : Access) → Result Begin1 Fault
begin1_on c a = if is_refused1 c a then Err (refusal S1 false Translation) else Ok (On (side_of a.va) (level_of (sizes1 c (side_of a.va)).start))

-- before the base of stage 1
abbrev pub begin1_of : (config : Config) (access : Access) → Result Begin1 Fault
begin1_of c a = if c.m then begin1_on c a else (if is_refused_off c a then Err (refusal S1 false AddressSize) else Ok (Off (a.va % 2 ^ 52)))

-- the base of stage 1 is a table without bits of tables above it, or too large
abbrev pub root1_of : (regs : Regs) (side : Side) → Result From1 Fault
root1_of regs s =
    let n = sizes1 (config_of regs) s in
    let base = start_base1 regs s in
    if is_too_large n base then Err (refusal S1 false AddressSize) else Ok record { base = base; level = level_of n.start; tables = no_bits }

-- before the base of stage 2
abbrev pub begin2_of : (config : Config) (ipa : ℕ) (s1ptw : Bool) → Result ℤ Fault
begin2_of c ipa s1ptw = if is_refused2 c ipa then Err (refusal S2 s1ptw Translation) else Ok (level_of (sizes2 c).start)

-- the base of stage 2 is a table, or too large
abbrev pub root2_of : (regs : Regs) (s1ptw : Bool) → Result From2 Fault
root2_of regs s1ptw =
    let n = sizes2 (config_of regs) in
    let base = start_base2 regs in
    if is_too_large n base then Err (refusal S2 s1ptw AddressSize) else Ok record { base = base; level = level_of n.start }

-- stage 2 refuses the read of a descriptor
abbrev pub unreadable : (leaf : Leaf2) → Fault
unreadable l = record { stage = S2; level = l.level; class = Permission; s1ptw = true }

-- what stage 1 gave: a leaf, or what it gives while it is off
abbrev pub leaf1_or_off : (config : Config) (access : Access) (leaf : Option Leaf1) → Leaf1
leaf1_or_off c a None = off_leaf c a
leaf1_or_off c a (Some l) = l

-- the output of stage 1; while it is off, VA bits 51 to 0
abbrev pub out_of : (access : Access) (leaf : Option Leaf1) → ℕ
out_of a None = a.va % 2 ^ 52
out_of a (Some l) = l.out

-- how an access comes out behind both leaves; without one of stage 2 that stage is off
abbrev pub finish_of : (config : Config) (access : Access) (leaf1 : Option Leaf1) (leaf2 : Option Leaf2) → Outcome
finish_of c a leaf1 None = outcome_of (reaches (landed (leaf1_or_off c a leaf1)))
finish_of c a leaf1 (Some m) = outcome_of (judged2 true a (leaf1_or_off c a leaf1) (reaches m))

-- what a leaf of stage 1 gives besides its output
abbrev pub gives_of : (leaf : Leaf1) → Gives
gives_of l = record { perms = l.perms; mem = l.mem; sh = l.sh }
