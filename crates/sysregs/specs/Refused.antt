-- The fields that are refused where they are set. Which fields those are is this project's own rule.
use Rattle.std.specs.Prelude.{ℕ, ◌≡◌, List, [], ◌∷◌, Option, Some, None, if◌then◌else◌}
use Rattle.bitwords.specs.Fields.{bit}
use Rattle.sysregs.specs.declared.regs.Reg.{Reg}
use Rattle.sysregs.specs.declared.regs.Reg.TheVariants.{SctlrEl1, TcrEl1, Ttbr0El1, Ttbr1El1, MairEl1, HcrEl2, VtcrEl2, VttbrEl2}
use Rattle.sysregs.specs.declared.regs.Regs.{Regs}
use Rattle.sysregs.specs.declared.regs.Field.{Field}
use Rattle.sysregs.specs.declared.regs.Field.TheVariants.{Ee, Dc, Tge, Cd, Id, Fwb, Ds, Ha, Hd}

-- the refused bits of a register, the lowest first
abbrev pub refused_bits : (register : Reg) → List (ℕ × Field)
refused_bits SctlrEl1 = (25, Ee) ∷ []
refused_bits TcrEl1 = (59, Ds) ∷ []
refused_bits Ttbr0El1 = []
refused_bits Ttbr1El1 = []
refused_bits MairEl1 = []
refused_bits HcrEl2 = (12, Dc) ∷ (27, Tge) ∷ (32, Cd) ∷ (33, Id) ∷ (46, Fwb) ∷ []
refused_bits VtcrEl2 = (32, Ds) ∷ []
refused_bits VttbrEl2 = []

-- the bits that a trace's register write is refused for, the lowest first: those, and the updates of the access flag and of the
-- dirty state by hardware, which a run doesn't do
abbrev pub msr_refused_bits : (register : Reg) → List (ℕ × Field)
msr_refused_bits SctlrEl1 = refused_bits SctlrEl1
msr_refused_bits TcrEl1 = (39, Ha) ∷ (40, Hd) ∷ (59, Ds) ∷ []
msr_refused_bits Ttbr0El1 = refused_bits Ttbr0El1
msr_refused_bits Ttbr1El1 = refused_bits Ttbr1El1
msr_refused_bits MairEl1 = refused_bits MairEl1
msr_refused_bits HcrEl2 = refused_bits HcrEl2
msr_refused_bits VtcrEl2 = (21, Ha) ∷ (22, Hd) ∷ (32, Ds) ∷ []
msr_refused_bits VttbrEl2 = refused_bits VttbrEl2

-- the first of a list of bits that is set
abbrev pub first_set : (bits : List (ℕ × Field)) (value : ℕ) → Option Field
first_set [] w = None
first_set (x ∷ xs) w = if bit w x.0 then Some x.1 else first_set xs w

-- the lowest refused field that a value sets
abbrev pub refused_field : (register : Reg) (value : ℕ) → Option Field
refused_field reg w = first_set (refused_bits reg) w

-- the lowest field that a trace's register write is refused for
abbrev pub msr_refused_field : (register : Reg) (value : ℕ) → Option Field
msr_refused_field reg w = first_set (msr_refused_bits reg) w

-- what a register holds
abbrev pub value_of : (registers : Regs) (register : Reg) → ℕ
value_of r SctlrEl1 = r.sctlr_el1
value_of r TcrEl1 = r.tcr_el1
value_of r Ttbr0El1 = r.ttbr0_el1
value_of r Ttbr1El1 = r.ttbr1_el1
value_of r MairEl1 = r.mair_el1
value_of r HcrEl2 = r.hcr_el2
value_of r VtcrEl2 = r.vtcr_el2
value_of r VttbrEl2 = r.vttbr_el2

-- no register sets a refused field
abbrev pub AreAccepted : (registers : Regs) → Type 0
AreAccepted r = (register : Reg) → refused_field register (value_of r register) ≡ None
