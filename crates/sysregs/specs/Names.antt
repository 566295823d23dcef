-- The names of registers and of refused fields in texts. The forms are this project's own rule, the names those of the manual.
use Rattle.std.specs.Prelude.{ℕ, List, codes}
use Rattle.sysregs.specs.declared.regs.Reg.{Reg}
use Rattle.sysregs.specs.declared.regs.Reg.TheVariants.{SctlrEl1, TcrEl1, Ttbr0El1, Ttbr1El1, MairEl1, HcrEl2, VtcrEl2, VttbrEl2}
use Rattle.sysregs.specs.declared.regs.Field.{Field}
use Rattle.sysregs.specs.declared.regs.Field.TheVariants.{Ee, Dc, Tge, Cd, Id, Fwb, Ds, Ha, Hd}

-- a register's name in capitals
abbrev pub reg_text : (register : Reg) → List ℕ
reg_text SctlrEl1 = codes "SCTLR_EL1"
reg_text TcrEl1 = codes "TCR_EL1"
reg_text Ttbr0El1 = codes "TTBR0_EL1"
reg_text Ttbr1El1 = codes "TTBR1_EL1"
reg_text MairEl1 = codes "MAIR_EL1"
reg_text HcrEl2 = codes "HCR_EL2"
reg_text VtcrEl2 = codes "VTCR_EL2"
reg_text VttbrEl2 = codes "VTTBR_EL2"

-- a register's name in lower case, as the key of a register file
abbrev pub reg_key : (register : Reg) → List ℕ
reg_key SctlrEl1 = codes "sctlr_el1"
reg_key TcrEl1 = codes "tcr_el1"
reg_key Ttbr0El1 = codes "ttbr0_el1"
reg_key Ttbr1El1 = codes "ttbr1_el1"
reg_key MairEl1 = codes "mair_el1"
reg_key HcrEl2 = codes "hcr_el2"
reg_key VtcrEl2 = codes "vtcr_el2"
reg_key VttbrEl2 = codes "vttbr_el2"

-- a field's name in capitals
abbrev pub field_text : (field : Field) → List ℕ
field_text Ee = codes "EE"
field_text Dc = codes "DC"
field_text Tge = codes "TGE"
field_text Cd = codes "CD"
field_text Id = codes "ID"
field_text Fwb = codes "FWB"
field_text Ds = codes "DS"
field_text Ha = codes "HA"
field_text Hd = codes "HD"
