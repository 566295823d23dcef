-- The fields of the registers that steer translation (DDI 0487: of stage 1 SCTLR_EL1, MAIR_EL1, and TCR_EL1 with
-- TTBR0_EL1 and TTBR1_EL1; of stage 2 HCR_EL2, and VTCR_EL2 with VTTBR_EL2).
use Rattle.std.specs.Prelude.{ℕ, ◌*◌, ◌+◌, ◌<◌, ◌^◌, Bool, ◌==◌, ◌&&◌, nat_le, min, if◌then◌else◌}
use Rattle.bitwords.specs.Fields.{bits_of, bit}
use Rattle.sysregs.specs.declared.regs.Reg.{Reg}
use Rattle.sysregs.specs.declared.regs.Reg.TheVariants.{SctlrEl1, TcrEl1, Ttbr0El1, Ttbr1El1, MairEl1, HcrEl2, VtcrEl2, VttbrEl2}
use Rattle.sysregs.specs.declared.regs.Regs.{Regs}
use Rattle.sysregs.specs.declared.regs.Config.{Config}
use Rattle.sysregs.specs.declared.regs.Side.{Side}
use Rattle.sysregs.specs.declared.regs.Side.TheVariants.{Low, High}
use Rattle.sysregs.specs.declared.regs.Tg.{Tg}
use Rattle.sysregs.specs.declared.regs.Tg.TheVariants.{K4, K16, K64}

-- all registers 0
abbrev pub zero_regs : Regs
zero_regs = record { sctlr_el1 = 0; tcr_el1 = 0; ttbr0_el1 = 0; ttbr1_el1 = 0; mair_el1 = 0; hcr_el2 = 0; vtcr_el2 = 0; vttbr_el2 = 0 }

-- the registers with another value in one of them
abbrev pub set_of : (registers : Regs) (register : Reg) (value : ℕ) → Regs
set_of r SctlrEl1 w = record r { sctlr_el1 = w }
set_of r TcrEl1 w = record r { tcr_el1 = w }
set_of r Ttbr0El1 w = record r { ttbr0_el1 = w }
set_of r Ttbr1El1 w = record r { ttbr1_el1 = w }
set_of r MairEl1 w = record r { mair_el1 = w }
set_of r HcrEl2 w = record r { hcr_el2 = w }
set_of r VtcrEl2 w = record r { vtcr_el2 = w }
set_of r VttbrEl2 w = record r { vttbr_el2 = w }

-- a granule has 2 ^ granule_of bytes
abbrev pub granule_of : (granule : Tg) → ℕ
granule_of K4 = 12
granule_of K16 = 14
granule_of K64 = 16

-- TG0 of TCR_EL1 and VTCR_EL2; the reserved code is read as 4 KB (this project's own rule)
abbrev pub tg0_of : (code : ℕ) → Tg
tg0_of code = if code == 1 then K64 else (if code == 2 then K16 else K4)

-- TG1 of TCR_EL1; the reserved code is read as 4 KB (this project's own rule)
abbrev pub tg1_of : (code : ℕ) → Tg
tg1_of code = if code == 1 then K16 else (if code == 3 then K64 else K4)

-- the fields that steer a walk
abbrev pub config_of : (registers : Regs) → Config
config_of r = record {
  mair = r.mair_el1;
  t0sz = bits_of r.tcr_el1 5 0;
  t1sz = bits_of r.tcr_el1 21 16;
  sh0 = bits_of r.tcr_el1 13 12;
  sh1 = bits_of r.tcr_el1 29 28;
  ips = bits_of r.tcr_el1 34 32;
  t2sz = bits_of r.vtcr_el2 5 0;
  sl0 = bits_of r.vtcr_el2 7 6;
  sl2 = bits_of r.vtcr_el2 33 33;
  ps = bits_of r.vtcr_el2 18 16;
  tg0 = tg0_of (bits_of r.tcr_el1 15 14);
  tg1 = tg1_of (bits_of r.tcr_el1 31 30);
  tg2 = tg0_of (bits_of r.vtcr_el2 15 14);
  m = bit r.sctlr_el1 0;
  i = bit r.sctlr_el1 12;
  wxn = bit r.sctlr_el1 19;
  epan = bit r.sctlr_el1 57;
  epd0 = bit r.tcr_el1 7;
  epd1 = bit r.tcr_el1 23;
  tbi0 = bit r.tcr_el1 37;
  tbi1 = bit r.tcr_el1 38;
  tbid0 = bit r.tcr_el1 51;
  tbid1 = bit r.tcr_el1 52;
  e0pd0 = bit r.tcr_el1 55;
  e0pd1 = bit r.tcr_el1 56;
  hpd0 = bit r.tcr_el1 41;
  hpd1 = bit r.tcr_el1 42;
  ha1 = bit r.tcr_el1 39;
  hd1 = bit r.tcr_el1 40;
  vm = bit r.hcr_el2 0;
  ptw = bit r.hcr_el2 2;
  ha2 = bit r.vtcr_el2 21;
  hd2 = bit r.vtcr_el2 22;
}

-- each number of a Config is below 2 to the bits of its field
pub record InRange (c : Config) : Type 0 where
  pub mair : c.mair < 2 ^ 64
  pub t0sz : c.t0sz < 64
  pub t1sz : c.t1sz < 64
  pub sh0 : c.sh0 < 4
  pub sh1 : c.sh1 < 4
  pub ips : c.ips < 8
  pub t2sz : c.t2sz < 64
  pub sl0 : c.sl0 < 4
  pub sl2 : c.sl2 < 2
  pub ps : c.ps < 8

-- an ASID or VMID in bits 63:48, of which the upper eight are read as 0 where it isn't wide
abbrev pub id_in : (value : ℕ) (wide : Bool) → ℕ
id_in w wide = if wide then bits_of w 63 48 else bits_of w 55 48

-- the ASID in force: TCR_EL1.A1 picks the register, and AS makes it wide
abbrev pub asid_of : (registers : Regs) → ℕ
asid_of r = id_in (if bit r.tcr_el1 22 then r.ttbr1_el1 else r.ttbr0_el1) (bit r.tcr_el1 36)

-- the VMID in force: VTCR_EL2.VS makes it wide
abbrev pub vmid_of : (registers : Regs) → ℕ
vmid_of r = id_in r.vttbr_el2 (bit r.vtcr_el2 19)

-- the bits of physical address that IPS or PS names; 111 is read as 110 (this project's own rule)
abbrev pub size_named : (code : ℕ) → ℕ
size_named code =
    if code == 0 then 32
    else (if code == 1 then 36
    else (if code == 2 then 40
    else (if code == 3 then 42
    else (if code == 4 then 44
    else (if code == 5 then 48 else 52)))))

-- the output size: at most 48 bits where the granule isn't 64 KB
abbrev pub output_size : (granule code : ℕ) → ℕ
output_size g code = if g == 16 then size_named code else min (size_named code) 48

-- the base in a TTBR or VTTBR, before the bits below the table's size are cleared: BADDR, or its 52-bit form, which
-- is used where the granule is 64 KB and the size is 52 bits
abbrev pub base_field : (granule code value : ℕ) → ℕ
base_field g code w = if g == 16 && nat_le 6 code then bits_of w 5 2 * 2 ^ 48 + bits_of w 47 6 * 2 ^ 6 else bits_of w 47 1 * 2

-- the base of stage 1 for a side: TTBR0_EL1 or TTBR1_EL1
abbrev pub ttbr_base : (registers : Regs) (side : Side) → ℕ
ttbr_base r Low = base_field (granule_of (config_of r).tg0) (config_of r).ips r.ttbr0_el1
ttbr_base r High = base_field (granule_of (config_of r).tg1) (config_of r).ips r.ttbr1_el1

-- the base of stage 2: VTTBR_EL2
abbrev pub vttbr_base : (registers : Regs) → ℕ
vttbr_base r = base_field (granule_of (config_of r).tg2) (config_of r).ps r.vttbr_el2
