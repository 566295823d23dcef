-- The fields of TCR_EL1 that each half of the virtual addresses has of its own.
use Rattle.std.specs.Prelude.{ℕ, Bool, if◌then◌else◌}
use Rattle.bitwords.specs.Fields.{bit}
use Rattle.sysregs.specs.declared.regs.Config.{Config}
use Rattle.sysregs.specs.declared.regs.Side.{Side}
use Rattle.sysregs.specs.declared.regs.Side.TheVariants.{Low, High}
use Rattle.sysregs.specs.declared.regs.Tg.{Tg}

-- VA bit 55 names the side
abbrev pub side_of : (address : ℕ) → Side
side_of va = if bit va 55 then High else Low

-- the one of two values that is of the side
abbrev pub by_side : {A : Type 0} → (side : Side) (low high : A) → A
by_side Low low high = low
by_side High low high = high

-- T0SZ or T1SZ
abbrev pub txsz_of : (config : Config) (side : Side) → ℕ
txsz_of c s = by_side s c.t0sz c.t1sz

-- TG0 or TG1
abbrev pub tg_of : (config : Config) (side : Side) → Tg
tg_of c s = by_side s c.tg0 c.tg1

-- EPD0 or EPD1
abbrev pub epd_of : (config : Config) (side : Side) → Bool
epd_of c s = by_side s c.epd0 c.epd1

-- TBI0 or TBI1
abbrev pub tbi_of : (config : Config) (side : Side) → Bool
tbi_of c s = by_side s c.tbi0 c.tbi1

-- TBID0 or TBID1
abbrev pub tbid_of : (config : Config) (side : Side) → Bool
tbid_of c s = by_side s c.tbid0 c.tbid1

-- E0PD0 or E0PD1
abbrev pub e0pd_of : (config : Config) (side : Side) → Bool
e0pd_of c s = by_side s c.e0pd0 c.e0pd1

-- HPD0 or HPD1
abbrev pub hpd_of : (config : Config) (side : Side) → Bool
hpd_of c s = by_side s c.hpd0 c.hpd1
