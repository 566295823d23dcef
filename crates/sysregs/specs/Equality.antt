-- Whether two records of register fields are equal.
use Rattle.std.specs.Prelude.{Bool, true, false, ◌==◌, ◌&&◌}
use Rattle.sysregs.specs.declared.regs.Config.{Config}
use Rattle.sysregs.specs.Registers.{granule_of}

-- equal booleans
abbrev pub same_bool : (a b : Bool) → Bool
same_bool true true = true
same_bool true false = false
same_bool false true = false
same_bool false false = true

-- equal numbers: the sizes, shareabilities and other codes of TCR_EL1 and VTCR_EL2, and MAIR_EL1
abbrev pub same_numbers : (a b : Config) → Bool
same_numbers a b =
    (a.t0sz == b.t0sz) && (a.t1sz == b.t1sz) && (a.sh0 == b.sh0) && (a.sh1 == b.sh1) && (a.ips == b.ips) && (a.t2sz == b.t2sz)
    && (a.sl0 == b.sl0) && (a.sl2 == b.sl2) && (a.ps == b.ps) && (a.mair == b.mair)

-- equal granules
abbrev pub same_granules : (a b : Config) → Bool
same_granules a b =
    (granule_of a.tg0 == granule_of b.tg0) && (granule_of a.tg1 == granule_of b.tg1) && (granule_of a.tg2 == granule_of b.tg2)

-- equal booleans of the low side
abbrev pub same_low : (a b : Config) → Bool
same_low a b =
    same_bool a.epd0 b.epd0 && same_bool a.tbi0 b.tbi0 && same_bool a.tbid0 b.tbid0 && same_bool a.e0pd0 b.e0pd0 && same_bool a.hpd0 b.hpd0

-- equal booleans of the high side
abbrev pub same_high : (a b : Config) → Bool
same_high a b =
    same_bool a.epd1 b.epd1 && same_bool a.tbi1 b.tbi1 && same_bool a.tbid1 b.tbid1 && same_bool a.e0pd1 b.e0pd1 && same_bool a.hpd1 b.hpd1

-- equal fields of SCTLR_EL1 and HCR_EL2, and equal management of access flags and dirty state
abbrev pub same_rest : (a b : Config) → Bool
same_rest a b =
    same_bool a.m b.m && same_bool a.i b.i && same_bool a.wxn b.wxn && same_bool a.epan b.epan && same_bool a.ha1 b.ha1 && same_bool a.hd1 b.hd1
    && same_bool a.vm b.vm && same_bool a.ptw b.ptw && same_bool a.ha2 b.ha2 && same_bool a.hd2 b.hd2

-- equal register fields
unfoldable pub same_fields : (a b : Config) → Bool
same_fields a b = same_numbers a b && same_granules a b && same_low a b && same_high a b && same_rest a b
