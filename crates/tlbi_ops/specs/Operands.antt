-- What a TLBI gives (DDI 0487, the TLBI instructions and AArch64.TLBI): its ASID, its addresses, and whom it reaches.
use Rattle.std.specs.Prelude.{ℕ, ◌+◌, ◌-◌, ◌*◌, ◌^◌, Bool, ◌==◌, ◌&&◌, ◌||◌, min, if◌then◌else◌, Option}
use Rattle.std.specs.Prelude.{Some, None}
use Rattle.bitwords.specs.Fields.{bits_of, bit}
use Rattle.sysregs.specs.declared.regs.Regs.{Regs}
use Rattle.sysregs.specs.declared.regs.Op.{Op}
use Rattle.sysregs.specs.declared.ops.Scope.{Scope}
use Rattle.sysregs.specs.declared.ops.Scope.TheVariants.{PageVa, PageIpa, RangeVa, RangeIpa}
use Rattle.sysregs.specs.declared.ops.OpForm.{OpForm}
use Rattle.sysregs.specs.Ops.{form_of, is_of_el1}
use Rattle.sysregs.specs.Registers.{vmid_of, id_in}
use Rattle.tlbi_ops.specs.declared.inval.Inval.{Inval}
use Rattle.tlbi_ops.specs.declared.operands.Extent.{Extent}

-- the ASID in bits 63:48 of an operand, of which the upper eight bits are read as 0 where the issuer's ASIDs have eight
-- (TCR_EL1.AS; that it holds for every TLBI is this project's own rule)
abbrev pub asid_named : (registers : Regs) (form : OpForm) (operand : ℕ) → ℕ
asid_named r form w = if form.asid then id_in w (bit r.tcr_el1 36) else 0

-- TG of a range: 4 KB, 16 KB, 64 KB, or the reserved code, with which it covers nothing (this project's own rule)
abbrev pub range_granule : (operand : ℕ) → Option ℕ
range_granule w =
    let tg = bits_of w 47 46 in
    if tg == 1 then Some 12 else (if tg == 2 then Some 14 else (if tg == 3 then Some 16 else None))

-- (NUM + 1) * 2 ^ (5 * SCALE + 1) granules
abbrev pub range_bytes : (granule operand : ℕ) → ℕ
range_bytes g w = (bits_of w 43 39 + 1) * 2 ^ (5 * bits_of w 45 44 + 1) * 2 ^ g

-- a range from a start on, which ends at the latest where the address space ends
abbrev pub cut_at : (end start count : ℕ) → Extent
cut_at end start count = record { start = start; count = min count (end - start) }

-- the start of a range of virtual addresses: BaseADDR in granules, whose top bit is extended up to bit 55 (this project's
-- own rule)
abbrev pub start_va : (granule operand : ℕ) → ℕ
start_va g w = let start = bits_of w 36 0 * 2 ^ g in if bit w 36 then start + (2 ^ 56 - 2 ^ (37 + g)) else start

-- the start of a range of IPAs: BaseADDR in granules
abbrev pub start_ipa : (granule operand : ℕ) → ℕ
start_ipa g w = bits_of w 36 0 * 2 ^ g

-- a range with this granule
abbrev pub range_with : (operand : ℕ) (start : ℕ → ℕ) (end : ℕ) (granule : Option ℕ) → Extent
range_with w start end None = record { start = 0; count = 0 }
range_with w start end (Some g) = cut_at end (start g) (range_bytes g w)

-- the addresses of an operand; all, where the operation names none
abbrev pub extent_by : (operand : ℕ) (scope : Scope) → Extent
extent_by w PageVa = record { start = 4096 * bits_of w 43 0; count = 4096 }
extent_by w PageIpa = record { start = 4096 * bits_of w 39 0; count = 4096 }
extent_by w RangeVa = range_with w (λ g. start_va g w) (2 ^ 56) (range_granule w)
extent_by w RangeIpa = range_with w (λ g. start_ipa g w) (2 ^ 52) (range_granule w)
extent_by w _ = record { start = 0; count = 2 ^ 56 }

-- the granule of a range, and of no other operand
abbrev pub granule_by : (operand : ℕ) (scope : Scope) → Option ℕ
granule_by w RangeVa = range_granule w
granule_by w RangeIpa = range_granule w
granule_by w _ = None

-- HCR_EL2.FB
abbrev pub forces_broadcast : (registers : Regs) → Bool
forces_broadcast r = bit r.hcr_el2 9

-- whether every core is reached; shared is the IS form
abbrev pub is_broadcast : (scope : Scope) (shared at_el1 : Bool) (registers : Regs) → Bool
is_broadcast scope shared at_el1 r = shared || (at_el1 && forces_broadcast r && is_of_el1 scope)

-- what a core's TLBI gives, by its effective registers; shared is the IS form. (More than six parameters: those of the call.)
unfoldable pub inval_of : (op : Op) (shared at_el1 : Bool) (operand : ℕ) (registers : Regs) (issuer issued : ℕ) → Inval
inval_of op shared at_el1 w r issuer issued =
    let form = form_of op in
    record {
      start = (extent_by w form.scope).start;
      count = (extent_by w form.scope).count;
      granule = granule_by w form.scope;
      issued = issued;
      asid = asid_named r form w;
      vmid = vmid_of r;
      op = op;
      issuer = issuer;
      broadcast = is_broadcast form.scope shared at_el1 r;
    }

-- it reaches its issuer, and every core where it is broadcast
abbrev pub reaches_core : (inval : Inval) (core : ℕ) → Bool
reaches_core i c = i.broadcast || (i.issuer == c)
