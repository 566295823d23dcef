-- Which rows an invalidation covers (DDI 0487, AArch64.TLBI).
use Rattle.std.specs.Prelude.{ℕ, ◌+◌, ◌^◌, Bool, true, false, not, ◌==◌, ◌&&◌, ◌||◌, nat_lt, Option, Some, None}
use Rattle.sysregs.specs.declared.ops.Scope.{Scope}
use Rattle.sysregs.specs.declared.ops.Scope.TheVariants.{All, Vmid, Stage1, Asid, PageVa, PageIpa, RangeVa, RangeIpa}
use Rattle.sysregs.specs.declared.ops.OpForm.{OpForm}
use Rattle.sysregs.specs.Ops.{form_of}
use Rattle.fault_codes.specs.declared.fault.Stage.{Stage}
use Rattle.fault_codes.specs.declared.fault.Stage.TheVariants.{S1, S2}
use Rattle.tlbi_ops.specs.declared.inval.Inval.{Inval}
use Rattle.tlbi_ops.specs.declared.inval.Tag.{Tag}

-- the row is of stage 1
abbrev pub is_stage1 : (stage : Stage) → Bool
is_stage1 S1 = true
is_stage1 S2 = false

-- the addresses of the invalidation and of the row have one in common
abbrev pub shares_address : (inval : Inval) (tag : Tag) → Bool
shares_address i t = nat_lt t.start (i.start + i.count) && nat_lt i.start (t.start + 2 ^ t.class) && nat_lt 0 i.count

-- the row was read with the granule of the range
abbrev pub is_of_granule : (granule : Option ℕ) (tag : Tag) → Bool
is_of_granule None t = false
is_of_granule (Some g) t = g == t.granule

-- a stage 1 row that has an address in common
abbrev pub holds_va : (inval : Inval) (tag : Tag) → Bool
holds_va i t = is_stage1 t.stage && shares_address i t

-- a stage 2 row that has an address in common
abbrev pub holds_ipa : (inval : Inval) (tag : Tag) → Bool
holds_ipa i t = not (is_stage1 t.stage) && shares_address i t

-- the rows of a scope, of any VMID
abbrev pub is_in : (scope : Scope) (inval : Inval) (tag : Tag) → Bool
is_in All i t = true
is_in Vmid i t = true
is_in Stage1 i t = is_stage1 t.stage
is_in Asid i t = is_stage1 t.stage && not t.global
is_in PageVa i t = holds_va i t
is_in PageIpa i t = holds_ipa i t
is_in RangeVa i t = is_of_granule i.granule t && holds_va i t
is_in RangeIpa i t = is_of_granule i.granule t && holds_ipa i t

-- a global row, one of the ASID that the operand names, or any where it names none
abbrev pub suits_asid : (form : OpForm) (inval : Inval) (tag : Tag) → Bool
suits_asid f i t = not f.asid || t.global || (i.asid == t.asid)

-- no table, where the operation spares tables
abbrev pub suits_level : (form : OpForm) (tag : Tag) → Bool
suits_level f t = not (f.last_level && t.table)

-- the rows that an operation of this form takes, of any VMID
abbrev pub takes : (form : OpForm) (inval : Inval) (tag : Tag) → Bool
takes f i t = is_in f.scope i t && suits_asid f i t && suits_level f t

-- ALLE1 takes the rows of every VMID, each other operation those of one
abbrev pub suits_vmid : (scope : Scope) (inval : Inval) (tag : Tag) → Bool
suits_vmid All i t = true
suits_vmid _ i t = i.vmid == t.vmid

-- the rows that an invalidation covers
unfoldable pub covers : (inval : Inval) (tag : Tag) → Bool
covers i t = let form = form_of i.op in suits_vmid form.scope i t && takes form i t
