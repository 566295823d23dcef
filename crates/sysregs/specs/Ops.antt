-- The operations of TLBI, a row each (DDI 0487, C5.5: the TLB maintenance instructions). Those whose name begins with R take a
-- range of addresses.
use Rattle.std.specs.Prelude.{ℕ, List, [], ◌∷◌, codes, Bool, true, false}
use Rattle.sysregs.specs.declared.regs.Op.{Op}
use Rattle.sysregs.specs.declared.regs.Op.TheVariants.{Vmalle1, Vae1, Vaae1, Vale1, Vaale1, Aside1, Ipas2e1, Ipas2le1, Vmalls12e1, Alle1, Rvae1, Rvaae1}
use Rattle.sysregs.specs.declared.regs.Op.TheVariants.{Rvale1, Rvaale1, Ripas2e1, Ripas2le1}
use Rattle.sysregs.specs.declared.ops.Scope.{Scope}
use Rattle.sysregs.specs.declared.ops.Scope.TheVariants.{All, Vmid, Stage1, Asid, PageVa, PageIpa, RangeVa, RangeIpa}
use Rattle.sysregs.specs.declared.ops.OpForm.{OpForm}

-- an operation: its name without IS, the rows among which it looks, whether it names an ASID, and whether it spares tables
abbrev pub row : (name : List ℕ) (scope : Scope) (asid last_level : Bool) → List ℕ × OpForm
row name scope asid last_level = (name, record { scope = scope; asid = asid; last_level = last_level })

abbrev pub row_of : (op : Op) → List ℕ × OpForm
row_of Vmalle1 = row (codes "VMALLE1") Stage1 false false
row_of Vae1 = row (codes "VAE1") PageVa true false
row_of Vaae1 = row (codes "VAAE1") PageVa false false
row_of Vale1 = row (codes "VALE1") PageVa true true
row_of Vaale1 = row (codes "VAALE1") PageVa false true
row_of Aside1 = row (codes "ASIDE1") Asid true false
row_of Ipas2e1 = row (codes "IPAS2E1") PageIpa false false
row_of Ipas2le1 = row (codes "IPAS2LE1") PageIpa false true
row_of Vmalls12e1 = row (codes "VMALLS12E1") Vmid false false
row_of Alle1 = row (codes "ALLE1") All false false
row_of Rvae1 = row (codes "RVAE1") RangeVa true false
row_of Rvaae1 = row (codes "RVAAE1") RangeVa false false
row_of Rvale1 = row (codes "RVALE1") RangeVa true true
row_of Rvaale1 = row (codes "RVAALE1") RangeVa false true
row_of Ripas2e1 = row (codes "RIPAS2E1") RangeIpa false false
row_of Ripas2le1 = row (codes "RIPAS2LE1") RangeIpa false true

abbrev pub op_text : (op : Op) → List ℕ
op_text op = (row_of op).0

abbrev pub form_of : (op : Op) → OpForm
form_of op = (row_of op).1

abbrev pub all_ops : List Op
all_ops =
    Vmalle1 ∷ Vae1 ∷ Vaae1 ∷ Vale1 ∷ Vaale1 ∷ Aside1 ∷ Ipas2e1 ∷ Ipas2le1 ∷ Vmalls12e1 ∷ Alle1
    ∷ Rvae1 ∷ Rvaae1 ∷ Rvale1 ∷ Rvaale1 ∷ Ripas2e1 ∷ Ripas2le1 ∷ []

-- the operation has an operand: it names an ASID or addresses
abbrev pub has_operand : (scope : Scope) → Bool
has_operand All = false
has_operand Vmid = false
has_operand Stage1 = false
has_operand _ = true

-- EL1 may issue the operation, and HCR_EL2.FB makes its local form broadcast there: it is of stage 1 alone
abbrev pub is_of_el1 : (scope : Scope) → Bool
is_of_el1 Stage1 = true
is_of_el1 Asid = true
is_of_el1 PageVa = true
is_of_el1 RangeVa = true
is_of_el1 _ = false
