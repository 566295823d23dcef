-- What is so of each operand: where its addresses end (DDI 0487: VA bits 55:12, IPA bits 51:12), and which operations take
-- more than others.
use Rattle.std.specs.Prelude.{◌≡◌, ℕ, ◌+◌, ◌^◌, ◌≤◌, ◌<◌, Bool, true}
use Rattle.sysregs.specs.declared.regs.Regs.{Regs}
use Rattle.sysregs.specs.declared.regs.Op.{Op}
use Rattle.sysregs.specs.declared.regs.Op.TheVariants.{Vmalle1, Vae1, Vaae1, Vale1, Aside1, Ipas2e1, Ipas2le1, Vmalls12e1, Alle1}
use Rattle.tlbi_ops.specs.declared.inval.Inval.{Inval}
use Rattle.tlbi_ops.specs.declared.inval.Tag.{Tag}
use Rattle.sysregs.specs.declared.ops.Scope.{Scope}
use Rattle.sysregs.specs.declared.ops.Scope.TheVariants.{PageIpa, RangeIpa}
use Rattle.sysregs.specs.Ops.{form_of}
use Rattle.tlbi_ops.specs.Operands.{inval_of}
use Rattle.tlbi_ops.specs.Covers.{covers}

-- where the addresses end that an operand can name
abbrev pub end_of : (scope : Scope) → ℕ
end_of PageIpa = 2 ^ 52
end_of RangeIpa = 2 ^ 52
end_of _ = 2 ^ 56

-- an invalidation holds no address beyond them. (More than six parameters: those of the call.)
abbrev pub StaysBelow : Type 0
StaysBelow =
    (op : Op) (shared at_el1 : Bool) (operand : ℕ) (registers : Regs) (issuer issued address : ℕ)
    → (inval_of op shared at_el1 operand registers issuer issued).start ≤ address
    → address < (inval_of op shared at_el1 operand registers issuer issued).start + (inval_of op shared at_el1 operand registers issuer issued).count
    → address < end_of (form_of op).scope

-- start and count don't overflow
abbrev pub EndsBelow : Type 0
EndsBelow =
    (op : Op) (shared at_el1 : Bool) (operand : ℕ) (registers : Regs) (issuer issued : ℕ)
    → (inval_of op shared at_el1 operand registers issuer issued).start + (inval_of op shared at_el1 operand registers issuer issued).count ≤ 2 ^ 56

-- what one operation takes, another takes with the same operand
abbrev pub TakesMore : (less more : Op) → Type 0
TakesMore less more = (inval : Inval) (tag : Tag) → covers (record inval { op = less }) tag ≡ true → covers (record inval { op = more }) tag ≡ true

-- leaves are fewer than rows, one ASID than all, one page than all, stage 1 than both stages, one VMID than all
pub record Widens : Type 0 where
  pub va_leaves : TakesMore Vale1 Vae1
  pub va_asid : TakesMore Vae1 Vaae1
  pub va_page : TakesMore Vaae1 Vmalle1
  pub asid : TakesMore Aside1 Vmalle1
  pub stages : TakesMore Vmalle1 Vmalls12e1
  pub ipa_leaves : TakesMore Ipas2le1 Ipas2e1
  pub ipa_page : TakesMore Ipas2e1 Vmalls12e1
  pub vmids : TakesMore Vmalls12e1 Alle1
