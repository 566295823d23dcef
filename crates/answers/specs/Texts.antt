-- What the commands print.
use Rattle.std.specs.Prelude.{ℕ, List, [], ◌∷◌, ◌++◌, flat_map, codes, false}
use Rattle.sysregs.specs.declared.regs.Regs.{Regs}
use Rattle.sysregs.specs.Registers.{zero_regs}
use Rattle.permissions.specs.declared.bits.El.TheVariants.{El1}
use Rattle.permissions.specs.declared.bits.Kind.TheVariants.{Read}
use Rattle.trails.specs.declared.item.Item.{Item}
use Rattle.trails.specs.declared.outcome.Access.{Access}
use Rattle.trails.specs.declared.outcome.Outcome.{Outcome}
use Rattle.trails.specs.declared.outcome.Outcome.TheVariants.{Mapped, Faulted, Absent as IsAbsent, Conflict}
use Rattle.texts.specs.Texts.{joined_text, hex_text}
use Rattle.explain_text.specs.Texts.{item_text, fault_text, absent_text}

-- stage 1 alone: SCTLR_EL1.M is 1, and all registers but TCR_EL1 and TTBR0_EL1 are otherwise 0
abbrev pub raw_regs : (tcr ttbr0 : ℕ) → Regs
raw_regs tcr ttbr0 = record zero_regs { sctlr_el1 = 1; tcr_el1 = tcr; ttbr0_el1 = ttbr0 }

-- a read at EL1 without PAN
abbrev pub raw_access : (va : ℕ) → Access
raw_access va = record { va = va; el = El1; kind = Read; pan = false }

-- `access VA el1 read`
abbrev pub raw_access_text : ℕ → List ℕ
raw_access_text va = joined_text (codes "access " ∷ hex_text va ∷ codes " el1 read\n" ∷ [])

-- `mapped PA`
abbrev pub raw_mapped_text : ℕ → List ℕ
raw_mapped_text pa = joined_text (codes "mapped " ∷ hex_text pa ∷ codes "\n" ∷ [])

-- the last line of `raw`
abbrev pub raw_outcome_text : Outcome → List ℕ
raw_outcome_text (Mapped pa perms mem sh) = raw_mapped_text pa
raw_outcome_text (Faulted f) = fault_text f
raw_outcome_text (IsAbsent s level pa s1ptw) = absent_text s level pa s1ptw
raw_outcome_text Conflict = codes "conflict fsc 0x30\n"

-- the access, the items in order, and how it comes out
abbrev pub raw_text : (va : ℕ) (items : List Item) (o : Outcome) → List ℕ
raw_text va items o = raw_access_text va ++ (flat_map (item_text false) items ++ raw_outcome_text o)
