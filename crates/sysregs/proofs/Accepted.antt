-- What a register write of a trace may set is what any register may set.
use Rattle.std.proofs.Common.{◌≡◌, ℕ, Bool, true, false, cond, Option, Some, None}
use Rattle.std.proofs.lemmas.Option.{none-some}
use Rattle.std.proofs.Common.{sym}
use Rattle.bitwords.specs.Fields.{bit}
use Rattle.sysregs.specs.declared.regs.Reg.{Reg}
use Rattle.sysregs.specs.declared.regs.Reg.TheVariants.{SctlrEl1, TcrEl1, Ttbr0El1, Ttbr1El1, MairEl1, HcrEl2, VtcrEl2, VttbrEl2}
use Rattle.sysregs.specs.declared.regs.Field.{Field}
use Rattle.sysregs.specs.Refused.{refused_field, msr_refused_field}

-- where none of a list of bits is set, none of what stands behind its first is
behind : (b : Bool) (field : Field) (rest : Option Field) → cond b (Some field) rest ≡ None → rest ≡ None
behind true field rest h = absurd (none-some field (sym h))
behind false field rest h = h

pub accepted_by_msr : (reg : Reg) (value : ℕ) → msr_refused_field reg value ≡ None → refused_field reg value ≡ None
accepted_by_msr SctlrEl1 w h = h
accepted_by_msr TcrEl1 w h = behind (bit w 40) _ _ (behind (bit w 39) _ _ h)
accepted_by_msr Ttbr0El1 w h = h
accepted_by_msr Ttbr1El1 w h = h
accepted_by_msr MairEl1 w h = h
accepted_by_msr HcrEl2 w h = h
accepted_by_msr VtcrEl2 w h = behind (bit w 22) _ _ (behind (bit w 21) _ _ h)
accepted_by_msr VttbrEl2 w h = h
