-- What a register file that was read whole says.
use Rattle.std.proofs.Common.{◌≡◌, ℕ, ◌<◌, List, length, take, Ok, Err, sym, ◌∙◌, ap, subst}
use Rattle.sysregs.specs.declared.regs.Regs.{Regs as Registers}
use Rattle.sysregs.specs.Refused.{AreAccepted}
use Rattle.dump_file.specs.Held.{Holding, Untold, Absent, Bytes}
use Rattle.dump_file.specs.Filled.{IsFilled}
use Rattle.dump_file.specs.Opening.{IsOfSize}
use Rattle.dump_file.proofs.Filling.{whole}
use Rattle.reg_file.specs.RegisterFile.{regs_of}
use Rattle.reg_file.specs.declared.refusals.RegRefusal.{RegRefusal}
use Rattle.answers.specs.Explain.{AreRegisters}
use Rattle.statuses.specs.Stops.{AsRegisters, reason, IsRefusedBy}
use Rattle.statuses.specs.declared.status.Why.TheVariants.{Regs}

module _ (h : Holding) (m n size count : ℕ) (new : List ℕ) (o : IsOfSize h size) (s : size < length new) (f : IsFilled h m n 0 new count) where
  pub are_registers : (regs : Registers) → regs_of (take count new) ≡ Ok regs → AreAccepted regs → AreRegisters h regs
  are_registers regs e a = by_holding h o f
    where
      by_holding : (k : Holding) → IsOfSize k size → IsFilled k m n 0 new count → AreRegisters k regs
      by_holding Untold p q = a
      by_holding Absent p q = p
      by_holding (Bytes bytes) p q = ap regs_of (sym (whole bytes new count (subst (λ z. z < length new) p s) q.0 q.1)) ∙ e

  pub are_refused : (why : RegRefusal) → regs_of (take count new) ≡ Err why → IsRefusedBy h AsRegisters (Regs why)
  are_refused why e = by_holding h o f
    where
      by_holding : (k : Holding) → IsOfSize k size → IsFilled k m n 0 new count → IsRefusedBy k AsRegisters (Regs why)
      by_holding Untold p q = tt
      by_holding Absent p q = p
      by_holding (Bytes bytes) p q = ap (reason Regs) (ap regs_of (sym (whole bytes new count (subst (λ z. z < length new) p s) q.0 q.1)) ∙ e)
