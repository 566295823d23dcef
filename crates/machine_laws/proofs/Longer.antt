-- What a log means behind one more step that issues no invalidation.
use Rattle.std.proofs.Common.{◌≡◌, ℕ, ◌<◌, ◌≤◌, true, false, List, [], ◌∷◌, ◌++◌}
use Rattle.std.proofs.Common.{length, take, refl, sym, ap, ◌∙◌, subst, Some, arith}
use Rattle.std.proofs.lemmas.List.{take-append-le, take_at}
use Rattle.sysregs.specs.declared.regs.Regs.{Regs}
use Rattle.sysregs.specs.declared.regs.Side.{Side}
use Rattle.sysregs.specs.declared.regs.Config.{Config}
use Rattle.sysregs.specs.Registers.{config_of, asid_of, vmid_of}
use Rattle.fault_codes.specs.declared.fault.Stage.{Stage}
use Rattle.fault_codes.specs.declared.fault.Stage.TheVariants.{S1, S2}
use Rattle.trails.specs.declared.step.Step.{Step}
use Rattle.tlbi_ops.specs.declared.inval.Inval.{Inval}
use Rattle.tlbi_ops.specs.Covers.{covers, is_stage1}
use Rattle.machine_spec.specs.Moments.{memory_after, regs_after, regs_at}
use Rattle.machine_spec.specs.Invalidations.{inval_at}
use Rattle.machine_spec.specs.Marks.{Mark, is_first, tag_by}
use Rattle.machine_spec.specs.Kept.{View, now, base_by, tag_of, IsHeld, IsKeptItem}
use Rattle.machine_laws.proofs.Facts.{sided}
use Rattle.machine_laws.proofs.Fine.{longer, issued_now}
use Rattle.machine_laws.proofs.Logs.{regs-old, inval-old, inval-last, inval-within, issued_at}
use Rattle.machine_laws.proofs.Lasting.{at_last, complete_on}

-- the moment of the step itself
pub regs_now : (log : List Step) (s : Step) (c k : ℕ) → k ≡ length log → regs_at (log ++ s ∷ []) c k ≡ regs_after c log
regs_now log s c k h = ap (regs_after c) (take_at log (s ∷ []) k (sym h))

-- SIDES

-- the base of an item is the same for both sides
abbrev pub OfBoth : Side → Side → Mark → Type 0
OfBoth s t m = (g : Regs) → base_by g t m.stage ≡ base_by g s m.stage

by_stage : (s t : Side) (stage : Stage) → is_stage1 stage ≡ false → (g : Regs) → base_by g t stage ≡ base_by g s stage
by_stage s t S1 h g = absurd cc
by_stage s t S2 h g = refl

pub both_second : (s t : Side) (m : Mark) → is_first m ≡ false → OfBoth s t m
both_second s t m h = by_stage s t m.stage h

pub both_same : (s t : Side) (m : Mark) → t ≡ s → OfBoth s t m
both_same s t m e g = ap (λ u. base_by g u m.stage) e

module _ (v : View) (s : Step) (t : Side) where
  abbrev Behind : View
  Behind = sided (longer v s) t

  pub held_on : (cf : Config) (vm : ℕ) (m : Mark) → OfBoth v.side t m → m.item.moment ≤ now v → IsHeld v cf vm m → IsHeld Behind cf vm m
  held_on cf vm m both h f =
      let e : regs_at (v.log ++ s ∷ []) v.core m.item.moment ≡ regs_at v.log v.core m.item.moment = regs-old v.log s v.core m.item.moment h in
      let q : take m.item.moment (v.log ++ s ∷ []) ≡ take m.item.moment v.log = take-append-le m.item.moment v.log (s ∷ []) h in
      record {
        config_was = ap config_of e ∙ f.config_was;
        vmid_was = ap vmid_of e ∙ f.vmid_was;
        base = λ b. ap (λ g. base_by g t m.stage) e ∙ both (regs_at v.log v.core m.item.moment) ∙ f.base b;
        word = λ b. ap (λ l. memory_after v.header l m.item.pa) q ∙ f.word b;
      }

  -- an item that is kept up to a use stays so
  pub kept_on : (cf : Config) (vm : ℕ) (m : Mark) (use_ : ℕ) → OfBoth v.side t m → use_ ≤ now v → IsKeptItem v cf vm m use_
      → IsKeptItem Behind cf vm m use_
  kept_on cf vm m use_ both h f = record {
    past = f.past;
    held = held_on cf vm m both (omega (arith, f.past)) f.held;
    at_base = f.at_base;
    asid = λ n. ap asid_of (regs-old v.log s v.core m.item.moment (omega (arith, f.past))) ∙ f.asid n ∙ sym (ap asid_of (regs-old v.log s v.core use_ h));
    live = λ word k i past at reach cov done.
        let e : i.issued ≡ k = issued_at (v.log ++ s ∷ []) k i at in
        let lt : k < length v.log = omega (arith, e, done.later, done.earlier) in
        let tag : tag_of Behind m ≡ tag_of v m = ap (λ g. tag_by g m) (regs-old v.log s v.core m.item.moment (omega (arith, f.past))) in
        f.live word k i past (sym (inval-old v.log s k lt) ∙ at) reach (subst (λ x. covers i x ≡ true) tag cov) (complete_on v s use_ i h done);
  }

  -- behind a step that issues none, no invalidation has a number from the old length on
  pub none_since : ((i : Inval) → issued_now v s.event ≡ Some i → ⊥) → (k : ℕ) (i : Inval) → now v ≤ k
      → inval_at (v.log ++ s ∷ []) k ≡ Some i → ⊥
  none_since none k i past at =
      let q : k ≡ length v.log = at_last v.log s k past (inval-within (v.log ++ s ∷ []) k i at) in
      let at2 : inval_at (v.log ++ s ∷ []) (length v.log) ≡ Some i = subst (λ x. inval_at (v.log ++ s ∷ []) x ≡ Some i) q at in
      none i (sym (inval-last v.log s) ∙ at2)
