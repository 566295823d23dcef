-- The registers of an accepted read.
use Rattle.std.proofs.Common.{◌≡◌, ℕ, Option, Some, None, option_map, refl}
use Rattle.sysregs.specs.declared.regs.Reg.TheVariants.{SctlrEl1, TcrEl1, Ttbr0El1, Ttbr1El1, MairEl1, HcrEl2, VtcrEl2, VttbrEl2}
use Rattle.sysregs.specs.Refused.{refused_field, AreAccepted}
use Rattle.commands.specs.Asked.{Raw, RawWords}
use Rattle.answers.specs.Texts.{raw_regs}
use Rattle.answers.specs.Answers.{words_refusal}

none_maps : {A B : Type 0} (f : A → B) (o : Option A) → option_map f o ≡ None → o ≡ None
none_maps f None h = refl
none_maps f (Some x) h = absurd (let bad : Some (f x) ≡ None = h in cc)

-- words that are accepted set no refused field of TCR_EL1
pub tcr_accepted : (a : RawWords) → words_refusal (Raw a) ≡ None → refused_field TcrEl1 a.tcr ≡ None
tcr_accepted a h = none_maps _ (refused_field TcrEl1 a.tcr) h

-- no refused field is set where TCR_EL1 sets none
pub raw_accepted : (tcr ttbr0 : ℕ) → refused_field TcrEl1 tcr ≡ None → AreAccepted (raw_regs tcr ttbr0)
raw_accepted tcr ttbr0 h SctlrEl1 = refl
raw_accepted tcr ttbr0 h TcrEl1 = h
raw_accepted tcr ttbr0 h Ttbr0El1 = refl
raw_accepted tcr ttbr0 h Ttbr1El1 = refl
raw_accepted tcr ttbr0 h MairEl1 = refl
raw_accepted tcr ttbr0 h HcrEl2 = refl
raw_accepted tcr ttbr0 h VtcrEl2 = refl
raw_accepted tcr ttbr0 h VttbrEl2 = refl
