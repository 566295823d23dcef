-- Registers and queues that stay accepted.
use Rattle.std.proofs.Common.{◌≡◌, ◌<◌, ℕ, List, [], ◌∷◌, length, false, None, arith, refl, inl, inr}
use Rattle.std.specs.Prelude.{All, fold, nat_lt}
use Rattle.std.proofs.lemmas.Bool.{cases_Bool, ltb-true}
use Rattle.std.proofs.lemmas.List.{length-append}
use Rattle.std.proofs.lemmas.List.Elements.{All-nil, All-push, All-head, All-tail}
use Rattle.sysregs.specs.declared.regs.Reg.{Reg}
use Rattle.sysregs.specs.declared.regs.Reg.TheVariants.{SctlrEl1, TcrEl1, Ttbr0El1, Ttbr1El1, MairEl1, HcrEl2, VtcrEl2, VttbrEl2}
use Rattle.sysregs.specs.declared.regs.Regs.{Regs}
use Rattle.sysregs.specs.Registers.{set_of, zero_regs}
use Rattle.sysregs.specs.Refused.{refused_field, value_of, AreAccepted}
use Rattle.machine_spec.specs.Moments.{Write, Bank, most_queued, written, settled_by, settled, drained, appended, queued}
use Rattle.cpu_model.specs.Cores.{IsBank}

-- the register that is set holds the value, and each other one what it held
set_accepted : (r : Regs) (reg : Reg) (value : ℕ) → AreAccepted r → refused_field reg value ≡ None → AreAccepted (set_of r reg value)
set_accepted r SctlrEl1 value ok h at =
    elim at as (λ x. refused_field x (value_of (set_of r SctlrEl1 value) x) ≡ None) [
      | SctlrEl1 ↦ h
      | TcrEl1 ↦ ok TcrEl1
      | Ttbr0El1 ↦ ok Ttbr0El1
      | Ttbr1El1 ↦ ok Ttbr1El1
      | MairEl1 ↦ ok MairEl1
      | HcrEl2 ↦ ok HcrEl2
      | VtcrEl2 ↦ ok VtcrEl2
      | VttbrEl2 ↦ ok VttbrEl2
    ]
set_accepted r TcrEl1 value ok h at =
    elim at as (λ x. refused_field x (value_of (set_of r TcrEl1 value) x) ≡ None) [
      | SctlrEl1 ↦ ok SctlrEl1
      | TcrEl1 ↦ h
      | Ttbr0El1 ↦ ok Ttbr0El1
      | Ttbr1El1 ↦ ok Ttbr1El1
      | MairEl1 ↦ ok MairEl1
      | HcrEl2 ↦ ok HcrEl2
      | VtcrEl2 ↦ ok VtcrEl2
      | VttbrEl2 ↦ ok VttbrEl2
    ]
set_accepted r Ttbr0El1 value ok h at =
    elim at as (λ x. refused_field x (value_of (set_of r Ttbr0El1 value) x) ≡ None) [
      | SctlrEl1 ↦ ok SctlrEl1
      | TcrEl1 ↦ ok TcrEl1
      | Ttbr0El1 ↦ h
      | Ttbr1El1 ↦ ok Ttbr1El1
      | MairEl1 ↦ ok MairEl1
      | HcrEl2 ↦ ok HcrEl2
      | VtcrEl2 ↦ ok VtcrEl2
      | VttbrEl2 ↦ ok VttbrEl2
    ]
set_accepted r Ttbr1El1 value ok h at =
    elim at as (λ x. refused_field x (value_of (set_of r Ttbr1El1 value) x) ≡ None) [
      | SctlrEl1 ↦ ok SctlrEl1
      | TcrEl1 ↦ ok TcrEl1
      | Ttbr0El1 ↦ ok Ttbr0El1
      | Ttbr1El1 ↦ h
      | MairEl1 ↦ ok MairEl1
      | HcrEl2 ↦ ok HcrEl2
      | VtcrEl2 ↦ ok VtcrEl2
      | VttbrEl2 ↦ ok VttbrEl2
    ]
set_accepted r MairEl1 value ok h at =
    elim at as (λ x. refused_field x (value_of (set_of r MairEl1 value) x) ≡ None) [
      | SctlrEl1 ↦ ok SctlrEl1
      | TcrEl1 ↦ ok TcrEl1
      | Ttbr0El1 ↦ ok Ttbr0El1
      | Ttbr1El1 ↦ ok Ttbr1El1
      | MairEl1 ↦ h
      | HcrEl2 ↦ ok HcrEl2
      | VtcrEl2 ↦ ok VtcrEl2
      | VttbrEl2 ↦ ok VttbrEl2
    ]
set_accepted r HcrEl2 value ok h at =
    elim at as (λ x. refused_field x (value_of (set_of r HcrEl2 value) x) ≡ None) [
      | SctlrEl1 ↦ ok SctlrEl1
      | TcrEl1 ↦ ok TcrEl1
      | Ttbr0El1 ↦ ok Ttbr0El1
      | Ttbr1El1 ↦ ok Ttbr1El1
      | MairEl1 ↦ ok MairEl1
      | HcrEl2 ↦ h
      | VtcrEl2 ↦ ok VtcrEl2
      | VttbrEl2 ↦ ok VttbrEl2
    ]
set_accepted r VtcrEl2 value ok h at =
    elim at as (λ x. refused_field x (value_of (set_of r VtcrEl2 value) x) ≡ None) [
      | SctlrEl1 ↦ ok SctlrEl1
      | TcrEl1 ↦ ok TcrEl1
      | Ttbr0El1 ↦ ok Ttbr0El1
      | Ttbr1El1 ↦ ok Ttbr1El1
      | MairEl1 ↦ ok MairEl1
      | HcrEl2 ↦ ok HcrEl2
      | VtcrEl2 ↦ h
      | VttbrEl2 ↦ ok VttbrEl2
    ]
set_accepted r VttbrEl2 value ok h at =
    elim at as (λ x. refused_field x (value_of (set_of r VttbrEl2 value) x) ≡ None) [
      | SctlrEl1 ↦ ok SctlrEl1
      | TcrEl1 ↦ ok TcrEl1
      | Ttbr0El1 ↦ ok Ttbr0El1
      | Ttbr1El1 ↦ ok Ttbr1El1
      | MairEl1 ↦ ok MairEl1
      | HcrEl2 ↦ ok HcrEl2
      | VtcrEl2 ↦ ok VtcrEl2
      | VttbrEl2 ↦ h
    ]

pub zero_accepted : AreAccepted zero_regs
zero_accepted at =
    elim at as (λ x. refused_field x (value_of zero_regs x) ≡ None)
    [ SctlrEl1 ↦ refl | TcrEl1 ↦ refl | Ttbr0El1 ↦ refl | Ttbr1El1 ↦ refl | MairEl1 ↦ refl | HcrEl2 ↦ refl | VtcrEl2 ↦ refl | VttbrEl2 ↦ refl ]

abbrev AreGood : List Write → Type 0
AreGood queue = All (λ w. refused_field w.0 w.1 ≡ None) queue

abbrev is_good : Write → Type 0
is_good w = refused_field w.0 w.1 ≡ None

-- the registers behind writes
pub all_accepted : (r : Regs) (queue : List Write) → AreAccepted r → AreGood queue → AreAccepted (fold written r queue)
all_accepted r [] ok h = ok
all_accepted r (w ∷ queue) ok h = all_accepted (written r w) queue (set_accepted r w.0 w.1 ok (All-head is_good w queue h)) (All-tail is_good w queue h)

pub is_settled : (b : Bank) → IsBank b → IsBank (settled b)
is_settled b h = settled_one b.regs b.queue h
  where
    settled_one : (r : Regs) (queue : List Write) → IsBank (record { regs = r; queue = queue }) → IsBank (settled_by r queue)
    settled_one r [] h = h
    settled_one r (w ∷ queue) h = record {
      few = (let f = h.few in omega arith);
      waiting = All-tail is_good w queue h.waiting;
      accepted = set_accepted r w.0 w.1 h.accepted (All-head is_good w queue h.waiting);
    }

pub is_drained : (b : Bank) → IsBank b → IsBank (drained b)
is_drained b h = record {
  few = omega arith;
  waiting = All-nil is_good;
  accepted = all_accepted b.regs b.queue h.accepted h.waiting;
}

pub is_appended : (b : Bank) (w : Write) → length b.queue < most_queued → is_good w → IsBank b → IsBank (appended b w)
is_appended b w room good h = record {
  few = rw (length-append b.queue (w ∷ [])) (omega (arith, room));
  waiting = All-push is_good b.queue w h.waiting good;
  accepted = h.accepted;
}

settled_room : (b : Bank) → IsBank b → nat_lt (length b.queue) most_queued ≡ false → length (settled b).queue < most_queued
settled_room b h full = room b.regs b.queue h
  where
    room : (r : Regs) (queue : List Write) → IsBank (record { regs = r; queue = queue }) → length (settled_by r queue).queue < most_queued
    room r [] h = omega arith
    room r (w ∷ queue) h = let f = h.few in omega (arith, f)

pub is_queued : (b : Bank) (w : Write) → is_good w → IsBank b → IsBank (queued b w)
is_queued b w good h =
    elim (cases_Bool (nat_lt (length b.queue) most_queued)) as (λ _. IsBank (queued b w)) [
      | inl t ↦ rw t (is_appended b w (ltb-true (length b.queue) most_queued t) good h)
      | inr f ↦ rw f (is_appended (settled b) w (settled_room b h f) good (is_settled b h))
    ]
