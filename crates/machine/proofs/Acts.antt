-- What an event does to one core, and to each.
use Rattle.std.proofs.Common.{◌≡◌, ℕ, ◌<◌, Bool, true, false, cond, List, [], ◌∷◌, length}
use Rattle.std.proofs.Common.{get_or, set, refl, sym, ap, subst, inl, inr, Option, Some, None}
use Rattle.std.specs.Prelude.{nat_lt}
use Rattle.std.proofs.lemmas.Bool.{cases_eq, eq-eqb, ne_eqb}
use Rattle.std.proofs.lemmas.Option.{none-some}
use Rattle.std.proofs.lemmas.List.{get_or-set_same, get_or-set_other, get_or_default, length-set}
use Rattle.sysregs.specs.declared.regs.Reg.{Reg}
use Rattle.sysregs.specs.declared.regs.Op.{Op}
use Rattle.tlbi_ops.specs.declared.inval.Inval.{Inval}
use Rattle.tlbi_ops.specs.Operands.{inval_of, reaches_core}
use Rattle.trails.specs.declared.outcome.Access.{Access}
use Rattle.trails.specs.declared.event.Barrier.{Barrier}
use Rattle.trails.specs.declared.event.Origin.{Origin}
use Rattle.trails.specs.declared.event.Event.{Event}
use Rattle.trails.specs.declared.event.Event.TheVariants.{Store, Msr, Settle, Isb, Tlbi, Dsb, Deliver, Access as AccessOf, Prefetch}
use Rattle.table_reads.specs.Memory.{Memory}
use Rattle.machine_spec.specs.Header.{Header}
use Rattle.machine_spec.specs.Moments.{settled, drained, queued, banked, stored}
use Rattle.machine_spec.specs.Invalidations.{is_at_el1, issued_by}
use Rattle.machine_spec.specs.Machine.{Core, World, no_core, with_bank, most_held, delivered_by, delivered, posted, mailed}
use Rattle.machine_spec.specs.Machine.{mailed_by, finished, regs_in, accessed, acted, moved, answer_to}
use Rattle.machine.specs.Events.{asked_of}
use Rattle.machine.specs.Seats.{SeatState, no_seat, IsSeatOf, AreSeatsOf}

-- ONE CORE AMONG THE OTHERS

-- the seat that a body reads is the core of its number
pub seat_at : (h : Header) (cores : List Core) (xs : List SeatState) (j : ℕ) (x : SeatState) → j < length xs → AreSeatsOf h cores xs
    → IsSeatOf h j (get_or cores j no_core) (get_or xs j x)
seat_at h cores xs j x lt are = subst (IsSeatOf h j (get_or cores j no_core)) (sym (get_or_default xs j x no_seat lt)) (are.each j lt)

-- one seat is what a change makes of its core, which leaves each other core
pub one_here : (h : Header) (cores : List Core) (f : ℕ → Core → Core) (xs : List SeatState) (j : ℕ) (x new : SeatState) → j < length xs
    → AreSeatsOf h cores xs
    → (IsSeatOf h j (get_or cores j no_core) (get_or xs j x) → IsSeatOf h j (f j (get_or cores j no_core)) new)
    → ((c : ℕ) (v : Core) → (j ≡ c → ⊥) → f c v ≡ v)
    → (c : ℕ) → c < length (set xs j new) → IsSeatOf h c (f c (get_or cores c no_core)) (get_or (set xs j new) c no_seat)
one_here h cores f xs j x new lt are own other c in_set =
    let within : c < length xs = subst (λ n. c < n) (length-set xs j new) in_set in
    elim (cases_eq j c) as (λ _. IsSeatOf h c (f c (get_or cores c no_core)) (get_or (set xs j new) c no_seat)) [
      | inl e ↦ subst (λ n. IsSeatOf h n (f n (get_or cores n no_core)) (get_or (set xs j new) n no_seat)) e
          (subst (IsSeatOf h j (f j (get_or cores j no_core))) (sym (get_or-set_same xs j new no_seat lt))
          (own (seat_at h cores xs j x lt are)))
      | inr ne ↦ subst (λ (v : Core). IsSeatOf h c v (get_or (set xs j new) c no_seat)) (sym (other c (get_or cores c no_core) ne))
          (subst (IsSeatOf h c (get_or cores c no_core)) (sym (get_or-set_other xs j c new no_seat (λ e. ne (sym e)))) (are.each c within))
    ]

-- the same of a change that holds of any core
pub one_at : (h : Header) (cores : List Core) (f : ℕ → Core → Core) (xs : List SeatState) (j : ℕ) (x new : SeatState) → j < length xs
    → AreSeatsOf h cores xs
    → ((v : Core) → IsSeatOf h j v (get_or xs j x) → IsSeatOf h j (f j v) new) → ((c : ℕ) (v : Core) → (j ≡ c → ⊥) → f c v ≡ v)
    → (c : ℕ) → c < length (set xs j new) → IsSeatOf h c (f c (get_or cores c no_core)) (get_or (set xs j new) c no_seat)
one_at h cores f xs j x new lt are own other c in_set = one_here h cores f xs j x new lt are (own (get_or cores j no_core)) other c in_set

-- REGISTERS

module _ (h : Header) (w : World) (j : ℕ) where
  pub msr_own : (reg : Reg) (value : ℕ) (v : Core) → with_bank v (queued v.bank (reg, value)) ≡ moved h w (Msr j reg value) j v
  unfolding acted banked
  msr_own reg value v = rw (eq-eqb j j refl) refl

  pub msr_other : (reg : Reg) (value : ℕ) (c : ℕ) (v : Core) → (j ≡ c → ⊥) → moved h w (Msr j reg value) c v ≡ v
  unfolding acted banked
  msr_other reg value c v ne = rw (ne_eqb j c ne) refl

  pub settle_own : (v : Core) → with_bank v (settled v.bank) ≡ moved h w (Settle j) j v
  unfolding acted banked
  settle_own v = rw (eq-eqb j j refl) refl

  pub settle_other : (c : ℕ) (v : Core) → (j ≡ c → ⊥) → moved h w (Settle j) c v ≡ v
  unfolding acted banked
  settle_other c v ne = rw (ne_eqb j c ne) refl

  pub isb_own : (v : Core) → with_bank v (drained v.bank) ≡ moved h w (Isb j) j v
  unfolding acted banked
  isb_own v = rw (eq-eqb j j refl) refl

  pub isb_other : (c : ℕ) (v : Core) → (j ≡ c → ⊥) → moved h w (Isb j) c v ≡ v
  unfolding acted banked
  isb_other c v ne = rw (ne_eqb j c ne) refl

-- INVALIDATIONS

delivered_bank : (v : Core) (inbox : List Inval) → (delivered_by v inbox).bank ≡ v.bank
delivered_bank v [] = refl
delivered_bank v (i ∷ later) = refl

delivered_same : (v : Core) → delivered v ≡ with_bank (delivered v) v.bank
delivered_same v = ap (with_bank (delivered v)) (delivered_bank v v.inbox)

mailed_same : (v : Core) (i : Inval) (room : Bool)
    → cond room (posted v i) (posted (delivered v) i) ≡ with_bank (cond room (posted v i) (posted (delivered v) i)) v.bank
mailed_same v i true = refl
mailed_same v i false = ap (with_bank (posted (delivered v) i)) (delivered_bank v v.inbox)

reached_same : (v : Core) (i : Inval) (own : Bool) → cond own (mailed v i) v ≡ with_bank (cond own (mailed v i) v) v.bank
reached_same v i true = mailed_same v i (nat_lt (length v.inbox) most_held)
reached_same v i false = refl

module _ (h : Header) (w : World) (j : ℕ) where
  pub deliver_own : (v : Core) → delivered v ≡ moved h w (Deliver j) j v
  unfolding acted banked
  deliver_own v = rw (eq-eqb j j refl) (delivered_same v)

  pub deliver_other : (c : ℕ) (v : Core) → (j ≡ c → ⊥) → moved h w (Deliver j) c v ≡ v
  unfolding acted banked
  deliver_other c v ne = rw (ne_eqb j c ne) refl

  pub dsb_each : (kind : Barrier) (c : ℕ) (v : Core) → finished v (Dsb j kind) ≡ moved h w (Dsb j kind) c v
  unfolding acted banked
  dsb_each kind c v = refl

  pub tlbi_each : (from : Origin) (op : Op) (shared : Bool) (operand : ℕ) (i : Inval) → i
      ≡ inval_of op shared (is_at_el1 from) operand (regs_in w j) j w.step
      → (c : ℕ) (v : Core) → mailed_by c v (Some i) ≡ moved h w (Tlbi j from op shared operand) c v
  unfolding acted banked issued_by
  tlbi_each from op shared operand i e c v = rw (← e) (reached_same v i (reaches_core i c))

-- ACCESSES

module _ (h : Header) (w : World) (j : ℕ) (a : Access) where
  pub access_own : (v : Core) → accessed h w j v a ≡ moved h w (AccessOf j a) j v
  unfolding acted banked
  access_own v = rw (eq-eqb j j refl) refl

  pub access_other : (c : ℕ) (v : Core) → (j ≡ c → ⊥) → moved h w (AccessOf j a) c v ≡ v
  unfolding acted banked
  access_other c v ne = rw (ne_eqb j c ne) refl

  pub prefetch_own : (v : Core) → accessed h w j v a ≡ moved h w (Prefetch j a) j v
  unfolding acted banked
  prefetch_own v = rw (eq-eqb j j refl) refl

  pub prefetch_other : (c : ℕ) (v : Core) → (j ≡ c → ⊥) → moved h w (Prefetch j a) c v ≡ v
  unfolding acted banked
  prefetch_other c v ne = rw (ne_eqb j c ne) refl

-- A store changes no core.
pub store_each : (h : Header) (w : World) (j pa value : ℕ) (c : ℕ) (v : Core) → v ≡ moved h w (Store j pa value) c v
unfolding acted banked
store_each h w j pa value c v = refl

-- EVENTS WITH AND WITHOUT AN ACCESS

abbrev got : ℕ × Access → Option (ℕ × Access) → ℕ × Access
got p None = p
got p (Some q) = q

-- what holds of an access and of a prefetch holds of each event that asks for it
pub by_asked : (P : Event → Type 0) (j : ℕ) (a : Access) → P (AccessOf j a) → P (Prefetch j a) → (e : Event) → asked_of e ≡ Some (j, a) → P e
by_asked P j a x y (Store core pa value) is = absurd (none-some (j, a) is)
by_asked P j a x y (Msr core reg value) is = absurd (none-some (j, a) is)
by_asked P j a x y (Settle core) is = absurd (none-some (j, a) is)
by_asked P j a x y (Isb core) is = absurd (none-some (j, a) is)
by_asked P j a x y (Tlbi core from op shared operand) is = absurd (none-some (j, a) is)
by_asked P j a x y (Dsb core kind) is = absurd (none-some (j, a) is)
by_asked P j a x y (Deliver core) is = absurd (none-some (j, a) is)
by_asked P j a x y (AccessOf core access) is = subst (λ p. P (AccessOf p.0 p.1)) (ap (got (j, a)) (sym is)) x
by_asked P j a x y (Prefetch core access) is = subst (λ p. P (Prefetch p.0 p.1)) (ap (got (j, a)) (sym is)) y

-- an event that asks for an access leaves memory
pub asked_stores_none : (m : Memory) (e : Event) (j : ℕ) (a : Access) → asked_of e ≡ Some (j, a) → m ≡ stored m e
unfolding stored
asked_stores_none m e j a is = by_asked (λ v. m ≡ stored m v) j a refl refl e is

-- an event that asks for none has no answer
pub quiet_answer : (h : Header) (w : World) (e : Event) → asked_of e ≡ None → None ≡ answer_to h w e
unfolding answer_to
quiet_answer h w (Store core pa value) is = refl
quiet_answer h w (Msr core reg value) is = refl
quiet_answer h w (Settle core) is = refl
quiet_answer h w (Isb core) is = refl
quiet_answer h w (Tlbi core from op shared operand) is = refl
quiet_answer h w (Dsb core kind) is = refl
quiet_answer h w (Deliver core) is = refl
quiet_answer h w (AccessOf core access) is = absurd (none-some (core, access) (sym is))
quiet_answer h w (Prefetch core access) is = absurd (none-some (core, access) (sym is))
