-- A core with its inbox, tied to a core of the definitions before and behind what it does.
use Rattle.std.proofs.Common.{◌≡◌, ◌⊎◌, inl, inr, ℕ, ◌+◌, ◌<◌, ◌≤◌, Bool, true, false, cond, List, []}
use Rattle.std.proofs.Common.{◌∷◌, ◌++◌, length, get_or, set, take, refl, sym, ap, ◌∙◌, subst, arith}
use Rattle.std.specs.Prelude.{fold, filter, if◌then◌else◌, nat_lt}
use Rattle.std.proofs.Math.Nat.{eq-or-lt_of_le}
use Rattle.std.proofs.lemmas.List.{get_or-set_same, get_or-set_other, get_or_default, take_more}
use Rattle.std.proofs.lemmas.List.Elements.{filter-append}
use Rattle.std.proofs.lemmas.List.Sums.{fold-append}
use Rattle.tlbi_ops.specs.declared.inval.Inval.{Inval}
use Rattle.table_reads.specs.Memory.{Memory}
use Rattle.machine_spec.specs.Header.{Header}
use Rattle.machine_spec.specs.Moments.{Bank}
use Rattle.tagged_tlb.specs.Sets.{Cache}
use Rattle.machine_spec.specs.Machine.{Core, killed, visit_of, mailed, posted, delivered, most_held}
use Rattle.cpu_model.specs.Cores.{CoreState, HasOtherRows, AreCaches, visit_at}
use Rattle.cpu_model.proofs.Filling.{alike_on}
use Rattle.machine.specs.Seats.{SeatState, no_seat, IsSeatOf, world_with, with_room}

-- a core whose rows and inbox change
pub other_rows : (h : Header) (c : ℕ) (v : Core) (l : Cache) (later : List Inval) (old new : CoreState) (before after : List Inval) → HasOtherRows old new
    → AreCaches h old.number l new → after ≡ later → IsSeatOf h c v (record { core = old; inbox = before })
    → IsSeatOf h c (record v { inbox = later; cache = l }) (record { core = new; inbox = after })
other_rows h c v l later old new before after rest rows e s = record {
  number = rest.number ∙ s.number;
  bank = rest.bank ∙ s.bank;
  inbox = e;
  caches = subst (λ (n : ℕ). AreCaches h n l new) (sym rest.number) rows;
}

-- where a core does an access
pub visit_is : (h : Header) (c : ℕ) (v : Core) (seat : SeatState) (k : ℕ) (m : Memory) (cores : List Core) → IsSeatOf h c v seat
    → visit_at h seat.core v.cache m k ≡ visit_of h (world_with k m cores) c v
visit_is h c v seat k m cores s =
    ap (λ (n : ℕ). record (visit_at h seat.core v.cache m k) { number = n }) s.number
    ∙ ap (λ (b : Bank). record {
      header = h;
      number = c;
      place = record { regs = b.regs; memory = m; rows = v.cache.rows; step = k };
      cache = v.cache;
    }) s.bank

-- INVALIDATIONS THAT A DSB COMPLETES

-- some invalidations took effect
abbrev pub Took : (invals : List Inval) (old new : CoreState) → Type 0
Took invals old new =
    HasOtherRows old new
    × ((h : Header) → (l : Cache) → AreCaches h old.number l old → AreCaches h old.number (fold killed l invals) new)

pub other_after : (a b c : CoreState) → HasOtherRows a b → HasOtherRows b c → HasOtherRows a c
other_after a b c x y = record {
  number = y.number ∙ x.number;
  bank = y.bank ∙ x.bank;
  caches = alike_on a.caches b.caches c.caches x.caches y.caches;
}

killed_one : (l : Cache) (i : Inval) (f : Inval → Bool) (b : Bool) → f i ≡ b → cond b (killed l i) l ≡ fold killed l (filter f (i ∷ []))
killed_one l i f true e = rw e refl
killed_one l i f false e = rw e refl

-- one more, where a test says so
pub took_more : (f : Inval → Bool) (xs : List Inval) (k : ℕ) (d : Inval) (first old new : CoreState) → k < length xs
    → Took (filter f (take k xs)) first old → HasOtherRows old new
    → ((h : Header) → (l : Cache) → AreCaches h old.number l old
    → AreCaches h old.number (if f (get_or xs k d) then killed l (get_or xs k d) else l) new)
    → Took (filter f (take (k + 1) xs)) first new
took_more f xs k d first old new lt before rest rows = (
  other_after first old new before.0 rest,
  λ h l held.
      let i : Inval = get_or xs k d in
      let x : Cache = fold killed l (filter f (take k xs)) in
      let n = before.0.number in
      let now : AreCaches h old.number (if f i then killed x i else x) new =
      rows h x (subst (λ (c : ℕ). AreCaches h c x old) (sym n) (before.1 h l held)) in
      let same : cond (f i) (killed x i) x ≡ fold killed l (filter f (take (k + 1) xs)) =
      killed_one x i f (f i) refl ∙ sym (fold-append killed l (filter f (take k xs)) (filter f (i ∷ [])))
      ∙ ap (fold killed l) (sym (filter-append f (take k xs) (i ∷ [])))
      ∙ ap (λ (ys : List Inval). fold killed l (filter f ys)) (sym (take_more xs k d lt)) in
      subst (λ (z : Cache). AreCaches h first.number z new) same (subst (λ (c : ℕ). AreCaches h c (if f i then killed x i else x) new) n now),
)

-- SEATS ONE BY ONE

module _ (f : ℕ → Core → Core) (first xs : List SeatState) (k : ℕ) (x new : SeatState) (lt : k < length xs)
    (done : (h : Header) → (d : ℕ) → (v : Core) → d < k → IsSeatOf h d v (get_or first d no_seat) → IsSeatOf h d (f d v) (get_or xs d no_seat))
    (rest : (d : ℕ) → k ≤ d → get_or xs d no_seat ≡ get_or first d no_seat)
    (own : (h : Header) → (v : Core) → IsSeatOf h k v (get_or xs k x) → IsSeatOf h k (f k v) new) where
  by_place : (h : Header) (d : ℕ) (v : Core) → (d ≡ k) ⊎ (d < k) → IsSeatOf h d v (get_or first d no_seat)
      → IsSeatOf h d (f d v) (get_or (set xs k new) d no_seat)
  by_place h d v (inl e) s =
      let here : IsSeatOf h k v (get_or xs k x) = subst (IsSeatOf h k v) (sym (get_or_default xs k x no_seat lt ∙ rest k (omega arith)))
      (subst (λ (n : ℕ). IsSeatOf h n v (get_or first n no_seat)) e s) in
      subst (λ (n : ℕ). IsSeatOf h n (f n v) (get_or (set xs k new) n no_seat)) (sym e)
      (subst (IsSeatOf h k (f k v)) (sym (get_or-set_same xs k new no_seat lt)) (own h v here))
  by_place h d v (inr l) s =
      subst (IsSeatOf h d (f d v)) (sym (get_or-set_other xs k d new no_seat (λ e. omega (arith, l, e)))) (done h d v l s)

  pub one_more : (h : Header) → (d : ℕ) → (v : Core) → d < k + 1 → IsSeatOf h d v (get_or first d no_seat)
      → IsSeatOf h d (f d v) (get_or (set xs k new) d no_seat)
  one_more h d v l s = by_place h d v (eq-or-lt_of_le (omega arith)) s

  pub rest_stays : (d : ℕ) → k + 1 ≤ d → get_or (set xs k new) d no_seat ≡ get_or first d no_seat
  rest_stays d l = get_or-set_other xs k d new no_seat (λ e. omega (arith, l, e)) ∙ rest d (omega (arith, l))

-- AN INVALIDATION COMES IN

mailed_by_room : (v : Core) (i : Inval) (room : Bool) → posted (cond room v (delivered v)) i ≡ cond room (posted v i) (posted (delivered v) i)
mailed_by_room v i true = refl
mailed_by_room v i false = refl

-- behind a core with room
pub post_is : (h : Header) (c : ℕ) (v : Core) (i : Inval) (old : SeatState) (inbox : List Inval) → inbox ≡ old.inbox ++ i ∷ []
    → IsSeatOf h c (with_room v) old → IsSeatOf h c (mailed v i) (record old { inbox = inbox })
post_is h c v i old inbox is s =
    subst (λ (u : Core). IsSeatOf h c u (record old { inbox = inbox })) (mailed_by_room v i (nat_lt (length v.inbox) most_held))
    record { number = s.number; bank = s.bank; inbox = is ∙ ap (λ l. l ++ i ∷ []) s.inbox; caches = s.caches }
