-- Rows that go last: what stays of the list and of other sets.
use Rattle.std.proofs.Common.{◌≡◌, ℕ, Bool, true, false, not, cond, List, [], ◌∷◌, ◌++◌, refl, ap, sym, ◌∙◌, subst, inl, inr}
use Rattle.std.specs.Prelude.{filter, fold}
use Rattle.std.proofs.lemmas.Bool.{cases_Bool, both_ways}
use Rattle.trace_lang.specs.declared.header.Size.{Size}
use Rattle.tagged_tlb.specs.declared.row.Kind.{Kind}
use Rattle.tagged_tlb.specs.declared.row.Row.{Row}
use Rattle.tagged_tlb.specs.Rows.{same_kind}
use Rattle.tagged_tlb.specs.Sets.{is_row, to_end}
use Rattle.tagged_tlb.specs.Tied.{in_set, IsTied, IsOther, AreToldApart}
use Rattle.tagged_tlb.specs.Stands.{In}
use Rattle.tagged_tlb.proofs.Lists.{filter-no_more}
use Rattle.tagged_tlb.proofs.Ties.{kept_tied}
use Rattle.tagged_tlb.proofs.Touches.{itself, turned, all_kept}
use Rattle.tagged_tlb.proofs.Order.{told_filter}
use Rattle.tagged_tlb.proofs.Stands.{other_in, in_filter}
use Rattle.served_walk.specs.declared.met.Service.{Service}
use Rattle.walk_cache.specs.Services.{IsService, AreServices}

-- THE OTHER SETS

-- a row that doesn't pass goes, and what passes stays
module _ (p : Row → Bool) (r : Row) (out : p r ≡ false) where
  abbrev Stays : List Row → Type 0
  Stays xs = filter p (filter (λ y. not (is_row r y)) xs) ≡ filter p xs

  here : (x : Row) (xs : List Row) → r ≡ x → IsOther x xs → Stays (x ∷ xs)
  here x xs e o =
      subst (λ (v : Row). IsOther v xs → filter p (filter (λ y. not (is_row r y)) (v ∷ xs)) ≡ filter p (v ∷ xs)) e
      (λ q. rw (itself r, out) (ap (filter p) (all_kept r xs q))) o

  later : (x : Row) (xs : List Row) → is_row r x ≡ false → Stays xs → Stays (x ∷ xs)
  later x xs e rest =
      ap (λ b. filter p (cond (not b) (x ∷ filter (λ y. not (is_row r y)) xs) (filter (λ y. not (is_row r y)) xs))) e
      ∙ ap (λ v. cond (p x) (x ∷ v) v) rest

  stays_at : (x : Row) (xs : List Row) → IsOther x xs → (In r xs → Stays xs) → In r (x ∷ xs) → Stays (x ∷ xs)
  stays_at x xs o rest (inl e) = here x xs e o
  stays_at x xs o rest (inr i) = later x xs (turned r x ∙ other_in x r xs o i) (rest i)

  pub stays : (xs : List Row) → AreToldApart xs → In r xs → Stays xs
  stays [] t i = refl
  stays (x ∷ xs) t i = stays_at x xs t.0 (stays xs t.1) i

-- a row that goes last in its set is in no set of another kind
pub end_elsewhere : (j : Kind) (m : ℕ) (live : List Row) → AreToldApart live → (r : Row) → In r live → same_kind j r.kind ≡ false
    → (sets : List (List Row)) → IsTied j m live sets → IsTied j m (to_end live r) sets
end_elsewhere j m live told r i ne sets f =
    kept_tied j m live (to_end live r) sets f
    (λ s. let out : in_set j m s r ≡ false = rw ne refl in
    filter-no_more (in_set j m s) (filter (λ y. not (is_row r y)) live) r out ∙ stays (in_set j m s) r out live told i)

-- THE LIST

-- a row of a list is told by its making
pub same_row : (r s : Row) (rows : List Row) → AreToldApart rows → In r rows → In s rows → is_row r s ≡ true → r ≡ s
same_row r s [] t i j e = absurd i
same_row r s (x ∷ rows) t (inl f) (inl g) e = f ∙ sym g
same_row r s (x ∷ rows) t (inl f) (inr j) e = absurd (both_ways (is_row r s) (subst (λ (v : Row). is_row v s ≡ false) (sym f) (other_in x s rows t.0 j)) e)
same_row r s (x ∷ rows) t (inr i) (inl g) e =
    absurd (both_ways (is_row r s) (turned r s ∙ subst (λ (v : Row). is_row v r ≡ false) (sym g) (other_in x r rows t.0 i)) e)
same_row r s (x ∷ rows) t (inr i) (inr j) e = same_row r s rows t.1 i j e

pub in_left : {X : Type 0} (x : X) (xs ys : List X) → In x xs → In x (xs ++ ys)
in_left x [] ys i = absurd i
in_left x (y ∷ xs) ys (inl e) = inl e
in_left x (y ∷ xs) ys (inr i) = inr (in_left x xs ys i)

pub in_last : {X : Type 0} (x : X) (xs : List X) → In x (xs ++ x ∷ [])
in_last x [] = inl refl
in_last x (y ∷ xs) = inr (in_last x xs)

-- no row leaves
pub in_end : (live : List Row) → AreToldApart live → (r : Row) → In r live → (x : Row) → In x live → In x (to_end live r)
in_end live told r i x j = elim (cases_Bool (is_row r x)) [
  | inl t ↦ subst (λ (v : Row). In v (to_end live r)) (same_row r x live told i j t) (in_last r (filter (λ y. not (is_row r y)) live))
  | inr f2 ↦ in_left x (filter (λ y. not (is_row r y)) live) (r ∷ []) (in_filter (λ y. not (is_row r y)) x live (ap not f2) j)
]

other_more : (x r : Row) (xs : List Row) → IsOther x xs → is_row x r ≡ false → IsOther x (xs ++ r ∷ [])
other_more x r [] o e = (e, tt)
other_more x r (y ∷ xs) o e = (o.0, other_more x r xs o.1 e)

-- a row comes that none was made as
pub told_more : (r : Row) (xs : List Row) → AreToldApart xs → ((x : Row) → In x xs → is_row x r ≡ false) → AreToldApart (xs ++ r ∷ [])
told_more r [] t h = (tt, tt)
told_more r (x ∷ xs) t h = (other_more x r xs t.0 (h x (inl refl)), told_more r xs t.1 (λ y i. h y (inr i)))

not_left_by : (r x y : Row) (xs : List Row) (b : Bool) → is_row r y ≡ b → (In x (filter (λ y. not (is_row r y)) xs) → is_row x r ≡ false)
    → In x (cond (not b) (y ∷ filter (λ y. not (is_row r y)) xs) (filter (λ y. not (is_row r y)) xs)) → is_row x r ≡ false
not_left_by r x y xs true e rest i = rest i
not_left_by r x y xs false e rest (inl f) = turned x r ∙ subst (λ (v : Row). is_row r v ≡ false) (sym f) e
not_left_by r x y xs false e rest (inr i) = rest i

not_left : (r x : Row) (xs : List Row) → In x (filter (λ y. not (is_row r y)) xs) → is_row x r ≡ false
not_left r x [] i = absurd i
not_left r x (y ∷ xs) i = not_left_by r x y xs (is_row r y) refl (not_left r x xs) i

-- rows stay told apart
pub told_end : (live : List Row) → AreToldApart live → (r : Row) → AreToldApart (to_end live r)
told_end live told r =
    told_more r (filter (λ y. not (is_row r y)) live) (told_filter (λ y. not (is_row r y)) live told) (λ x i. not_left r x live i)

-- SERVICES

-- the services that follow
pub services_stay : (size : Size) (live live2 : List Row) → ((x : Row) → In x live → In x live2) → (services : List Service) (served : List Row)
    → AreServices size live services served → AreServices size live2 services served
services_stay size live live2 h [] [] a = tt
services_stay size live live2 h [] (r ∷ served) a = a
services_stay size live live2 h (s ∷ services) [] a = a
services_stay size live live2 h (s ∷ services) (r ∷ served) a =
    (record { held = h r a.0.held; kind_is = a.0.kind_is; set_is = a.0.set_is; made_is = a.0.made_is }, services_stay size live live2 h services served a.1)

-- one service more
pub services_more : (size : Size) (live : List Row) (services : List Service) (served : List Row) (s : Service) (r : Row)
    → AreServices size live services served → IsService size live s r → AreServices size live (services ++ s ∷ []) (served ++ r ∷ [])
services_more size live [] [] s r a h = (h, tt)
services_more size live [] (x ∷ served) s r a h = absurd a
services_more size live (y ∷ services) [] s r a h = absurd a
services_more size live (y ∷ services) (x ∷ served) s r a h = (a.0, services_more size live services served s r a.1 h)

-- what is left of a list of services, and the list as it is
pub record IsLeft (size : Size) (first all now : List Row) (services : List Service) : Type 0 where
  pub told : AreToldApart now
  pub left : List Row
  pub are : AreServices size now services left
  pub ends : fold to_end first all ≡ fold to_end now left

-- the next service
abbrev pub Next : (size : Size) (first all now : List Row) (service : Service) (services : List Service) → Type 0
Next size first all now s services = (r : Row) × IsService size now s r × IsLeft size first all (to_end now r) services

next_by : (size : Size) (first all now left : List Row) (s : Service) (services : List Service) → AreToldApart now
    → AreServices size now (s ∷ services) left → fold to_end first all ≡ fold to_end now left → Next size first all now s services
next_by size first all now [] s services told a e = absurd a
next_by size first all now (r ∷ left) s services told a e = (
  r,
  a.0,
  record {
    told = told_end now told r;
    left = left;
    are = services_stay size now (to_end now r) (in_end now told r a.0.held) services left a.1;
    ends = e;
  },
)

pub next : (size : Size) (first all now : List Row) (s : Service) (services : List Service) → IsLeft size first all now (s ∷ services)
    → Next size first all now s services
next size first all now s services h = next_by size first all now h.left s services h.told h.are h.ends

none_by : (size : Size) (now left : List Row) → AreServices size now [] left → left ≡ []
none_by size now [] a = refl
none_by size now (r ∷ left) a = absurd a

-- no service is left
pub last : (size : Size) (first all now : List Row) → IsLeft size first all now [] → fold to_end first all ≡ now
last size first all now h = h.ends ∙ ap (fold to_end now) (none_by size now h.left h.are)

-- without rows none served
pub none_served : (size : Size) (services : List Service) (served : List Row) → AreServices size [] services served → served ≡ []
none_served size [] [] a = refl
none_served size [] (r ∷ served) a = absurd a
none_served size (s ∷ services) [] a = refl
none_served size (s ∷ services) (r ∷ served) a = absurd a.0.held
