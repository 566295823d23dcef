-- Membership by recursion, and induction on a list's end.
use Rattle.std.proofs.Common.{◌≡◌, ℕ, zero, suc, Bool, true, false, cond, List, [], ◌∷◌, ◌++◌, drop, ◌⊎◌}
use Rattle.std.proofs.Common.{inl, inr, refl, sym, subst, append_assoc, append-nil, Option, Some, None}
use Rattle.std.specs.Prelude.{filter, find}
use Rattle.std.proofs.lemmas.Option.{same_Some}
use Rattle.tagged_tlb.specs.Sets.{without}
use Rattle.machine_laws.specs.Leaving.{In}

module _ {X : Type 0} (P : List X → Type 0) (step : (xs : List X) (x : X) → P xs → P (xs ++ x ∷ [])) where
  ends : (ys xs : List X) → P ys → P (ys ++ xs)
  ends ys [] h = rw append-nil h
  ends ys (x ∷ xs) h = subst P (append_assoc ys (x ∷ []) xs) (ends (ys ++ x ∷ []) xs (step ys x h))

  -- what holds of the empty list, and of a list with one more at its end, holds of each
  pub from_end : P [] → (xs : List X) → P xs
  from_end h xs = ends [] xs h

pub In-filter : {X : Type 0} (p : X → Bool) (xs : List X) (x : X) → In x xs → p x ≡ true → In x (filter p xs)
In-filter p [] x i h = elim i [ ]
In-filter p (y ∷ ys) x (inl e) h = let t : p y ≡ true = subst (λ v. p v ≡ true) e h in rw t (inl e)
In-filter p (y ∷ ys) x (inr i) h =
    let rest = In-filter p ys x i h in
    elim (p y) as (λ b. In x (cond b (y ∷ filter p ys) (filter p ys))) [ true ↦ inr rest | false ↦ rest ]

filter_case : {X : Type 0} (p : X → Bool) (y : X) (ys : List X) (x : X) (b : Bool) → p y ≡ b → (In x (filter p ys) → In x ys × (p x ≡ true))
    → In x (cond b (y ∷ filter p ys) (filter p ys)) → ((x ≡ y) ⊎ In x ys) × (p x ≡ true)
filter_case p y ys x true e rest (inl h) = (inl h, subst (λ v. p v ≡ true) (sym h) e)
filter_case p y ys x true e rest (inr h) = (inr (rest h).0, (rest h).1)
filter_case p y ys x false e rest h = (inr (rest h).0, (rest h).1)

pub In-from_filter : {X : Type 0} (p : X → Bool) (xs : List X) (x : X) → In x (filter p xs) → In x xs × (p x ≡ true)
In-from_filter p [] x h = elim h [ ]
In-from_filter p (y ∷ ys) x h = filter_case p y ys x (p y) refl (In-from_filter p ys x) h

pub In-left : {X : Type 0} (xs ys : List X) (x : X) → In x xs → In x (xs ++ ys)
In-left [] zs x i = elim i [ ]
In-left (y ∷ ys) zs x (inl e) = inl e
In-left (y ∷ ys) zs x (inr i) = inr (In-left ys zs x i)

pub In-last : {X : Type 0} (xs : List X) (x : X) → In x (xs ++ x ∷ [])
In-last [] x = inl refl
In-last (y ∷ ys) x = inr (In-last ys x)

pub In-push_cases : {X : Type 0} (xs : List X) (y x : X) → In x (xs ++ y ∷ []) → In x xs ⊎ (x ≡ y)
In-push_cases [] y x (inl e) = inr e
In-push_cases [] y x (inr i) = elim i [ ]
In-push_cases (z ∷ zs) y x (inl e) = inl (inl e)
In-push_cases (z ∷ zs) y x (inr i) = elim (In-push_cases zs y x i) [ inl j ↦ inl (inr j) | inr e ↦ inr e ]

pub In-drop_one : {X : Type 0} (xs : List X) (x : X) → In x (drop 1 xs) → In x xs
In-drop_one [] x h = elim h [ ]
In-drop_one (y ∷ ys) x h = inr h

find_case : {X : Type 0} (p : X → Bool) (y : X) (ys : List X) (x : X) (b : Bool) → p y ≡ b → (find p ys ≡ Some x → In x ys × (p x ≡ true))
    → cond b (Some y) (find p ys) ≡ Some x → ((x ≡ y) ⊎ In x ys) × (p x ≡ true)
find_case p y ys x true e rest h = let s : y ≡ x = same_Some y x h in (inl (sym s), subst (λ v. p v ≡ true) s e)
find_case p y ys x false e rest h = (inr (rest h).0, (rest h).1)

pub none_some : {X P : Type 0} (x : X) → ◌≡◌ {A = Option X} None (Some x) → P
none_some x h = cc

pub In-find : {X : Type 0} (p : X → Bool) (xs : List X) (x : X) → find p xs ≡ Some x → In x xs × (p x ≡ true)
In-find p [] x h = none_some x h
In-find p (y ∷ ys) x h = find_case p y ys x (p y) refl (In-find p ys x) h

pub In-append : {X : Type 0} (xs ys : List X) (x : X) → In x (xs ++ ys) → In x xs ⊎ In x ys
In-append [] ys x h = inr h
In-append (z ∷ zs) ys x (inl e) = inl (inl e)
In-append (z ∷ zs) ys x (inr i) = elim (In-append zs ys x i) [ inl j ↦ inl (inr j) | inr j ↦ inr j ]

without_first : {X : Type 0} (p : X → Bool) (x : X) (xs : List X) (y : X) (b : Bool) → (In y (without p xs zero) → In y xs)
    → In y (cond b xs (x ∷ without p xs zero)) → In y (x ∷ xs)
without_first p x xs y true rec i = inr i
without_first p x xs y false rec (inl e) = inl e
without_first p x xs y false rec (inr i) = inr (rec i)

without_later : {X : Type 0} (p : X → Bool) (x : X) (xs : List X) (y : X) (n : ℕ) (b : Bool) → (In y (without p xs n) → In y xs)
    → (In y (without p xs (suc n)) → In y xs) → In y (cond b (x ∷ without p xs n) (x ∷ without p xs (suc n))) → In y (x ∷ xs)
without_later p x xs y n true here rest (inl e) = inl e
without_later p x xs y n true here rest (inr i) = inr (here i)
without_later p x xs y n false here rest (inl e) = inl e
without_later p x xs y n false here rest (inr i) = inr (rest i)

pub In-without : {X : Type 0} (p : X → Bool) (xs : List X) (n : ℕ) (y : X) → In y (without p xs n) → In y xs
In-without p [] n y i = i
In-without p (x ∷ xs) zero y i = without_first p x xs y (p x) (In-without p xs zero y) i
In-without p (x ∷ xs) (suc n) y i = without_later p x xs y n (p x) (In-without p xs n y) (In-without p xs (suc n) y) i
