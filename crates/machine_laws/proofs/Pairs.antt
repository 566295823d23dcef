-- Lists of which each element is in a relation with every later one.
use Rattle.std.proofs.Common.{ℕ, zero, suc, Bool, true, false, cond, List, [], ◌∷◌, ◌++◌, inl, inr, refl, sym, subst}
use Rattle.std.specs.Prelude.{filter}
use Rattle.tagged_tlb.specs.Sets.{without}
use Rattle.machine_laws.specs.Leaving.{In}
use Rattle.machine_laws.proofs.Lists.{In-from_filter, In-push_cases, In-without}

abbrev pub AllPairs : {X : Type 0} → (X → X → Type 0) → List X → Type 0
AllPairs R [] = Unit {0}
AllPairs R (x ∷ xs) = ((y : _) → In y xs → R x y) × AllPairs R xs

module _ {X : Type 0} (R : X → X → Type 0) where
  pairs_if : (b : Bool) (us vs : List X) → AllPairs R us → AllPairs R vs → AllPairs R (cond b us vs)
  pairs_if true us vs f g = f
  pairs_if false us vs f g = g

  pub pairs_filter : (p : X → Bool) (xs : List X) → AllPairs R xs → AllPairs R (filter p xs)
  pairs_filter p [] h = tt
  pairs_filter p (x ∷ xs) h =
      let rest = pairs_filter p xs h.1 in
      pairs_if (p x) (x ∷ filter p xs) (filter p xs) ((λ s i. h.0 s (In-from_filter p xs s i).0), rest) rest

  pub pairs_without : (p : X → Bool) (xs : List X) (n : ℕ) → AllPairs R xs → AllPairs R (without p xs n)
  pairs_without p [] n h = tt
  pairs_without p (x ∷ xs) zero h =
      pairs_if (p x) xs (x ∷ without p xs zero) h.1 ((λ s i. h.0 s (In-without p xs zero s i)), pairs_without p xs zero h.1)
  pairs_without p (x ∷ xs) (suc n) h =
      pairs_if (p x) (x ∷ without p xs n) (x ∷ without p xs (suc n))
      ((λ s i. h.0 s (In-without p xs n s i)), pairs_without p xs n h.1) ((λ s i. h.0 s (In-without p xs (suc n) s i)), pairs_without p xs (suc n) h.1)

  pub pairs_push : (xs : List X) (r : X) → ((x : X) → In x xs → R x r) → AllPairs R xs → AllPairs R (xs ++ r ∷ [])
  pairs_push [] r h a = ((λ s i. absurd i), tt)
  pairs_push (x ∷ xs) r h a = (
    (λ s i. elim (In-push_cases xs r s i) [ inl m ↦ a.0 s m | inr e ↦ subst (R x) (sym e) (h x (inl refl)) ]),
    pairs_push xs r (λ y i. h y (inr i)) a.1,
  )

-- another relation
pub pairs_map : {X : Type 0} (R S : X → X → Type 0) (xs : List X) → ((x : X) → In x xs → (y : X) → R x y → S x y) → AllPairs R xs
    → AllPairs S xs
pairs_map R S [] f h = tt
pairs_map R S (x ∷ xs) f h = ((λ y i. f x (inl refl) y (h.0 y i)), pairs_map R S xs (λ z i. f z (inr i)) h.1)
