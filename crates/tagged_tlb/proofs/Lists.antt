-- Filters of a list that loses one, and of one that gets one.
use Rattle.std.proofs.Common.{◌≡◌, ℕ, zero, suc, Bool, true, false, cond, List, [], ◌∷◌, ◌++◌, get_or, refl, sym, ap, ◌∙◌, append-nil}
use Rattle.std.specs.Prelude.{filter, map, ◌||◌}
use Rattle.std.specs.List.{remove, list_any}
use Rattle.std.proofs.lemmas.Bool.{both_ways}
use Rattle.std.proofs.lemmas.List.Elements.{filter-append}
use Rattle.tagged_tlb.specs.Sets.{without}

first : {X : Type 0} (p : X → Bool) (x : X) (xs : List X) (b : Bool) → p x ≡ b → filter p (without p xs zero) ≡ remove (filter p xs) zero
    → filter p (cond b xs (x ∷ without p xs zero)) ≡ remove (cond b (x ∷ filter p xs) (filter p xs)) zero
first p x xs true e rest = refl
first p x xs false e rest = rw e rest

later : {X : Type 0} (p : X → Bool) (x : X) (xs : List X) (n : ℕ) (b : Bool) → p x ≡ b → filter p (without p xs n) ≡ remove (filter p xs) n
    → filter p (without p xs (suc n)) ≡ remove (filter p xs) (suc n)
    → filter p (cond b (x ∷ without p xs n) (x ∷ without p xs (suc n))) ≡ remove (cond b (x ∷ filter p xs) (filter p xs)) (suc n)
later p x xs n true e here rest = rw e (ap (λ v. x ∷ v) here)
later p x xs n false e here rest = rw e rest

-- one set loses the row at that place
pub filter-without : {X : Type 0} (p : X → Bool) (xs : List X) (n : ℕ) → filter p (without p xs n) ≡ remove (filter p xs) n
filter-without p [] zero = refl
filter-without p [] (suc n) = refl
filter-without p (x ∷ xs) zero = first p x xs (p x) refl (filter-without p xs zero)
filter-without p (x ∷ xs) (suc n) = later p x xs n (p x) refl (filter-without p xs n) (filter-without p xs (suc n))

other_first : {X : Type 0} (p q : X → Bool) → ((x : X) → p x ≡ true → q x ≡ false) → (x : X) (xs : List X) (b : Bool) → p x ≡ b
    → filter q (without p xs zero) ≡ filter q xs
    → filter q (cond b xs (x ∷ without p xs zero)) ≡ cond (q x) (x ∷ filter q xs) (filter q xs)
other_first p q apart x xs true e rest = rw (apart x e) refl
other_first p q apart x xs false e rest = ap (λ v. cond (q x) (x ∷ v) v) rest

other_later : {X : Type 0} (p q : X → Bool) (x : X) (xs : List X) (n : ℕ) (b : Bool) → filter q (without p xs n) ≡ filter q xs
    → filter q (without p xs (suc n)) ≡ filter q xs
    → filter q (cond b (x ∷ without p xs n) (x ∷ without p xs (suc n))) ≡ cond (q x) (x ∷ filter q xs) (filter q xs)
other_later p q x xs n true here rest = ap (λ v. cond (q x) (x ∷ v) v) here
other_later p q x xs n false here rest = ap (λ v. cond (q x) (x ∷ v) v) rest

-- every other set stays
pub filter-other : {X : Type 0} (p q : X → Bool) → ((x : X) → p x ≡ true → q x ≡ false) → (xs : List X) (n : ℕ)
    → filter q (without p xs n) ≡ filter q xs
filter-other p q apart [] n = refl
filter-other p q apart (x ∷ xs) zero = other_first p q apart x xs (p x) refl (filter-other p q apart xs zero)
filter-other p q apart (x ∷ xs) (suc n) = other_later p q x xs n (p x) (filter-other p q apart xs n) (filter-other p q apart xs (suc n))

both : {X : Type 0} (p q : X → Bool) (x : X) (xs : List X) (a b : Bool) → p x ≡ a → q x ≡ b → filter p (filter q xs) ≡ filter q (filter p xs)
    → filter p (cond b (x ∷ filter q xs) (filter q xs)) ≡ filter q (cond a (x ∷ filter p xs) (filter p xs))
both p q x xs true true e f rest = rw (e, f) (ap (λ v. x ∷ v) rest)
both p q x xs true false e f rest = rw f rest
both p q x xs false true e f rest = rw e rest
both p q x xs false false e f rest = rest

-- a kill in the whole list is a kill in each set
pub filter-filter : {X : Type 0} (p q : X → Bool) (xs : List X) → filter p (filter q xs) ≡ filter q (filter p xs)
filter-filter p q [] = refl
filter-filter p q (x ∷ xs) = both p q x xs (p x) (q x) refl refl (filter-filter p q xs)

pub map_at : {X : Type 0} (f : List X → List X) → f [] ≡ [] → (xs : List (List X)) (s : ℕ) → get_or (map f xs) s [] ≡ f (get_or xs s [])
map_at f e [] s = sym e
map_at f e (x ∷ xs) zero = refl
map_at f e (x ∷ xs) (suc s) = map_at f e xs s

-- one more at the end that passes, or doesn't
pub filter-more : {X : Type 0} (p : X → Bool) (xs : List X) (x : X) → p x ≡ true → filter p (xs ++ x ∷ []) ≡ filter p xs ++ x ∷ []
filter-more p xs x t = filter-append p xs (x ∷ []) ∙ ap (λ b. filter p xs ++ cond b (x ∷ []) []) t

pub filter-no_more : {X : Type 0} (p : X → Bool) (xs : List X) (x : X) → p x ≡ false → filter p (xs ++ x ∷ []) ≡ filter p xs
filter-no_more p xs x t = filter-append p xs (x ∷ []) ∙ ap (λ b. filter p xs ++ cond b (x ∷ []) []) t ∙ append-nil (filter p xs)

-- what passes one test passes the other: some element passes the first where some of the others does
any_case : {X : Type 0} (p q : X → Bool) (x : X) (xs : List X) (b : Bool) → q x ≡ b → (p x ≡ true → q x ≡ true)
    → list_any p xs ≡ list_any p (filter q xs)
    → (p x || list_any p xs) ≡ list_any p (cond b (x ∷ filter q xs) (filter q xs))
any_case p q x xs true e h rest = rw rest refl
any_case p q x xs false e h rest = any_not (p x) refl
  where
    any_not : (a : Bool) → p x ≡ a → (a || list_any p xs) ≡ list_any p (filter q xs)
    any_not true f = absurd (both_ways (q x) e (h f))
    any_not false f = rest

pub any-filter : {X : Type 0} (p q : X → Bool) (xs : List X) → ((x : X) → p x ≡ true → q x ≡ true) → list_any p xs ≡ list_any p (filter q xs)
any-filter p q [] h = refl
any-filter p q (x ∷ xs) h = any_case p q x xs (q x) refl (h x) (any-filter p q xs h)
