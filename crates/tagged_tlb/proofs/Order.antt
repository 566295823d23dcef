-- Rows in the order of their making, whatever the order in which they come.
use Rattle.std.proofs.Common.{◌≡◌, ℕ, ◌<◌, Bool, true, false, not, cond, ◌&&◌, ◌||◌, List, []}
use Rattle.std.proofs.Common.{◌∷◌, take, ◌⊎◌, inl, inr, refl, ap, sym, ◌∙◌, subst, arith}
use Rattle.std.specs.Prelude.{filter, ◌==◌, nat_lt}
use Rattle.std.proofs.lemmas.Bool.{cases_Bool, cases_lt, eq-eqb, eqb-true, ltb-true, ltb-false, and_from, and_parts, or_left, or_right, both_ways}
use Rattle.tagged_tlb.specs.declared.row.Made.{Made}
use Rattle.tagged_tlb.specs.declared.row.Row.{Row}
use Rattle.tagged_tlb.specs.Rows.{is_older, inserted, by_making}
use Rattle.tagged_tlb.specs.Sets.{is_row}
use Rattle.tagged_tlb.specs.Tied.{IsOther, AreToldApart}
use Rattle.tagged_tlb.proofs.Touches.{other_filter}

pub lt_yes : (a b : ℕ) → a < b → nat_lt a b ≡ true
lt_yes a b h = elim (cases_Bool (nat_lt a b)) [ inl t ↦ t | inr f ↦ absurd (omega (arith, h, ltb-false a b f)) ]

abbrev IsOlder : Made → Made → Type 0
IsOlder a b = (a.step < b.step) ⊎ ((a.step ≡ b.step) × (a.order < b.order))

older_from : (a b : Made) → IsOlder a b → is_older a b ≡ true
older_from a b (inl h) = or_left (nat_lt a.step b.step) ((a.step == b.step) && nat_lt a.order b.order) (lt_yes a.step b.step h)
older_from a b (inr h) =
    or_right (nat_lt a.step b.step) ((a.step == b.step) && nat_lt a.order b.order)
    (and_from (a.step == b.step) (nat_lt a.order b.order) (eq-eqb a.step b.step h.0) (lt_yes a.order b.order h.1))

older_to : (a b : Made) → is_older a b ≡ true → IsOlder a b
older_to a b h = elim (cases_Bool (nat_lt a.step b.step)) [
  | inl t ↦ inl (ltb-true a.step b.step t)
  | inr f ↦
      let both : ((a.step == b.step) && nat_lt a.order b.order) ≡ true = subst (λ v. (v || ((a.step == b.step) && nat_lt a.order b.order)) ≡ true) f h in
      let p = and_parts (a.step == b.step) (nat_lt a.order b.order) both in
      inr (eqb-true a.step b.step p.0, ltb-true a.order b.order p.1)
]

older_back : (a b : Made) → IsOlder a b → IsOlder b a → ⊥
older_back a b (inl h) (inl k) = omega (arith, h, k)
older_back a b (inl h) (inr k) = omega (arith, h, k.0)
older_back a b (inr h) (inl k) = omega (arith, h.0, k)
older_back a b (inr h) (inr k) = omega (arith, h.1, k.1)

older_then : (a b c : Made) → IsOlder a b → IsOlder b c → IsOlder a c
older_then a b c (inl h) (inl k) = inl (omega (arith, h, k))
older_then a b c (inl h) (inr k) = inl (omega (arith, h, k.0))
older_then a b c (inr h) (inl k) = inl (omega (arith, h.0, k))
older_then a b c (inr h) (inr k) = inr (omega (arith, h.0, k.0), omega (arith, h.1, k.1))

older_some : (r s : Row) → is_row r s ≡ false → IsOlder r.made s.made ⊎ IsOlder s.made r.made
older_some r s h = elim (cases_lt r.made.step s.made.step) [
  | inl k ↦ inl (inl k)
  | inr k ↦ elim (cases_lt s.made.step r.made.step) [
    | inl m ↦ inr (inl m)
    | inr m ↦
        let e : r.made.step ≡ s.made.step = omega (arith, k, m) in
        elim (cases_lt r.made.order s.made.order) [
          | inl o ↦ inl (inr (e, o))
          | inr o ↦ elim (cases_lt s.made.order r.made.order) [
            | inl q ↦ inr (inr (sym e, q))
            | inr q ↦
                let f : r.made.order ≡ s.made.order = omega (arith, o, q) in
                absurd (both_ways (is_row r s) h (and_from (r.made.step == s.made.step) (r.made.order == s.made.order) (eq-eqb r.made.step s.made.step e)
                (eq-eqb r.made.order s.made.order f)))
          ]
        ]
  ]
]

older_no : (a b : Made) → IsOlder b a → is_older a b ≡ false
older_no a b h = elim (cases_Bool (is_older a b)) [ inl t ↦ absurd (older_back a b (older_to a b t) h) | inr f ↦ f ]

older_turned : (r s : Row) → is_row r s ≡ false → is_older s.made r.made ≡ not (is_older r.made s.made)
older_turned r s h = elim (older_some r s h) [
  | inl a ↦ older_no s.made r.made a ∙ ap not (sym (older_from r.made s.made a))
  | inr b ↦ older_from s.made r.made b ∙ ap not (sym (older_no r.made s.made b))
]

-- TWO ROWS THAT COME

before : (r x : Row) (xs : List Row) → is_older r.made x.made ≡ true → inserted r (x ∷ xs) ≡ r ∷ x ∷ xs
before r x xs e = ap (λ b. cond b (r ∷ x ∷ xs) (x ∷ inserted r xs)) e

behind : (r x : Row) (xs : List Row) → is_older r.made x.made ≡ false → inserted r (x ∷ xs) ≡ x ∷ inserted r xs
behind r x xs e = ap (λ b. cond b (r ∷ x ∷ xs) (x ∷ inserted r xs)) e

module _ (r s x : Row) (xs : List Row) (rest : inserted r (inserted s xs) ≡ inserted s (inserted r xs)) where
  both_by : (a b c : Bool) → is_older r.made s.made ≡ a → is_older s.made r.made ≡ not a → is_older r.made x.made ≡ b
      → is_older s.made x.made ≡ c
      → inserted r (cond c (s ∷ x ∷ xs) (x ∷ inserted s xs)) ≡ inserted s (cond b (r ∷ x ∷ xs) (x ∷ inserted r xs))
  both_by true true true ea ea2 eb ec = before r s (x ∷ xs) ea ∙ sym (behind s r (x ∷ xs) ea2 ∙ ap (λ v. r ∷ v) (before s x xs ec))
  both_by false true true ea ea2 eb ec = (behind r s (x ∷ xs) ea ∙ ap (λ v. s ∷ v) (before r x xs eb)) ∙ sym (before s r (x ∷ xs) ea2)
  both_by true false true ea ea2 eb ec =
      absurd (both_ways (is_older r.made x.made) eb (older_from r.made x.made (older_then r.made s.made x.made (older_to r.made s.made ea)
      (older_to s.made x.made ec))))
  both_by false false true ea ea2 eb ec = (behind r s (x ∷ xs) ea ∙ ap (λ v. s ∷ v) (behind r x xs eb)) ∙ sym (before s x (inserted r xs) ec)
  both_by true true false ea ea2 eb ec = before r x (inserted s xs) eb ∙ sym (behind s r (x ∷ xs) ea2 ∙ ap (λ v. r ∷ v) (behind s x xs ec))
  both_by false true false ea ea2 eb ec =
      absurd (both_ways (is_older s.made x.made) ec (older_from s.made x.made (older_then s.made r.made x.made (older_to s.made r.made ea2)
      (older_to r.made x.made eb))))
  both_by true false false ea ea2 eb ec = behind r x (inserted s xs) eb ∙ ap (λ v. x ∷ v) rest ∙ sym (behind s x (inserted r xs) ec)
  both_by false false false ea ea2 eb ec = behind r x (inserted s xs) eb ∙ ap (λ v. x ∷ v) rest ∙ sym (behind s x (inserted r xs) ec)

alone_by : (r s : Row) (a : Bool) → is_older r.made s.made ≡ a → is_older s.made r.made ≡ not a → inserted r (s ∷ []) ≡ inserted s (r ∷ [])
alone_by r s true e f = before r s [] e ∙ sym (behind s r [] f)
alone_by r s false e f = behind r s [] e ∙ sym (before s r [] f)

-- the order in which they come doesn't count
pub either_way : (r s : Row) → is_row r s ≡ false → (xs : List Row) → inserted r (inserted s xs) ≡ inserted s (inserted r xs)
either_way r s h [] = alone_by r s (is_older r.made s.made) refl (older_turned r s h)
either_way r s h (x ∷ xs) =
    both_by r s x xs (either_way r s h xs) (is_older r.made s.made) (is_older r.made x.made) (is_older s.made x.made) refl (older_turned r s h) refl refl

-- MANY ROWS THAT COME

-- the last of them first
abbrev pub adds : (xs rows : List Row) → List Row
adds xs [] = xs
adds xs (r ∷ rows) = inserted r (adds xs rows)

-- the first of them first
abbrev pub runs : (xs rows : List Row) → List Row
runs xs [] = xs
runs xs (r ∷ rows) = runs (inserted r xs) rows

push : (y : Row) (xs rows : List Row) → IsOther y rows → inserted y (adds xs rows) ≡ adds (inserted y xs) rows
push y xs [] o = refl
push y xs (r ∷ rows) o = either_way y r o.0 (adds xs rows) ∙ ap (inserted r) (push y xs rows o.1)

pub runs_adds : (xs rows : List Row) → AreToldApart rows → runs xs rows ≡ adds xs rows
runs_adds xs [] t = refl
runs_adds xs (r ∷ rows) t = runs_adds (inserted r xs) rows t.1 ∙ sym (push r xs rows t.0)

told_if : (y : Row) (ys : List Row) (b : Bool) → IsOther y ys → AreToldApart ys → AreToldApart (cond b (y ∷ ys) ys)
told_if y ys true o t = (o, t)
told_if y ys false o t = t

pub told_filter : (q : Row → Bool) (xs : List Row) → AreToldApart xs → AreToldApart (filter q xs)
told_filter q [] t = tt
told_filter q (x ∷ xs) t = told_if x (filter q xs) (q x) (other_filter q x xs t.0) (told_filter q xs t.1)

-- those that pass one of two tests, of which none passes both
module _ (p q : Row → Bool) where
  split_by : (y : Row) (ys : List Row) (a b : Bool) → (a ≡ true → b ≡ false) → IsOther y ys
      → by_making (filter (λ r. p r || q r) ys) ≡ adds (by_making (filter p ys)) (filter q ys)
      → by_making (cond (a || b) (y ∷ filter (λ r. p r || q r) ys) (filter (λ r. p r || q r) ys))
      ≡ adds (by_making (cond a (y ∷ filter p ys) (filter p ys))) (cond b (y ∷ filter q ys) (filter q ys))
  split_by y ys true true apart o rest = absurd (both_ways true (apart refl) refl)
  split_by y ys true false apart o rest = ap (inserted y) rest ∙ push y (by_making (filter p ys)) (filter q ys) (other_filter q y ys o)
  split_by y ys false true apart o rest = ap (inserted y) rest
  split_by y ys false false apart o rest = rest

  pub split : ((r : Row) → p r ≡ true → q r ≡ false) → (xs : List Row) → AreToldApart xs
      → by_making (filter (λ r. p r || q r) xs) ≡ adds (by_making (filter p xs)) (filter q xs)
  split apart [] t = refl
  split apart (y ∷ ys) t = split_by y ys (p y) (q y) (apart y) t.0 (split apart ys t.1)

-- THE FIRST TWO

first_one : (r y : Row) (zs : List Row) → take 1 (inserted r (y ∷ zs)) ≡ take 1 (inserted r (y ∷ []))
first_one r y zs = by_case (is_older r.made y.made)
  where
    by_case : (b : Bool) → take 1 (cond b (r ∷ y ∷ zs) (y ∷ inserted r zs)) ≡ take 1 (cond b (r ∷ y ∷ []) (y ∷ inserted r []))
    by_case true = refl
    by_case false = refl

-- one more among the first two
pub two_with : (r : Row) (xs : List Row) → take 2 (inserted r (take 2 xs)) ≡ take 2 (inserted r xs)
two_with r [] = refl
two_with r (x ∷ []) = refl
two_with r (x ∷ y ∷ zs) = by_case (is_older r.made x.made)
  where
    by_case : (b : Bool) → take 2 (cond b (r ∷ x ∷ y ∷ []) (x ∷ inserted r (y ∷ [])))
        ≡ take 2 (cond b (r ∷ x ∷ y ∷ zs) (x ∷ inserted r (y ∷ zs)))
    by_case true = refl
    by_case false = ap (λ v. x ∷ v) (sym (first_one r y zs))
