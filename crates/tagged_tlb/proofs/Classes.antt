-- Classes that are marked.
use Rattle.std.proofs.Common.{◌-◌, ◌≤◌, ◌≡◌, ℕ, zero, suc, ◌<◌, ◌+◌, Bool, true, false, cond}
use Rattle.std.proofs.Common.{◌&&◌, List, [], ◌∷◌, ◌++◌, take, length, get_or, set}
use Rattle.std.proofs.Common.{map, replicate, refl, ap, sym, ◌∙◌, subst, arith, inl, inr}
use Rattle.std.specs.Prelude.{◌==◌, ◌*◌, ◌%◌, ◌^◌, filter, bit_or}
use Rattle.std.specs.List.{remove}
use Rattle.std.specs.Int.{bit_at, trailing_zeros}
use Rattle.std.proofs.lemmas.Bool.{cases_eq, eq-eqb, eqb-true, and_parts, both_ways}
use Rattle.std.specs.Int.Count.{count_leading_zeros}
use Rattle.std.proofs.Math.Pow.{pow-lt}
use Rattle.std.proofs.lemmas.Nat.{leading_length}
use Rattle.std.proofs.lemmas.Nat.Bits.{bit_at_set_same, bit_at_set_other, bit_at-zero, bit_at_above, bit_at-trailing_zeros}
use Rattle.std.proofs.Common.{w64}
use Rattle.std.proofs.lemmas.List.{get_or-set_same, get_or-set_other}
use Rattle.tagged_tlb.specs.declared.row.Row.{Row}
use Rattle.tagged_tlb.specs.declared.row.Sought.{Sought}
use Rattle.tagged_tlb.specs.Slots.{hit, is_keyed_row, IsFilled}
use Rattle.tagged_tlb.specs.Classes.{is_marked, AllMarked, AreMarked, AreEmpty}

-- BITS

-- no class is marked below the lowest bit that is set
pub start_below : (m : ℕ) → m < 2 ^ 64 → (k : ℕ) → k < trailing_zeros w64 m → is_marked m k ≡ false
start_below zero fits k h = ap (λ b. b == 1) (bit_at-zero k)
start_below (suc m) fits k h = ap (λ b. b == 1) ((bit_at-trailing_zeros w64 (suc m) (omega arith) fits).2 k h)

-- LISTS

pub marked_append : (m : ℕ) (xs ys : List Row) → AllMarked m xs → AllMarked m ys → AllMarked m (xs ++ ys)
marked_append m [] ys a b = b
marked_append m (x ∷ xs) ys a b = (a.0, a.1, marked_append m xs ys a.2 b)

pub marked_remove : (m : ℕ) (xs : List Row) (i : ℕ) → AllMarked m xs → AllMarked m (remove xs i)
marked_remove m [] zero a = tt
marked_remove m [] (suc i) a = tt
marked_remove m (x ∷ xs) zero a = a.2
marked_remove m (x ∷ xs) (suc i) a = (a.0, a.1, marked_remove m xs i a.2)

marked_get : (m : ℕ) (xs : List Row) (i : ℕ) (d : Row) → i < length xs → AllMarked m xs → AllMarked m (get_or xs i d ∷ [])
marked_get m [] i d h a = absurd (omega (arith, h))
marked_get m (x ∷ xs) zero d h a = (a.0, a.1, tt)
marked_get m (x ∷ xs) (suc i) d h a = marked_get m xs i d (omega (arith, h)) a.2

marked_if : (m : ℕ) (x : Row) (xs : List Row) (b : Bool) → AllMarked m (x ∷ []) → AllMarked m xs → AllMarked m (cond b (x ∷ xs) xs)
marked_if m x xs true a rest = (a.0, a.1, rest)
marked_if m x xs false a rest = rest

marked_filter : (m : ℕ) (keep : Row → Bool) (xs : List Row) → AllMarked m xs → AllMarked m (filter keep xs)
marked_filter m keep [] a = tt
marked_filter m keep (x ∷ xs) a = marked_if m x (filter keep xs) (keep x) (a.0, a.1, tt) (marked_filter m keep xs a.2)

pub marked_kills : (m : ℕ) (keep : Row → Bool) (sets : List (List Row)) → AreMarked m sets → AreMarked m (map (filter keep) sets)
marked_kills m keep [] a = tt
marked_kills m keep (rows ∷ sets) a = (marked_filter m keep rows a.0, marked_kills m keep sets a.1)

pub marked_opened : (m n : ℕ) → AreMarked m (replicate n [])
marked_opened m zero = tt
marked_opened m (suc n) = (tt, marked_opened m n)

pub marked_empty : (m : ℕ) (sets : List (List Row)) → AreEmpty sets → AreMarked m sets
marked_empty m [] e = tt
marked_empty m (rows ∷ sets) e = (subst (AllMarked m) (sym (e 0 (omega arith))) tt, marked_empty m sets (λ s lt. e (suc s) (omega (arith, lt))))

pub marked_set : (m : ℕ) (sets : List (List Row)) (i : ℕ) (new : List Row) → AreMarked m sets → AllMarked m new → AreMarked m (set sets i new)
marked_set m [] i new a b = tt
marked_set m (rows ∷ sets) zero new a b = (b, a.1)
marked_set m (rows ∷ sets) (suc i) new a b = (a.0, marked_set m sets i new a.1 b)

pub marked_at : (m : ℕ) (sets : List (List Row)) (i : ℕ) (d : List Row) → i < length sets → AreMarked m sets → AllMarked m (get_or sets i d)
marked_at m [] i d h a = absurd (omega (arith, h))
marked_at m (rows ∷ sets) zero d h a = a.0
marked_at m (rows ∷ sets) (suc i) d h a = marked_at m sets i d (omega (arith, h)) a.1

-- ONE CLASS MORE

module _ (m c : ℕ) (small : c < 64) where
  abbrev pub more : ℕ
  more = bit_or m (1 * 2 ^ c % 2 ^ 64)

  own_marked : is_marked more c ≡ true
  own_marked = eq-eqb (bit_at more c) 1 (bit_at_set_same w64 m c small)

  still_marked : (d : ℕ) → is_marked m d ≡ true → is_marked more d ≡ true
  still_marked d h = elim (cases_eq d c) [
    | inl e ↦ subst (λ v. is_marked more v ≡ true) (sym e) own_marked
    | inr ne ↦ eq-eqb (bit_at more d) 1 (bit_at_set_other w64 m c small d ne ∙ eqb-true (bit_at m d) 1 h)
  ]

  still_all : (xs : List Row) → AllMarked m xs → AllMarked more xs
  still_all [] a = tt
  still_all (x ∷ xs) a = (a.0, still_marked x.region.class a.1, still_all xs a.2)

  still_are : (sets : List (List Row)) → AreMarked m sets → AreMarked more sets
  still_are [] a = tt
  still_are (rows ∷ sets) a = (still_all rows a.0, still_are sets a.1)

  filled_by : (r : Row) → r.region.class ≡ c → (one new : List Row) → AllMarked m one → IsFilled one r new → AllMarked more new
  filled_by r e one new a (inl f) =
      subst (AllMarked more) (sym f) (marked_append more one (r ∷ []) (still_all one a) (
        omega (arith, small, e),
        subst (λ v. is_marked more v ≡ true)
            (sym e) own_marked,
        tt,
      ))
  filled_by r e one new a (inr f) =
      subst (AllMarked more) (sym f.2)
      (marked_append more (remove one f.0) (r ∷ []) (marked_remove more one f.0 (still_all one a)) (
        omega (arith, small, e),
        subst
            (λ v. is_marked more v ≡ true) (sym e) own_marked,
        tt,
      ))

  -- a set that got a row of the class
  pub filled_marked : (r : Row) → r.region.class ≡ c → (sets : List (List Row)) (i : ℕ) (one new : List Row) → i < length sets
      → one ≡ get_or sets i one
      → AreMarked m sets → IsFilled one r new → AreMarked more (set sets i new)
  filled_marked r e sets i one new lt value a f =
      marked_set more sets i new (still_are sets a) (filled_by r e one new (subst (AllMarked m) (sym value) (marked_at m sets i one lt a)) f)

-- a row of a set goes last in it
pub touched_marked : (m : ℕ) (sets : List (List Row)) (i way : ℕ) (one new : List Row) → i < length sets → one ≡ get_or sets i one
    → way < length one
    → AreMarked m sets → ((d : Row) → new ≡ remove one way ++ get_or one way d ∷ []) → AreMarked m (set sets i new)
touched_marked m sets i way [] new lt value within a e = absurd (omega (arith, within))
touched_marked m sets i way (x ∷ xs) new lt value within a e =
    let b : AllMarked m (x ∷ xs) = subst (AllMarked m) (sym value) (marked_at m sets i (x ∷ xs) lt a) in
    marked_set m sets i new a
    (subst (AllMarked m) (sym (e x)) (marked_append m (remove (x ∷ xs) way) (get_or (x ∷ xs) way x ∷ []) (marked_remove m (x ∷ xs) way b) (marked_get m
    (x ∷ xs) way x within b)))

-- NO ROW OF A CLASS

none_if : (q : Sought) (c s : ℕ) (x : Row) (xs : List Row) (b : Bool) → hit q c s x ≡ b → (b ≡ true → x.region.class ≡ c → ⊥)
    → filter (hit q c s) xs ≡ []
    → cond b (x ∷ filter (hit q c s) xs) (filter (hit q c s) xs) ≡ []
none_if q c s x xs true e ne rest =
    let a = and_parts ((x.region.start == s) && (x.region.class == c)) (is_keyed_row q x) e in
    absurd (ne refl (eqb-true x.region.class c (and_parts (x.region.start == s) (x.region.class == c) a.0).1))
none_if q c s x xs false e ne rest = rest

-- where a class isn't marked, no row of it is there
pub none_marked : (m c : ℕ) → is_marked m c ≡ false → (q : Sought) (s : ℕ) (xs : List Row) → AllMarked m xs → filter (hit q c s) xs ≡ []
none_marked m c no_mark q s [] a = refl
none_marked m c no_mark q s (x ∷ xs) a =
    none_if q c s x xs (hit q c s x) refl (λ t e. both_ways (is_marked m c) no_mark (subst (λ v. is_marked m v ≡ true) e a.1))
    (none_marked m c no_mark q s xs a.2)

no_mark_at : (c : ℕ) → is_marked 0 c ≡ true → ⊥
no_mark_at c h = let e = eqb-true (bit_at 0 c) 1 h in let z = bit_at-zero c in omega (arith, e, z)

all_none : (xs : List Row) → AllMarked 0 xs → xs ≡ []
all_none [] a = refl
all_none (x ∷ xs) a = absurd (no_mark_at x.region.class a.1)

-- without a mark there is no row, and nothing goes
pub kills_none : (keep : Row → Bool) (sets : List (List Row)) → AreMarked 0 sets → map (filter keep) sets ≡ sets
kills_none keep [] a = refl
kills_none keep (rows ∷ sets) a = rw (all_none rows a.0, kills_none keep sets a.1) refl

take_front : {X : Type 0} (xs ys : List X) → take (length xs) (xs ++ ys) ≡ xs
take_front [] ys = refl
take_front (x ∷ xs) ys = ap (λ v. x ∷ v) (take_front xs ys)

-- what is written back of a whole list
pub whole : {X : Type 0} (n : ℕ) (xs ys : List X) → n ≡ length xs → take n (xs ++ ys) ≡ xs
whole n xs ys e = ap (λ k. take k (xs ++ ys)) e ∙ take_front xs ys

pub no_length : {X : Type 0} (xs : List X) → length xs ≡ 0 → xs ≡ []
no_length [] h = refl
no_length (x ∷ xs) h = absurd (omega (arith, h))

-- one set more has no row
pub emptied : (sets : List (List Row)) (i : ℕ) (new : List Row) → i < length sets → new ≡ [] → ((s : ℕ) → s < i → get_or sets s [] ≡ [])
    → (s : ℕ) → s < i + 1 → get_or (set sets i new) s [] ≡ []
emptied sets i new lt e rest s h = elim (cases_eq i s) as (λ _. get_or (set sets i new) s [] ≡ []) [
  | inl q ↦ subst (λ v. get_or (set sets i new) v [] ≡ []) q (get_or-set_same sets i new [] lt ∙ e)
  | inr ne ↦ get_or-set_other sets i s new [] (λ q. ne (sym q)) ∙ rest s (omega (arith, h, ne))
]

-- no class from one on is marked
pub none_from : (m c d : ℕ) → m < 2 ^ c → c ≤ d → is_marked m d ≡ false
none_from m c d small le = let z = bit_at_above m c d small le in ap (λ v. v == 1) z

pub wider : (m c : ℕ) → m < 2 ^ c → m < 2 ^ (c + 1)
wider m c h = let k : 2 ^ c < 2 ^ (c + 1) = pow-lt (omega arith) in omega (arith, h, k)

pub end_above : (m : ℕ) → m < 2 ^ 64 → m < 2 ^ (64 - count_leading_zeros 64 m)
end_above m h =
    let l = leading_length 64 m h in
    let e : l.0 ≡ 64 - count_leading_zeros 64 m = let a = l.1 in omega (arith, a) in
    subst (λ v. m < 2 ^ v) e l.2
