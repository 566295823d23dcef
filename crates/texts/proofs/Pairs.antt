-- Digits, two at a time.
use Rattle.std.proofs.Common.{◌≡◌, ◌≢◌, ℕ, ◌+◌, ◌-◌, ◌*◌, ◌/◌, ◌%◌, ◌^◌, ◌<◌, ◌≤◌, zero, suc, List, []}
use Rattle.std.proofs.Common.{◌∷◌, ◌++◌, Bool, true, false, ◌==◌, ◌&&◌, length, drop, take, ap, refl, arith, ◌∙◌, eqb, sym, subst}
use Rattle.std.proofs.lemmas.Bool.{eqb-true}
use Rattle.std.proofs.lemmas.Bool.Decides.{nat_tests}
use Rattle.std.proofs.lemmas.Nat.{mod-mul-add, div-mul-add}
use Rattle.std.proofs.Math.Arith.{mod-mul}
use Rattle.std.proofs.Math.Nat.{div-div-eq-div-mul, div-lt_iff_lt-mul, div-eq_of_lt, mod-eq_of_lt, pow-suc, pow-zero, mod-lt}
use Rattle.std.specs.Fmt.{digit_glyph}
use Rattle.texts.specs.Texts.{pair_text, ArePairs}
use Rattle.texts.specs.declared.digits.TheConstants.{DECIMAL_PAIRS, HEX_PAIRS}
use Rattle.texts.proofs.Onto.{onto, onto_more, onto_last, room_left}
use Rattle.texts.proofs.Values.{both}

-- a list has the digits of the numbers from one on
abbrev are_pairs : (radix first : ℕ) (list : List ℕ) → Bool
are_pairs r n [] = true
are_pairs r n (x ∷ []) = false
are_pairs r n (x ∷ (y ∷ zs)) = (x == digit_glyph false (n / r)) && ((y == digit_glyph false (n % r)) && are_pairs r (n + 1) zs)

pair_from : (r n : ℕ) (xs : List ℕ) → are_pairs r n xs ≡ true → (i : ℕ) → 2 * i < length xs → take 2 (drop (2 * i) xs) ≡ pair_text r (n + i)
pair_from r n [] h i l = absurd (omega arith)
pair_from r n (x ∷ []) h i l = cc
pair_from r n (x ∷ (y ∷ zs)) h zero l =
    let a = both (x == digit_glyph false (n / r)) ((y == digit_glyph false (n % r)) && are_pairs r (n + 1) zs) h in
    let b = both (y == digit_glyph false (n % r)) (are_pairs r (n + 1) zs) a.1 in
    let here : n + 0 ≡ n = omega arith in
    rw (here, eqb-true x (digit_glyph false (n / r)) a.0, eqb-true y (digit_glyph false (n % r)) b.0) refl
pair_from r n (x ∷ (y ∷ zs)) h (suc i) l =
    let a = both (x == digit_glyph false (n / r)) ((y == digit_glyph false (n % r)) && are_pairs r (n + 1) zs) h in
    let b = both (y == digit_glyph false (n % r)) (are_pairs r (n + 1) zs) a.1 in
    let at : 2 * suc i ≡ suc (suc (2 * i)) = omega arith in
    let next : n + 1 + i ≡ n + suc i = omega arith in
    ap (λ (k : ℕ). take 2 (drop k (x ∷ (y ∷ zs)))) at ∙ pair_from r (n + 1) zs b.1 i (omega arith) ∙ ap (pair_text r) next

pub hex_pairs : ArePairs 16 HEX_PAIRS
hex_pairs = (refl, λ n l. pair_from 16 0 HEX_PAIRS refl n (omega arith) ∙ ap (pair_text 16) (let e : 0 + n ≡ n = omega arith in e))

pub decimal_pairs : ArePairs 10 DECIMAL_PAIRS
decimal_pairs = (refl, λ n l. pair_from 10 0 DECIMAL_PAIRS refl n (omega arith) ∙ ap (pair_text 10) (let e : 0 + n ≡ n = omega arith in e))

pub not_zero : (m : ℕ) → m ≢ 0 → eqb m 0 ≡ false
not_zero m h = grind (arith, nat_tests)

pub is_zero : (m : ℕ) → m ≡ 0 → eqb m 0 ≡ true
is_zero m h = grind (arith, nat_tests)

module _ (r : ℕ) (two : 2 ≤ r) where
  pub low : (n : ℕ) → n % (r * r) % r ≡ n % r
  low n = ap (λ m. m % r) (mod-mul n (omega arith) (omega arith)) ∙ mod-mul-add (n / r % r) r (n % r) (mod-lt n (omega arith))

  pub high : (n : ℕ) → n % (r * r) / r ≡ n / r % r
  high n = ap (λ m. m / r) (mod-mul n (omega arith) (omega arith)) ∙ div-mul-add (n / r % r) r (n % r) (mod-lt n (omega arith))

  -- two digits of a number that has more
  two_more : (room n : ℕ) (acc : List ℕ) → n / r ≢ 0 → n / r / r ≢ 0
      → onto (suc (suc room)) r n acc ≡ onto room r (n / (r * r)) (pair_text r (n % (r * r)) ++ acc)
  two_more room n acc h k =
      onto_more (suc room) r n acc (not_zero (n / r) h)
      ∙ onto_more room r (n / r) (digit_glyph false (n % r) ∷ acc) (not_zero (n / r / r) k)
      ∙ ap (λ (m : ℕ). onto room r m (digit_glyph false (n / r % r) ∷ (digit_glyph false (n % r) ∷ acc))) (div-div-eq-div-mul n r r)
      ∙ ap (λ (m : ℕ). onto room r (n / (r * r)) (digit_glyph false m ∷ (digit_glyph false (n % r) ∷ acc))) (sym (high n))
      ∙ ap (λ (m : ℕ). onto room r (n / (r * r)) (digit_glyph false (n % (r * r) / r) ∷ (digit_glyph false m ∷ acc))) (sym (low n))

  some : (n m : ℕ) → 0 < m → m ≤ n → n / m ≢ 0
  some n m p h e = let below : n < 1 * m = (div-lt_iff_lt-mul p).0 (omega (arith, e)) in omega (arith, below)

  wide : r ≤ r * r
  wide = let h : 2 ≤ r = two in grind arith

  first : r ^ 1 ≡ r
  first = pow-suc r 0 ∙ (let none : r ^ 0 ≡ 1 = pow-zero r in rw none (omega arith))

  square : r ^ 2 ≡ r * r
  square = pow-suc r 1 ∙ ap (λ m. m * r) first

  fuel2 : (b k : ℕ) → 2 ≤ k → suc (suc (b + (k - 2))) ≡ b + k
  fuel2 b k h = omega arith

  pub pair_put : (b k n : ℕ) (old new : List ℕ) → 2 ≤ k → r * r ≤ n → new ≡ pair_text r (n % (r * r)) ++ old
      → onto (b + (k - 2)) r (n / (r * r)) new ≡ onto (b + k) r n old
  pair_put b k n old new h l is =
      let w = wide in
      let whole : n / r / r ≢ 0 = λ e. some n (r * r) (omega (arith, w)) l (sym (div-div-eq-div-mul n r r) ∙ e) in
      ap (onto (b + (k - 2)) r (n / (r * r))) is
      ∙ sym (two_more (b + (k - 2)) n old (some n r (omega arith) (omega (arith, w))) whole) ∙ ap (λ (m : ℕ). onto m r n old) (fuel2 b k h)

  pub pair_end : (b k n : ℕ) (old new : List ℕ) → 2 ≤ k → r ≤ n → n < r * r → new ≡ pair_text r n ++ old → new ≡ onto (b + k) r n old
  pair_end b k n old new h l m is =
      let digit : n / r < r = (div-lt_iff_lt-mul {k = r} {x = n} {y = r} (omega (arith, two))).1 m in
      is ∙ ap (λ (d : ℕ). digit_glyph false d ∷ (digit_glyph false (n % r) ∷ old)) (sym (mod-eq_of_lt digit))
      ∙ sym (onto_last (b + (k - 2)) r (n / r) (digit_glyph false (n % r) ∷ old) (is_zero (n / r / r) (div-eq_of_lt digit)))
      ∙ sym (onto_more (suc (b + (k - 2))) r n old (not_zero (n / r) (some n r (omega arith) l))) ∙ ap (λ (f : ℕ). onto f r n old) (fuel2 b k h)

  pub digit_end : (b k n : ℕ) (old new : List ℕ) → 1 ≤ k → n < r → new ≡ digit_glyph false n ∷ old → new ≡ onto (b + k) r n old
  digit_end b k n old new h l is =
      let fuel1 : suc (b + (k - 1)) ≡ b + k = omega arith in
      is ∙ ap (λ (d : ℕ). digit_glyph false d ∷ old) (sym (mod-eq_of_lt l))
      ∙ sym (onto_last (b + (k - 1)) r n old (is_zero (n / r) (div-eq_of_lt l))) ∙ ap (λ (f : ℕ). onto f r n old) fuel1

  -- how many digits there are at least
  pub two_digits : (k n : ℕ) → r ≤ n → n < r ^ k → 2 ≤ k
  two_digits zero n h l = absurd (let none : n < 1 = rw (pow-zero r) at l in omega (arith, two, none))
  two_digits (suc zero) n h l = absurd (let one : n < r = rw first at l in omega (arith, one))
  two_digits (suc (suc k)) n h l = omega arith

  pub three_digits : (k n : ℕ) → r * r ≤ n → n < r ^ k → 3 ≤ k
  three_digits k n h l =
      let w = wide in
      let two_at_least : 2 ≤ k = two_digits k n (omega (arith, w)) l in
      by_three k two_at_least l
    where
      by_three : (j : ℕ) → 2 ≤ j → n < r ^ j → 3 ≤ j
      by_three zero a b = absurd (omega arith)
      by_three (suc zero) a b = absurd (omega arith)
      by_three (suc (suc zero)) a b = absurd (let c : n < r * r = rw square at b in omega (arith, c))
      by_three (suc (suc (suc j))) a b = omega arith

  pub room_left2 : (k n : ℕ) → 2 ≤ k → n < r ^ k → n / (r * r) < r ^ (k - 2)
  room_left2 k n h l =
      let once : n / r < r ^ (k - 1) = room_left r k n (omega arith) (omega arith) l in
      let twice : n / r / r < r ^ (k - 1 - 1) = room_left r (k - 1) (n / r) (omega arith) (omega arith) once in
      let less : k - 1 - 1 ≡ k - 2 = omega arith in
      subst (λ (m : ℕ). m < r ^ (k - 2)) (div-div-eq-div-mul n r r) (subst (λ (x : ℕ). n / r / r < r ^ x) less twice)
