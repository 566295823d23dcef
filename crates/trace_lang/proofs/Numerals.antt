-- Numbers that were written are read back.
use Rattle.std.proofs.Common.{◌≡◌, ℕ, zero, suc, ◌+◌, ◌-◌, ◌/◌, ◌%◌, ◌<◌, ◌≤◌, ◌^◌, Bool, true}
use Rattle.std.proofs.Common.{false, eqb, List, [], ◌∷◌, length, Some, refl, ◌∙◌, ap, arith, subst}
use Rattle.std.specs.Prelude.{decimal, nat_lt}
use Rattle.std.specs.Char.{digit_value}
use Rattle.std.specs.Fmt.{digits, digits_onto, digit_glyph}
use Rattle.std.specs.List.{list_all}
use Rattle.std.specs.Str.Parse.{AllDigits, digits_value}
use Rattle.std.proofs.Math.Nat.{div-lt_iff_lt-mul, pow-suc}
use Rattle.std.proofs.lemmas.Bool.{and_from, lt-ltb}
use Rattle.std.proofs.lemmas.Bool.Decides.{nat_tests}
use Rattle.std.proofs.lemmas.Fmt.{digits_is_IsNumeral, decimal_digit}
use Rattle.std.proofs.lemmas.Grind.{common_steps}
use Rattle.texts.specs.Numbers.{number_of, number_in, all_digits}
use Rattle.texts.specs.Texts.{hex_text}
use Rattle.trace_lang.proofs.Spaced.{is_seen, is_word, word_by}

-- HOW MANY DIGITS

abbrev onto : (room n : ℕ) (acc : List ℕ) → List ℕ
onto room n acc = digits_onto room 16 false n acc

onto_last : (room n : ℕ) (acc : List ℕ) → eqb (n / 16) 0 ≡ true → onto (suc room) n acc ≡ digit_glyph false (n % 16) ∷ acc
onto_last room n acc h = rw h refl

onto_more : (room n : ℕ) (acc : List ℕ) → eqb (n / 16) 0 ≡ false → onto (suc room) n acc ≡ onto room (n / 16) (digit_glyph false (n % 16) ∷ acc)
onto_more room n acc h = rw h refl

left : (k n : ℕ) → 0 < k → n < 16 ^ k → n / 16 < 16 ^ (k - 1)
left k n p l = let one : k ≡ suc (k - 1) =
    omega arith in (div-lt_iff_lt-mul (omega arith)).1 (let b : n < 16 ^ suc (k - 1) = subst (λ (x : ℕ). n < 16 ^ x) one l in rw pow-suc at b)

some : (k n : ℕ) → eqb n 0 ≡ false → n < 16 ^ k → 0 < k
some zero n e l = let z : n ≡ 0 = omega arith in absurd (grind (arith, nat_tests))
some (suc k) n e l = omega arith

room_case : (room k n : ℕ) (acc : List ℕ) (b : Bool) → eqb (n / 16) 0 ≡ b → 0 < k → n < 16 ^ k →
    ((j m : ℕ) (more : List ℕ) → 0 < j → m < 16 ^ j → length (onto room m more) ≤ j + length more)
    → length (onto (suc room) n acc) ≤ k + length acc
room_case room k n acc true e p l ih = let a = ap length (onto_last room n acc e) in omega (arith, a)
room_case room k n acc false e p l ih =
    let d : ℕ = digit_glyph false (n % 16) in
    let a = ap length (onto_more room n acc e) in
    let small = left k n p l in
    let m = ih (k - 1) (n / 16) (d ∷ acc) (some (k - 1) (n / 16) e small) small in
    omega (arith, a, m)

digits_room : (room k n : ℕ) (acc : List ℕ) → 0 < k → n < 16 ^ k → length (onto room n acc) ≤ k + length acc
digits_room zero k n acc p l = omega arith
digits_room (suc room) k n acc p l = room_case room k n acc (eqb (n / 16) 0) refl p l (λ j m more. digits_room room j m more)

few : (n : ℕ) → n < 2 ^ 64 → length (digits 16 false n) ≤ 16
unfolding digits
few n h = let m = digits_room 64 16 n [] (omega arith) h in omega (arith, m)

-- DIGITS

digit_seen : (c : ℕ) → digit_value c < 16 → is_seen c ≡ true
digit_seen c h = grind (arith, common_steps, nat_tests)

all_seen : (ds : List ℕ) → AllDigits 16 ds → list_all is_seen ds ≡ true
all_seen [] h = refl
all_seen (c ∷ cs) h = and_from (is_seen c) (list_all is_seen cs) (digit_seen c h.0) (all_seen cs h.1)

all_are : (radix : ℕ) (ds : List ℕ) → AllDigits radix ds → all_digits radix ds ≡ true
all_are radix [] h = refl
all_are radix (c ∷ cs) h = and_from (nat_lt (digit_value c) radix) (all_digits radix cs) (lt-ltb (digit_value c) radix h.0) (all_are radix cs h.1)

read_in : (radix most n : ℕ) (ds : List ℕ) → 0 < length ds → length ds ≤ most → all_digits radix ds ≡ true → digits_value radix ds ≡ n
    → n < 2 ^ 64 →
    number_in radix most ds ≡ Some n
read_in radix most n ds p q a v l = grind (arith, common_steps, nat_tests)

-- NUMBERS

small : (n : ℕ) → n < 2 ^ 64 → n < 16 ^ 64
small n h = omega arith

pub hex_back : (n : ℕ) → n < 2 ^ 64 → number_of (hex_text n) ≡ Some n
hex_back n h =
    let d = digits_is_IsNumeral 16 false (omega arith) (omega arith) n (small n h) in
    read_in 16 16 n (digits 16 false n) d.0.0 (few n h) (all_are 16 (digits 16 false n) d.0.1) d.1 h

pub hex_word : (n : ℕ) → n < 2 ^ 64 → is_word (hex_text n) ≡ true
hex_word n h =
    let d = digits_is_IsNumeral 16 false (omega arith) (omega arith) n (small n h) in
    let l = few n h in
    word_by (hex_text n) (omega arith) (omega (arith, l)) (all_seen (digits 16 false n) d.0.1)

-- a number of cores, or of a core
one_digit : (P : List ℕ → ℕ → Type 0) → P (0x30 ∷ []) 0 → P (0x31 ∷ []) 1 → P (0x32 ∷ []) 2 → P (0x33 ∷ []) 3 → P (0x34 ∷ []) 4
    → P (0x35 ∷ []) 5 →
    P (0x36 ∷ []) 6 → P (0x37 ∷ []) 7 → P (0x38 ∷ []) 8 →
    (n : ℕ) → n ≤ 8 → P ((48 + n) ∷ []) n
one_digit P a b c d e f g h i zero l = a
one_digit P a b c d e f g h i (suc zero) l = b
one_digit P a b c d e f g h i (suc (suc zero)) l = c
one_digit P a b c d e f g h i (suc (suc (suc zero))) l = d
one_digit P a b c d e f g h i (suc (suc (suc (suc zero)))) l = e
one_digit P a b c d e f g h i (suc (suc (suc (suc (suc zero))))) l = f
one_digit P a b c d e f g h i (suc (suc (suc (suc (suc (suc zero)))))) l = g
one_digit P a b c d e f g h i (suc (suc (suc (suc (suc (suc (suc zero))))))) l = h
one_digit P a b c d e f g h i (suc (suc (suc (suc (suc (suc (suc (suc zero)))))))) l = i
one_digit P a b c d e f g h i (suc (suc (suc (suc (suc (suc (suc (suc (suc n))))))))) l = absurd (omega arith)

pub decimal_back : (n : ℕ) → n ≤ 8 → number_of (decimal n) ≡ Some n
decimal_back n h = ap number_of (decimal_digit n (omega arith)) ∙ one_digit (λ ds m. number_of ds
    ≡ Some m) refl refl refl refl refl refl refl refl refl n h

pub decimal_word : (n : ℕ) → n ≤ 8 → is_word (decimal n) ≡ true
decimal_word n h = ap is_word (decimal_digit n (omega arith)) ∙ one_digit (λ ds m. is_word ds ≡ true) refl refl refl refl refl refl refl refl refl n h
