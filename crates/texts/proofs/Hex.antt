-- The last hexadecimal digits of a number, and those without zeros in front.
use Rattle.std.proofs.Common.{◌≡◌, ℕ, ◌+◌, ◌-◌, ◌*◌, ◌/◌, ◌%◌, ◌^◌, ◌<◌, ◌≤◌, zero, suc}
use Rattle.std.proofs.Common.{List, ◌∷◌, ◌++◌, false, drop, max, ap, refl, arith, ◌∙◌, sym, subst}
use Rattle.std.proofs.lemmas.List.{drop-drop}
use Rattle.std.specs.Prelude.{bit_or}
use Rattle.std.proofs.lemmas.Nat.{leading_top, pow-add, le_or_l, le_or_r, or_lt}
use Rattle.std.proofs.Math.Nat.{div-div-eq-div-mul, div-eq_of_lt, pow-suc, pow-zero, pow-le-pow_right}
use Rattle.std.specs.Fmt.{digits, digit_glyph}
use Rattle.std.specs.Int.Count.{count_leading_zeros}
use Rattle.texts.specs.Texts.{pair_text, last_digits, HasDigits}
use Rattle.texts.proofs.Onto.{onto, onto_more, onto_last, digits_start}
use Rattle.texts.proofs.Pairs.{low, high, not_zero, is_zero}

two : 2 ≤ 16
two = omega arith

two_at_once : (k n : ℕ) (acc : List ℕ) → last_digits (suc (suc k)) 16 n acc ≡ last_digits k 16 (n / 256) (pair_text 16 (n % 256) ++ acc)
two_at_once k n acc =
    ap (λ (m : ℕ). last_digits k 16 m (digit_glyph false (n / 16 % 16) ∷ (digit_glyph false (n % 16) ∷ acc))) (div-div-eq-div-mul n 16 16)
    ∙ ap (λ (m : ℕ). last_digits k 16 (n / 256) (digit_glyph false m ∷ (digit_glyph false (n % 16) ∷ acc))) (sym (high 16 two n))
    ∙ ap (λ (m : ℕ). last_digits k 16 (n / 256) (digit_glyph false (n % 256 / 16) ∷ (digit_glyph false m ∷ acc))) (sym (low 16 two n))

-- eight digits, put in pairs
pub eight : (n : ℕ) (old a b c d : List ℕ) → a ≡ pair_text 16 (n % 256) ++ old → b ≡ pair_text 16 (n / 256 % 256) ++ a
    → c ≡ pair_text 16 (n / 256 / 256 % 256) ++ b → d ≡ pair_text 16 (n / 256 / 256 / 256 % 256) ++ c → d ≡ last_digits 8 16 n old
eight n old a b c d ea eb ec ed = sym (
    two_at_once 6 n old ∙ ap (last_digits 6 16 (n / 256)) (sym ea)
    ∙ two_at_once 4 (n / 256) a ∙ ap (last_digits 4 16 (n / 256 / 256)) (sym eb)
    ∙ two_at_once 2 (n / 256 / 256) b ∙ ap (last_digits 2 16 (n / 256 / 256 / 256)) (sym ec)
    ∙ two_at_once 0 (n / 256 / 256 / 256) c ∙ sym ed)

-- the last digits are those in front of some, and these
split : (m k n : ℕ) (acc : List ℕ) → last_digits (m + k) 16 n acc ≡ last_digits m 16 (n / 16 ^ k) (last_digits k 16 n acc)
split m zero n acc =
    let none : m + 0 ≡ m = omega arith in
    let one : 16 ^ 0 ≡ 1 = pow-zero 16 in
    let whole : n / 1 ≡ n = omega arith in
    ap (λ (j : ℕ). last_digits j 16 n acc) none ∙ ap (λ (j : ℕ). last_digits m 16 j acc) (sym (ap (λ (j : ℕ). n / j) one ∙ whole))
split m (suc k) n acc =
    let next : m + suc k ≡ suc (m + k) = omega arith in
    let turned : 16 * 16 ^ k ≡ 16 ^ k * 16 = omega arith in
    let rest : n / 16 / 16 ^ k ≡ n / 16 ^ suc k =
    div-div-eq-div-mul n 16 (16 ^ k) ∙ ap (λ (j : ℕ). n / j) (turned ∙ sym (pow-suc 16 k)) in
    ap (λ (j : ℕ). last_digits j 16 n acc) next
    ∙ split m k (n / 16) (digit_glyph false (n % 16) ∷ acc)
    ∙ ap (λ (j : ℕ). last_digits m 16 j (last_digits k 16 (n / 16) (digit_glyph false (n % 16) ∷ acc))) rest

-- behind the last digits stands the text
behind : (m n : ℕ) (acc : List ℕ) → drop m (last_digits m 16 n acc) ≡ acc
behind zero n acc = refl
behind (suc m) n acc =
    let front : drop m (last_digits (suc m) 16 n acc) ≡ digit_glyph false (n % 16) ∷ acc = behind m (n / 16) (digit_glyph false (n % 16) ∷ acc) in
    let next : m + 1 ≡ suc m = omega arith in
    sym (ap (λ (j : ℕ). drop j (last_digits (suc m) 16 n acc)) next) ∙ sym (drop-drop 1 m (last_digits (suc m) 16 n acc)) ∙ ap (drop 1) front

-- as many digits as a number has, by how many are behind the first
abbrev pub HasMore : (behind_first number : ℕ) → Type 0
HasMore j n = (16 ^ j ≤ max n 1) × (n < 16 ^ suc j)

all_of : (b j n : ℕ) (acc : List ℕ) → HasMore j n → last_digits (suc j) 16 n acc ≡ onto (b + suc j) 16 n acc
all_of b zero n acc h =
    let below : n < 16 = let e : 16 ^ 1 ≡ 16 = refl in rw e at h.1 in
    let fuel : suc b ≡ b + 1 = omega arith in
    sym (onto_last b 16 n acc (is_zero (n / 16) (div-eq_of_lt below))) ∙ ap (λ (f : ℕ). onto f 16 n acc) fuel
all_of b (suc j) n acc h =
    let most : 16 ^ suc j ≡ 16 ^ j * 16 = pow-suc 16 j in
    let more : 16 ^ suc (suc j) ≡ 16 ^ suc j * 16 = pow-suc 16 (suc j) in
    let some : 1 ≤ 16 ^ j = pow-le-pow_right {n = 16} (omega arith) {i = 0} {j = j} (omega arith) in
    let large : 16 ^ j * 16 ≤ n = omega (arith, h.0, most, some) in
    let rest : HasMore j (n / 16) = (omega (arith, large, some), omega (arith, h.1, more)) in
    let fuel : suc (b + suc j) ≡ b + suc (suc j) = omega arith in
    all_of b j (n / 16) (digit_glyph false (n % 16) ∷ acc) rest
    ∙ sym (onto_more (b + suc j) 16 n acc (not_zero (n / 16) (λ e. absurd (omega (arith, large, some, e)))))
    ∙ ap (λ (f : ℕ). onto f 16 n acc) fuel

-- the digits of a number, among the last ones
pub among : (k count n : ℕ) (acc : List ℕ) → 0 < count → count ≤ k → count ≤ 16 → (16 ^ (count - 1) ≤ max n 1) × (n < 16 ^ count)
    → drop (k - count) (last_digits k 16 n acc) ≡ digits 16 false n ++ acc
among k count n acc p l most h =
    let one : count ≡ suc (count - 1) = omega arith in
    let whole : (k - count) + count ≡ k = omega arith in
    let has : HasMore (count - 1) n = (h.0, subst (λ (j : ℕ). n < 16 ^ j) one h.1) in
    sym (ap (λ (j : ℕ). drop (k - count) (last_digits j 16 n acc)) whole)
    ∙ ap (drop (k - count)) (split (k - count) count n acc)
    ∙ behind (k - count) (n / 16 ^ count) (last_digits count 16 n acc)
    ∙ ap (λ (j : ℕ). last_digits j 16 n acc) one
    ∙ all_of (64 - count) (count - 1) n acc has
    ∙ ap (λ (j : ℕ). onto ((64 - count) + j) 16 n acc) (sym one)
    ∙ digits_start count 16 n acc (omega arith)

-- eight digits more in front of the last eight
pub sixteen : (n : ℕ) (acc : List ℕ) → last_digits 8 16 (n / 4294967296) (last_digits 8 16 n acc) ≡ last_digits 16 16 n acc
sixteen n acc = sym (split 8 8 n acc)

-- where a number starts whose digits are among the last eight
pub low_put : (n end start count : ℕ) (new old : List ℕ) → start + 8 ≡ end → count ≤ 8 → HasDigits count n
    → drop start new ≡ last_digits 8 16 n old → drop (end - count) new ≡ digits 16 false n ++ old
low_put n end start count new old at most h is =
    let here : start + (8 - count) ≡ end - count = omega arith in
    sym (ap (λ (j : ℕ). drop j new) here) ∙ sym (drop-drop (8 - count) start new) ∙ ap (drop (8 - count)) is
    ∙ among 8 count n old h.0 most h.1 (h.2, h.3)

-- where one starts that has more
pub high_put : (n end start first count : ℕ) (low new old : List ℕ) → start + 8 ≡ end → first + 8 ≡ start → HasDigits count n
    → drop start low ≡ last_digits 8 16 n old → drop first new ≡ last_digits 8 16 (n / 4294967296) (drop start low)
    → drop (end - count) new ≡ digits 16 false n ++ old
high_put n end start first count low new old at before h is more =
    let most : count ≤ 16 = h.1 in
    let here : first + (16 - count) ≡ end - count = omega arith in
    sym (ap (λ (j : ℕ). drop j new) here) ∙ sym (drop-drop (16 - count) first new)
    ∙ ap (drop (16 - count)) (more ∙ ap (last_digits 8 16 (n / 4294967296)) is ∙ sixteen n old)
    ∙ among 16 count n old h.0 most most (h.2, h.3)

in_twos : (q : ℕ) → 16 ^ q ≡ 2 ^ (4 * q)
in_twos zero = refl
in_twos (suc q) =
    let next : 4 * q + 4 ≡ 4 * suc q = omega arith in
    pow-suc 16 q ∙ ap (λ (j : ℕ). j * 16) (in_twos q) ∙ sym (pow-add 2 (4 * q) 4) ∙ ap (λ (j : ℕ). 2 ^ j) next

-- how many digits there are, by the first bit that is set
counted : (m j : ℕ) → 2 ^ j ≤ m → m < 2 ^ suc j → (16 ^ (j / 4) ≤ m) × (m < 16 ^ (j / 4 + 1))
counted m j low high =
    let under : 2 ^ (4 * (j / 4)) ≤ 2 ^ j = pow-le-pow_right {n = 2} (omega arith) (omega arith) in
    let over : 2 ^ suc j ≤ 2 ^ (4 * (j / 4 + 1)) = pow-le-pow_right {n = 2} (omega arith) (omega arith) in
    (rw (in_twos (j / 4)) (omega (arith, under, low)), rw (in_twos (j / 4 + 1)) (omega (arith, over, high)))

not_less : (a b : ℕ) → (b < a → ⊥) → a ≤ b
not_less a b h = omega (arith, h)

-- the same of a number with its last bit set, which has a first one
pub has_digits : (n : ℕ) → n < 2 ^ 64 → HasDigits ((63 - count_leading_zeros 64 (bit_or n 1)) / 4 + 1) n
has_digits n l =
    let m : ℕ = bit_or n 1 in
    let some : 1 ≤ m = le_or_r n 1 in
    let more : n ≤ m = le_or_l n 1 in
    let top = leading_top 64 m some (or_lt 64 n 1 l (omega arith)) in
    let z : ℕ = count_leading_zeros 64 m in
    let j : ℕ = top.0 in
    let whole : z + suc j ≡ 64 = top.1 in
    let at : 63 - z ≡ j = omega (arith, whole) in
    let c = counted m j top.2 top.3 in
    let power : 16 ^ (j / 4) ≡ 2 ^ (4 * (j / 4)) = in_twos (j / 4) in
    let least : 16 ^ (j / 4) ≤ max n 1 = not_less (16 ^ (j / 4)) (max n 1)
    (λ less.
    let low : n < 2 ^ (4 * (j / 4)) = omega (arith, less, power) in
    let one : 1 < 2 ^ (4 * (j / 4)) = omega (arith, less, power) in
    let under : m < 2 ^ (4 * (j / 4)) = or_lt (4 * (j / 4)) n 1 low one in
    omega (arith, under, c.0, power)) in
    let here : j / 4 + 1 - 1 ≡ j / 4 = omega arith in
    rw at (omega arith, omega (arith, whole), rw here least, omega (arith, more, c.1))

-- one of the bits is set
pub some_bit : (n : ℕ) → n < 2 ^ 64 → count_leading_zeros 64 (bit_or n 1) ≤ 63
some_bit n l =
    let some : 1 ≤ bit_or n 1 = le_or_r n 1 in
    let top = leading_top 64 (bit_or n 1) some (or_lt 64 n 1 l (omega arith)) in
    omega (arith, top.1)
