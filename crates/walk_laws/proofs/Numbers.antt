-- Numbers that agree above a bit, and addresses put together.
use Rattle.std.proofs.Common.{◌≡◌, ℕ, ◌+◌, ◌-◌, ◌*◌, ◌/◌, ◌%◌, ◌^◌, ◌<◌}
use Rattle.std.proofs.Common.{◌≤◌, refl, sym, ap, ◌∙◌, arith, true, false, cond}
use Rattle.std.specs.Prelude.{nat_le}
use Rattle.std.proofs.lemmas.Bool.{leb-false, leb-true}
use Rattle.std.proofs.lemmas.Nat.{pow-add, pow_pos, div-add-mod', shr-shr}
use Rattle.std.proofs.Math.Nat.{div-eq_of_lt, lt-div-mul-add, div-div-eq-div-mul, mul-add-div, mul-mod_right, mul-add-mod_self_right, mod-mod}
use Rattle.std.proofs.Math.Pow.{mod-mod-pow}
use Rattle.geometry.specs.Runs.{goes_to}
use Rattle.geometry.proofs.Indices.{field_at, same_index}
use Rattle.walk_spec.specs.BothStages.{smaller}

-- numbers that agree above a bit agree above a higher bit
pub coarser : (x y a b : ℕ) → a ≤ b → x / 2 ^ a ≡ y / 2 ^ a → x / 2 ^ b ≡ y / 2 ^ b
coarser x y a b l h =
    let e : a + (b - a) ≡ b = omega arith in
    let s : x / 2 ^ (a + (b - a)) ≡ y / 2 ^ (a + (b - a)) = rw (← shr-shr x a (b - a), ← shr-shr y a (b - a), h) refl in
    rw e at s

-- a multiple of a power is one of each smaller power
pub multiple : (q n d : ℕ) → d ≤ n → q * 2 ^ n % 2 ^ d ≡ 0
multiple q n d h =
    let e : n ≡ d + (n - d) = omega arith in
    let p : 2 ^ n ≡ 2 ^ d * 2 ^ (n - d) = ap (λ m. 2 ^ m) e ∙ pow-add 2 d (n - d) in
    let s : q * 2 ^ n ≡ 2 ^ d * (q * 2 ^ (n - d)) = omega (arith, ap (λ m. q * m) p) in
    rw s (mul-mod_right (2 ^ d) (q * 2 ^ (n - d)))

-- indices of one run of 2 ^ d entries are one number above d
run_index : (x y t k d : ℕ) → x / 2 ^ (k + d) ≡ y / 2 ^ (k + d) → x % 2 ^ t / 2 ^ k / 2 ^ d ≡ y % 2 ^ t / 2 ^ k / 2 ^ d
run_index x y t k d h = rw (shr-shr (x % 2 ^ t) k d, shr-shr (y % 2 ^ t) k d) (same_index x y (k + d) t h)

-- the line of a place in a table that begins with a whole line
line_of_place : (base i d : ℕ) → base % (8 * 2 ^ d) ≡ 0 → (base + 8 * i) / (8 * 2 ^ d) ≡ base / (8 * 2 ^ d) + i / 2 ^ d
line_of_place base i d h =
    let e : base / (8 * 2 ^ d) * (8 * 2 ^ d) + base % (8 * 2 ^ d) ≡ base = div-add-mod' base (8 * 2 ^ d) in
    let s : base + 8 * i ≡ (2 ^ d * (base / (8 * 2 ^ d)) + i) * 8 = omega (arith, e, h) in
    let eight : (base + 8 * i) / 8 ≡ 2 ^ d * (base / (8 * 2 ^ d)) + i = omega (arith, s) in
    sym (div-div-eq-div-mul (base + 8 * i) 8 (2 ^ d)) ∙ ap (λ n. n / 2 ^ d) eight ∙ mul-add-div (pow_pos d) (base / (8 * 2 ^ d)) i

-- places of addresses of one run of 2 ^ d entries are in one line of 8 * 2 ^ d bytes
pub one_line : (x y t k d base : ℕ) → base % (8 * 2 ^ d) ≡ 0 → x / 2 ^ (k + d) ≡ y / 2 ^ (k + d) →
    (base + 8 * (y % 2 ^ t / 2 ^ k)) / (8 * 2 ^ d) ≡ (base + 8 * (x % 2 ^ t / 2 ^ k)) / (8 * 2 ^ d)
one_line x y t k d base a h =
    line_of_place base (y % 2 ^ t / 2 ^ k) d a ∙ ap (λ n. base / (8 * 2 ^ d) + n) (sym (run_index x y t k d h))
    ∙ sym (line_of_place base (x % 2 ^ t / 2 ^ k) d a)

-- a line of 2 ^ d words is 2 ^ (d + 3) bytes
pub line_bytes : (p d : ℕ) → p / (8 * 2 ^ d) ≡ p / 2 ^ (3 + d)
line_bytes p d = ap (λ n. p / n) (sym (pow-add 2 3 d))

-- the whole part of an address that is put together, and its offset
whole : (out k : ℕ) → out - out % 2 ^ k ≡ out / 2 ^ k * 2 ^ k
whole out k = omega (arith, div-add-mod' out (2 ^ k))

goes_to_offset : (out k x : ℕ) → goes_to out k x % 2 ^ k ≡ x % 2 ^ k
goes_to_offset out k x = rw (whole out k) (mul-add-mod_self_right (out / 2 ^ k) (2 ^ k) (x % 2 ^ k) ∙ mod-mod x (2 ^ k))

-- a leaf's offset is that of the address
pub goes_to_again : (out k x y : ℕ) → goes_to (goes_to out k x) k y ≡ goes_to out k y
goes_to_again out k x y =
    let f = goes_to_offset out k x in
    rw f (omega arith)

-- no more of the address counts than its offset
pub goes_to_low : (out k j x : ℕ) → k ≤ j → goes_to out k (x % 2 ^ j) ≡ goes_to out k x
goes_to_low out k j x l =
    let e : (j - k) + k ≡ j = omega arith in
    let s : x % 2 ^ ((j - k) + k) % 2 ^ k ≡ x % 2 ^ k = mod-mod-pow x (j - k) k in
    ap (λ n. out - out % 2 ^ k + n) (rw e at s)

-- above a bit of the offset: the address there
goes_to_split : (out k j y : ℕ) → j ≤ k → goes_to out k y / 2 ^ j ≡ out / 2 ^ k * 2 ^ (k - j) + y / 2 ^ j % 2 ^ (k - j)
goes_to_split out k j y l =
    let e : k ≡ j + (k - j) = omega arith in
    let p : 2 ^ k ≡ 2 ^ j * 2 ^ (k - j) = ap (λ n. 2 ^ n) e ∙ pow-add 2 j (k - j) in
    let s : goes_to out k y ≡ 2 ^ j * (out / 2 ^ k * 2 ^ (k - j)) + y % 2 ^ k = omega (arith, whole out k, ap (λ n. out / 2 ^ k * n) p) in
    ap (λ n. n / 2 ^ j) s ∙ mul-add-div (pow_pos j) (out / 2 ^ k * 2 ^ (k - j)) (y % 2 ^ k) ∙ ap (λ n. out / 2 ^ k * 2 ^ (k - j) + n) (field_at y k j l)

-- below a leaf's class two outputs agree above a bit where the addresses do
pub goes_to_above : (out k j x y : ℕ) → j ≤ k → x / 2 ^ j ≡ y / 2 ^ j → goes_to out k x / 2 ^ j ≡ goes_to out k y / 2 ^ j
goes_to_above out k j x y l h = rw (goes_to_split out k j x l, goes_to_split out k j y l, h) refl

-- below a bit of the offset: the address too
lower : (n j k : ℕ) → j ≤ k → n % 2 ^ k % 2 ^ j ≡ n % 2 ^ j
lower n j k l = let e : k ≡ (k - j) + j = omega arith in ap (λ m. n % 2 ^ m % 2 ^ j) e ∙ mod-mod-pow n (k - j) j

goes_to_below : (out k j y : ℕ) → j ≤ k → goes_to out k y % 2 ^ j ≡ y % 2 ^ j
goes_to_below out k j y l = sym (lower (goes_to out k y) j k l) ∙ ap (λ m. m % 2 ^ j) (goes_to_offset out k y) ∙ lower y j k l

same_number : (a b k : ℕ) → a / 2 ^ k ≡ b / 2 ^ k → a % 2 ^ k ≡ b % 2 ^ k → a ≡ b
same_number a b k h l = sym (div-add-mod' a (2 ^ k)) ∙ rw (h, l) (div-add-mod' b (2 ^ k))

goes_to_offsets : (out k x y : ℕ) → x % 2 ^ k ≡ y % 2 ^ k → goes_to out k x ≡ goes_to out k y
goes_to_offsets out k x y h = rw h refl

goes_to_whole : (out k y : ℕ) → goes_to out k y / 2 ^ k ≡ out / 2 ^ k
goes_to_whole out k y =
    let z : k - k ≡ 0 = omega arith in
    let l : k ≤ k = omega arith in
    let t : goes_to out k y / 2 ^ k ≡ out / 2 ^ k * 2 ^ (k - k) + y / 2 ^ k % 2 ^ (k - k) = goes_to_split out k k y l in
    let s = rw z at t in
    omega (arith, s)

-- the piece of two leaves, of which the second is that of the first's output: an address goes on from there as the piece says
pub goes_to_piece : (out pa k m y : ℕ) → pa ≡ goes_to pa m out → goes_to pa m (goes_to out k y) ≡ goes_to pa (smaller k m) y
goes_to_piece out pa k m y f =
    elim (nat_le k m) as (λ b. nat_le k m ≡ b → goes_to pa m (goes_to out k y) ≡ goes_to pa (cond b k m) y) [
      | true ↦ (λ t. let l : k ≤ m = leb-true k m t in
          same_number (goes_to pa m (goes_to out k y)) (goes_to pa k y) k (goes_to_above pa m k (goes_to out k y) out l (goes_to_whole out k y)
          ∙ ap (λ n. n / 2 ^ k) (sym f) ∙ sym (goes_to_whole pa k y)) (goes_to_below pa m k (goes_to out k y) l ∙ goes_to_offset out k y
          ∙ sym (goes_to_offset pa k y)))
      | false ↦ (λ t. let l : m ≤ k = omega (arith, leb-false k m t) in goes_to_offsets pa m (goes_to out k y) y (goes_to_below out k m y l))
    ] refl

-- of two addresses of one piece the outputs of the first leaf agree above the second's class
pub goes_to_piece_same : (out k m x y : ℕ) → out ≡ goes_to out k x → x / 2 ^ smaller k m ≡ y / 2 ^ smaller k m
    → out / 2 ^ m ≡ goes_to out k y / 2 ^ m
goes_to_piece_same out k m x y e h =
    elim (nat_le k m) as (λ b. nat_le k m ≡ b → x / 2 ^ cond b k m ≡ y / 2 ^ cond b k m → out / 2 ^ m ≡ goes_to out k y / 2 ^ m) [
      | true ↦ (λ t q. coarser out (goes_to out k y) k m (leb-true k m t) (sym (goes_to_whole out k y)))
      | false ↦ (λ t q. let l : m ≤ k = omega (arith, leb-false k m t) in ap (λ n. n / 2 ^ m) e ∙ goes_to_above out k m x y l q)
    ] refl h

pub smaller_left : (k m : ℕ) → smaller k m ≤ k
smaller_left k m = elim (nat_le k m) as (λ b. nat_le k m ≡ b → cond b k m ≤ k) [
  | true ↦ (λ t. omega arith)
  | false ↦ (λ t. omega (arith, leb-false k m t))
] refl

-- an address of the region of one in range is in range
pub in_range : (x y k input : ℕ) → k ≤ input → x / 2 ^ k ≡ y / 2 ^ k → x < 2 ^ input → y < 2 ^ input
in_range x y k input l h r =
    let a : x / 2 ^ input ≡ 0 = div-eq_of_lt r in
    let b : y / 2 ^ input ≡ 0 = sym (coarser x y k input l h) ∙ a in
    let z : y < y / 2 ^ input * 2 ^ input + 2 ^ input = lt-div-mul-add (pow_pos input) in
    omega (arith, rw b at z)
