-- A number read digit by digit.
use Rattle.std.proofs.Common.{◌≡◌, ℕ, ◌+◌, ◌*◌, ◌^◌, ◌<◌, ◌≤◌, List, [], ◌∷◌, length, drop}
use Rattle.std.proofs.Common.{get_or, Some, None, Bool, true, false, cond, ap, refl, arith, ltb, ◌&&◌}
use Rattle.std.specs.Char.{digit_value}
use Rattle.std.specs.Str.Parse.{digits_value, digits_value_after}
use Rattle.std.proofs.lemmas.Bool.Decides.{nat_tests}
use Rattle.std.proofs.lemmas.Grind.{common_steps}
use Rattle.std.proofs.lemmas.List.{drop_more}
use Rattle.texts.specs.Numbers.{all_digits, number_in}

grows_by : (n radix : ℕ) → 1 ≤ radix → n ≤ n * radix
grows_by n radix h = grind arith

pub value_grows : (radix n : ℕ) (ds : List ℕ) → 1 ≤ radix → n ≤ digits_value_after radix n ds
value_grows radix n [] h = omega arith
value_grows radix n (c ∷ cs) h =
    let more : n * radix + digit_value c ≤ digits_value_after radix (n * radix + digit_value c) cs = value_grows radix (n * radix + digit_value c) cs h in
    let grows : n ≤ n * radix = grows_by n radix h in
    omega arith

and_false : (a : Bool) → (a && false) ≡ false
and_false true = refl
and_false false = refl

not_below : (m n : ℕ) → n ≤ m → ltb m n ≡ false
not_below m n h = grind (arith, nat_tests)

-- a value that is too large
pub too_large : (radix most : ℕ) (ds : List ℕ) → 2 ^ 64 ≤ digits_value radix ds → number_in radix most ds ≡ None
too_large radix most ds h = rw (not_below (digits_value radix ds) (2 ^ 64) h, and_false) refl

-- one digit more gives a value that is too large
pub too_large_at : (radix most n i : ℕ) (ds : List ℕ) → 1 ≤ radix → i < length ds
    → digits_value_after radix n (drop i ds) ≡ digits_value radix ds →
    2 ^ 64 ≤ n * radix + digit_value (get_or ds i 0) → number_in radix most ds ≡ None
too_large_at radix most n i ds h k e m =
    let step : digits_value_after radix n (drop i ds) ≡ digits_value_after radix (n * radix + digit_value (get_or ds i 0)) (drop (i + 1) ds) =
    ap (digits_value_after radix n) (drop_more ds i 0 k) in
    let more : n * radix + digit_value (get_or ds i 0) ≤ digits_value_after radix (n * radix + digit_value (get_or ds i 0)) (drop (i + 1) ds) =
    value_grows radix _ (drop (i + 1) ds) h in
    too_large radix most ds (omega arith)

-- what `grown` says at None
pub none_grown : (m : ℕ) → cond (ltb m (2 ^ 64)) (Some m) None ≡ None → 2 ^ 64 ≤ m
none_grown m h = grind (arith, nat_tests)

-- all are read
pub all_read : (radix most n i : ℕ) (ds : List ℕ) → 0 < length ds → length ds ≤ most → length ds ≤ i → n < 2 ^ 64 →
    all_digits radix (drop i ds) ≡ all_digits radix ds → digits_value_after radix n (drop i ds) ≡ digits_value radix ds
    → Some n ≡ number_in radix most ds
all_read radix most n i ds h k m fits a v = grind (arith, common_steps, nat_tests)
