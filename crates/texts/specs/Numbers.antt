-- Numbers in words. The form is this project's own rule.
use Rattle.std.specs.Prelude.{ℕ, ◌^◌, List, [], ◌∷◌, length, drop, take, Option, Some, None, Bool, true}
use Rattle.std.specs.Prelude.{◌&&◌, nat_lt, nat_le, bytes_eq, codes, if◌then◌else◌}
use Rattle.std.specs.Char.{digit_value}
use Rattle.std.specs.Str.Parse.{digits_value}

-- all are digits of the radix
abbrev pub all_digits : (radix : ℕ) (word : List ℕ) → Bool
all_digits radix [] = true
all_digits radix (c ∷ cs) = nat_lt (digit_value c) radix && all_digits radix cs

-- 1 to `most` digits in the radix with a value below 2 ^ 64
abbrev pub number_in : (radix most : ℕ) (ds : List ℕ) → Option ℕ
number_in radix most ds =
    if nat_lt 0 (length ds) && nat_le (length ds) most && all_digits radix ds && nat_lt (digits_value radix ds) (2 ^ 64)
    then Some (digits_value radix ds) else None

-- `0x` and 1 to 16 hexadecimal digits of either case, or 1 to 20 decimal digits
abbrev pub number_of : (word : List ℕ) → Option ℕ
number_of word = if bytes_eq (take 2 word) (codes "0x") then number_in 16 16 (drop 2 word) else number_in 10 20 word
