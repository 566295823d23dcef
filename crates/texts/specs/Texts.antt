-- Numbers in texts. The forms are this project's own rule.
use Rattle.std.specs.Prelude.{◌≡◌, ℕ, zero, suc, ◌≤◌, ◌<◌, ◌-◌, ◌*◌, ◌/◌, ◌%◌, ◌^◌, max}
use Rattle.std.specs.Prelude.{List, [], ◌∷◌, ◌++◌, false, length, take, drop, codes, flat_map}
use Rattle.std.specs.Fmt.{digits, digit_glyph}

-- the parts of a text, one behind the other
abbrev pub joined_text : (parts : List (List ℕ)) → List ℕ
joined_text parts = flat_map (λ part. part) parts

-- a number as 0x and lower-case hexadecimal digits without leading zeros
abbrev pub hex_text : (number : ℕ) → List ℕ
hex_text n = codes "0x" ++ digits 16 false n

-- a number of two digits in a radix
abbrev pub pair_text : (radix number : ℕ) → List ℕ
pair_text r n = digit_glyph false (n / r) ∷ digit_glyph false (n % r) ∷ []

-- the last digits of a number in a radix, with zeros in front, before a text
abbrev pub last_digits : (count radix number : ℕ) (text : List ℕ) → List ℕ
last_digits zero r n text = text
last_digits (suc k) r n text = last_digits k r (n / r) (digit_glyph false (n % r) ∷ text)

-- so many hexadecimal digits has a number without leading zeros
abbrev pub HasDigits : (count number : ℕ) → Type 0
HasDigits count n = (0 < count) × (count ≤ 16) × (16 ^ (count - 1) ≤ max n 1) × (n < 16 ^ count)

-- a table has the digits of all numbers of two digits, two each
abbrev pub ArePairs : (radix : ℕ) (table : List ℕ) → Type 0
ArePairs r table = (length table ≡ 2 * (r * r)) × ((n : ℕ) → n < r * r → take 2 (drop (2 * n) table) ≡ pair_text r n)

-- a byte as 0x and two hexadecimal digits
abbrev pub byte_text : (byte : ℕ) → List ℕ
byte_text n = codes "0x" ++ pair_text 16 n
