-- Fields of 64-bit words, as plain numbers. Bits are written as in DDI 0487, the higher one first: W[hi:lo].
use Rattle.std.specs.Prelude.{ℕ, ◌+◌, ◌-◌, ◌*◌, ◌/◌, ◌%◌, ◌^◌, Bool, ◌==◌}

-- W[hi:lo] as a number
abbrev pub bits_of : (word high low : ℕ) → ℕ
bits_of w hi lo = w / 2 ^ lo % 2 ^ (hi - lo + 1)

-- whether W[n] is 1
abbrev pub bit : (word place : ℕ) → Bool
bit w n = bits_of w n n == 1

-- the word with its lowest n bits read as 0
abbrev pub cleared : (word bits : ℕ) → ℕ
cleared w n = w / 2 ^ n * 2 ^ n
