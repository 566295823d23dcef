use Rattle.std.proofs.Common.{◌≡◌, ◌<◌, ◌^◌, drop}
use Rattle.std.specs.Str.Parse.{digits_value, digits_value_after}
use Rattle.texts.specs.Numbers.{all_digits}
use Rattle.texts.proofs.numbers.number_of_digits.Given as goal

-- what is left decides whether all are digits, and its value behind the number so far is that of all
abbrev pub invariant-loop-byte : goal.invariant-loop-byte
invariant-loop-byte l = record {
  fits : l.n < 2 ^ 64;
  all : all_digits l.radix (drop l.byte-index l.digits) ≡ all_digits l.radix l.digits;
  value : digits_value_after l.radix l.n (drop l.byte-index l.digits) ≡ digits_value l.radix l.digits;
}
