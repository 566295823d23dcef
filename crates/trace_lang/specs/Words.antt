-- The words of a line, and what stands at a place of it. Places count from 1. The forms are this project's own rule.
use Rattle.std.specs.Prelude.{ℕ, ◌-◌, slice_get, List, [], ◌∷◌, length, filter, Option, Some, None, Bool, not, ◌&&◌, ◌||◌}
use Rattle.std.specs.Prelude.{◌==◌, nat_lt, nat_le, bytes_eq, if◌then◌else◌, Result, Ok, Err}
use Rattle.std.specs.List.{slice_split}
use Rattle.texts.specs.Numbers.{number_of}
use Rattle.texts.specs.Results.{◌>>=◌}
use Rattle.trace_lang.specs.declared.refusals.LineRefusal.{LineRefusal}
use Rattle.trace_lang.specs.declared.refusals.LineRefusal.TheVariants.{BadWord, BadNumber, OutOfRange}

-- space and tab
abbrev pub is_blank : (byte : ℕ) → Bool
is_blank b = b == 0x20 || b == 9

-- a byte that a line may have
abbrev pub is_text : (byte : ℕ) → Bool
is_text b = (nat_le 0x20 b && nat_le b 0x7e) || b == 9

-- the byte that ends a line
abbrev pub is_end : (byte : ℕ) → Bool
is_end b = b == 0x0a

-- the words of a line
abbrev pub words_of : (line : List ℕ) → List (List ℕ)
words_of line = filter (λ w. not (length w == 0)) (slice_split is_blank line)

-- a value, or a word that may not stand at this place
abbrev pub word_or : {A : Type 0} → (place : ℕ) (found : Option A) → Result A LineRefusal
word_or place None = Err (BadWord place)
word_or place (Some x) = Ok x

abbrev pub number_or : (place : ℕ) (found : Option ℕ) → Result ℕ LineRefusal
number_or place None = Err (BadNumber place)
number_or place (Some n) = Ok n

-- a number that passes a test
abbrev pub in_range : (place : ℕ) (passes : Bool) (number : ℕ) → Result ℕ LineRefusal
in_range place passes n = if passes then Ok n else Err (OutOfRange place)

-- the word at a place
abbrev pub word_at : (words : List (List ℕ)) (index : ℕ) → Option (List ℕ)
word_at words n = slice_get words n

-- the number at a place
abbrev pub number_at : (words : List (List ℕ)) (place : ℕ) → Result ℕ LineRefusal
number_at words place = word_or place (word_at words (place - 1)) >>= (λ w. number_or place (number_of w))

-- the word at a place, read by a table of names
abbrev pub name_at : {A : Type 0} → (read : List ℕ → Option A) (words : List (List ℕ)) (place : ℕ) → Result A LineRefusal
name_at read words place = word_or place (word_at words (place - 1)) >>= (λ w. word_or place (read w))

-- no word stands at this place or behind it
abbrev pub no_word_at : (words : List (List ℕ)) (place : ℕ) → Result (Unit {0}) LineRefusal
no_word_at words place = if nat_lt (length words) place then Ok tt else Err (BadWord place)

-- the first of a table of names that a word is
abbrev pub named : {A : Type 0} → (table : List (List ℕ × A)) (word : List ℕ) → Option A
named [] word = None
named (x ∷ table) word = if bytes_eq word x.0 then Some x.1 else named table word
