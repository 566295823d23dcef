-- Rows that are computed from the definitions: what small files come to.
use Rattle.std.proofs.Common.{◌≡◌, ℕ, List, [], ◌∷◌, ◌++◌, Some, None, Ok, Err, refl}
use Rattle.byteorder.specs.Endian.{little_bytes}
use Rattle.dump_file.specs.DumpOf.{dump_of, dump_word}
use Rattle.dump_file.specs.declared.dump.Segment.{Segment}
use Rattle.dump_file.specs.declared.refusal.DumpField.TheVariants.{EntrySize}
use Rattle.dump_file.specs.declared.refusal.DumpRefusal.TheVariants.{NotElf, WrongKind, BadTable, TooMany, PastEnd}

-- a header with the size of a program header and their count; their table stands behind it
abbrev head : (size count : ℕ) → List ℕ
head size count =
    0x7f ∷ 0x45 ∷ 0x4c ∷ 0x46 ∷ 2 ∷ 1 ∷ 1 ∷ (little_bytes 9 0 ++ (little_bytes 2 4 ++ (little_bytes 2 183
    ++ (little_bytes 12 0 ++ (little_bytes 8 64 ++ (little_bytes 14 0 ++ (little_bytes 2 size ++ (little_bytes 2 count ++ little_bytes 6 0))))))))

-- a program header
abbrev entry : (kind offset address size : ℕ) → List ℕ
entry kind offset address size =
    little_bytes 8 kind ++ (little_bytes 8 offset ++ (little_bytes 8 0 ++ (little_bytes 8 address ++ (little_bytes 8 size ++ little_bytes 16 0))))

-- two words of contents
abbrev words : List ℕ
words = little_bytes 8 0x1122334455667788 ++ little_bytes 8 0x99aabbccddeeff00

abbrev at : (address offset size : ℕ) → Segment
at address offset size = record { address = address; offset = offset; size = size }

-- two segments, which overlap
abbrev two : List Segment
two = at 0x1000 176 16 ∷ at 0x1008 176 8 ∷ []

abbrev core : List ℕ
core = head 56 2 ++ (entry 1 176 0x1000 16 ++ (entry 1 176 0x1008 8 ++ words))

pub opens : dump_of core ≡ Ok two
opens = refl

-- the first that holds a place serves
pub serves_the_first : dump_word core two 0x1008 ≡ Some 0x99aabbccddeeff00
serves_the_first = refl

pub serves_the_second : dump_word core (at 0x1000 176 15 ∷ at 0x1008 176 8 ∷ []) 0x1008 ≡ Some 0x1122334455667788
serves_the_second = refl

pub serves_none : dump_word core two 0x1010 ≡ None
serves_none = refl

pub without_segments : dump_of (head 56 0) ≡ Ok []
without_segments = refl

pub too_short : dump_of (0x7f ∷ 0x45 ∷ 0x4c ∷ 0x46 ∷ 2 ∷ 1 ∷ []) ≡ Err NotElf
too_short = refl

-- a count that is too large comes before the size of a program header
pub too_many : dump_of (head 0 4097) ≡ Err TooMany
too_many = refl

pub entry_of_55 : dump_of (head 55 1) ≡ Err (WrongKind EntrySize)
entry_of_55 = refl

pub table_past_the_end : dump_of (head 56 1) ≡ Err BadTable
table_past_the_end = refl

-- what isn't loaded, or has no bytes in the file, may lie anywhere
pub second_past_the_end : dump_of (head 56 3 ++ (entry 4 0xffffffffffffffff 0 2 ++ (entry 1 0xffffffffffffffff 0 0 ++ entry 1 232 0 1))) ≡ Err (PastEnd 2)
second_past_the_end = refl
