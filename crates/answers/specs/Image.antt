-- A file whose bytes are memory from address 0. Which word it holds is this project's own rule.
use Rattle.std.specs.Prelude.{◌≡◌, ℕ, ◌+◌, List, length, drop, Option, Some, None, nat_le, if◌then◌else◌}
use Rattle.byteorder.specs.Endian.{little_number}
use Rattle.bitwords.specs.Causes.{Rose}
use Rattle.dump_file.specs.Held.{Holding, Untold, Absent, Bytes}

-- the word at a place, where all its eight bytes are there
abbrev pub image_word : (bytes : List ℕ) (pa : ℕ) → Option ℕ
image_word bytes pa = if nat_le (pa + 8) (length bytes) then Some (little_number 8 (drop pa bytes)) else None

-- the same by what is told
abbrev pub IsImageWord : (held : Holding) (pa : ℕ) (word : Option ℕ) → Type 0
IsImageWord Untold pa word = Unit {0}
IsImageWord Absent pa word = word ≡ None
IsImageWord (Bytes bytes) pa word = word ≡ image_word bytes pa

-- of a file that isn't told, a word is missing only where the count `missing` rose
abbrev pub IsMissed : (held : Holding) (before now : ℕ) (word : Option ℕ) → Type 0
IsMissed Untold before now word = word ≡ None → Rose before now
IsMissed Absent before now word = Unit {0}
IsMissed (Bytes bytes) before now word = Unit {0}
