-- What physical memory holds: words of eight bytes, little endian, in its ranges (this project's own rule; DDI 0487 leaves
-- to an implementation where memory is).
use Rattle.std.specs.Prelude.{ℕ, ◌+◌, ◌%◌, Bool, ◌==◌, ◌&&◌, nat_le, if◌then◌else◌, List, [], ◌∷◌, Option, Some, None}

-- a memory has a word at a place, or nothing
abbrev pub Memory : Type 0
Memory = ℕ → Option ℕ

-- a word is there where its eight bytes lie in one range; all are 0
abbrev pub zeros : (ranges : List (ℕ × ℕ)) → Memory
zeros [] place = None
zeros (r ∷ ranges) place = if nat_le r.0 place && nat_le (place + 8) (r.0 + r.1) then Some 0 else zeros ranges place

-- memory with another word at a place
abbrev pub stored_at : (memory : Memory) (pa value : ℕ) → Memory
stored_at m pa value place = if place == pa then Some value else m place

-- a place is a multiple of eight bytes
abbrev pub is_aligned : (place : ℕ) → Bool
is_aligned place = place % 8 == 0

-- a load reads at a multiple of eight bytes alone
abbrev pub loaded : (memory : Memory) (pa : ℕ) → Option ℕ
loaded m pa = if is_aligned pa then m pa else None
