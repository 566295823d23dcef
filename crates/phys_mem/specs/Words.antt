-- How physical memory is kept: the words of all ranges, one range behind the other (this project's own rule).
use Rattle.std.specs.Prelude.{◌≡◌, ◌≤◌, ℕ, ◌+◌, ◌-◌, ◌*◌, ◌/◌, ◌%◌, ◌^◌, Bool, ◌&&◌, nat_le, if◌then◌else◌}
use Rattle.std.specs.Prelude.{List, [], ◌∷◌, length, slice_index, Option, Some, None, All}
use Rattle.phys_mem.specs.Memory.{Memory, is_aligned}
use Rattle.phys_mem.specs.Ranges.{bytes_of}

-- the eight bytes from a place on lie in the range
abbrev pub holds_word : (range : ℕ × ℕ) (place : ℕ) → Bool
holds_word r place = nat_le r.0 place && nat_le (place + 8) (r.0 + r.1)

-- which word holds a place, where the words of the first range begin at a number
abbrev pub index_from : (first : ℕ) (ranges : List (ℕ × ℕ)) (place : ℕ) → Option ℕ
index_from first [] place = None
index_from first (r ∷ ranges) place = if holds_word r place then Some (first + (place - r.0) / 8) else index_from (first + r.1 / 8) ranges place

-- the word of a place that is a multiple of eight bytes
abbrev pub index_of : (ranges : List (ℕ × ℕ)) (place : ℕ) → Option ℕ
index_of ranges place = if is_aligned place then index_from 0 ranges place else None

-- what is seen at a place by the word that holds it; between the words stands 0
abbrev pub seen_at : (words : List ℕ) (aligned : Bool) (index : Option ℕ) → Option ℕ
seen_at words aligned None = None
seen_at words aligned (Some k) = Some (if aligned then slice_index words k else 0)

-- ranges, each a start and a length in bytes, and their words
pub record Held : Type 0 where
  pub ranges : List (ℕ × ℕ)
  pub words : List ℕ

-- the memory that the words are
unfoldable pub memory_of : (held : Held) → Memory
memory_of h place = seen_at h.words (is_aligned place) (index_from 0 h.ranges place)

-- whole words, at least one, below the end of the physical addresses
pub record IsWhole (r : ℕ × ℕ) : Type 0 where
  pub start : r.0 % 8 ≡ 0
  pub length : r.1 % 8 ≡ 0
  pub some : 8 ≤ r.1
  pub end : r.0 + r.1 ≤ 2 ^ 52

-- at most 16 ranges of whole words, of 64 MiB at most
pub record AreHeld (ranges : List (ℕ × ℕ)) : Type 0 where
  pub whole : All IsWhole ranges
  pub few : length ranges ≤ 16
  pub small : bytes_of ranges ≤ 64 * 2 ^ 20

-- such ranges, and a word for each eight bytes of them
pub record IsHeld (held : Held) : Type 0 where
  pub kept : AreHeld held.ranges
  pub all : 8 * length held.words ≡ bytes_of held.ranges
