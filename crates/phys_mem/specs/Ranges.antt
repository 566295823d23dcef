-- Which lists of ranges are physical memory, and why others aren't (this project's own rules; that a physical address has
-- at most 52 bits: DDI 0487, FEAT_LPA).
use Rattle.std.specs.Prelude.{ℕ, ◌+◌, ◌*◌, ◌^◌, Bool, not, ◌&&◌, ◌||◌, nat_lt, nat_le, if◌then◌else◌, List, []}
use Rattle.std.specs.Prelude.{◌∷◌, ◌++◌, length, Option, Some, None}
use Rattle.phys_mem.specs.Memory.{is_aligned}
use Rattle.phys_mem.specs.declared.refusal.PhysError.{PhysError}
use Rattle.phys_mem.specs.declared.refusal.PhysError.TheVariants.{BadRange, Overlap, TooLarge, NoMemory}

-- a range has whole words, at least one, and ends at the latest where physical addresses end
abbrev pub is_range : (range : ℕ × ℕ) → Bool
is_range r = is_aligned r.0 && is_aligned r.1 && nat_lt 0 r.1 && nat_le (r.0 + r.1) (2 ^ 52)

-- two ranges have a byte in common
abbrev pub share_byte : (one other : ℕ × ℕ) → Bool
share_byte r s = nat_lt r.0 (s.0 + s.1) && nat_lt s.0 (r.0 + r.1)

-- the first place that passes, counted on from k
abbrev pub first_place : (test : ℕ × ℕ → Bool) (k : ℕ) (ranges : List (ℕ × ℕ)) → Option ℕ
first_place test k [] = None
first_place test k (r ∷ ranges) = if test r then Some k else first_place test (k + 1) ranges

-- the first range that is none
abbrev pub bad_place : (ranges : List (ℕ × ℕ)) → Option ℕ
bad_place ranges = first_place (λ r. not (is_range r)) 0 ranges

-- this pair, or else what comes later
abbrev pub pair_or : (second : ℕ) (later : Option (ℕ × ℕ)) (first : Option ℕ) → Option (ℕ × ℕ)
pair_or second later None = later
pair_or second later (Some first) = Some (first, second)

-- the first range that shares a byte with an earlier one, behind the first such one
abbrev pub overlap_behind : (before ranges : List (ℕ × ℕ)) → Option (ℕ × ℕ)
overlap_behind before [] = None
overlap_behind before (r ∷ ranges) =
    pair_or (length before) (overlap_behind (before ++ r ∷ []) ranges) (first_place (λ other. share_byte other r) 0 before)

-- the bytes of all ranges
abbrev pub bytes_of : (ranges : List (ℕ × ℕ)) → ℕ
bytes_of [] = 0
bytes_of (r ∷ ranges) = r.1 + bytes_of ranges

-- more than 16 ranges, or more than 64 MiB
abbrev pub is_too_large : (ranges : List (ℕ × ℕ)) → Bool
is_too_large ranges = nat_lt 16 (length ranges) || nat_lt (64 * 2 ^ 20) (bytes_of ranges)

-- the size is refused
abbrev pub refusal_by_size : (too_large : Bool) → Option PhysError
refusal_by_size too_large = if too_large then Some TooLarge else None

-- an overlap is refused, or else what comes after it
abbrev pub refusal_by_overlap : (pair : Option (ℕ × ℕ)) (otherwise : Option PhysError) → Option PhysError
refusal_by_overlap None otherwise = otherwise
refusal_by_overlap (Some p) otherwise = Some (Overlap p.0 p.1)

-- what is no range is refused, or else what comes after it
abbrev pub refusal_by_range : (place : Option ℕ) (otherwise : Option PhysError) → Option PhysError
refusal_by_range None otherwise = otherwise
refusal_by_range (Some place) otherwise = Some (BadRange place)

-- why a list of ranges is no memory: what is no range counts before an overlap, and an overlap before the size
unfoldable pub refusal_of : (ranges : List (ℕ × ℕ)) → Option PhysError
refusal_of ranges = refusal_by_range (bad_place ranges) (refusal_by_overlap (overlap_behind [] ranges) (refusal_by_size (is_too_large ranges)))

-- the refusal that an error tells of; want of memory is none
abbrev pub refusal_in : (error : PhysError) → Option PhysError
refusal_in (BadRange place) = Some (BadRange place)
refusal_in (Overlap first second) = Some (Overlap first second)
refusal_in TooLarge = Some TooLarge
refusal_in NoMemory = None
