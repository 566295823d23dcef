-- What reads in turns have put into a slice.
use Rattle.std.specs.Prelude.{◌≡◌, ℕ, ◌-◌, ◌≤◌, ◌<◌, List, length, take, drop, min}
use Rattle.bitwords.specs.Causes.{Rose}
use Rattle.dump_file.specs.Held.{Holding, Untold, Absent, Bytes}

-- the first n bytes are those of the file from a place on, and all that there are where n is less than the length
abbrev pub IsFilled : (held : Holding) (before now at : ℕ) (new : List ℕ) (n : ℕ) → Type 0
IsFilled Untold before now at new n = n < length new → Rose before now
IsFilled Absent before now at new n = n ≡ 0
IsFilled (Bytes bytes) before now at new n = (n ≡ min (length new) (length bytes - at)) × (take n new ≡ take n (drop at bytes))

-- the first n bytes are those of the file from a place on
abbrev pub IsFront : (held : Holding) (at : ℕ) (new : List ℕ) (n : ℕ) → Type 0
IsFront Untold at new n = Unit {0}
IsFront Absent at new n = n ≡ 0
IsFront (Bytes bytes) at new n = (n ≤ length bytes - at) × (take n new ≡ take n (drop at bytes))
