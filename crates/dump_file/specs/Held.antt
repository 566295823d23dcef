-- What files hold, where that is told, and what their calls then answer.
use Rattle.std.specs.Prelude.{◌≡◌, ◌≤◌, ℕ, zero, suc, ◌+◌, ◌-◌, List, [], ◌++◌, length, take, drop, min, Option, Some, None}
use Rattle.bitwords.specs.Causes.{Rose}

-- what a name holds: not told, no file, or a file with these bytes
pub data Holding : Type 0 where
  Untold : Holding
  Absent : Holding
  Bytes : List ℕ → Holding

-- The answer of `size`: where the content is told, the file's length, or None without a file; else None only where
-- the count `missing` rose.
abbrev pub IsSize : (held : Holding) (before now : ℕ) (size : Option ℕ) → Type 0
IsSize Untold before now size = size ≡ None → Rose before now
IsSize Absent before now size = size ≡ None
IsSize (Bytes bytes) before now size = size ≡ Some (length bytes)

-- The answer n of `read_at`: where the content is told, the bytes from that place on, as many as there are and fit;
-- else 0 only where the count `missing` rose.
abbrev pub IsRead : (held : Holding) (before now at : ℕ) (new : List ℕ) (n : ℕ) → Type 0
IsRead Untold before now at new n = n ≡ 0 → Rose before now
IsRead Absent before now at new n = n ≡ 0
IsRead (Bytes bytes) before now at new n = (n ≡ min (length new) (length bytes - at)) × (take n new ≡ take n (drop at bytes))

-- This many reads of a file gave these bytes from a place on, each from where the one before had ended. One read is told
-- by the files before it, the place, the bytes that came and the files after it.
abbrev pub CameBy : {F : Type 0} (read : F → ℕ → List ℕ → F → Type 0) (at turns : ℕ) (before : F) (bytes : List ℕ) (after : F) → Type 0
CameBy read at zero before bytes after = (after ≡ before) × (bytes ≡ [])
CameBy {F} read at (suc turns) before bytes after =
    (between : F) × (front : List ℕ) × (more : List ℕ)
    × CameBy read at turns before front between
    × read between (at + length front) more after × (bytes ≡ front ++ more)

-- reads of a file gave these bytes from a place on, each from where the one before had ended
pub record InTurns {F : Type 0} (read : F → ℕ → List ℕ → F → Type 0) (at : ℕ) (before : F) (bytes : List ℕ) (after : F) : Type 0 where
  pub turns : ℕ
  pub came : CameBy read at turns before bytes after

-- a part of a file from a place on was cut from bytes that reads of the file gave, over this call
pub record IsCut {F : Type 0} (read : F → ℕ → List ℕ → F → Type 0) (before after : F) (at : ℕ) (part : List ℕ) : Type 0 where
  pub start : ℕ
  pub bytes : List ℕ
  pub turns : InTurns read start before bytes after
  pub from : start ≤ at
  pub is : part ≡ take (length part) (drop (at - start) bytes)

-- reads of a file from its beginning, of which the last one left the files like this, gave bytes of which this holds
abbrev pub GaveWhole : {F : Type 0} (read : F → ℕ → List ℕ → F → Type 0) (after : F) (Holds : List ℕ → Type 0) → Type 0
GaveWhole {F} read after Holds = (before : F) × (bytes : List ℕ) × InTurns read 0 before bytes after × Holds bytes

-- the files over a call: what they hold, and their counts by name before and after it
pub record Reading : Type 0 where
  pub holds : List ℕ → Holding
  pub faults : List ℕ → ℕ
  pub faults_after : List ℕ → ℕ
  pub missing : List ℕ → ℕ
  pub missing_after : List ℕ → ℕ

-- the same by what files say of themselves
abbrev pub reading_of : {F : Type 0} (holds : F → List ℕ → Holding) (faults missing : F → List ℕ → ℕ) (before after : F) → Reading
reading_of holds faults missing before after = record {
  holds = holds before;
  faults = faults before;
  faults_after = faults after;
  missing = missing before;
  missing_after = missing after;
}

-- a read of this name failed in the call
abbrev pub ReadFails : Reading → (name : List ℕ) → Type 0
ReadFails r name = Rose (r.faults name) (r.faults_after name)

-- there is no file, or, where that is not told, one was found missing
abbrev pub IsMissingBy : (held : Holding) (before now : ℕ) → Type 0
IsMissingBy Untold before now = Rose before now
IsMissingBy Absent before now = Unit {0}
IsMissingBy (Bytes bytes) before now = ⊥

-- the same of a name, in a call
abbrev pub IsMissing : Reading → (name : List ℕ) → Type 0
IsMissing r name = IsMissingBy (r.holds name) (r.missing name) (r.missing_after name)
