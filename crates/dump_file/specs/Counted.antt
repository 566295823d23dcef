-- Counts of failures by the names of files.
use Rattle.std.specs.Prelude.{◌≡◌, ◌≢◌, ℕ, ◌-◌, ◌^◌, ◌≤◌, List, bytes_eq, if◌then◌else◌}

-- of two names each has a count of its own; those of other names stand at their end
abbrev pub count_of : (first second : List ℕ) (one two : ℕ) (name : List ℕ) → ℕ
count_of first second one two name = if bytes_eq first name then one else (if bytes_eq second name then two else 2 ^ 64 - 1)

-- a call for a name leaves both counts of other names as they were
abbrev pub OthersStay : (name : List ℕ) (faults faults_after missing missing_after : List ℕ → ℕ) → Type 0
OthersStay name faults faults_after missing missing_after =
    (other : List ℕ) → other ≢ name → (faults_after other ≡ faults other) × (missing_after other ≡ missing other)

-- no name's count falls
abbrev pub NoneFalls : (before now : List ℕ → ℕ) → Type 0
NoneFalls before now = (name : List ℕ) → before name ≤ now name
