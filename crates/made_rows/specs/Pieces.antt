-- The piece of both leaves that a walk ends in, by its items.
use Rattle.std.specs.Prelude.{◌≡◌, ℕ, if◌then◌else◌, Option, Some, None}
use Rattle.walk_spec.specs.BothStages.{smaller}
use Rattle.machine_spec.specs.Marks.{Mark, is_first}

-- the last item of stage 1
abbrev pub after1 : (last : Option Mark) (mark : Mark) → Option Mark
after1 o m = if is_first m then Some m else o

-- the class of the last word of stage 2 behind it
abbrev pub after2 : (class : Option ℕ) (mark : Mark) → Option ℕ
after2 o m = if is_first m then None else (if m.base then None else Some m.region.class)

-- the class of the piece of both leaves
abbrev pub IsPiece : (last : Option Mark) (class2 : Option ℕ) (class : ℕ) → Type 0
IsPiece None k c = Unit {0}
IsPiece (Some m) None c = c ≡ m.region.class
IsPiece (Some m) (Some k) c = c ≡ smaller m.region.class k

-- the smaller of two classes, of which the second may lack
abbrev pub smaller_of : (class : ℕ) (other : Option ℕ) → ℕ
smaller_of c None = c
smaller_of c (Some k) = smaller c k
