-- Up to which moment an item of a trail is relied on (this project's own rule): a descriptor above the leaf until the next
-- one of its chain was read. The items of stage 1 are one chain, and those of each stage 2 translation are one.
use Rattle.std.specs.Prelude.{ℕ, if◌then◌else◌, List, [], ◌∷◌, Option, Some, None}
use Rattle.machine_spec.specs.Marks.{Mark, is_first, is_leaf1}

-- the moment of the next item of stage 1; where there is none, the item is relied on now
abbrev pub next_first : (later : List Mark) → Option ℕ
next_first [] = None
next_first (m ∷ later) = if is_first m then Some m.item.moment else next_first later

-- of an item of stage 2: that of the next item, which is one of its chain or the stage 1 word that the chain led to; behind
-- the last chain, that of the stage 1 leaf above it
abbrev pub next_second : (above : Option ℕ) (later : List Mark) → Option ℕ
next_second above [] = above
next_second above (m ∷ later) = Some m.item.moment

-- the use of an item
abbrev pub use_of : (above : Option ℕ) (mark : Mark) (later : List Mark) → Option ℕ
use_of above m later = if is_first m then next_first later else next_second above later

-- the moment of the stage 1 leaf that was met so far
abbrev pub above_of : (above : Option ℕ) (mark : Mark) → Option ℕ
above_of above m = if is_first m then (if is_leaf1 m then Some m.item.moment else None) else above

-- each item meets a condition with its use
abbrev pub AllUsed : (condition : Mark → Option ℕ → Type 0) (above : Option ℕ) (marks : List Mark) → Type 0
AllUsed P above [] = Unit {0}
AllUsed P above (m ∷ later) = P m (use_of above m later) × AllUsed P (above_of above m) later

-- the last item, where there is one, meets a condition
abbrev pub LastIs : (condition : Mark → Type 0) (marks : List Mark) → Type 0
LastIs P [] = Unit {0}
LastIs P (m ∷ []) = P m
LastIs P (m ∷ n ∷ later) = LastIs P (n ∷ later)
