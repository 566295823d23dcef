-- What a search finds.
use Rattle.std.specs.Prelude.{◌≡◌, ℕ, ◌+◌, ◌<◌, Bool, if◌then◌else◌, List, [], ◌∷◌, length, get_or, Option, Some, None}
use Rattle.tagged_tlb.specs.declared.row.Made.{Made}
use Rattle.tagged_tlb.specs.declared.row.Row.{Row}
use Rattle.tagged_tlb.specs.declared.found.Seen.{Seen}
use Rattle.tagged_tlb.specs.declared.found.Slot.{Slot}
use Rattle.tagged_tlb.specs.declared.found.Found.{Found}
use Rattle.tagged_tlb.specs.declared.found.Found.TheVariants.{Nothing, One, Two}
use Rattle.tagged_tlb.specs.Rows.{is_older}
use Rattle.tagged_tlb.specs.Tied.{row_at}

-- one more row that matches
abbrev pub met : (found : Found) (seen : Seen) → Found
met Nothing s = One s
met (One a) s = if is_older s.made a.made then Two s a else Two a s
met (Two a b) s = if is_older s.made a.made then Two s a else (if is_older s.made b.made then Two a s else Two a b)

abbrev pub seen_at : (set way : ℕ) (made : Made) → Seen
seen_at set way m = record { slot = record { set = set; way = way }; made = m }

-- those of a set that pass, from a place on
abbrev pub looked : {X : Type 0} → (test : X → Bool) (made : X → Made) (set way : ℕ) (found : Found) (list : List X) → Found
looked test made set way found [] = found
looked test made set way found (x ∷ list) = looked test made set (way + 1) (if test x then met found (seen_at set way (made x)) else found) list

-- the row that was seen
abbrev pub seen_row : (d : Row) (sets : List (List Row)) (seen : Seen) → Row
seen_row d sets s = row_at sets s.slot.set s.slot.way d

-- the rows that were found
abbrev pub found_rows : (d : Row) (sets : List (List Row)) (found : Found) → List Row
found_rows d sets Nothing = []
found_rows d sets (One a) = seen_row d sets a ∷ []
found_rows d sets (Two a b) = seen_row d sets a ∷ seen_row d sets b ∷ []

abbrev pub IsSeen : (d : Row) (sets : List (List Row)) (seen : Seen) → Type 0
IsSeen d sets s = (seen_row d sets s).made ≡ s.made

-- each row that was seen is so
abbrev pub AllSeen : (holds : Seen → Type 0) (found : Found) → Type 0
AllSeen P Nothing = Unit {0}
AllSeen P (One a) = P a
AllSeen P (Two a b) = P a × P b

-- a row stands at the place
abbrev pub IsWithin : (sets : List (List Row)) (slot : Slot) → Type 0
IsWithin sets s = (s.set < length sets) × (s.way < length (get_or sets s.set []))

-- rows stand where they were found
abbrev pub AreWithin : (sets : List (List Row)) (found : Found) → Type 0
AreWithin sets found = AllSeen (λ s. IsWithin sets s.slot) found

abbrev pub MayBeWithin : (sets : List (List Row)) (seen : Option Seen) → Type 0
MayBeWithin sets None = Unit {0}
MayBeWithin sets (Some s) = IsWithin sets s.slot

-- the place of the first that passes, counted from a place on
abbrev pub first_hit : {X : Type 0} → (test : X → Bool) (way : ℕ) (list : List X) → Option ℕ
first_hit test way [] = None
first_hit test way (x ∷ list) = if test x then Some way else first_hit test (way + 1) list

-- the row of a place
abbrev pub slot_row : (d : Row) (sets : List (List Row)) (slot : Slot) → Row
slot_row d sets s = row_at sets s.set s.way d
