-- Text of which a first part was handed on and the rest waits (this project's own way to write a report).
use Rattle.std.specs.Prelude.{◌≡◌, ℕ, List, ◌++◌, take, Option, Result, Ok, Err}
use Rattle.explain_text.specs.Written.{Appended}

-- the first part of the text was handed on, and the rest is what waits
abbrev pub Handed : (before now : Option (List ℕ)) (waits text : List ℕ) → Type 0
Handed before now waits text = (given : List ℕ) × Appended before now given × (given ++ waits ≡ text)

-- a first part of the text was handed on
abbrev pub Started : (before now : Option (List ℕ)) (text : List ℕ) → Type 0
Started before now text = (k : ℕ) × Appended before now (take k text)

-- a text comes behind what was handed on and what waits: at Ok all of it is handed on or waits, at Err a first part was
-- handed on
abbrev pub Adds : {T E : Type 0} (old new : Option (List ℕ)) (result : Result T E) (waits left text : List ℕ) → Type 0
Adds old new (Ok _) waits left text =
    (before : Option (List ℕ)) (front : List ℕ) → Handed before old waits front → Handed before new left (front ++ text)
Adds old new (Err _) waits left text =
    (before : Option (List ℕ)) (front : List ℕ) → Handed before old waits front → Started before new (front ++ text)

-- the same without a further text
abbrev pub HandsOn : {T E : Type 0} (old new : Option (List ℕ)) (result : Result T E) (waits left : List ℕ) → Type 0
HandsOn old new (Ok _) waits left = (before : Option (List ℕ)) (text : List ℕ) → Handed before old waits text → Handed before new left text
HandsOn old new (Err _) waits left = (before : Option (List ℕ)) (text : List ℕ) → Handed before old waits text → Started before new text
