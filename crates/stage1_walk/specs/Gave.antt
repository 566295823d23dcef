-- What a supply of stage 1 words does, and what a walk over it does.
use Rattle.std.specs.Prelude.{ℕ, ℤ, ◌≡◌, ◌≤◌, List, [], ◌∷◌, ◌++◌, length, Result, Ok, Err}
use Rattle.geometry.specs.Tables.{level_of}
use Rattle.trails.specs.declared.item.Item.{Item}
use Rattle.trails.specs.declared.outcome.Stop.{Stop}
use Rattle.trails.specs.declared.outcome.Stop.TheVariants.{Fault}
use Rattle.trails.specs.Lengths.{most_per_word}
use Rattle.walk_spec.specs.declared.entry.Entry1.{Entry1}
use Rattle.walk_spec.specs.declared.entry.Table1.{Table1}
use Rattle.walk_spec.specs.declared.leaf.Leaf1.{Leaf1}
use Rattle.walk_spec.specs.Ask.{Ran, Gives}
use Rattle.walk_spec.specs.Steps.{End, stops, reaches}
use Rattle.walk_spec.specs.Stage1.{Asked, walk1_from}

-- the last of the items is the word that is answered
abbrev pub EndsInWord : (items : List Item) (result : Result ℕ Stop) → Type 0
EndsInWord items (Ok v) = (front : List Item) × (i : Item) × (items ≡ front ++ i ∷ []) × (i.value ≡ v)
EndsInWord items (Err stop) = Unit {0}

-- A supply appended what it gave for a word: at most a base and five words of stage 2, and the word's own item last.
pub record Gave {S : Type 0} (gives : List Item → Result ℕ Stop → S → Type 0) (old new : List Item)
    (result : Result ℕ Stop) (after : S) : Type 0 where
  pub more : List Item
  pub grown : new ≡ old ++ more
  pub most : length more ≤ most_per_word
  pub given : gives more result after
  pub word : EndsInWord more result

-- a place is that of the last item
abbrev pub IsLastPlace : (items : List Item) (place : ℕ) → Type 0
IsLastPlace items p = (front : List Item) × (i : Item) × (items ≡ front ++ i ∷ []) × (p ≡ i.pa)

-- what a supply does for an entry: it is asked for the level and the place
abbrev pub by_entry : {S : Type 0} → (gives : S → ℤ → ℕ → List Item → Result ℕ Stop → S → Type 0) → Gives S Entry1 Item ℕ Stop
by_entry gives s e items result after = gives s (level_of e.left) e.place items result after

-- what is answered for how a walk over a supply ended
abbrev pub answer_of : (end : Result (End Leaf1) Stop) → Result Leaf1 Stop
answer_of (Ok (reaches l)) = Ok l
answer_of (Ok (stops f)) = Err (Fault f)
answer_of (Err stop) = Err stop

-- A walk from a table with so many levels left appended what the supply gave for its entries in turn, and answers as it
-- ended. (More than six parameters: the supply and the trail before and after, the walk, and the answer.)
pub record Walked1 {S : Type 0} (gives : S → ℤ → ℕ → List Item → Result ℕ Stop → S → Type 0) (q : Asked) (left : ℕ)
    (table : Table1) (before : S) (old new : List Item) (result : Result Leaf1 Stop) (after : S) : Type 0 where
  pub more : List Item
  pub end : Result (End Leaf1) Stop
  pub grown : new ≡ old ++ more
  pub ran : Ran (λ i. i.value) (by_entry gives) (walk1_from q left table) before more end after
  pub answer : result ≡ answer_of end
