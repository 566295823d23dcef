-- The words of stage 1 in the trail of a row, each behind the chain of its place.
use Rattle.std.specs.Prelude.{◌≡◌, ℕ, ◌≤◌, List, [], ◌∷◌, ◌++◌, length, Option, Some, None}
use Rattle.fault_codes.specs.declared.fault.Stage.TheVariants.{S1, S2}
use Rattle.trails.specs.declared.item.Item.{Item}
use Rattle.trails.specs.Lengths.{most_items2}

-- each item is one of stage 2
abbrev pub AreOfStage2 : (items : List Item) → Type 0
AreOfStage2 [] = Unit {0}
AreOfStage2 (i ∷ items) = (i.stage ≡ S2) × AreOfStage2 items

-- the last item, where there is one, is of stage 1
abbrev pub EndsInStage1 : (items : List Item) → Type 0
EndsInStage1 [] = Unit {0}
EndsInStage1 (i ∷ []) = i.stage ≡ S1
EndsInStage1 (i ∷ j ∷ items) = EndsInStage1 (j ∷ items)

-- items begin with a word of stage 1 behind a chain of stage 2, or behind none
pub record BeginsWith (items front : List Item) (word : Item) (rest : List Item) : Type 0 where
  pub is : items ≡ front ++ word ∷ rest
  pub chain : AreOfStage2 front
  pub stage : word.stage ≡ S1
  pub few : length front ≤ most_items2

-- the first word of kept items was taken, with its chain; or they begin with none
abbrev pub TookWord : (kept left old new : List Item) (word : Option ℕ) → Type 0
TookWord kept left old new None = (left ≡ kept) × (new ≡ old) × ((front : List Item) (i : Item) (rest : List Item) → BeginsWith kept front i rest
    → ⊥)
TookWord kept left old new (Some v) =
    (front : List Item) × (i : Item) × BeginsWith kept front i left × (new ≡ old ++ (front ++ i ∷ [])) × (v ≡ i.value)
