-- Rows of the list of all, and in which set each stands.
use Rattle.std.specs.Prelude.{◌≡◌, ◌⊎◌, ℕ, ◌%◌, Bool, ◌==◌, ◌&&◌, List, [], ◌∷◌}
use Rattle.tagged_tlb.specs.declared.row.Kind.{Kind}
use Rattle.tagged_tlb.specs.declared.row.Made.{Made}
use Rattle.tagged_tlb.specs.declared.row.Row.{Row}

-- an element of a list
abbrev pub In : {X : Type 0} → (element : X) (list : List X) → Type 0
In x [] = ⊥
In x (y ∷ list) = (x ≡ y) ⊎ In x list

-- the row was made so
abbrev pub is_made : (made : Made) (row : Row) → Bool
is_made m r = (m.step == r.made.step) && (m.order == r.made.order)

-- a row of the list is of a kind and of a set, and was made so
pub record Stands (kind : Kind) (n set : ℕ) (made : Made) (live : List Row) (row : Row) : Type 0 where
  pub held : In row live
  pub kind_is : row.kind ≡ kind
  pub set_is : row.region.start % n ≡ set
  pub made_is : row.made ≡ made
