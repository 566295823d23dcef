-- The shapes of the caches of a core (this project's own rules).
use Rattle.std.specs.Prelude.{ℕ, Bool, true, false}
use Rattle.trace_lang.specs.declared.header.Size.{Size}
use Rattle.trace_lang.specs.declared.header.Size.TheVariants.{NoRows, Small, Medium, Large}
use Rattle.tagged_tlb.specs.declared.row.Kind.{Kind}
use Rattle.tagged_tlb.specs.declared.row.Kind.TheVariants.{Leaf1, Table1, Leaf2, Table2}

-- a cache has so many sets of so many rows
pub record Shape : Type 0 where
  pub sets : ℕ
  pub ways : ℕ

abbrev pub shape : (sets ways : ℕ) → Shape
shape sets ways = record { sets = sets; ways = ways }

abbrev pub medium_shape : (kind : Kind) → Shape
medium_shape Leaf1 = shape 16 4
medium_shape Table1 = shape 4 4
medium_shape Leaf2 = shape 8 4
medium_shape Table2 = shape 4 4

abbrev pub large_shape : (kind : Kind) → Shape
large_shape Leaf1 = shape 64 8
large_shape Table1 = shape 16 4
large_shape Leaf2 = shape 32 4
large_shape Table2 = shape 16 4

-- the shape of a cache; without rows there is none
abbrev pub shape_of : (size : Size) (kind : Kind) → Shape
shape_of NoRows kind = shape 0 0
shape_of Small kind = shape 1 8
shape_of Medium kind = medium_shape kind
shape_of Large kind = large_shape kind

-- the caches keep rows
abbrev pub keeps_rows : (size : Size) → Bool
keeps_rows NoRows = false
keeps_rows Small = true
keeps_rows Medium = true
keeps_rows Large = true
