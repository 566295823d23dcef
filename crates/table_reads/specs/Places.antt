-- Where a table's words stand, and the sizes that addresses keep to.
use Rattle.std.specs.Prelude.{ℕ, ◌+◌, ◌*◌, ◌/◌, ◌^◌, Bool, nat_le}
use Rattle.geometry.specs.Tables.{index_of, table_size}
use Rattle.table_reads.specs.declared.sizes.Sizes.{Sizes}

-- the place of the word that an address selects in a table
unfoldable pub place_of : (sizes : Sizes) (left table address : ℕ) → ℕ
place_of n left table address = table + 8 * index_of n.granule n.input n.start left address

-- a base with the bits below the start table's size read as 0 (this project's own rule)
abbrev pub aligned_base : (sizes : Sizes) (base : ℕ) → ℕ
aligned_base n base = let size = table_size n.granule n.input n.start in base / size * size

-- an address is at or above the output size
abbrev pub is_too_large : (sizes : Sizes) (address : ℕ) → Bool
is_too_large n address = nat_le (2 ^ n.output) address
