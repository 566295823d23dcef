-- What every meaning of a word keeps to.
use Rattle.std.specs.Prelude.{ℕ, ◌<◌, ◌^◌, ◌%◌, ◌≡◌}
use Rattle.descriptors.specs.declared.kinds.Kind1.{Kind1}
use Rattle.descriptors.specs.declared.kinds.Kind1.TheVariants.{Invalid, Table, Leaf}
use Rattle.descriptors.specs.declared.kinds.Kind2.{Kind2}
use Rattle.descriptors.specs.declared.kinds.Kind2.TheVariants.{Invalid as Invalid2, Table as Table2, Leaf as Leaf2}

-- stage 1: a table has a level below it and can be read; addresses are below 2 ^ 52; numbers are below 2 to their bits
abbrev pub IsBounded1 : (left : ℕ) (kind : Kind1) → Type 0
IsBounded1 left Invalid = Unit {0}
IsBounded1 left (Table table bits) = (0 < left) × (table < 2 ^ 52) × (table % 8 ≡ 0)
IsBounded1 left (Leaf out attr_index bits sh af global contiguous) = (out < 2 ^ 52) × (attr_index < 8) × (sh < 4)

-- stage 2: a table has a level below it and can be read; addresses are below 2 ^ 52; numbers are below 2 to their bits
abbrev pub IsBounded2 : (left : ℕ) (kind : Kind2) → Type 0
IsBounded2 left Invalid2 = Unit {0}
IsBounded2 left (Table2 table) = (0 < left) × (table < 2 ^ 52) × (table % 8 ≡ 0)
IsBounded2 left (Leaf2 out mem_attr read write xn sh af dbm contiguous) = (out < 2 ^ 52) × (mem_attr < 16) × (xn < 4) × (sh < 4)
