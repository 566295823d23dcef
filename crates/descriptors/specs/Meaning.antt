-- What a descriptor word means (DDI 0487, the VMSAv8-64 descriptor formats).
use Rattle.std.specs.Prelude.{ℕ, ◌≡◌, ◌+◌, ◌*◌, ◌^◌, Bool, not, ◌==◌, ◌&&◌, if◌then◌else◌, Option, Some, None}
use Rattle.bitwords.specs.Fields.{bits_of, bit}
use Rattle.geometry.specs.Tables.{class_of, has_block}
use Rattle.sysregs.specs.declared.regs.Config.{Config}
use Rattle.sysregs.specs.declared.regs.Side.{Side}
use Rattle.sysregs.specs.Registers.{granule_of}
use Rattle.sysregs.specs.Sides.{tg_of, hpd_of}
use Rattle.permissions.specs.declared.bits.Bits1.{Bits1}
use Rattle.permissions.specs.declared.bits.TableBits.{TableBits}
use Rattle.descriptors.specs.declared.words.Shape.{Shape}
use Rattle.descriptors.specs.declared.words.Shape.TheVariants.{Nothing, Pointer, Mapping}
use Rattle.descriptors.specs.declared.kinds.Kind1.{Kind1}
use Rattle.descriptors.specs.declared.kinds.Kind1.TheVariants.{Invalid, Table, Leaf}
use Rattle.descriptors.specs.declared.kinds.Kind2.{Kind2}
use Rattle.descriptors.specs.declared.kinds.Kind2.TheVariants.{Invalid as Invalid2, Table as Table2, Leaf as Leaf2}

-- bits 47 to lowest of an address; with a granule of 64 KB bits 15:12 of the word are bits 51:48
abbrev pub address_in : (granule word lowest : ℕ) → ℕ
address_in g w lowest = if g == 16 then bits_of w 15 12 * 2 ^ 48 + bits_of w 47 lowest * 2 ^ lowest else bits_of w 47 lowest * 2 ^ lowest

-- bit 0 is 0: invalid; bits 1:0 are 01: a block, where the level has blocks; 11: a table, or a page at the last level
abbrev pub shape_of : (granule left word : ℕ) → Shape
shape_of g left w =
    if bit w 0 then (if bit w 1 then (if left == 0 then Mapping else Pointer) else (if has_block g left then Mapping else Nothing)) else Nothing

-- APTable, UXNTable and PXNTable; hierarchical permissions may be disabled (TCR_EL1.HPDn)
abbrev pub table_bits : (hpd : Bool) (word : ℕ) → TableBits
table_bits hpd w = record { no_el0 = bit w 61 && not hpd; read_only = bit w 62 && not hpd; pxn = bit w 59 && not hpd; uxn = bit w 60 && not hpd }

-- AP[2:1], DBM, PXN and UXN
abbrev pub leaf_bits : (word : ℕ) → Bits1
leaf_bits w = record { el0 = bit w 6; read_only = bit w 7; dbm = bit w 51; pxn = bit w 53; uxn = bit w 54 }

-- what a stage 1 word of a shape means: AttrIndx, the permission bits, SH, AF, not nG, Contiguous
abbrev pub kind1_of : (granule : ℕ) (hpd : Bool) (left word : ℕ) (shape : Shape) → Kind1
kind1_of g hpd left w Nothing = Invalid
kind1_of g hpd left w Pointer = Table (address_in g w g) (table_bits hpd w)
kind1_of g hpd left w Mapping = Leaf (address_in g w (class_of g left)) (bits_of w 4 2) (leaf_bits w) (bits_of w 9 8) (bit w 10) (not (bit w 11)) (bit w 52)

-- a stage 1 word with so many levels left, in the tables of a side
unfoldable pub means1_of : (config : Config) (side : Side) (left word : ℕ) → Kind1
means1_of c s left w = let g = granule_of (tg_of c s) in kind1_of g (hpd_of c s) left w (shape_of g left w)

-- what a stage 2 word of a shape means: MemAttr, S2AP, XN, SH, AF, DBM, Contiguous
abbrev pub kind2_of : (granule left word : ℕ) (shape : Shape) → Kind2
kind2_of g left w Nothing = Invalid2
kind2_of g left w Pointer = Table2 (address_in g w g)
kind2_of g left w Mapping =
    Leaf2 (address_in g w (class_of g left)) (bits_of w 5 2) (bit w 6) (bit w 7) (bits_of w 54 53) (bits_of w 9 8) (bit w 10) (bit w 51) (bit w 52)

-- a stage 2 word with so many levels left
unfoldable pub means2_of : (config : Config) (left word : ℕ) → Kind2
means2_of c left w = let g = granule_of c.tg2 in kind2_of g left w (shape_of g left w)

-- what a stage 1 word means is this table with its bits, or it is no table's
abbrev pub IsTableOf1 : (kind : Kind1) (table : Option (ℕ × TableBits)) → Type 0
IsTableOf1 k (Some table) = k ≡ Table table.0 table.1
IsTableOf1 k None = (table : ℕ) (bits : TableBits) → k ≡ Table table bits → ⊥

-- what a stage 2 word means is this table, or it is no table's
abbrev pub IsTableOf2 : (kind : Kind2) (table : Option ℕ) → Type 0
IsTableOf2 k (Some table) = k ≡ Table2 table
IsTableOf2 k None = (table : ℕ) → k ≡ Table2 table → ⊥
