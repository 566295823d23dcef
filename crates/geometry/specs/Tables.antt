-- Levels, indices and sizes of translation tables with a granule of 2 ^ g bytes (DDI 0487, VMSAv8-64 translation
-- table lookup). A level is told by how many levels are left below it: 3 minus its number.
use Rattle.std.specs.Prelude.{◌≡◌, ◌⊎◌, ℕ, ◌+◌, ◌-◌, ◌*◌, ◌/◌, ◌%◌, ◌^◌, List, []}
use Rattle.std.specs.Prelude.{◌∷◌, Option, Some, None, Bool, ◌==◌, ◌&&◌, nat_le}
use Rattle.std.specs.Prelude.{if◌then◌else◌, option_map, ℤ, pos, negsuc, ◌-ℤ◌}

-- 4 KB, 16 KB or 64 KB
abbrev pub IsGranule : (granule : ℕ) → Type 0
IsGranule g = (g ≡ 12) ⊎ ((g ≡ 14) ⊎ (g ≡ 16))

-- the input bits that one level resolves: an entry has 8 bytes
abbrev pub stride : (granule : ℕ) → ℕ
stride g = g - 3

-- an entry covers 2 ^ class bytes of input
abbrev pub class_of : (granule left : ℕ) → ℕ
class_of g left = g + left * stride g

-- the most levels that are left below one: those of level 0
abbrev pub most_left : ℕ
most_left = 3

-- the level with so many levels left
abbrev pub level_of : (left : ℕ) → ℤ
level_of left = pos 3 -ℤ pos left

-- TxSZ is in range, for both stages
abbrev pub is_txsz : (granule txsz : ℕ) → Bool
is_txsz g txsz = if g == 16 then nat_le 12 txsz && nat_le txsz 47 else nat_le 16 txsz && nat_le txsz 48

-- the bits of input that TxSZ leaves
abbrev pub input_size : (txsz : ℕ) → ℕ
input_size txsz = 64 - txsz

-- stage 1: the levels left at the start, for so many bits of input
abbrev pub start_left1 : (granule input : ℕ) → ℕ
start_left1 g input = (input - 1 - g) / stride g

-- stage 1: the start level that TxSZ gives
abbrev pub start_level1 : (granule txsz : ℕ) → Option ℤ
start_level1 g txsz = if is_txsz g txsz then Some (level_of (start_left1 g (input_size txsz))) else None

-- the value of the row that has these two keys
abbrev pub row_at : (rows : List (ℕ × ℕ × ℕ)) (first second : ℕ) → Option ℕ
row_at [] a b = None
row_at (row ∷ rows) a b = if row.0 == a && row.1 == b then Some row.2 else row_at rows a b

-- stage 2: granule, SL0, and the levels left at the start (VTCR_EL2.SL0); no row is an invalid code
abbrev pub start_rows2 : List (ℕ × ℕ × ℕ)
start_rows2 =
    (12, 0, 1) ∷ (12, 1, 2) ∷ (12, 2, 3) ∷ (12, 3, 0) ∷ (14, 0, 0) ∷ (14, 1, 1) ∷ (14, 2, 2) ∷ (16, 0, 0) ∷ (16, 1, 1) ∷ (16, 2, 2) ∷ []

-- stage 2: the levels left at the start
abbrev pub start_left2 : (granule sl0 : ℕ) → Option ℕ
start_left2 g sl0 = row_at start_rows2 g sl0

-- stage 2: the start level
abbrev pub start_level2 : (granule sl0 : ℕ) → Option ℤ
start_level2 g sl0 = option_map level_of (start_left2 g sl0)

-- stage 2: the input size suits the start level, with at most 16 tables concatenated there
abbrev pub is_suited2 : (granule left input : ℕ) → Bool
is_suited2 g left input = nat_le (left * stride g + g + 1) input && nat_le input (left * stride g + g + stride g + 4)

-- the levels left below a level from 0 to 3
abbrev pub left_below : (level : ℤ) → ℕ
left_below (pos n) = most_left - n
left_below (negsuc n) = most_left + 1 + n

-- stage 2: the input size suits a start level from 0 to 3
abbrev pub is_suited_at : (granule : ℕ) (level : ℤ) (input : ℕ) → Bool
is_suited_at g level input = is_suited2 g (left_below level) input

-- the input bits below this one take part in the index: all of the input at the start level
abbrev pub top_of : (granule input start left : ℕ) → ℕ
top_of g input start left = if left == start then input else class_of g left + stride g

-- which entry of its table an address selects
abbrev pub index_of : (granule input start left address : ℕ) → ℕ
index_of g input start left address = address % 2 ^ top_of g input start left / 2 ^ class_of g left

-- the bytes of the start table, all concatenated tables counted
abbrev pub table_size : (granule input start : ℕ) → ℕ
table_size g input start = 8 * 2 ^ (input - class_of g start)

-- the levels that have blocks
abbrev pub has_block : (granule left : ℕ) → Bool
has_block g left = if g == 12 then nat_le 1 left && nat_le left 2 else (if g == 14 then left == 1 else nat_le 1 left && nat_le left 2)
