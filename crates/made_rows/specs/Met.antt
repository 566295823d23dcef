-- The items of a trail with what they are, told without its walk.
use Rattle.std.specs.Prelude.{ℕ, ◌-◌, Bool, ◌&&◌, List, [], ◌∷◌, if◌then◌else◌}
use Rattle.geometry.specs.Tables.{left_below}
use Rattle.geometry.specs.Runs.{leaf_class, goes_to}
use Rattle.fault_codes.specs.declared.fault.Stage.{Stage}
use Rattle.fault_codes.specs.declared.fault.Stage.TheVariants.{S1, S2}
use Rattle.descriptors.specs.declared.kinds.Kind1.{Kind1}
use Rattle.descriptors.specs.declared.kinds.Kind1.TheVariants.{Invalid, Table, Leaf}
use Rattle.descriptors.specs.Meaning.{means1_of}
use Rattle.trails.specs.declared.item.Item.{Item}
use Rattle.trails.specs.declared.item.What.{What}
use Rattle.trails.specs.declared.item.What.TheVariants.{Base, Word}
use Rattle.table_reads.specs.declared.sizes.Sizes.{Sizes}
use Rattle.table_reads.specs.Places.{place_of}
use Rattle.tlbi_ops.specs.Covers.{is_stage1}
use Rattle.walk_spec.specs.Needs.{Regime, is_base, stage_eq}
use Rattle.machine_spec.specs.Marks.{Mark}
use Rattle.served_walk.specs.Spots.{mark_of_word}

-- Where stage 1 goes by a word with so many levels left, which was read at a place: to the entry that the address selects in the
-- next table, or to the leaf's output.
abbrev pub goes_by : (sizes : Sizes) (left pa address : ℕ) (kind : Kind1) → ℕ
goes_by n left pa x Invalid = 0
goes_by n left pa x (Table next bits) = place_of n (left - 1) next x
goes_by n left pa x (Leaf out attr_index bits sh af global contiguous) = goes_to out (leaf_class n.granule n.input left out contiguous pa) x

abbrev pub goes_by_word : (regime : Regime) (va left : ℕ) (item : Item) → ℕ
goes_by_word r va left i = goes_by r.stage1 left i.pa va (means1_of r.config r.side left i.value)

-- where it goes by an item: the base leads to an entry of the start table
abbrev pub goes_by_item : (regime : Regime) (va : ℕ) (item : Item) (what : What) → ℕ
goes_by_item r va i Base = place_of r.stage1 r.stage1.start i.value va
goes_by_item r va i Word = goes_by_word r va (left_below i.level) i

-- an item begins a chain of stage 2
abbrev pub begins_chain : (item : Item) → Bool
begins_chain i = is_base i.what && stage_eq i.stage S2

-- the address of a word: of stage 1 that of the access, of stage 2 the IPA of its chain
abbrev pub address_by : (stage : Stage) (va ipa : ℕ) → ℕ
address_by S1 va x = va
address_by S2 va x = x

abbrev pub mark_for : (regime : Regime) (va ipa : ℕ) (item : Item) → Mark
mark_for r va x i = mark_of_word r i.stage (address_by i.stage va x) i i.what

-- The IPA of the chain that stands open behind an item: a chain begins for where stage 1 goes.
abbrev pub open_ipa : (ipa goal : ℕ) (item : Item) → ℕ
open_ipa x goal i = if begins_chain i then goal else x

-- where stage 1 goes behind an item
abbrev pub next_goal : (regime : Regime) (va goal : ℕ) (item : Item) → ℕ
next_goal r va goal i = if is_stage1 i.stage then goes_by_item r va i i.what else goal

-- the items with what they are
abbrev pub met : (regime : Regime) (va ipa goal : ℕ) (items : List Item) → List Mark
met r va x goal [] = []
met r va x goal (i ∷ items) = let y = open_ipa x goal i in mark_for r va y i ∷ met r va y (next_goal r va goal i) items
