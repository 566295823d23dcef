-- What a walk needs next, and which items are it.
use Rattle.std.specs.Prelude.{ℕ, ◌/◌, ◌%◌, ◌^◌, Bool, true, false, ◌==◌, ◌&&◌, ◌||◌, nat_lt, ℤ, pos, negsuc, Option, Some, None}
use Rattle.geometry.specs.Tables.{class_of, level_of, table_size}
use Rattle.geometry.specs.Runs.{is_counted, is_one_run, leaf_class}
use Rattle.sysregs.specs.declared.regs.Config.{Config}
use Rattle.sysregs.specs.declared.regs.Side.{Side}
use Rattle.fault_codes.specs.declared.fault.Stage.{Stage}
use Rattle.fault_codes.specs.declared.fault.Stage.TheVariants.{S1, S2}
use Rattle.descriptors.specs.declared.kinds.Kind1.{Kind1}
use Rattle.descriptors.specs.declared.kinds.Kind1.TheVariants.{Invalid, Table, Leaf}
use Rattle.descriptors.specs.declared.kinds.Kind2.{Kind2}
use Rattle.descriptors.specs.declared.kinds.Kind2.TheVariants.{Invalid as Invalid2, Table as Table2, Leaf as Leaf2}
use Rattle.descriptors.specs.Meaning.{means1_of, means2_of}
use Rattle.trails.specs.declared.item.Item.{Item}
use Rattle.trails.specs.declared.item.What.{What}
use Rattle.trails.specs.declared.item.What.TheVariants.{Base, Word}
use Rattle.table_reads.specs.declared.sizes.Sizes.{Sizes}
use Rattle.table_reads.specs.Numbers.{sizes1, sizes2}
use Rattle.table_reads.specs.Items.{word_item}
use Rattle.walk_spec.specs.declared.region.Region.{Region}

-- what steers the walk of an access: the register fields, the side of its address, and the numbers of both stages
pub record Regime : Type 0 where
  pub config : Config
  pub side : Side
  pub stage1 : Sizes
  pub stage2 : Sizes

-- the regime of a side whose numbers are known
abbrev pub regime_with : (config : Config) (side : Side) (stage1 : Sizes) → Regime
regime_with c s n = record { config = c; side = s; stage1 = n; stage2 = sizes2 c }

-- the regime of a side
abbrev pub regime_of : (config : Config) (side : Side) → Regime
regime_of c s = regime_with c s (sizes1 c s)

-- A word of a stage with so many levels left, at a physical place. It carries the mark s1ptw of its faults, the input
-- address of its stage without a tag, and the address of its table.
pub record WordNeed : Type 0 where
  pub stage : Stage
  pub left : ℕ
  pub place : ℕ
  pub s1ptw : Bool
  pub address : ℕ
  pub table : ℕ

-- what is needed next: the base of stage 1, the base of stage 2 for an IPA, or a word
pub data Need : Type 0 where
  stage1_base : Need
  stage2_base : ℕ → Need
  word : WordNeed → Need

-- the numbers of a stage
abbrev pub sizes_of : (regime : Regime) (stage : Stage) → Sizes
sizes_of r S1 = r.stage1
sizes_of r S2 = r.stage2

-- two stages are the same
abbrev pub stage_eq : (a b : Stage) → Bool
stage_eq S1 S1 = true
stage_eq S1 S2 = false
stage_eq S2 S1 = false
stage_eq S2 S2 = true

-- two levels are the same
abbrev pub level_eq : (a b : ℤ) → Bool
level_eq (pos m) (pos n) = m == n
level_eq (pos m) (negsuc n) = false
level_eq (negsuc m) (pos n) = false
level_eq (negsuc m) (negsuc n) = m == n

-- a word
abbrev pub is_word : (what : What) → Bool
is_word Base = false
is_word Word = true

-- a base
abbrev pub is_base : (what : What) → Bool
is_base Base = true
is_base Word = false

-- the address of a stage 1 block or page, and its Contiguous bit
abbrev pub mapping1 : (kind : Kind1) → Option (ℕ × Bool)
mapping1 Invalid = None
mapping1 (Table table bits) = None
mapping1 (Leaf out attr_index bits sh af global contiguous) = Some (out, contiguous)

-- the address of a stage 2 block or page, and its Contiguous bit
abbrev pub mapping2 : (kind : Kind2) → Option (ℕ × Bool)
mapping2 Invalid2 = None
mapping2 (Table2 table) = None
mapping2 (Leaf2 out mem_attr read write xn sh af dbm contiguous) = Some (out, contiguous)

-- the same by the stage of a word with so many levels left
abbrev pub mapping_of : (regime : Regime) (stage : Stage) (left word : ℕ) → Option (ℕ × Bool)
mapping_of r S1 left w = mapping1 (means1_of r.config r.side left w)
mapping_of r S2 left w = mapping2 (means2_of r.config left w)

-- a block or page read at one place serves another place of its run, where its own Contiguous bit counts
abbrev pub serves_run : (mapping : Option (ℕ × Bool)) (sizes : Sizes) (left pa place : ℕ) → Bool
serves_run None n left pa place = false
serves_run (Some m) n left pa place = m.1 && is_counted n.granule n.input left m.0 pa && is_one_run n.granule left pa place

-- an item is a word of the run that is needed, read at another place of that run
abbrev pub is_run_mate : (regime : Regime) (need : WordNeed) (item : Item) → Bool
is_run_mate r w i = serves_run (mapping_of r w.stage w.left i.value) (sizes_of r w.stage) w.left i.pa w.place

-- a base of the stage with its start level, a multiple of the start table's size below 2 ^ 52
abbrev pub fits_base : (sizes : Sizes) (stage : Stage) (item : Item) → Bool
fits_base n s i =
    is_base i.what && stage_eq i.stage s && level_eq i.level (level_of n.start)
    && (i.pa == i.value) && (i.value % table_size n.granule n.input n.start == 0) && nat_lt i.value (2 ^ 52)

-- a word of the stage and level, at the very place or of its run
abbrev pub fits_word : (regime : Regime) (need : WordNeed) (item : Item) → Bool
fits_word r w i = is_word i.what && stage_eq i.stage w.stage && level_eq i.level (level_of w.left) && ((i.pa == w.place) || is_run_mate r w i)

-- an item is what is needed
unfoldable pub fits : (regime : Regime) (need : Need) (item : Item) → Bool
fits r stage1_base i = fits_base r.stage1 S1 i
fits r (stage2_base _) i = fits_base r.stage2 S2 i
fits r (word w) i = fits_word r w i

-- the item of a word that is needed, read at a moment
abbrev pub needed_item : (moment : ℕ) (need : WordNeed) (value : ℕ) → Item
needed_item k w value = word_item k w.stage (level_of w.left) w.place value

-- the class of what a word covers: that of its entry, or of its run where it is a block or page that counts as one
abbrev pub class_by : (mapping : Option (ℕ × Bool)) (sizes : Sizes) (left pa : ℕ) → ℕ
class_by None n left pa = class_of n.granule left
class_by (Some m) n left pa = leaf_class n.granule n.input left m.0 m.1 pa

-- the region of a word around the address that it was read for
abbrev pub region_of : (regime : Regime) (need : WordNeed) (item : Item) → Region
region_of r w i =
    let class = class_by (mapping_of r w.stage w.left i.value) (sizes_of r w.stage) w.left i.pa in
    record { class = class; start = w.address / 2 ^ class }
