-- How a walk through stage 1 stands on items that were kept.
use Rattle.std.specs.Prelude.{ℕ, ◌≡◌, ◌≤◌, Bool, true, false, ◌&&◌, ◌||◌, List, [], ◌∷◌, ◌++◌, length, drop, Result, Ok, Err}
use Rattle.geometry.specs.Tables.{level_of, left_below}
use Rattle.sysregs.specs.declared.regs.Config.{Config}
use Rattle.sysregs.specs.declared.regs.Side.{Side}
use Rattle.sysregs.specs.Sides.{side_of}
use Rattle.fault_codes.specs.declared.fault.Fault.{Fault}
use Rattle.fault_codes.specs.declared.fault.Stage.TheVariants.{S1}
use Rattle.descriptors.specs.declared.kinds.Kind1.{Kind1}
use Rattle.descriptors.specs.declared.kinds.Kind1.TheVariants.{Invalid, Table, Leaf}
use Rattle.descriptors.specs.Meaning.{means1_of}
use Rattle.trails.specs.declared.item.Item.{Item}
use Rattle.trails.specs.declared.outcome.Access.{Access}
use Rattle.walk_spec.specs.declared.entry.Table1.{Table1}
use Rattle.walk_spec.specs.declared.leaf.Leaf1.{Leaf1}
use Rattle.walk_spec.specs.Ask.{Stands, needs, bad, ends, on}
use Rattle.walk_spec.specs.Needs.{Need, fits, regime_of, is_word, is_base, stage_eq, level_eq}
use Rattle.walk_spec.specs.Steps.{End, stops, reaches}
use Rattle.walk_spec.specs.Stage1.{stage1_from}
use Rattle.walk_spec.specs.BothStages.{asked}
use Rattle.stage1_walk.specs.declared.walk.From1.{From1}
use Rattle.stage1_walk.specs.Clauses.{table_from}
use Rattle.translate.specs.declared.stand.StoodWord.{StoodWord}
use Rattle.translate.specs.declared.stand.StoodWord.TheVariants.{Had, Refused, Needs, Unfit}
use Rattle.translate.specs.declared.stand.Stood1.{Stood1}
use Rattle.translate.specs.declared.stand.Stood1.TheVariants.{Found, Refused as Refused1, AtTable, Within, Unfit as Unfit1}

-- a table with so many levels left
abbrev pub from1_at : (left : ℕ) (table : Table1) → From1
from1_at left t = record { base = t.address; level = level_of left; tables = t.bits }

-- a word is that of a table
abbrev pub is_table : (kind : Kind1) → Bool
is_table Invalid = false
is_table (Table table bits) = true
is_table (Leaf out attr_index bits sh af global contiguous) = false

-- an item is a base of stage 1, or a word of a table of stage 1
abbrev pub is_top : (config : Config) (side : Side) (item : Item) → Bool
is_top c s i = stage_eq i.stage S1 && (is_base i.what || is_table (means1_of c s (left_below i.level) i.value))

-- the last item is a base or a table of stage 1
abbrev pub EndsAtTop : (config : Config) (side : Side) (items : List Item) → Type 0
EndsAtTop c s items = (front : List Item) × (i : Item) × (items ≡ front ++ i ∷ []) × (is_top c s i ≡ true)

-- an item is a word of stage 1 with so many levels left
abbrev pub is_word1 : (left : ℕ) (item : Item) → Bool
is_word1 left i = is_word i.what && stage_eq i.stage S1 && level_eq i.level (level_of left)

-- what is answered for how a word stands on the items from a place on
abbrev pub IsStoodWord : (left : ℕ) (items : List Item) (stood : StoodWord) (stands : Stands Need Item (Result Item Fault)) → Type 0
IsStoodWord left items (Had i at) s =
    (at ≤ length items) × (s ≡ ends (Ok i) (drop at items)) × (is_word1 left i ≡ true)
    × ((front : List Item) × (items ≡ front ++ i ∷ drop at items))
IsStoodWord left items (Refused f at) s = (at ≤ length items) × (s ≡ ends (Err f) (drop at items))
IsStoodWord left items Needs s = (n : Need) × (s ≡ needs n)
IsStoodWord left items Unfit s = s ≡ bad

-- how stage 1 stands from a table with so many levels left
abbrev pub stands1 : (config : Config) (access : Access) (left : ℕ) (table : Table1) (items : List Item) → Stands Need Item (End Leaf1)
stands1 c a left t items = on (fits (regime_of c (side_of a.va))) (stage1_from (asked c true a) left t) items

-- With whatever follows on the items, stage 1 goes on as from this table.
abbrev pub GoesOn : (config : Config) (access : Access) (left : ℕ) (table : Table1) (items : List Item) (from : From1) → Type 0
GoesOn c a left t items from = (more : List Item) → stands1 c a left t (items ++ more) ≡ stands1 c a (left_below from.level) (table_from from) more

-- What is answered for how stage 1 stands from a table on the rest of a list. (The list, and its rest.)
abbrev pub IsStood1 : (config : Config) (access : Access) (left : ℕ) (table : Table1) (items rest : List Item) (stood : Stood1) → Type 0
IsStood1 c a left t items rest (Found l at) =
    (at ≤ length items) × (stands1 c a left t rest ≡ ends (reaches l) (drop at items))
    × (at ≡ length items → EndsAtTop c (side_of a.va) items → ⊥)
IsStood1 c a left t items rest (Refused1 f at) = (at ≤ length items) × (stands1 c a left t rest ≡ ends (stops f) (drop at items))
IsStood1 c a left t items rest (AtTable from) =
    ((n : Need) × (stands1 c a left t rest ≡ needs n)) × EndsAtTop c (side_of a.va) items × GoesOn c a left t rest from
IsStood1 c a left t items rest Within = ((n : Need) × (stands1 c a left t rest ≡ needs n)) × (EndsAtTop c (side_of a.va) items → ⊥)
IsStood1 c a left t items rest Unfit1 = stands1 c a left t rest ≡ bad
