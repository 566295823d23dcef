-- Which addresses the items of a walk serve: each address of the region that its last word speaks of. The register fields
-- and the items are the same for both addresses. These are this project's own laws, of the definitions alone.
use Rattle.std.specs.Prelude.{◌≡◌, ℕ, ◌/◌, ◌^◌, Bool, true, false, List, [], ◌∷◌, ◌++◌, Option, pos}
use Rattle.bitwords.specs.Fields.{bits_of}
use Rattle.geometry.specs.Tables.{class_of, level_of}
use Rattle.sysregs.specs.declared.regs.Config.{Config}
use Rattle.sysregs.specs.declared.regs.Side.{Side}
use Rattle.sysregs.specs.Sides.{side_of}
use Rattle.permissions.specs.declared.bits.TableBits.{TableBits}
use Rattle.fault_codes.specs.declared.fault.Stage.{Stage}
use Rattle.fault_codes.specs.declared.fault.Stage.TheVariants.{S1, S2}
use Rattle.descriptors.specs.declared.kinds.Kind1.TheVariants.{Table as Table1}
use Rattle.descriptors.specs.declared.kinds.Kind2.TheVariants.{Table as Table2}
use Rattle.descriptors.specs.Meaning.{means1_of, means2_of}
use Rattle.trails.specs.declared.item.Item.{Item}
use Rattle.trails.specs.declared.item.What.TheVariants.{Word}
use Rattle.trails.specs.declared.outcome.Access.{Access}
use Rattle.table_reads.specs.Numbers.{sizes1, sizes2}
use Rattle.walk_spec.specs.declared.leaf.Leaf2.{Leaf2}
use Rattle.walk_spec.specs.Ask.{Stands, needs, bad, ends, on}
use Rattle.walk_spec.specs.declared.region.Region.{Region}
use Rattle.walk_spec.specs.Needs.{Need, stage1_base, stage2_base, word, fits, regime_of}
use Rattle.walk_spec.specs.Steps.{End, stops, reaches}
use Rattle.walk_spec.specs.Stage2.{walk2}
use Rattle.walk_spec.specs.Stage1.{asked2, stands2}
use Rattle.walk_spec.specs.BothStages.{Landing, is_refused1, walk}
use Rattle.walk_laws.specs.Regions.{regions_met}
use Rattle.walk_laws.specs.Moved.{moved, moved2}

-- two numbers have the same bits from this one up
abbrev pub SameAbove : (class x y : ℕ) → Type 0
SameAbove k x y = x / 2 ^ k ≡ y / 2 ^ k

-- the regions of the words that stage 2 for an IPA met
abbrev pub regions2 : (config : Config) (side : Side) (s1ptw : Bool) (ipa : ℕ) (items : List Item) → List (Option Region)
regions2 c s p x items = regions_met (regime_of c s) (walk2 (asked2 (regime_of c s) p x)) items

-- Where stage 2 for x reaches a leaf with no item left over, it does so on the same items for every y of the leaf's region.
-- Level, class, rights, type and shareability are those of the leaf, and y goes to its own offset in the same bytes. Each
-- word has the same region for both.
abbrev pub Stage2Shifts : Type 0
Stage2Shifts =
    (c : Config) (s : Side) (s1ptw : Bool) (x y : ℕ) (items : List Item) (l : Leaf2) →
    stands2 c s s1ptw x items ≡ ends (reaches l) [] → SameAbove l.class x y →
    (stands2 c s s1ptw y items ≡ ends (reaches (moved2 l y)) []) × (regions2 c s s1ptw x items ≡ regions2 c s s1ptw y items)

-- a walk needs a word
abbrev pub NeedsWord : {A : Type 0} → (stands : Stands Need Item A) → Type 0
NeedsWord (needs stage1_base) = ⊥
NeedsWord (needs (stage2_base x)) = ⊥
NeedsWord (needs (word w)) = Unit {0}
NeedsWord bad = ⊥
NeedsWord (ends e items) = ⊥

-- the last item of a list is a word of a stage with so many levels left, and this is its value
pub record EndsInWord (stage : Stage) (left value : ℕ) (items : List Item) : Type 0 where
  pub front : List Item
  pub item : Item
  pub last : items ≡ front ++ item ∷ []
  pub is_of : item.stage ≡ stage
  pub what : item.what ≡ Word
  pub level : item.level ≡ level_of left
  pub has : item.value ≡ value

-- Where the last item is a stage 2 table and stage 2 for x needs a word, it needs one on the same items for every y of the
-- table's region. Each word has the same region for both.
abbrev pub Table2Shifts : Type 0
Table2Shifts =
    (c : Config) (s : Side) (s1ptw : Bool) (x y : ℕ) (items : List Item) (left value next : ℕ) → EndsInWord S2 left value items →
    means2_of c left value ≡ Table2 next → NeedsWord (stands2 c s s1ptw x items) → SameAbove (class_of (sizes2 c).granule left) x y →
    NeedsWord (stands2 c s s1ptw y items) × (regions2 c s s1ptw x items ≡ regions2 c s s1ptw y items)

-- how the walk of an access stands on a list of items
abbrev pub stands : (config : Config) (judged : Bool) (access : Access) (items : List Item) → Stands Need Item (End Landing)
stands c j a items = on (fits (regime_of c (side_of a.va))) (walk c j a) items

-- the regions of the words that the walk of an access met
abbrev pub regions : (config : Config) (judged : Bool) (access : Access) (items : List Item) → List (Option Region)
regions c j a items = regions_met (regime_of c (side_of a.va)) (walk c j a) items

-- two accesses have equal VA bits 55 to class
abbrev pub SameBits : (class : ℕ) (a b : Access) → Type 0
SameBits k a b = bits_of a.va 55 k ≡ bits_of b.va 55 k

-- Where stage 1 is on and the walk of an access, unjudged, lands with no item left over, the walk of every access of the
-- piece that stage 1 doesn't refuse lands on the same items. Class, rights, type and shareability are those of the landing,
-- and the address goes to its own offset in the same bytes. Each word has the same region for both.
abbrev pub WalkShifts : Type 0
WalkShifts =
    (c : Config) (a b : Access) (items : List Item) (n : Landing) → c.m ≡ true → stands c false a items ≡ ends (reaches n) [] →
    SameBits n.class a b → is_refused1 c b ≡ false →
    (stands c false b items ≡ ends (reaches (moved n b.va)) []) × (regions c false a items ≡ regions c false b items)

-- a walk needs something, or it has ended in a stage 2 fault at level 0 with no item left over
abbrev pub IsOpen : {L : Type 0} → (stands : Stands Need Item (End L)) → Type 0
IsOpen (needs n) = Unit {0}
IsOpen bad = ⊥
IsOpen (ends (stops f) []) = (f.stage ≡ S2) × (f.level ≡ pos 0)
IsOpen (ends (stops f) (i ∷ items)) = ⊥
IsOpen (ends (reaches l) items) = ⊥

-- Where the last item is a stage 1 table and the walk of an access, judged or not, needs something or has ended in a stage 2
-- fault at level 0, so does on the same items the walk of every access of the table's region that stage 1 doesn't refuse.
-- Each word has the same region for both.
abbrev pub Table1Shifts : Type 0
Table1Shifts =
    (c : Config) (judged : Bool) (a b : Access) (items : List Item) (left value next : ℕ) (bits : TableBits) → EndsInWord S1 left value items →
    means1_of c (side_of a.va) left value ≡ Table1 next bits → IsOpen (stands c judged a items) →
    SameBits (class_of (sizes1 c (side_of a.va)).granule left) a b → is_refused1 c b ≡ false →
    IsOpen (stands c judged b items) × (regions c judged a items ≡ regions c judged b items)
