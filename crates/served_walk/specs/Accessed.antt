-- What is said of code that does an access over rows.
use Rattle.std.specs.Prelude.{◌≡◌, ℕ, ◌+◌, ◌-◌, ◌≤◌, true, List, [], ◌++◌, length, take, map, Option, Some, None, Result, IfErr}
use Rattle.sysregs.specs.Registers.{config_of}
use Rattle.sysregs.specs.Sides.{side_of}
use Rattle.trails.specs.declared.item.Item.{Item}
use Rattle.trails.specs.declared.outcome.Access.{Access}
use Rattle.trails.specs.declared.outcome.Outcome.{Outcome}
use Rattle.trails.specs.declared.outcome.Outcome.TheVariants.{Conflict as IsTwice}
use Rattle.trails.specs.declared.outcome.Stop.{Stop}
use Rattle.trails.specs.Lengths.{most_items, most_items2}
use Rattle.table_reads.specs.Numbers.{sizes1}
use Rattle.walk_spec.specs.declared.entry.Table1.{Table1}
use Rattle.walk_spec.specs.Ask.{Ask, after as after_walk}
use Rattle.walk_spec.specs.Needs.{Need, regime_of}
use Rattle.walk_spec.specs.Steps.{End}
use Rattle.walk_spec.specs.Stage1.{untagged, stage1_from}
use Rattle.walk_spec.specs.BothStages.{Landing, asked, stage2_behind, walk}
use Rattle.tagged_tlb.specs.declared.row.Kind.TheVariants.{Leaf1 as OfLeaf1, Table1 as OfTable1}
use Rattle.tagged_tlb.specs.declared.row.Kind.{Kind}
use Rattle.tagged_tlb.specs.declared.row.Row.{Row}
use Rattle.tagged_tlb.specs.declared.found.Slot.{Slot}
use Rattle.tagged_tlb.specs.Rows.{matches1, matching, deepest}
use Rattle.machine_spec.specs.Made.{key_of}
use Rattle.machine_spec.specs.Served.{served}
use Rattle.machine_laws.specs.Standing.{IsOn}
use Rattle.served_walk.specs.declared.met.Met.{Met}
use Rattle.served_walk.specs.declared.scene.Scene.{Scene}
use Rattle.served_walk.specs.Meets.{MayMeet, place_with, service_row, AreServices, second_in}
use Rattle.served_walk.specs.Chained.{Holds, RowAt, HasSecondRoom}
use Rattle.served_walk.specs.KeptWords.{EndsInStage1}
use Rattle.served_walk.specs.RowGiven.{WalkGave}
use Rattle.served_walk.specs.Shows.{Shows, second_of, comes_out}

-- A walk to where both stages lead was done, and came out so. (More than six parameters, as in the others.)
pub record WholeGave {F : Type 0} (holds : Holds F) (at : RowAt F) (scene : Scene F) (access : Access) (most : ℕ) (walk : Ask Need Item (End Landing))
    (before after : Met) (old new : List Item) (o : Outcome) : Type 0 where
  pub result : Result Landing Stop
  pub outcome : o ≡ comes_out result
  pub room : IfErr result (HasSecondRoom new after)
  pub gave : WalkGave holds at scene access most walk before after old new result

-- the walk behind a table of stage 1 with so many levels left
abbrev pub walk_below : {F : Type 0} → (scene : Scene F) (access : Access) (left : ℕ) (table : Table1) → Ask Need Item (End Landing)
walk_below s a left t = after_walk (stage1_from (asked (config_of s.force.now) true a) left t) (stage2_behind (asked (config_of s.force.now) true a))

-- Both stages behind a table of stage 1 and behind kept items: these come first, and the walk that they leave was done.
pub record BelowGave {F : Type 0} (holds : Holds F) (at : RowAt F) (scene : Scene F) (access : Access) (left : ℕ) (table : Table1)
    (kept : List Item) (before after : Met) (old new : List Item) (o : Outcome) : Type 0 where
  pub below : Ask Need Item (End Landing)
  pub on : IsOn (regime_of (config_of scene.force.now) (side_of access.va)) (walk_below scene access left table) kept below
  pub gave : WholeGave holds at scene access (left + 2) below before after (old ++ kept) new o

-- the same for whatever the walk leaves
abbrev pub BelowIfOn : {F : Type 0} → (holds : Holds F) (at : RowAt F) (scene : Scene F) (access : Access) (left : ℕ) (table : Table1)
    (kept : List Item) (before after : Met) (old new : List Item) (o : Outcome) → Type 0
BelowIfOn holds at s a left t kept before after old new o =
    (v : Ask Need Item (End Landing)) → EndsInStage1 kept → IsOn (regime_of (config_of s.force.now) (side_of a.va)) (walk_below s a left t) kept v
    → BelowGave holds at s a left t kept before after old new o

-- how many rows may serve a walk of stage 1 from its base, and the output
abbrev pub most_from_base : {F : Type 0} → (scene : Scene F) (access : Access) → ℕ
most_from_base s a = (sizes1 (config_of s.force.now) (side_of a.va)).start + 2

-- The trail of a table's row, which comes first, and the walk that it leaves.
pub record RowLeft {F : Type 0} (holds : Holds F) (at : RowAt F) (scene : Scene F) (access : Access) (items : List Item) (before after : Met)
    (new : List Item) (o : Outcome) : Type 0 where
  pub below : Ask Need Item (End Landing)
  pub on : IsOn (regime_of (config_of scene.force.now) (side_of access.va)) (walk (config_of scene.force.now) true access) items below
  pub gave : WholeGave holds at scene access (most_from_base scene access) below before after items new o

-- no combined row matches, and no table of stage 1
abbrev pub NoLeaf1 : {F : Type 0} → (holds : Holds F) (scene : Scene F) (access : Access) → Type 0
NoLeaf1 holds s a =
    (live : List Row) → MayMeet (holds s.finds.now) s.moment live → matching (matches1 OfLeaf1 (key_of s.force.now) (untagged a.va)) live ≡ []

abbrev pub NoTable1 : {F : Type 0} → (holds : Holds F) (scene : Scene F) (access : Access) → Type 0
NoTable1 holds s a =
    (live : List Row) → MayMeet (holds s.finds.now) s.moment live → deepest (matches1 OfTable1 (key_of s.force.now) (untagged a.va)) live ≡ None

-- An access was served: both trails, the rows of these services, and the outcome are those of the definition, for each list of rows
-- that the caches may hold.
abbrev pub IsServed : {F : Type 0} → (holds : Holds F) (at : RowAt F) (scene : Scene F) (access : Access) (met : Met) (first : List Item)
    (second : Option (List Item)) (o : Outcome) → Type 0
IsServed holds at s a met first second o =
    (live : List Row) → MayMeet (holds s.finds.now) s.moment live → (d : Row) →
    let row : Kind → Slot → Row = λ k v. at s.finds.now k v d in
    AreServices row live met.services.items × Shows (served (place_with s live) a) first second (map (service_row row) met.services.items) o

-- the same before the second trail is written: that is told by what was met
pub record AccessGave {F : Type 0} (holds : Holds F) (at : RowAt F) (scene : Scene F) (access : Access) (met : Met) (first : List Item) (o : Outcome)
    : Type 0 where
  pub result : Result Landing Stop
  pub outcome : o ≡ comes_out result
  pub room : IfErr result (HasSecondRoom first met)
  pub served : IsServed holds at scene access met first (second_of result first (second_in met)) (comes_out result)

-- by combined rows: what they gave, or none matches
abbrev pub GaveByLeaf1 : {F : Type 0} → (holds : Holds F) (at : RowAt F) (scene : Scene F) (access : Access) (met : Met) (first : List Item)
    (second : Option (List Item)) (answer : Option Outcome) → Type 0
GaveByLeaf1 holds at s a met first second None = (first ≡ []) × (second ≡ None) × NoLeaf1 holds s a
GaveByLeaf1 holds at s a met first second (Some o) = IsServed holds at s a met first second o

-- behind the deepest table of stage 1, where no combined row matches: what that gave, or no table matches either
abbrev pub GaveByTable1 : {F : Type 0} → (holds : Holds F) (at : RowAt F) (scene : Scene F) (access : Access) (met : Met) (first : List Item)
    (answer : Option Outcome) → Type 0
GaveByTable1 holds at s a met first None = (first ≡ []) × NoTable1 holds s a
GaveByTable1 holds at s a met first (Some o) = NoLeaf1 holds s a → AccessGave holds at s a met first o

-- both trails of two rows that match, or one of them is longer than a trail
abbrev pub ConflictOf : (one two first : List Item) (second : Option (List Item)) (answer : Option Outcome) → Type 0
ConflictOf one two first second None = (first ≡ []) × (second ≡ None) × (length one ≤ most_items → length two ≤ most_items → ⊥)
ConflictOf one two first second (Some o) = (first ≡ one) × (second ≡ Some two) × (o ≡ IsTwice)

-- the second trail at a conflict: the first one up to what the second chain stands for, and this chain; else none
pub record IsSecond (met : Met) (first : List Item) (o : Outcome) (second : Option (List Item)) : Type 0 where
  pub twice : o ≡ IsTwice → length first + most_items2 ≤ most_items + met.instead
      → second ≡ Some (take (length first - met.instead) first ++ met.second.items)
  pub else : (o ≡ IsTwice → ⊥) → second ≡ None
