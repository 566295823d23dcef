-- What is said of code that walks a chain of stage 2 over rows.
use Rattle.std.specs.Prelude.{◌≡◌, ℕ, ◌+◌, ◌<◌, ◌≤◌, Bool, List, [], ◌++◌, length, map, Option, Some, None, Result}
use Rattle.sysregs.specs.declared.regs.Side.{Side}
use Rattle.sysregs.specs.Registers.{config_of}
use Rattle.trails.specs.declared.item.Item.{Item}
use Rattle.trails.specs.declared.outcome.Access.{Access}
use Rattle.trails.specs.declared.outcome.Stop.{Stop}
use Rattle.trails.specs.declared.outcome.Stop.TheVariants.{Conflict}
use Rattle.trails.specs.Lengths.{most_items, most_items2}
use Rattle.walk_spec.specs.declared.leaf.Leaf2.{Leaf2}
use Rattle.walk_spec.specs.Needs.{regime_of}
use Rattle.walk_spec.specs.Stage2.{walk2}
use Rattle.walk_spec.specs.Stage1.{asked2}
use Rattle.tagged_tlb.specs.declared.row.Kind.{Kind}
use Rattle.tagged_tlb.specs.declared.row.Kind.TheVariants.{Leaf2 as OfLeaf2, Table2 as OfTable2}
use Rattle.tagged_tlb.specs.declared.row.Row.{Row}
use Rattle.tagged_tlb.specs.declared.found.Slot.{Slot}
use Rattle.tagged_tlb.specs.Rows.{matches, matching, deepest}
use Rattle.machine_spec.specs.Made.{key_of}
use Rattle.machine_spec.specs.Served.{Place, supply}
use Rattle.served_walk.specs.declared.met.Met.{Met}
use Rattle.served_walk.specs.declared.met.Service.{Service}
use Rattle.served_walk.specs.declared.scene.Scene.{Scene}
use Rattle.served_walk.specs.ServedWord.{Second, WasServed}
use Rattle.served_walk.specs.Meets.{MayMeet, place_with, service_row, AreServices, most_services, second_in}

-- how rows are known of a core: which lists its caches may hold, and the row of a kind at a slot or else a default
abbrev pub Holds : (F : Type 0) → Type 1
Holds F = F → List Row → Type 0

abbrev pub RowAt : (F : Type 0) → Type 0
RowAt F = F → Kind → Slot → Row → Row

-- A chain was served at a place: the rows of these services served it.
pub record ChainServed (at : Kind → Slot → Row) (place : Place) (s1ptw : Bool) (ipa : ℕ) (items : List Item) (services : List Service)
    (two : Second) (r : Result Leaf2 Stop) : Type 0 where
  pub live : AreServices at place.rows services
  pub was : (a : Access) (s : Side)
      → WasServed (supply place a) (walk2 (asked2 (regime_of (config_of place.regs) s) s1ptw ipa)) items (map (service_row at) services) two r

-- What a walk appended for an IPA, and the services that it noted, at most one; and where there was room for that one, it was
-- served, for each list of rows that the caches may hold.
pub record ChainGave {F : Type 0} (holds : Holds F) (at : RowAt F) (scene : Scene F) (s1ptw : Bool) (ipa : ℕ) (before after : Met)
    (old new : List Item) (r : Result Leaf2 Stop) : Type 0 where
  pub items : List Item
  pub grown : new ≡ old ++ items
  pub services : List Service
  pub noted : after.services.items ≡ before.services.items ++ services
  pub few : length services ≤ 1
  pub served : length before.services.items < most_services → (live : List Row) → MayMeet (holds scene.finds.now) scene.moment live → (d : Row)
      → ChainServed (λ k s. at scene.finds.now k s d) (place_with scene live) s1ptw ipa items services (second_in after) r

-- no leaf of stage 2 matches, and no table
abbrev pub NoLeaf : {F : Type 0} → (holds : Holds F) (scene : Scene F) (ipa : ℕ) → Type 0
NoLeaf holds s ipa =
    (live : List Row) → MayMeet (holds s.finds.now) s.moment live → matching (matches OfLeaf2 (key_of s.force.now) ipa) live ≡ []

abbrev pub NoTable : {F : Type 0} → (holds : Holds F) (scene : Scene F) (ipa : ℕ) → Type 0
NoTable holds s ipa =
    (live : List Row) → MayMeet (holds s.finds.now) s.moment live → deepest (matches OfTable2 (key_of s.force.now) ipa) live ≡ None

-- By leaves of rows: what they gave, or none matches. (More than six parameters, as in all of these: how rows are known, the call,
-- and what stood before and after.)
abbrev pub GaveByLeaf : {F : Type 0} → (holds : Holds F) (at : RowAt F) (scene : Scene F) (s1ptw : Bool) (ipa : ℕ) (before after : Met)
    (old new : List Item) (answer : Option (Result Leaf2 Stop)) → Type 0
GaveByLeaf holds at s p x before after old new None = (new ≡ old) × (after ≡ before) × NoLeaf holds s x
GaveByLeaf holds at s p x before after old new (Some r) = ChainGave holds at s p x before after old new r

-- Behind a table of rows, where no leaf matches: what that gave, or no table matches either.
abbrev pub GaveByTable : {F : Type 0} → (holds : Holds F) (at : RowAt F) (scene : Scene F) (s1ptw : Bool) (ipa : ℕ) (before after : Met)
    (old new : List Item) (answer : Option (Result Leaf2 Stop)) → Type 0
GaveByTable holds at s p x before after old new None = (new ≡ old) × (after ≡ before) × NoTable holds s x
GaveByTable holds at s p x before after old new (Some r) = NoLeaf holds s x → ChainGave holds at s p x before after old new r

-- at a conflict of two chains, the first one was appended
abbrev pub MayConflict : (old new : List Item) (met : Met) (stop : Stop) → Type 0
MayConflict old new m Conflict = length new ≤ length old + m.instead
MayConflict old new m stop = Unit {0}

-- at a conflict of two chains, what the first trail has before them leaves room for a chain
abbrev pub HasSecondRoom : (first : List Item) (met : Met) (stop : Stop) → Type 0
HasSecondRoom first m Conflict = length first + most_items2 ≤ most_items + m.instead
HasSecondRoom first m stop = Unit {0}
