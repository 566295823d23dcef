-- What a supply of stage 1 words over rows does.
use Rattle.std.specs.Prelude.{◌≡◌, ℕ, ℤ, ◌+◌, ◌<◌, ◌≤◌, List, ◌∷◌, [], ◌++◌}
use Rattle.std.specs.Prelude.{length, map, true, false, Some, None, Result, Ok, Err}
use Rattle.geometry.specs.Tables.{level_of}
use Rattle.sysregs.specs.declared.regs.Side.{Side}
use Rattle.sysregs.specs.Registers.{config_of}
use Rattle.sysregs.specs.Sides.{side_of}
use Rattle.fault_codes.specs.declared.fault.Stage.TheVariants.{S1}
use Rattle.trails.specs.declared.item.Item.{Item}
use Rattle.trails.specs.declared.outcome.Access.{Access}
use Rattle.trails.specs.declared.outcome.Stop.{Stop}
use Rattle.trails.specs.declared.outcome.Stop.TheVariants.{Absent}
use Rattle.table_reads.specs.Items.{word_item}
use Rattle.table_reads.specs.Memory.{Memory}
use Rattle.phys_mem.specs.Memory.{loaded}
use Rattle.walk_spec.specs.declared.entry.Entry1.{Entry1}
use Rattle.walk_spec.specs.Ask.{Ask, after as after_walk}
use Rattle.walk_spec.specs.Needs.{Need, regime_of}
use Rattle.walk_spec.specs.Steps.{End}
use Rattle.walk_spec.specs.Stage1.{word_of, stage1_from}
use Rattle.walk_spec.specs.BothStages.{Landing, asked, stage2_behind}
use Rattle.walk_spec.specs.declared.entry.Table1.{Table1}
use Rattle.walk_spec.specs.declared.leaf.Leaf1.{Leaf1}
use Rattle.tagged_tlb.specs.declared.row.Kind.{Kind}
use Rattle.tagged_tlb.specs.declared.row.Row.{Row}
use Rattle.tagged_tlb.specs.declared.found.Slot.{Slot}
use Rattle.machine_spec.specs.Served.{Place, supply}
use Rattle.machine_laws.specs.Standing.{IsOn}
use Rattle.served_walk.specs.declared.met.Met.{Met}
use Rattle.served_walk.specs.declared.met.Service.{Service}
use Rattle.served_walk.specs.declared.scene.Scene.{Scene}
use Rattle.served_walk.specs.declared.row_words.RowWords.{RowWords}
use Rattle.served_walk.specs.ServedWord.{Second, WasServed, WordServed}
use Rattle.served_walk.specs.Meets.{MayMeet, place_with, service_row, AreServices, most_services, second_in}
use Rattle.served_walk.specs.Chained.{Holds, RowAt}
use Rattle.served_walk.specs.KeptWords.{EndsInStage1, BeginsWith}

-- a word of stage 1 was read at a physical place and appended, or memory lacks it
abbrev pub HasReadWord : (memory : Memory) (moment : ℕ) (level : ℤ) (place : ℕ) (old new : List Item) (result : Result ℕ Stop) → Type 0
HasReadWord m k level p old new (Ok v) = (new ≡ old ++ word_item k S1 level p v ∷ []) × (loaded m p ≡ Some v)
HasReadWord m k level p old new (Err x) = (new ≡ old) × (x ≡ Absent S1 level p false) × (loaded m p ≡ None)

-- A word of a level was served at a place, for whatever entry of that level and place: the rows of these services served it.
pub record WordBy (at : Kind → Slot → Row) (place : Place) (level : ℤ) (ipa : ℕ) (items : List Item) (services : List Service) (two : Second)
    (r : Result ℕ Stop) : Type 0 where
  pub live : AreServices at place.rows services
  pub had : (a : Access) (side : Side) (e : Entry1) → level_of e.left ≡ level → e.place ≡ ipa
      → WordServed (supply place a) (word_of (regime_of (config_of place.regs) side) e) items (map (service_row at) services) two r

-- What the supply gives for a level and a place: the scene stays, and it notes one service at most. A word that is kept is taken with
-- its chain, whatever the place. Where none is kept, and there is room for a service, the word was served, for each list of rows that
-- the caches may hold.
pub record RowGave {F : Type 0} (holds : Holds F) (at : RowAt F) (s : RowWords F) (level : ℤ) (ipa : ℕ) (items : List Item)
    (r : Result ℕ Stop) (t : RowWords F) : Type 0 where
  pub same : t.scene.now ≡ s.scene.now
  pub services : List Service
  pub noted : t.met.services.items ≡ s.met.services.items ++ services
  pub few : length services ≤ 1
  pub kept : (front : List Item) (i : Item) (rest : List Item) → BeginsWith s.kept.now front i rest
      → (items ≡ front ++ i ∷ []) × (r ≡ Ok i.value) × (t.kept.now ≡ rest) × (services ≡ [])
  pub none : s.kept.now ≡ [] → t.kept.now ≡ []
  pub served : s.kept.now ≡ [] → length s.met.services.items < most_services → (live : List Row)
      → MayMeet (holds s.scene.now.finds.now) s.scene.now.moment live → (d : Row)
      → WordBy (λ k v. at s.scene.now.finds.now k v d) (place_with s.scene.now live) level ipa items services (second_in t.met) r

-- A walk was served: the rows of these services served it.
pub record WalkBy {L : Type 0} (at : Kind → Slot → Row) (place : Place) (access : Access) (walk : Ask Need Item (End L)) (items : List Item)
    (services : List Service) (two : Second) (r : Result L Stop) : Type 0 where
  pub live : AreServices at place.rows services
  pub was : WasServed (supply place access) walk items (map (service_row at) services) two r

-- What a walk for an access appended, and the services that it noted, at most so many; and where there was room for them, it was
-- served, for each list of rows that the caches may hold.
pub record WalkGave {F L : Type 0} (holds : Holds F) (at : RowAt F) (scene : Scene F) (access : Access) (most : ℕ) (walk : Ask Need Item (End L))
    (before after : Met) (old new : List Item) (r : Result L Stop) : Type 0 where
  pub items : List Item
  pub grown : new ≡ old ++ items
  pub services : List Service
  pub noted : after.services.items ≡ before.services.items ++ services
  pub few : length services ≤ most
  pub served : length before.services.items + most ≤ most_services → (live : List Row) → MayMeet (holds scene.finds.now) scene.moment live
      → (d : Row)
      → WalkBy (λ k v. at scene.finds.now k v d) (place_with scene live) access walk items services (second_in after) r

-- What stage 1 from a table with so many levels left appended behind kept items that end in stage 1, where the walk stands on these:
-- they come first, and the walk that they leave was served.
pub record KeptGave {F : Type 0} (holds : Holds F) (at : RowAt F) (scene : Scene F) (access : Access) (left : ℕ) (table : Table1)
    (kept : List Item) (before after : Met) (old new : List Item) (r : Result Leaf1 Stop) : Type 0 where
  pub below : Ask Need Item (End Leaf1)
  pub on : IsOn (regime_of (config_of scene.force.now) (side_of access.va)) (stage1_from (asked (config_of scene.force.now) true access) left table) kept
      below
  pub gave : WalkGave holds at scene access (left + 1) below before after (old ++ kept) new r

-- the same for whatever the walk leaves
abbrev pub StageGave : {F : Type 0} → (holds : Holds F) (at : RowAt F) (scene : Scene F) (access : Access) (left : ℕ) (table : Table1)
    (kept : List Item) (before after : Met) (old new : List Item) (r : Result Leaf1 Stop) → Type 0
StageGave holds at s a left t kept before after old new r =
    (v : Ask Need Item (End Landing)) → EndsInStage1 kept
    → IsOn (regime_of (config_of s.force.now) (side_of a.va))
    (after_walk (stage1_from (asked (config_of s.force.now) true a) left t) (stage2_behind (asked (config_of s.force.now) true a))) kept v
    → KeptGave holds at s a left t kept before after old new r
