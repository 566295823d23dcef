-- What is said of code that walks over a supply of words.
use Rattle.std.specs.Prelude.{◌≡◌, ℕ, List, ◌++◌, Some, Result, Ok, Err, true}
use Rattle.geometry.specs.Tables.{level_of}
use Rattle.sysregs.specs.declared.regs.Regs.{Regs}
use Rattle.sysregs.specs.declared.regs.Side.{Side}
use Rattle.sysregs.specs.Registers.{config_of}
use Rattle.sysregs.specs.Sides.{side_of}
use Rattle.fault_codes.specs.declared.fault.Stage.TheVariants.{S1, S2}
use Rattle.trails.specs.declared.item.Item.{Item}
use Rattle.trails.specs.declared.outcome.Access.{Access}
use Rattle.trails.specs.declared.outcome.Outcome.{Outcome}
use Rattle.trails.specs.declared.outcome.Outcome.TheVariants.{Conflict as IsConflict}
use Rattle.trails.specs.declared.outcome.Stop.{Stop}
use Rattle.trails.specs.declared.outcome.Stop.TheVariants.{Fault, Absent, Conflict}
use Rattle.trails.specs.Printed.{HasText, HasTextStop}
use Rattle.table_reads.specs.Numbers.{sizes1, sizes2}
use Rattle.table_reads.specs.Items.{base_item}
use Rattle.table_reads.specs.Memory.{Memory, Told, Holds, Misses}
use Rattle.walk_spec.specs.Ask.{Ask, Fed, ended, lacks, Took}
use Rattle.walk_spec.specs.Needs.{Need, stage1_base, stage2_base, word, needed_item}
use Rattle.walk_spec.specs.Steps.{End, stops, reaches}
use Rattle.walk_spec.specs.BothStages.{Landing, walk}
use Rattle.walk_spec.specs.Fresh.{start_base1, start_base2, fed_outcome, fresh_items, fresh_outcome}

-- the item is a word that was read at a moment, at the very place that is needed
abbrev pub ReadsWord : (moment : ℕ) (told : Told) (need : Need) (item : Item) → Type 0
ReadsWord k m stage1_base i = ⊥
ReadsWord k m (stage2_base _) i = ⊥
ReadsWord k m (word w) i = (i ≡ needed_item k w i.value) × Holds m w.place i.value

-- the same where a base may be needed, which is that of the registers
abbrev pub ReadsNow : (regs : Regs) (side : Side) (moment : ℕ) (told : Told) (need : Need) (item : Item) → Type 0
ReadsNow regs s k m stage1_base i = i ≡ base_item k S1 (sizes1 (config_of regs) s) (start_base1 regs s)
ReadsNow regs s k m (stage2_base _) i = i ≡ base_item k S2 (sizes2 (config_of regs)) (start_base2 regs)
ReadsNow regs s k m (word w) i = ReadsWord k m (word w) i

-- a walk lacks only what the memory lacks, unless the supply failed
abbrev pub LacksFor : {A : Type 0} → (told : Told) (failed : Type 0) (end : Fed Need A) → Type 0
LacksFor m failed (ended a) = Unit {0}
LacksFor m failed (lacks stage1_base) = ⊥
LacksFor m failed (lacks (stage2_base _)) = ⊥
LacksFor m failed (lacks (word w)) = Misses m w.place failed

-- what is answered for an end
abbrev pub result_of : {L : Type 0} → (end : Fed Need (End L)) → Result L Stop
result_of (ended (stops f)) = Err (Fault f)
result_of (ended (reaches l)) = Ok l
result_of (lacks stage1_base) = Err Conflict
result_of (lacks (stage2_base _)) = Err Conflict
result_of (lacks (word w)) = Err (Absent w.stage (level_of w.left) w.place w.s1ptw)

-- A walk appended what it took, each item as it may be read, and answers as it ended. (More than six parameters: how
-- items are read, what the supply tells, the walk, the trail before and after, and the answer.)
pub record Walked {L : Type 0} (reads : Need → Item → Type 0) (told : Told) (failed : Type 0) (t : Ask Need Item (End L))
    (old new : List Item) (r : Result L Stop) : Type 0 where
  pub more : List Item
  pub end : Fed Need (End L)
  pub grown : new ≡ old ++ more
  pub took : Took reads t more end
  pub cause : LacksFor told failed end
  pub answer : r ≡ result_of end

-- The whole walk of an access took these items, each as it may be read, and came out so. (More than six parameters, as
-- above.)
pub record WalkedWhole (regs : Regs) (a : Access) (moment : ℕ) (told : Told) (failed : Type 0) (items : List Item) (o : Outcome) : Type 0 where
  pub end : Fed Need (End Landing)
  pub took : Took (ReadsNow regs (side_of a.va) moment told) (walk (config_of regs) true a) items end
  pub cause : LacksFor told failed end
  pub answer : o ≡ fed_outcome end

-- Where the memory is told and the supply did not fail, items and outcome are those of the fresh walk.
abbrev pub IsFresh : (regs : Regs) (access : Access) (moment : ℕ) (told : Told) (failed : Type 0) (items : List Item) (outcome : Outcome) → Type 0
IsFresh regs a k told failed items o =
    (m : Memory) → told ≡ Some m → (failed → ⊥) → (items ≡ fresh_items m regs a k) × (o ≡ fresh_outcome m regs a k)

-- a stop that has a line of its own: it has a text, and it is no conflict
abbrev pub HasLineStop : (stop : Stop) → Type 0
HasLineStop Conflict = ⊥
HasLineStop stop = HasTextStop stop

-- the same of an outcome
abbrev pub HasLine : (outcome : Outcome) → Type 0
HasLine IsConflict = ⊥
HasLine outcome = HasText outcome
