-- How the words of stage 1 are had over a supply of words of memory: with stage 2 on, by stage 2 of each place.
use Rattle.std.specs.Prelude.{ℕ, ℤ, ◌≡◌, ◌≤◌, List, [], ◌∷◌, ◌++◌, Bool, Result, Ok, Err, true, false}
use Rattle.bitwords.specs.Causes.{Rose}
use Rattle.geometry.specs.Tables.{level_of}
use Rattle.sysregs.specs.declared.regs.Regs.{Regs}
use Rattle.sysregs.specs.declared.regs.Config.{Config}
use Rattle.sysregs.specs.declared.regs.Side.{Side}
use Rattle.sysregs.specs.Registers.{config_of}
use Rattle.sysregs.specs.Sides.{side_of}
use Rattle.fault_codes.specs.declared.fault.Stage.TheVariants.{S1, S2}
use Rattle.fault_codes.specs.declared.fault.Fault.{Fault}
use Rattle.trails.specs.declared.item.Item.{Item}
use Rattle.trails.specs.declared.outcome.Access.{Access}
use Rattle.trails.specs.declared.outcome.Outcome.{Outcome}
use Rattle.trails.specs.declared.outcome.Outcome.TheVariants.{Faulted, Absent as IsAbsent, Conflict as IsConflict}
use Rattle.trails.specs.declared.outcome.Stop.{Stop}
use Rattle.trails.specs.declared.outcome.Stop.TheVariants.{Fault as FaultStop, Absent, Conflict}
use Rattle.table_reads.specs.declared.levels.Walker.{Walker}
use Rattle.table_reads.specs.Numbers.{is_sized2, sizes2}
use Rattle.table_reads.specs.Items.{base_item}
use Rattle.table_reads.specs.Memory.{Told}
use Rattle.walk_spec.specs.declared.entry.Entry1.{Entry1}
use Rattle.walk_spec.specs.declared.entry.Table1.{Table1}
use Rattle.walk_spec.specs.declared.leaf.Leaf1.{Leaf1}
use Rattle.walk_spec.specs.declared.leaf.Leaf2.{Leaf2}
use Rattle.walk_spec.specs.Ask.{Ask, Fed, ended, lacks, Took}
use Rattle.walk_spec.specs.Needs.{Need, stage1_base, stage2_base, word, regime_of}
use Rattle.walk_spec.specs.Stage2.{Asked2, step2, walk2}
use Rattle.walk_spec.specs.Stage1.{word_of, stage1_from}
use Rattle.walk_spec.specs.BothStages.{asked, stage1, stage1_on}
use Rattle.walk_spec.specs.Fresh.{start_base2}
use Rattle.walk_spec.specs.Walked.{ReadsWord, ReadsNow, LacksFor, Walked}
use Rattle.stage2_walk.specs.declared.step.Last2.{Last2}
use Rattle.stage2_walk.specs.SoundSteps.{IsLast, EndsIn}
use Rattle.stage2_walk.specs.Clauses.{answer_of}
use Rattle.translate.specs.Checked.{RegsAt}
use Rattle.translate.specs.Parts.{leaf1_or_off}
use Rattle.translate.specs.declared.deep.Deep.{Deep}
use Rattle.translate.specs.declared.stage1.Output1.{Output1}

-- an item behind the base of stage 1: the base of stage 2 of the registers, or a word, read at the moment
abbrev pub Reads2 : (under : RegsAt) (told : Told) (need : Need) (item : Item) → Type 0
Reads2 u m stage1_base i = ⊥
Reads2 u m (stage2_base _) i = i ≡ base_item u.moment S2 (sizes2 (config_of u.regs)) (start_base2 u.regs)
Reads2 u m (word w) i = ReadsWord u.moment m (word w) i

-- what stage 2 is asked under registers
abbrev pub asked2_of : (regs : Regs) (s1ptw : Bool) (ipa : ℕ) → Asked2
asked2_of regs s1ptw ipa = record { config = config_of regs; sizes = sizes2 (config_of regs); s1ptw = s1ptw; ipa = ipa }

-- Stage 2 was walked for an IPA. (More than six parameters: what the supply tells, the walk, and the trail before and
-- after.)
abbrev pub Walked2 : (told : Told) (failed : Type 0) (under : RegsAt) (s1ptw : Bool) (ipa : ℕ) (old new : List Item)
    (result : Result Leaf2 Stop) → Type 0
Walked2 told failed u s1ptw ipa old new r = Walked (Reads2 u told) told failed (walk2 (asked2_of u.regs s1ptw ipa)) old new r

-- the last word of stage 2 for an IPA, where its sizes are in range and suit each other
pub record HasLast (u : RegsAt) (s1ptw : Bool) (ipa : ℕ) (last : Last2) : Type 0 where
  pub sized : is_sized2 (config_of u.regs) ≡ true
  pub word : IsLast (asked2_of u.regs s1ptw ipa) last

-- Stage 2 was walked for an IPA as far as its last word, which is not decoded yet: it answers what that word gives. Or it
-- stopped before. (More than six parameters, as above.)
abbrev pub Came2 : (told : Told) (failed : Type 0) (under : RegsAt) (s1ptw : Bool) (ipa : ℕ) (old new : List Item)
    (result : Result Last2 Stop) → Type 0
Came2 told failed u s1ptw ipa old new (Ok last) =
    HasLast u s1ptw ipa last
    × ((end : Result Leaf2 Fault) → EndsIn (step2 (asked2_of u.regs s1ptw ipa) last.left last.place last.word) end
    → Walked2 told failed u s1ptw ipa old new (answer_of end))
Came2 told failed u s1ptw ipa old new (Err stop) = Walked2 told failed u s1ptw ipa old new (Err stop)

-- stage 1 at a moment
abbrev pub walker1 : (moment : ℕ) → Walker
walker1 k = record { moment = k; stage = S1; s1ptw = false }

-- how a stop tells the end of a word's walk
abbrev pub StopTells : (stop : Stop) (end : Fed Need (Result Item Fault)) → Type 0
StopTells x (ended (Ok i)) = ⊥
StopTells x (ended (Err f)) = x ≡ FaultStop f
StopTells x (lacks stage1_base) = ⊥
StopTells x (lacks (stage2_base _)) = ⊥
StopTells x (lacks (word w)) = x ≡ Absent w.stage (level_of w.left) w.place w.s1ptw

-- A word was had by a walk: the last item that was taken is the word's, or the walk stopped.
abbrev pub HadWord : (under : RegsAt) (told : Told) (failed : Type 0) (t : Ask Need Item (Result Item Fault)) (items : List Item)
    (result : Result ℕ Stop) → Type 0
HadWord u m failed t items (Ok v) =
    (front : List Item) × (i : Item) × (items ≡ front ++ i ∷ []) × (v ≡ i.value) × Took (Reads2 u m) t items (ended (Ok i))
HadWord u m failed t items (Err x) =
    (e : Fed Need (Result Item Fault)) × Took (Reads2 u m) t items e × LacksFor m failed e × StopTells x e

-- What the supply gives for a level and a place: it stays the same supply under the same registers and moment, and the word was
-- had, for whatever entry of that level and place. (More than six parameters: the supply and its meanings, and the call.)
pub record DeepGave {S : Type 0} (memory : S → Told) (faults : S → ℕ) (keeps : S → S → Type 0) (s : Deep S) (level : ℤ) (place : ℕ)
    (items : List Item) (r : Result ℕ Stop) (t : Deep S) : Type 0 where
  pub same_under : t.under.now ≡ s.under.now
  pub same_reference : t.supply.ghost_name ≡ s.supply.ghost_name
  pub same : memory t.supply.now ≡ memory s.supply.now
  pub later : faults s.supply.now ≤ faults t.supply.now
  pub kept : keeps s.supply.now t.supply.now
  pub had : (side : Side) (e : Entry1) → level_of e.left ≡ level → e.place ≡ place
      → HadWord s.under.now (memory s.supply.now) (Rose (faults s.supply.now) (faults t.supply.now))
      (word_of (regime_of (config_of s.under.now.regs) side) e) items r

-- Stage 1 was walked from a table, with the stage 2 of its words. (More than six parameters, as above.)
abbrev pub WalkedFrom1 : (told : Told) (failed : Type 0) (under : RegsAt) (access : Access) (left : ℕ) (table : Table1) (old new : List Item)
    (result : Result Leaf1 Stop) → Type 0
WalkedFrom1 told failed u a left table old new r =
    Walked (Reads2 u told) told failed (stage1_from (asked (config_of u.regs) true a) left table) old new r

-- Stage 1 was walked from its base. (More than six parameters, as above.)
abbrev pub WalkedOn1 : (told : Told) (failed : Type 0) (under : RegsAt) (access : Access) (new : List Item) (result : Result Leaf1 Stop) → Type 0
WalkedOn1 told failed u a new r = Walked (ReadsNow u.regs (side_of a.va) u.moment told) told failed (stage1_on (asked (config_of u.regs) true a)) [] new r

-- what stage 1 answers, on or off, as a leaf
abbrev pub leaf_answer : (config : Config) (access : Access) (answer : Result Output1 Stop) → Result Leaf1 Stop
leaf_answer c a (Ok o) = Ok (leaf1_or_off c a o.leaf)
leaf_answer c a (Err stop) = Err stop

-- stage 1 was walked, on or off
abbrev pub WalkedStage1 : (told : Told) (failed : Type 0) (under : RegsAt) (access : Access) (new : List Item) (result : Result Output1 Stop) → Type 0
WalkedStage1 told failed u a new r =
    Walked (ReadsNow u.regs (side_of a.va) u.moment told) told failed (stage1 (asked (config_of u.regs) true a)) [] new (leaf_answer (config_of u.regs) a r)

-- how an access comes out by an answer or a stop
abbrev pub outcome_by : (answer : Result Outcome Stop) → Outcome
outcome_by (Ok o) = o
outcome_by (Err (FaultStop f)) = Faulted f
outcome_by (Err (Absent s level pa s1ptw)) = IsAbsent s level pa s1ptw
outcome_by (Err Conflict) = IsConflict
