-- What the clauses of a walk through stage 2 say.
use Rattle.std.specs.Prelude.{ℕ, ◌≡◌, ◌≤◌, ◌<◌, ◌%◌, ◌^◌, Bool, List, Result, Ok, Err, pos, ◌≤ℤ◌}
use Rattle.geometry.specs.Tables.{left_below}
use Rattle.sysregs.specs.declared.regs.Config.{Config}
use Rattle.fault_codes.specs.declared.fault.Fault.{Fault}
use Rattle.trails.specs.declared.item.Item.{Item}
use Rattle.trails.specs.declared.outcome.Stop.{Stop}
use Rattle.trails.specs.declared.outcome.Stop.TheVariants.{Fault as FaultStop}
use Rattle.table_reads.specs.Numbers.{sizes2}
use Rattle.table_reads.specs.Memory.{Told}
use Rattle.walk_spec.specs.declared.leaf.Leaf2.{Leaf2}
use Rattle.walk_spec.specs.Stage2.{Asked2, step2, walk2_from}
use Rattle.walk_spec.specs.Walked.{Walked, ReadsWord}
use Rattle.stage2_walk.specs.declared.under.Under2.{Under2}
use Rattle.stage2_walk.specs.declared.walk.From2.{From2}
use Rattle.stage2_walk.specs.declared.step.Last2.{Last2}
use Rattle.stage2_walk.specs.Under.{asked_under}
use Rattle.stage2_walk.specs.SoundSteps.{IsLast, EndsIn}

-- The table is one of stage 2, from the start level down, and its words can be read.
pub record IsTableOf (c : Config) (from : From2) : Type 0 where
  pub least : pos 0 ≤ℤ from.level
  pub most : from.level ≤ℤ pos 3
  pub start : left_below from.level ≤ (sizes2 c).start
  pub below : from.base < 2 ^ 52
  pub eights : from.base % 8 ≡ 0

-- Stage 2 was walked from a table with so many levels left: the words that it needs were read at the moment and
-- appended, and the answer is how it ended. (More than six parameters: what the supply tells, the walk, and the trail
-- before and after.)
abbrev pub WalkedLeft : (told : Told) (failed : Type 0) (under : Under2) (left table : ℕ) (old new : List Item) (result : Result Leaf2 Stop) → Type 0
WalkedLeft told failed u left table old new r = Walked (ReadsWord u.moment told) told failed (walk2_from (asked_under u) left table) old new r

-- what a walk answers whose last word gives this
abbrev pub answer_of : (end : Result Leaf2 Fault) → Result Leaf2 Stop
answer_of (Ok l) = Ok l
answer_of (Err f) = Err (FaultStop f)

-- The same walk as far as its last word, which is not decoded yet: it answers what that word gives. Or it stopped before.
-- (More than six parameters, as above.)
abbrev pub CameDown : (told : Told) (failed : Type 0) (under : Under2) (left table : ℕ) (old new : List Item) (result : Result Last2 Stop) → Type 0
CameDown told failed u left table old new (Ok last) =
    IsLast (asked_under u) last
    × ((end : Result Leaf2 Fault) → EndsIn (step2 (asked_under u) last.left last.place last.word) end
    → WalkedLeft told failed u left table old new (answer_of end))
CameDown told failed u left table old new (Err stop) = WalkedLeft told failed u left table old new (Err stop)

-- what a walk from a given table is asked: where an IPA goes under register fields, with which mark, at which moment
pub record AskedFrom : Type 0 where
  pub config : Config
  pub ipa : ℕ
  pub s1ptw : Bool
  pub moment : ℕ
  pub from : From2

-- the same as a walk is asked, with the numbers of the register fields
abbrev pub asked2_from : (asked : AskedFrom) → Asked2
asked2_from q = record { config = q.config; sizes = sizes2 q.config; s1ptw = q.s1ptw; ipa = q.ipa }

-- the same walk from a given table
abbrev pub WalkedFrom : (told : Told) (failed : Type 0) (asked : AskedFrom) (old new : List Item) (result : Result Leaf2 Stop) → Type 0
WalkedFrom told failed q old new r =
    Walked (ReadsWord q.moment told) told failed (walk2_from (asked2_from q) (left_below q.from.level) q.from.base) old new r
