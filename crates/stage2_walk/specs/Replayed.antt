-- What a kept chain of stage 2 gives.
use Rattle.std.specs.Prelude.{◌≡◌, []}
use Rattle.sysregs.specs.declared.regs.Config.{Config}
use Rattle.trails.specs.declared.item.Item.{Item}
use Rattle.walk_spec.specs.declared.leaf.Leaf2.{Leaf2}
use Rattle.walk_spec.specs.Ask.{Stands, needs, ends}
use Rattle.walk_spec.specs.Needs.{Need, word, WordNeed}
use Rattle.walk_spec.specs.Steps.{End, reaches}
use Rattle.stage2_walk.specs.declared.replayed.Replay2.{Replay2}
use Rattle.stage2_walk.specs.declared.replayed.Replay2.TheVariants.{Ended, More, Other}
use Rattle.stage2_walk.specs.Clauses.{IsTableOf}
use Rattle.stage2_walk.specs.Standing.{NeedsOf}

-- It ended exactly where the walk is at a leaf and no item is left over, and there is more exactly where the walk needs
-- a word, of this table; so the chain isn't empty, since the base is needed before any word.
abbrev pub IsReplayed2 : (answer : Replay2) (stands : Stands Need Item (End Leaf2)) → Type 0
IsReplayed2 (Ended l) s = s ≡ ends (reaches l) []
IsReplayed2 (More from) s = NeedsOf from s
IsReplayed2 Other s = ((l : Leaf2) → s ≡ ends (reaches l) [] → ⊥) × ((w : WordNeed) → s ≡ needs (word w) → ⊥)

-- the table is one of stage 2
abbrev pub HasTable2 : (config : Config) (answer : Replay2) → Type 0
HasTable2 c (Ended l) = Unit {0}
HasTable2 c (More from) = IsTableOf c from
HasTable2 c Other = Unit {0}
