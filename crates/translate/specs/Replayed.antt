-- What a kept trail gives.
use Rattle.std.specs.Prelude.{ℕ, ◌≡◌, ◌≤◌, List, [], ◌++◌, length, drop, true}
use Rattle.geometry.specs.Tables.{left_below}
use Rattle.sysregs.specs.declared.regs.Config.{Config}
use Rattle.sysregs.specs.Sides.{side_of}
use Rattle.trails.specs.declared.item.Item.{Item}
use Rattle.trails.specs.declared.outcome.Access.{Access}
use Rattle.trails.specs.declared.outcome.Outcome.{Outcome}
use Rattle.walk_spec.specs.declared.leaf.Leaf1.{Leaf1}
use Rattle.walk_spec.specs.Ask.{Stands, needs, bad, ends, on, after}
use Rattle.walk_spec.specs.Needs.{Need, fits, regime_of}
use Rattle.walk_spec.specs.Steps.{End, stops, reaches}
use Rattle.walk_spec.specs.Stage1.{stage1_from}
use Rattle.walk_spec.specs.BothStages.{Landing, asked, stage1, stage2_behind, walk, outcome_of}
use Rattle.stage1_walk.specs.declared.walk.From1.{From1}
use Rattle.stage1_walk.specs.Clauses.{table_from}
use Rattle.translate.specs.declared.replayed.Replay.{Replay}
use Rattle.translate.specs.declared.replayed.Replay.TheVariants.{Ended, More, Other}
use Rattle.translate.specs.declared.stand.Stood1.{Stood1}
use Rattle.translate.specs.declared.stand.Stood1.TheVariants.{Found, Refused, AtTable, Within, Unfit}
use Rattle.translate.specs.Standing.{EndsAtTop, stands1}

-- how stage 1 stands on a trail
abbrev pub stands_stage1 : (config : Config) (access : Access) (trail : List Item) → Stands Need Item (End Leaf1)
stands_stage1 c a trail = on (fits (regime_of c (side_of a.va))) (stage1 (asked c true a)) trail

-- how the judged walk stands on a trail
abbrev pub stands_whole : (config : Config) (access : Access) (trail : List Item) → Stands Need Item (End Landing)
stands_whole c a trail = on (fits (regime_of c (side_of a.va))) (walk c true a) trail

-- The walk ends on the first items of a trail, so many of them, with no item left over, and the access comes out so.
-- There is at most one such front, since a walk takes no item once it has ended: it is the shortest.
abbrev pub EndsOn : (config : Config) (access : Access) (trail : List Item) (len : ℕ) (outcome : Outcome) → Type 0
EndsOn c a trail len o =
    (end : End Landing) × (front : List Item) × (rest : List Item)
    × (trail ≡ front ++ rest) × (len ≡ length front) × (stands_whole c a front ≡ ends end []) × (o ≡ outcome_of end)

-- The walk needs something behind the whole trail, whose last item is a base or a table of stage 1.
abbrev pub NeedsMore : (config : Config) (access : Access) (trail : List Item) → Type 0
NeedsMore c a trail = ((n : Need) × (stands_whole c a trail ≡ needs n)) × EndsAtTop c (side_of a.va) trail

-- With whatever follows on the trail, the walk goes on as from this table, with the joined bits of the tables above it.
abbrev pub GoesOnFrom : (config : Config) (access : Access) (trail : List Item) (from : From1) → Type 0
GoesOnFrom c a trail from =
    (more : List Item) → stands_whole c a (trail ++ more)
    ≡ on (fits (regime_of c (side_of a.va)))
    (after (stage1_from (asked c true a) (left_below from.level) (table_from from)) (stage2_behind (asked c true a))) more

-- It ended exactly where the walk ends on a front of the trail; else there is more exactly where the walk needs something
-- behind the whole of it and the last item is a base or a table of stage 1; else it is neither. (A walk that needs
-- something behind the whole ends on no front.)
abbrev pub IsReplayed : (config : Config) (access : Access) (trail : List Item) (answer : Replay) → Type 0
IsReplayed c a trail (Ended len o) = EndsOn c a trail len o
IsReplayed c a trail (More from) = NeedsMore c a trail × GoesOnFrom c a trail from
IsReplayed c a trail Other = ((len : ℕ) (o : Outcome) → EndsOn c a trail len o → ⊥) × (NeedsMore c a trail → ⊥)

-- what is answered for how stage 1 stands from its base
abbrev pub IsStoodOn : (config : Config) (access : Access) (trail : List Item) (stood : Stood1) → Type 0
IsStoodOn c a trail (Found l at) =
    (at ≤ length trail) × (stands_stage1 c a trail ≡ ends (reaches l) (drop at trail))
    × (at ≡ length trail → EndsAtTop c (side_of a.va) trail → ⊥)
IsStoodOn c a trail (Refused f at) = (at ≤ length trail) × (stands_stage1 c a trail ≡ ends (stops f) (drop at trail))
IsStoodOn c a trail (AtTable from) =
    ((n : Need) × (stands_stage1 c a trail ≡ needs n)) × EndsAtTop c (side_of a.va) trail
    × ((more : List Item) → stands_stage1 c a (trail ++ more) ≡ stands1 c a (left_below from.level) (table_from from) more)
IsStoodOn c a trail Within = ((n : Need) × (stands_stage1 c a trail ≡ needs n)) × (EndsAtTop c (side_of a.va) trail → ⊥)
IsStoodOn c a trail Unfit = stands_stage1 c a trail ≡ bad
