-- The regions of the words that a walk met.
use Rattle.std.specs.Prelude.{List, [], ◌∷◌, Option, Some, None, map}
use Rattle.trails.specs.declared.item.Item.{Item}
use Rattle.walk_spec.specs.Ask.{Ask, done, ask}
use Rattle.walk_spec.specs.declared.region.Region.{Region}
use Rattle.walk_spec.specs.Needs.{Regime, Need, stage1_base, stage2_base, word, region_of}

-- what a walk asked for, each with the item of a list that answered it
abbrev pub met : {N I A : Type 0} → (walk : Ask N I A) (items : List I) → List (N × I)
met (done a) items = []
met (ask n k) [] = []
met (ask n k) (i ∷ items) = (n, i) ∷ met (k i) items

-- a word has a region, and a base has none
abbrev pub region_met : (regime : Regime) (need : Need) (item : Item) → Option Region
region_met r stage1_base i = None
region_met r (stage2_base _) i = None
region_met r (word w) i = Some (region_of r w i)

-- the regions of the items of a list, as a walk met them
abbrev pub regions_met : {A : Type 0} → (regime : Regime) (walk : Ask Need Item A) (items : List Item) → List (Option Region)
regions_met r t items = map (λ z. region_met r z.0 z.1) (met t items)
