-- Where another address of the same region goes.
use Rattle.std.specs.Prelude.{ℕ}
use Rattle.geometry.specs.Runs.{goes_to}
use Rattle.walk_spec.specs.declared.leaf.Leaf1.{Leaf1}
use Rattle.walk_spec.specs.declared.leaf.Leaf2.{Leaf2}
use Rattle.walk_spec.specs.BothStages.{Landing}

-- the leaf of stage 2 for another IPA of its region: the IPA goes to its own offset in the same bytes
abbrev pub moved2 : (leaf : Leaf2) (ipa : ℕ) → Leaf2
moved2 l y = record l { pa = goes_to l.pa l.class y }

-- the leaf of stage 1 for another address of its region
abbrev pub moved1 : (leaf : Leaf1) (address : ℕ) → Leaf1
moved1 l y = record l { out = goes_to l.out l.class y }

-- where both stages lead for another address of the piece of both leaves
abbrev pub moved : (landing : Landing) (address : ℕ) → Landing
moved n y = record n { pa = goes_to n.pa n.class y }
