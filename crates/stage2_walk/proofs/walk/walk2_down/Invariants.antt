use Rattle.std.proofs.Common.{◌≡◌, ℕ, ◌+◌, ◌≤◌, ◌<◌, ◌^◌, ◌%◌, List, length, Result}
use Rattle.bitwords.specs.Causes.{Rose}
use Rattle.trails.specs.declared.item.Item.{Item}
use Rattle.trails.specs.declared.outcome.Stop.{Stop}
use Rattle.table_reads.specs.Places.{place_of}
use Rattle.walk_spec.specs.declared.leaf.Leaf2.{Leaf2}
use Rattle.stage2_walk.specs.Clauses.{WalkedLeft}
use Rattle.stage2_walk.proofs.walk.walk2_down.Given as goal

-- a walk from the table that is reached is the rest of the walk from the first one
abbrev pub invariant-loop-word : goal.invariant-loop-word
invariant-loop-word g l = record {
  same : g.S.Supply.memory l.supply ≡ g.S.Supply.memory l.fn.supply;
  later : g.S.Supply.faults l.fn.supply ≤ g.S.Supply.faults l.supply;
  kept : g.S.Supply.keeps l.fn.supply l.supply;
  left : l.left ≤ l.fn.left;
  table : (l.table < 2 ^ 52) × (l.table % 8 ≡ 0);
  place : (l.place ≡ place_of l.fn.under.sizes l.left l.table l.fn.under.ipa) × (l.place % 8 ≡ 0);
  most : length l.trail + l.left ≤ length l.fn.trail + l.fn.left;
  walked : (n : ℕ) (new : List Item) (r : Result Leaf2 Stop) →
      WalkedLeft (g.S.Supply.memory l.fn.supply) (Rose (g.S.Supply.faults l.supply) n) l.fn.under l.left l.table l.trail new r
      → WalkedLeft (g.S.Supply.memory l.fn.supply) (Rose (g.S.Supply.faults l.fn.supply) n) l.fn.under l.fn.left l.fn.table l.fn.trail new r;
}

abbrev pub decreases-loop-word : goal.decreases-loop-word
decreases-loop-word g l = l.left
