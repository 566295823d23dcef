use Rattle.std.proofs.Common.{◌≡◌, ◌+◌, ◌*◌, ◌≤◌, ◌<◌, ◌^◌, ◌%◌, List, length, Result}
use Rattle.trails.specs.Lengths.{most_per_word}
use Rattle.trails.specs.declared.item.Item.{Item}
use Rattle.trails.specs.declared.outcome.Stop.{Stop}
use Rattle.permissions.specs.Rights.{joined}
use Rattle.sysregs.specs.Sides.{hpd_of}
use Rattle.descriptors.specs.Meaning.{table_bits}
use Rattle.walk_spec.specs.declared.entry.Table1.{Table1}
use Rattle.table_reads.specs.Places.{place_of}
use Rattle.walk_spec.specs.declared.leaf.Leaf1.{Leaf1}
use Rattle.stage1_walk.specs.Under.{asked_under}
use Rattle.stage1_walk.specs.Gave.{Walked1}
use Rattle.stage1_walk.proofs.walk.walk1_under.Given as goal

-- a walk from the table that is reached is the rest of the walk from the first one; its bits are those of all words on the way
abbrev pub invariant-loop-word : goal.invariant-loop-word
invariant-loop-word g l = let reached : Table1 = record {
  address = l.address;
  bits = joined l.fn.table.bits (table_bits (hpd_of l.fn.under.config.now l.fn.under.side) l.words);
} in record {
  left : l.left ≤ l.fn.left;
  table : (l.address < 2 ^ 52) × (l.address % 8 ≡ 0);
  place : (l.place ≡ place_of l.fn.under.sizes l.left l.address l.fn.under.address) × (l.place % 8 ≡ 0);
  most : length l.trail + most_per_word * (l.left + 1) ≤ length l.fn.trail + most_per_word * (l.fn.left + 1);
  walked : (new : List Item) (r : Result Leaf1 Stop) (after : g.row.S.Denot) →
      Walked1 g.S.Supply1.gives (asked_under l.fn.under) l.left reached l.supply l.trail new r after
      → Walked1 g.S.Supply1.gives (asked_under l.fn.under) l.fn.left l.fn.table l.fn.supply l.fn.trail new r after;
}

abbrev pub decreases-loop-word : goal.decreases-loop-word
decreases-loop-word g l = l.left
