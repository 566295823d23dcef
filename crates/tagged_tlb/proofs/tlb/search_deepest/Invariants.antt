use Rattle.std.proofs.Common.{List, ◌≤◌}
use Rattle.tagged_tlb.specs.declared.row.Row.{Row}
use Rattle.tagged_tlb.specs.declared.row.Kind.{Kind}
use Rattle.tagged_tlb.specs.Tied.{AreToldApart, IsTied, is_sought}
use Rattle.tagged_tlb.proofs.Deepest.{NoneBelow}
use Rattle.tagged_tlb.proofs.tlb.search_deepest.Given as goal

abbrev pub invariant-loop-class : goal.invariant-loop-class
invariant-loop-class g l = ((kind : Kind) → (live : List Row) → AreToldApart live → IsTied kind g.row.SETS live l.sets
    → NoneBelow (is_sought kind l.sought) l.class live) × (l.class ≤ 64)
