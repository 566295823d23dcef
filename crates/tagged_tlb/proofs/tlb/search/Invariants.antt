use Rattle.std.proofs.Common.{List, ◌&&◌, ◌≤◌}
use Rattle.std.specs.Prelude.{filter, nat_lt}
use Rattle.tagged_tlb.specs.declared.row.Row.{Row}
use Rattle.tagged_tlb.specs.declared.row.Kind.{Kind}
use Rattle.tagged_tlb.specs.Rows.{by_making}
use Rattle.tagged_tlb.specs.Tied.{AreToldApart, IsTied, is_sought}
use Rattle.tagged_tlb.specs.Found.{AreWithin}
use Rattle.tagged_tlb.proofs.Finds.{IsBest}
use Rattle.tagged_tlb.proofs.tlb.search.Given as goal

abbrev pub invariant-loop-class : goal.invariant-loop-class
invariant-loop-class g l =
    ((d : Row) → (kind : Kind) → (live : List Row) → AreToldApart live → IsTied kind g.row.SETS live l.sets
    → IsBest d l.sets l.found (by_making (filter (λ r. is_sought kind l.sought r && nat_lt r.region.class l.class) live)))
    × AreWithin l.sets l.found × (l.class ≤ 64)
