use Rattle.std.proofs.Common.{List, drop}
use Rattle.trace_lang.specs.declared.header.Size.{Size}
use Rattle.tagged_tlb.specs.declared.row.Row.{Row}
use Rattle.tagged_tlb.specs.Tied.{AreToldApart}
use Rattle.walk_cache.specs.ByKind.{AreTied, HasShapes}
use Rattle.walk_cache.specs.Services.{AreServices}
use Rattle.walk_cache.proofs.Moves.{IsLeft}
use Rattle.walk_cache.proofs.kinds.Kinds.touch_all.Given as goal

abbrev pub invariant-loop-service : goal.invariant-loop-service
invariant-loop-service g l =
    (size : Size) → (live served : List Row) → HasShapes size g.row.LEAVES1 g.row.WAYS1 g.row.TABLES g.row.LEAVES2 g.row.WAYS → AreToldApart live
    → AreTied size live l.initial.self → AreServices size live l.services served
    → (now : List Row) × AreTied size now l.self × IsLeft size live served now (drop l.service-index l.services)
