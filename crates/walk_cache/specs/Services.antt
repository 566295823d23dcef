-- Rows that serve in a step, and how they are named (this project's own rules).
use Rattle.std.specs.Prelude.{List, [], ◌∷◌}
use Rattle.trace_lang.specs.declared.header.Size.{Size}
use Rattle.tagged_tlb.specs.declared.row.Kind.{Kind}
use Rattle.tagged_tlb.specs.declared.row.Row.{Row}
use Rattle.tagged_tlb.specs.declared.found.Seen.{Seen}
use Rattle.tagged_tlb.specs.Stands.{Stands}
use Rattle.served_walk.specs.declared.met.Service.{Service}
use Rattle.walk_cache.specs.ByKind.{sets_in}

abbrev pub service_of : (kind : Kind) (seen : Seen) → Service
service_of k s = record { kind = k; seen = s }

-- the service is that of a row of the list
abbrev pub IsService : (size : Size) (live : List Row) (service : Service) (row : Row) → Type 0
IsService size live s r = Stands s.kind (sets_in size s.kind) s.seen.slot.set s.seen.made live r

-- the services are those of these rows of the list, one by one
abbrev pub AreServices : (size : Size) (live : List Row) (services : List Service) (served : List Row) → Type 0
AreServices size live [] [] = Unit {0}
AreServices size live [] (r ∷ served) = ⊥
AreServices size live (s ∷ services) [] = ⊥
AreServices size live (s ∷ services) (r ∷ served) = IsService size live s r × AreServices size live services served
