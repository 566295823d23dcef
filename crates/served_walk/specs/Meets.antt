-- What code meets of rows, and what it keeps of those that served.
use Rattle.std.specs.Prelude.{◌≡◌, ℕ, ◌<◌, ◌≤◌, List, [], ◌∷◌, ◌++◌, length}
use Rattle.phys_mem.specs.Words.{memory_of}
use Rattle.tagged_tlb.specs.declared.row.Kind.{Kind}
use Rattle.tagged_tlb.specs.declared.row.Row.{Row}
use Rattle.tagged_tlb.specs.declared.found.Slot.{Slot}
use Rattle.tagged_tlb.specs.declared.found.Found.{Found}
use Rattle.tagged_tlb.specs.declared.found.Found.TheVariants.{Nothing, One, Two}
use Rattle.tagged_tlb.specs.Tied.{AreSmall}
use Rattle.machine_spec.specs.Served.{Place}
use Rattle.machine_laws.specs.Leaving.{In}
use Rattle.served_walk.specs.declared.met.Met.{Met}
use Rattle.served_walk.specs.declared.met.Service.{Service}
use Rattle.served_walk.specs.declared.scene.Scene.{Scene}
use Rattle.served_walk.specs.CanServe.{AreServable}
use Rattle.served_walk.specs.ServedWord.{Second}

-- the rows that were found, by the row at each slot
abbrev pub rows_found : (at : Slot → Row) (found : Found) → List Row
rows_found at Nothing = []
rows_found at (One a) = at a.slot ∷ []
rows_found at (Two a b) = at a.slot ∷ at b.slot ∷ []

-- rows that caches may hold before a step: each is small, and they can serve
pub record MayMeet (holds : List Row → Type 0) (step : ℕ) (rows : List Row) : Type 0 where
  pub held : holds rows
  pub small : AreSmall rows
  pub servable : AreServable step rows

-- what an access meets of a scene, where its caches hold these rows
abbrev pub place_with : {F : Type 0} → (scene : Scene F) (rows : List Row) → Place
place_with s rows = record { regs = s.force.now; memory = memory_of s.phys.now; rows = rows; step = s.moment }

-- the row of a service, by the row at each slot of a kind
abbrev pub service_row : (at : Kind → Slot → Row) (service : Service) → Row
service_row at s = at s.kind s.seen.slot

-- a live row serves, of the kind and the making that the service says
pub record IsServiceOf (at : Kind → Slot → Row) (rows : List Row) (service : Service) : Type 0 where
  pub live : In (service_row at service) rows
  pub kind : (service_row at service).kind ≡ service.kind
  pub made : (service_row at service).made ≡ service.seen.made

-- each of them says of its row what it is
abbrev pub AreServices : (at : Kind → Slot → Row) (rows : List Row) (services : List Service) → Type 0
AreServices at rows [] = Unit {0}
AreServices at rows (s ∷ services) = IsServiceOf at rows s × AreServices at rows services

-- the most rows that serve one access
abbrev pub most_services : ℕ
most_services = 7

-- a service was noted, where there was room
abbrev pub IsNoted : (service : Service) (old new : List Service) → Type 0
IsNoted s old new = (more : List Service) × (new ≡ old ++ more) × (length more ≤ 1) × (length old < most_services → more ≡ s ∷ [])

-- what is kept of the second of two chains
abbrev pub second_in : (met : Met) → Second
second_in m = record { chain = m.second.items; instead = m.instead }
