-- How large the regions of rows are, over every run (this project's own rules).
use Rattle.std.specs.Prelude.{ℕ, ◌<◌, List}
use Rattle.trails.specs.declared.event.Event.{Event}
use Rattle.machine_spec.specs.Header.{Header}
use Rattle.machine_spec.specs.Machine.{core_numbered, world_after}
use Rattle.machine_laws.specs.Headline.{AreOfCores}
use Rattle.tagged_tlb.specs.Tied.{AreSmall}

-- Over every run the rows of each core have classes below 64.
abbrev pub RowsAreSmall : Type 0
RowsAreSmall =
    (h : Header) (events : List Event) → AreOfCores h events → (c : ℕ) → c < h.cores → AreSmall (core_numbered (world_after h events) c).cache.rows
