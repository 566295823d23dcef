-- Which rows caches hold, whatever the header, the core and its evictions (this project's own rules).
use Rattle.std.specs.Prelude.{ℕ, List}
use Rattle.trace_lang.specs.Traces.{Header}
use Rattle.tagged_tlb.specs.declared.row.Row.{Row}
use Rattle.walk_cache.specs.ByKind.{CachesState, AreCachesOf}

-- the caches hold these rows, in the order of rank
abbrev pub HoldRows : (caches : CachesState) (rows : List Row) → Type 0
HoldRows v rows = (h : Header) × (core : ℕ) × (evictions : ℕ) × AreCachesOf h core (record { rows = rows; evictions = evictions }) v
