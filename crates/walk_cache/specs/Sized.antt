-- What caches in the shapes of a size hold.
use Rattle.std.specs.Prelude.{[]}
use Rattle.trace_lang.specs.declared.header.Size.{Size}
use Rattle.trace_lang.specs.declared.header.Size.TheVariants.{NoRows, Small, Medium, Large}
use Rattle.walk_cache.specs.declared.caches.Held.{Held}
use Rattle.walk_cache.specs.declared.caches.Held.TheVariants.{NoRows as held_none, Small as held_small, Medium as held_medium, Large as held_large}
use Rattle.tagged_tlb.specs.declared.chooser.Chooser.{Chooser}
use Rattle.walk_cache.specs.ByKind.{SetsByKind, CachesState}

-- the size
abbrev pub size_of : (held : Held) → Size
size_of held_none = NoRows
size_of (held_small v) = Small
size_of (held_medium v) = Medium
size_of (held_large v) = Large

-- the sets of each kind, of which there are none without rows
abbrev pub sets_held : (held : Held) → SetsByKind
sets_held held_none = record { leaf1 = []; table1 = []; leaf2 = []; table2 = [] }
sets_held (held_small v) = v
sets_held (held_medium v) = v
sets_held (held_large v) = v

-- what caches in the shapes of a size are, with what chooses the row that leaves
abbrev pub state_of : (held : Held) (chooser : Chooser) → CachesState
state_of v by = record { size = size_of v; sets = sets_held v; chooser = by }
