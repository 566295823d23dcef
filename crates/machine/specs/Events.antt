-- What an event asks of a machine (this project's own rules).
use Rattle.std.specs.Prelude.{◌≡◌, ℕ, true, is_some, Option, Some, None}
use Rattle.sysregs.specs.Refused.{refused_field}
use Rattle.trails.specs.declared.event.Event.{Event}
use Rattle.trails.specs.declared.event.Event.TheVariants.{Store, Msr, Access as AccessOf, Prefetch}
use Rattle.trails.specs.declared.outcome.Access.{Access}
use Rattle.table_reads.specs.Memory.{Memory}
use Rattle.phys_mem.specs.Memory.{is_aligned}

-- the core and the access of an event that asks for one
abbrev pub asked_of : (event : Event) → Option (ℕ × Access)
asked_of (AccessOf core access) = Some (core, access)
asked_of (Prefetch core access) = Some (core, access)
asked_of _ = None

-- a memory and cores can do an event: a store has a place, and a register write sets no refused field
abbrev pub IsDoable : (memory : Memory) (event : Event) → Type 0
IsDoable m (Store core pa value) = (is_aligned pa ≡ true) × (is_some (m pa) ≡ true)
IsDoable m (Msr core reg value) = refused_field reg value ≡ None
IsDoable m _ = Unit {0}
