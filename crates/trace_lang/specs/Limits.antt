-- What holds of a trace while its lines are read, and of one that its text gives back (this project's own rules).
use Rattle.std.specs.Prelude.{◌≡◌, ◌<◌, ◌^◌, []}
use Rattle.trails.specs.declared.event.Event.{Event}
use Rattle.trails.specs.declared.event.Event.TheVariants.{Store, Msr, Tlbi, Access, Prefetch}
use Rattle.trace_lang.specs.declared.refusals.Phase.{Phase}
use Rattle.trace_lang.specs.declared.refusals.Phase.TheVariants.{Cores, Ranges, Policy as PolicyDue, Events, Ended}
use Rattle.trace_lang.specs.declared.header.Policy.{Policy}
use Rattle.trace_lang.specs.declared.header.Policy.TheVariants.{Random}
use Rattle.trace_lang.specs.Traces.{Parts, IsTrace}
use Rattle.trace_lang.specs.Lines.{State}

-- the draws of a policy begin with a word of 64 bits
abbrev pub HasStart : (policy : Policy) → Type 0
HasStart (Random start) = start < 2 ^ 64
HasStart _ = Unit {0}

-- the addresses, values and operands of an event are words of 64 bits
abbrev pub HasWords : (event : Event) → Type 0
HasWords (Store core pa value) = (pa < 2 ^ 64) × (value < 2 ^ 64)
HasWords (Msr core reg value) = value < 2 ^ 64
HasWords (Tlbi core from op shared operand) = operand < 2 ^ 64
HasWords (Access core access) = access.va < 2 ^ 64
HasWords (Prefetch core access) = access.va < 2 ^ 64
HasWords _ = Unit {0}

-- before the first event there is none, and before the first range neither
abbrev pub KeepsLimitsIn : (phase : Phase) (trace : Parts) → Type 0
KeepsLimitsIn Cores t = (t.header.ranges ≡ []) × (t.events ≡ [])
KeepsLimitsIn Ranges t = IsTrace t × (t.events ≡ [])
KeepsLimitsIn PolicyDue t = IsTrace t × (t.events ≡ [])
KeepsLimitsIn Events t = IsTrace t
KeepsLimitsIn Ended t = IsTrace t

-- the limits of a trace, once the number of its cores has been read
abbrev pub KeepsLimits : (state : State) → Type 0
KeepsLimits s = KeepsLimitsIn s.phase s.trace
