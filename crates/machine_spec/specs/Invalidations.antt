-- When an invalidation was issued, and when it is complete (DDI 0487, DSB and the completion of TLB maintenance).
use Rattle.std.specs.Prelude.{◌≡◌, ℕ, ◌<◌, Bool, true, false, not, ◌==◌, ◌&&◌, ◌||◌, List, map, slice_get, Option, Some, None}
use Rattle.std.specs.Option.{option_and_then}
use Rattle.sysregs.specs.declared.regs.Regs.{Regs}
use Rattle.trails.specs.declared.event.Barrier.{Barrier}
use Rattle.trails.specs.declared.event.Barrier.TheVariants.{Nsh, Ish, Sy}
use Rattle.trails.specs.declared.event.Origin.{Origin}
use Rattle.trails.specs.declared.event.Origin.TheVariants.{El1, El2}
use Rattle.trails.specs.declared.event.Event.{Event}
use Rattle.trails.specs.declared.event.Event.TheVariants.{Tlbi, Dsb}
use Rattle.trails.specs.declared.step.Step.{Step}
use Rattle.tlbi_ops.specs.declared.inval.Inval.{Inval}
use Rattle.tlbi_ops.specs.Operands.{inval_of}
use Rattle.machine_spec.specs.Moments.{regs_at}

-- a TLBI that is issued at EL1
abbrev pub is_at_el1 : (from : Origin) → Bool
is_at_el1 El1 = true
is_at_el1 El2 = false

-- the invalidation that an event issues, by the registers in force of the cores
unfoldable pub issued_by : (registers : ℕ → Regs) (moment : ℕ) (event : Event) → Option Inval
issued_by regs k (Tlbi core from op shared operand) = Some (inval_of op shared (is_at_el1 from) operand (regs core) core k)
issued_by regs k _ = None

-- the event of a step of a log
abbrev pub event_at : (log : List Step) (step : ℕ) → Option Event
event_at log k = slice_get (map (λ s. s.event) log) k

-- the invalidation that a step of a log issued
abbrev pub inval_at : (log : List Step) (step : ℕ) → Option Inval
inval_at log k = option_and_then (issued_by (λ c. regs_at log c k) k) (event_at log k)

-- a DSB that waits for the other cores too
abbrev pub is_wide : (kind : Barrier) → Bool
is_wide Nsh = false
is_wide Ish = true
is_wide Sy = true

-- An event completes an invalidation: a DSB of its issuer, ISH or SY where it is broadcast, of any kind where it is local.
unfoldable pub completes : (event : Event) (inval : Inval) → Bool
completes (Dsb core kind) i = (core == i.issuer) && (is_wide kind || not i.broadcast)
completes _ i = false

-- an invalidation is complete before a moment
pub record IsComplete (log : List Step) (before : ℕ) (inval : Inval) : Type 0 where
  pub step : ℕ
  pub event : Event
  pub later : inval.issued < step
  pub earlier : step < before
  pub is : event_at log step ≡ Some event
  pub ends : completes event inval ≡ true
