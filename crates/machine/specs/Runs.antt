-- A machine in the middle of a trace (this project's own rules).
use Rattle.std.specs.Prelude.{◌≡◌, ◌≤◌, ℕ, List, length, take}
use Rattle.trails.specs.declared.step.Step.{Step}
use Rattle.trails.specs.Printed.{HaveTexts}
use Rattle.trace_lang.specs.Traces.{Parts}
use Rattle.machine_spec.specs.Machine.{World, world_after, run_of}
use Rattle.phys_mem.specs.Words.{Held, memory_of}
use Rattle.machine.specs.Seats.{SeatState, AreSeatsOf}

-- the trace, the log of the steps that were done, memory, and the cores with their inboxes
pub record MachineState : Type 0 where
  pub trace : Parts
  pub log : List Step
  pub phys : Held
  pub seats : List SeatState

-- it is a machine of the definitions
pub record IsMachineOf (state : MachineState) (w : World) : Type 0 where
  pub step : w.step ≡ length state.log
  pub memory : w.memory ≡ memory_of state.phys
  pub seats : AreSeatsOf state.trace.header w.cores state.seats

-- the log of so many first events of a trace
abbrev pub log_at : (trace : Parts) (done : ℕ) → List Step
log_at t k = run_of t.header (take k t.events)

-- log and machine are those of the first events of the trace
pub record IsRun (state : MachineState) : Type 0 where
  pub within : length state.log ≤ length state.trace.events
  pub log_is : state.log ≡ run_of state.trace.header (take (length state.log) state.trace.events)
  pub machine : IsMachineOf state (world_after state.trace.header (take (length state.log) state.trace.events))
  pub texts : HaveTexts state.log
