-- The text of a run. All of it is this project's own rule.
use Rattle.std.specs.Prelude.{ℕ, ◌≡◌, ◌≤◌, ◌^◌, List, [], length, take, Ok}
use Rattle.bitwords.specs.Causes.{Rose}
use Rattle.dump_file.specs.Held.{Holding, Untold, Absent, Bytes}
use Rattle.trace_lang.specs.Traces.{Parts, IsTrace}
use Rattle.trace_lang.specs.Lines.{trace_of}
use Rattle.machine_spec.specs.Machine.{run_of}
use Rattle.machine_laws.specs.Promise.{KeepsPromise}
use Rattle.machine.specs.Runs.{MachineState}
use Rattle.machine_spec.specs.Summary.{summary}
use Rattle.report_text.specs.Report.{report_text, summary_text}
use Rattle.drill_trace.specs.Drill.{drill_of}
use Rattle.statuses.specs.declared.status.Status.{Status}
use Rattle.statuses.specs.declared.status.Status.TheVariants.{ReadFault, NoMemory}

-- the trace that a file is; of one that isn't told, some trace
abbrev pub IsTraceOf : (held : Holding) (trace : Parts) → Type 0
IsTraceOf Untold t = Unit {0}
IsTraceOf Absent t = ⊥
IsTraceOf (Bytes bytes) t = trace_of bytes ≡ Ok t

-- what came of a file that was read from its beginning into so much room
abbrev pub IsWhole : (held : Holding) (room : ℕ) (bytes : List ℕ) → Type 0
IsWhole Untold room bytes = Unit {0}
IsWhole Absent room bytes = bytes ≡ []
IsWhole (Bytes all) room bytes = bytes ≡ take room all

-- a read failed, or memory was refused
abbrev pub FailsBy : (before now : ℕ) (status : Status) → Type 0
FailsBy before now ReadFault = Rose before now
FailsBy before now NoMemory = Unit {0}
FailsBy before now status = ⊥

-- The report of the run of a trace, which keeps the promise: each answer is allowed, that is, what the walk gives on a kept trail,
-- the word that memory lacks behind one, or a conflict of two kept trails; of an unchanged trail, and without rows, it is that of
-- the fresh walk. The trace alone determines it.
pub record IsReport (trace : Parts) (text : List ℕ) : Type 0 where
  pub limits : IsTrace trace
  pub is : text ≡ report_text (run_of trace.header trace.events)
  pub promise : KeepsPromise trace.header (run_of trace.header trace.events)

-- the text of a run over the trace that a file is
abbrev pub IsRunText : (held : Holding) (text : List ℕ) → Type 0
IsRunText held text = (t : Parts) × IsTraceOf held t × IsReport t text

-- the report of the run of a machine's trace
abbrev pub run_text : MachineState → List ℕ
run_text machine = report_text (run_of machine.trace.header machine.trace.events)

-- a machine is before its first event, and its steps are counted in 32 bits
abbrev pub IsReady : MachineState → Type 0
IsReady machine = (machine.log ≡ []) × (length machine.trace.events ≤ 2 ^ 32)

-- the last line of the report of the run of a machine's trace
unfoldable pub summary_line : MachineState → List ℕ
summary_line machine = summary_text (summary (run_of machine.trace.header machine.trace.events))

-- The last line of the report of the run of a trace, which keeps the promise. The trace alone determines it.
pub record IsSummary (trace : Parts) (text : List ℕ) : Type 0 where
  pub limits : IsTrace trace
  pub is : text ≡ summary_text (summary (run_of trace.header trace.events))
  pub promise : KeepsPromise trace.header (run_of trace.header trace.events)

-- that of the drill whose draws begin at a number
abbrev pub IsDrillText : (start : ℕ) (text : List ℕ) → Type 0
IsDrillText start text = IsSummary (drill_of start) text
