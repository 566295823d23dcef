-- When a file stops a command, and with which status. All of it is this project's own rule.
use Rattle.std.specs.Prelude.{ℕ, ◌≡◌, ◌<◌, ◌⊎◌, List, Option, Some, None, Result, Ok, Err}
use Rattle.reg_file.specs.RegisterFile.{regs_of}
use Rattle.reg_file.specs.declared.reading.TheConstants.{MOST_BYTES}
use Rattle.reg_file.specs.declared.refusals.RegRefusal.TheVariants.{TooLarge}
use Rattle.dump_file.specs.Held.{Holding, Untold, Absent, Bytes, GaveWhole, Reading, ReadFails, IsMissing}
use Rattle.dump_file.specs.DumpOf.{dump_of}
use Rattle.trace_lang.specs.Lines.{trace_of, most_text}
use Rattle.trace_lang.specs.declared.refusals.TraceRefusal.TheVariants.{TooLarge as TooLargeTrace}
use Rattle.statuses.specs.declared.status.Why.{Why}
use Rattle.statuses.specs.declared.status.Why.TheVariants.{Regs, Dump, Trace}
use Rattle.statuses.specs.declared.status.Status.{Status}
use Rattle.statuses.specs.declared.status.Status.TheVariants.{NoFile, Refused, ReadFault, NoMemory}

-- what a file is read as
pub data Form : Type 0 where
  AsImage : Form
  AsRegisters : Form
  AsDump : Form
  AsTrace : Form

-- a file that a command names
pub record Named : Type 0 where
  pub form : Form
  pub name : List ℕ

-- the error of a result, as a reason
abbrev pub reason : {A E : Type 0} → (E → Why) → Result A E → Option Why
reason why (Ok x) = None
reason why (Err e) = Some (why e)

-- what bytes are refused for: a register file, a dump and a trace by their first refusals, an image for nothing
abbrev pub refusal_in : Form → (bytes : List ℕ) → Option Why
refusal_in AsImage bytes = None
refusal_in AsRegisters bytes = reason Regs (regs_of bytes)
refusal_in AsDump bytes = reason Dump (dump_of bytes)
refusal_in AsTrace bytes = reason Trace (trace_of bytes)

-- a reason for which a file of this form may be refused
abbrev pub IsOf : Form → Why → Type 0
IsOf AsRegisters (Regs why) = Unit {0}
IsOf AsDump (Dump why) = Unit {0}
IsOf AsTrace (Trace why) = Unit {0}
IsOf _ why = ⊥

-- a file is there and isn't refused, as far as that is told
abbrev pub PassesBy : Holding → Form → Type 0
PassesBy Untold form = Unit {0}
PassesBy Absent form = ⊥
PassesBy (Bytes bytes) form = refusal_in form bytes ≡ None

-- a file is refused for this, as far as its bytes are told
abbrev pub IsRefusedBy : Holding → Form → Why → Type 0
IsRefusedBy Untold form why = IsOf form why
IsRefusedBy Absent form why = ⊥
IsRefusedBy (Bytes bytes) form why = refusal_in form bytes ≡ Some why

-- a file is too large by its size alone
abbrev pub IsLong : Form → Why → Type 0
IsLong AsRegisters why = (size : ℕ) × (MOST_BYTES < size) × (why ≡ Regs (TooLarge size))
IsLong AsTrace why = (size : ℕ) × (most_text < size) × (why ≡ Trace (TooLargeTrace size))
IsLong _ why = ⊥

-- A refusal is that of bytes which reads of the file gave from its beginning, whatever the file tells, or of its size.
abbrev pub IsOfWhatCame : {F : Type 0} (form : Form) (read : F → ℕ → List ℕ → F → Type 0) (after : F) (status : Status) → Type 0
IsOfWhatCame form read after (Refused why) = IsLong form why ⊎ GaveWhole read after (λ bytes. refusal_in form bytes ≡ Some why)
IsOfWhatCame form read after _ = Unit {0}

-- a file may stop a command with this status: it is missing, or refused, a read failed, or memory was refused
abbrev pub Stops : Reading → Named → Status → Type 0
Stops r f (NoFile name) = (name ≡ f.name) × IsMissing r f.name
Stops r f (Refused why) = IsRefusedBy (r.holds f.name) f.form why
Stops r f ReadFault = ReadFails r f.name
Stops r f NoMemory = Unit {0}
Stops r f _ = ⊥
