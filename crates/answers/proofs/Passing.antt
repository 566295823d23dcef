-- A command that has a text has files that pass.
use Rattle.std.proofs.Common.{ℕ, List, [], ◌∷◌, refl, ap}
use Rattle.dump_file.specs.Held.{Holding, Untold, Absent, Bytes}
use Rattle.sysregs.specs.declared.regs.Regs.{Regs as Registers}
use Rattle.trails.specs.declared.outcome.Access.{Access}
use Rattle.commands.specs.Asked.{Asked, Raw, Explain, Run, Drill, RawWords}
use Rattle.answers.specs.Raw.{IsRawText}
use Rattle.answers.specs.Explain.{AreRegisters, IsTextOver}
use Rattle.trace_lang.specs.Traces.{Parts}
use Rattle.run_answer.specs.Run.{IsTraceOf}
use Rattle.statuses.specs.Stops.{Named, AsImage, AsRegisters, AsDump, AsTrace, reason, PassesBy}
use Rattle.answers.specs.Answers.{files_of, IsTextOf}
use Rattle.statuses.specs.declared.status.Why.TheVariants.{Regs, Dump, Trace}

-- files pass, as far as they tell
abbrev pub PassAll : (holds : List ℕ → Holding) → List Named → Type 0
PassAll holds [] = Unit {0}
PassAll holds (f ∷ fs) = PassesBy (holds f.name) f.form × PassAll holds fs

image_passes : (h : Holding) (a : RawWords) (text : List ℕ) → IsRawText h a text → PassesBy h AsImage
image_passes Untold a text t = tt
image_passes Absent a text t = t
image_passes (Bytes bytes) a text t = refl

pub registers_pass : (h : Holding) (regs : Registers) → AreRegisters h regs → PassesBy h AsRegisters
registers_pass Untold regs t = tt
registers_pass Absent regs t = t
registers_pass (Bytes bytes) regs t = ap (reason Regs) t

pub dump_passes : (h : Holding) (regs : Registers) (access : Access) (text : List ℕ) → IsTextOver h regs access text → PassesBy h AsDump
dump_passes Untold regs access text t = tt
dump_passes Absent regs access text t = t
dump_passes (Bytes bytes) regs access text t = ap (reason Dump) t.1

trace_passes : (h : Holding) (t : Parts) → IsTraceOf h t → PassesBy h AsTrace
trace_passes Untold t k = tt
trace_passes Absent t k = k
trace_passes (Bytes bytes) t k = ap (reason Trace) k

-- command by command
pub text_passes : (holds : List ℕ → Holding) (a : Asked) (text : List ℕ) → IsTextOf holds a text → PassAll holds (files_of a)
text_passes holds (Raw a) text t = (image_passes (holds a.image) a text t, tt)
text_passes holds (Explain a) text t = (registers_pass (holds a.registers) t.0 t.1, (dump_passes (holds a.dump) t.0 a.access text t.2, tt))
text_passes holds (Run a) text t = (trace_passes (holds a.trace) t.0 t.1, tt)
text_passes holds (Drill a) text t = tt
