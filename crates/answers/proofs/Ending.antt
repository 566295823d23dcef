-- How a command ends, by the part that ended it.
use Rattle.std.proofs.Common.{◌≡◌, ℕ, ◌≤◌, List, ◌∷◌, Option, Some, None, Result, Ok, Err, inl, inr, refl, sym, ◌∙◌, ap, subst, arith}
use Rattle.std.specs.Result.{IsErrAnd, IfOk, IfErr}
use Rattle.bitwords.specs.Causes.{Rose}
use Rattle.sysregs.specs.declared.regs.Regs.{Regs}
use Rattle.table_reads.proofs.Weaker.{rose_weaker}
use Rattle.dump_file.specs.Held.{Holding, Untold, Absent, Bytes, Reading, IsMissingBy}
use Rattle.dump_file.specs.Counted.{NoneFalls}
use Rattle.commands.specs.Asked.{Asked, Raw, Explain, Run, Drill, ExplainWords}
use Rattle.answers.specs.Explain.{AreRegisters, IsTextOver}
use Rattle.answers.proofs.Passing.{registers_pass}
use Rattle.statuses.specs.Stops.{Named, IsRefusedBy, Stops}
use Rattle.answers.specs.Answers.{words_refusal, MayEndBy, MayEnd, IsDue}
use Rattle.answers.specs.Due.{answer_text, due_of}
use Rattle.answers.specs.declared.answer.Answer.{Answer}
use Rattle.statuses.specs.declared.status.Why.{Why}
use Rattle.statuses.specs.declared.status.Status.{Status}
use Rattle.statuses.specs.declared.status.Status.TheVariants.{Done, Usage, NoFile, Refused, ReadFault, WriteFault, NoMemory}

-- want of memory may end every command
by_words : (r : Reading) (o : Option Why) (f : Named) (fs : List Named) → MayEndBy r o (f ∷ fs) NoMemory
by_words r None f fs = inl tt
by_words r (Some why) f fs = inr refl

pub memory_due : (r : Reading) (asked : Option Asked) → IsDue r asked (Err NoMemory)
memory_due r None = inr refl
memory_due r (Some (Raw a)) = by_words r (words_refusal (Raw a)) _ _
memory_due r (Some (Explain a)) = inl tt
memory_due r (Some (Run a)) = inl tt
memory_due r (Some (Drill a)) = refl

missing_weaker : (h : Holding) (m n o : ℕ) → m ≤ n → IsMissingBy h n o → IsMissingBy h m o
missing_weaker Untold m n o l k = rose_weaker m n o o l (omega arith) k
missing_weaker Absent m n o l k = k
missing_weaker (Bytes bytes) m n o l k = k

-- what stops a later part of a call stops the call
pub stops_later : (holds held : List ℕ → Holding) (a b c m n o : List ℕ → ℕ) (f : Named) (status : Status) → held ≡ holds → NoneFalls a b
    → NoneFalls m n
    → Stops record { holds = held; faults = b; faults_after = c; missing = n; missing_after = o } f status
    → Stops record { holds = holds; faults = a; faults_after = c; missing = m; missing_after = o } f status
stops_later holds held a b c m n o f (NoFile name) e l k s = (
  s.0,
  missing_weaker (holds f.name) (m f.name) (n f.name) (o f.name) (k f.name)
      (subst (λ (h : List ℕ → Holding). IsMissingBy (h f.name) (n f.name) (o f.name)) e s.1),
)
stops_later holds held a b c m n o f (Refused why) e l k s = subst (λ (h : List ℕ → Holding). IsRefusedBy (h f.name) f.form why) e s
stops_later holds held a b c m n o f ReadFault e l k s = rose_weaker (a f.name) (b f.name) (c f.name) (c f.name) (l f.name) (omega arith) s
stops_later holds held a b c m n o f NoMemory e l k s = tt
stops_later holds held a b c m n o f Done e l k s = s
stops_later holds held a b c m n o f Usage e l k s = s
stops_later holds held a b c m n o f WriteFault e l k s = s

-- an error that is handed on ends a command as it ended the part
pub error_due : (r : Reading) (a : Asked) (result : Result Answer Status) (status : Status) → IsErrAnd result (λ e. e ≡ status)
    → MayEnd r a status → IsDue r (Some a) (due_of result)
error_due r a (Ok answer) status h d = absurd h
error_due r a (Err e) status h d = subst (MayEnd r a) (sym h) d

-- what comes over a dump that is open is due
pub over_dump : (r : Reading) (a : ExplainWords) (regs : Regs) (held : List ℕ → Holding) (between : List ℕ → ℕ) (name : List ℕ)
    (result : Result Answer Status)
    → held ≡ r.holds → name ≡ a.dump → r.faults a.dump ≤ between a.dump → AreRegisters (r.holds a.registers) regs
    → IfOk result (λ x. IsTextOver (held name) regs a.access (answer_text x))
    → IfErr result (λ s. (s ≡ ReadFault) × Rose (between name) (r.faults_after name)) → IsDue r (Some (Explain a)) (due_of result)
over_dump r a regs held between name (Ok x) same named l k t e =
    (refl, (regs, k, subst (λ h. IsTextOver h regs a.access (answer_text x)) (ap (λ (f : List ℕ → Holding). f name) same ∙ ap r.holds named) t))
over_dump r a regs held between name (Err s) same named l k t e =
    let fails = rose_weaker (r.faults a.dump) (between a.dump) (r.faults_after a.dump) (r.faults_after a.dump) l (omega arith)
    (subst (λ n. Rose (between n) (r.faults_after n)) named e.1) in
    subst (λ z. MayEnd r (Explain a) z) (sym e.0) (inr (registers_pass (r.holds a.registers) regs k, inl fails))
