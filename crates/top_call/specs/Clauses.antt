-- What a call of the program comes to, and when. All of it is this project's own rule.
use Rattle.std.specs.Prelude.{ℕ, ◌≡◌, ◌⊎◌, List, [], ◌∷◌, Option, Some, None, Ok, Err}
use Rattle.dump_file.specs.Held.{Holding, Untold, Absent, Bytes, Reading, ReadFails}
use Rattle.explain_text.specs.Written.{Writing, WriteFails, Got, GotPrefix, GotNothing}
use Rattle.commands.specs.Asked.{Asked}
use Rattle.statuses.specs.ErrText.{err_text}
use Rattle.statuses.specs.declared.status.Why.{Why}
use Rattle.statuses.specs.declared.status.Status.{Status}
use Rattle.statuses.specs.declared.status.Status.TheVariants.{Done, Usage, NoFile, Refused, ReadFault, WriteFault, NoMemory}
use Rattle.statuses.specs.Stops.{Form, Named, refusal_in}
use Rattle.answers.specs.Answers.{words_refusal, files_of, Due, MayEnd, IsText, IsDue}

-- What the files tell.

-- the files tell that this one is there and isn't refused
abbrev pub SurelyPassesBy : Holding → Form → Type 0
SurelyPassesBy Untold form = ⊥
SurelyPassesBy Absent form = ⊥
SurelyPassesBy (Bytes bytes) form = refusal_in form bytes ≡ None

-- the files tell that this one is refused for this
abbrev pub IsSurelyRefusedBy : Holding → Form → Why → Type 0
IsSurelyRefusedBy Untold form why = ⊥
IsSurelyRefusedBy Absent form why = ⊥
IsSurelyRefusedBy (Bytes bytes) form why = refusal_in form bytes ≡ Some why

-- the files tell that this one stops a command with this status
abbrev pub SurelyStops : Reading → Named → Status → Type 0
SurelyStops r f (NoFile name) = (name ≡ f.name) × (r.holds f.name ≡ Absent)
SurelyStops r f (Refused why) = IsSurelyRefusedBy (r.holds f.name) f.form why
SurelyStops r f _ = ⊥

-- no read of this file failed
abbrev pub IsRead : Reading → Named → Type 0
IsRead r f = ReadFails r f.name → ⊥

-- the files tell that one of them stops the command so, and no read of it or of one before it failed
abbrev pub SurelyStopsIn : Reading → List Named → Status → Type 0
SurelyStopsIn r [] status = ⊥
SurelyStopsIn r (f ∷ fs) status =
    IsRead r f × (SurelyStops r f status ⊎ (SurelyPassesBy (r.holds f.name) f.form × SurelyStopsIn r fs status))

-- the files tell that all of them pass, and no read of one failed
abbrev pub AllPass : Reading → List Named → Type 0
AllPass r [] = Unit {0}
AllPass r (f ∷ fs) = IsRead r f × SurelyPassesBy (r.holds f.name) f.form × AllPass r fs

-- the files tell that it ends so, and no read of the file that ends it or of one before it failed
abbrev pub SurelyEndsBy : Reading → Option Why → List Named → Status → Type 0
SurelyEndsBy r (Some why) files status = status ≡ Refused why
SurelyEndsBy r None files status = SurelyStopsIn r files status

abbrev pub SurelyEnds : Reading → Asked → Status → Type 0
SurelyEnds r a status = SurelyEndsBy r (words_refusal a) (files_of a) status

-- the words are accepted, the files tell that all of them pass, and no read of one failed
abbrev pub IsAnswerable : Reading → Asked → Type 0
IsAnswerable r a = (words_refusal a ≡ None) × AllPass r (files_of a)

-- What is told.

-- the whole of what is due
abbrev pub TellsWhole : (out err : Writing) → Due → Status → Type 0
TellsWhole out err (Ok text) status = (status ≡ Done) × Got out text × GotNothing err
TellsWhole out err (Err due) status = (status ≡ due) × Got err (err_text due) × GotNothing out

-- A write failed: standard output got a prefix of the text, or standard error a prefix of the line, and the other nothing.
abbrev pub TellsPrefix : (out err : Writing) → Due → Type 0
TellsPrefix out err (Ok text) = WriteFails out × GotPrefix out text × GotNothing err
TellsPrefix out err (Err due) = WriteFails err × GotPrefix err (err_text due) × GotNothing out

-- either
abbrev pub Tells : (out err : Writing) → Due → Status → Type 0
Tells out err due status = TellsWhole out err due status ⊎ ((status ≡ WriteFault) × TellsPrefix out err due)

-- The clauses of the top call, one fact each: `asked` is what the words ask for, if anything.

-- this status comes, but for want of memory, or where its line could not be written
abbrev pub Comes : (err : Writing) (due status : Status) → Type 0
Comes err due status = (status ≡ due) ⊎ ((status ≡ NoMemory) ⊎ ((status ≡ WriteFault) × WriteFails err))

-- Usage comes only for words that are no command, and then it comes
pub record UsageWhere (err : Writing) (asked : Option Asked) (status : Status) : Type 0 where
  pub only : status ≡ Usage → asked ≡ None
  pub due : asked ≡ None → Comes err Usage status

-- Refused comes only for words or a file that are refused, with the reason; where that is told, and no read of this file or
-- of one before it failed, it comes
pub record RefusedWhere (r : Reading) (err : Writing) (asked : Option Asked) (status : Status) : Type 0 where
  pub only : (why : Why) → status ≡ Refused why → (a : Asked) × (asked ≡ Some a) × MayEnd r a (Refused why)
  pub due : (a : Asked) → asked ≡ Some a → (why : Why) → SurelyEnds r a (Refused why) → Comes err (Refused why) status

-- NoFile comes only for a command that lacks a file, and names it; where the files tell that, and no read of it or of one
-- before it failed, it comes
pub record NoFileWhere (r : Reading) (err : Writing) (asked : Option Asked) (status : Status) : Type 0 where
  pub only : (name : List ℕ) → status ≡ NoFile name → (a : Asked) × (asked ≡ Some a) × MayEnd r a (NoFile name)
  pub due : (a : Asked) → asked ≡ Some a → (name : List ℕ) → SurelyEnds r a (NoFile name) → Comes err (NoFile name) status

-- ReadFault comes only for a command whose words are accepted, where a read of a file failed and all files before it pass
abbrev pub ReadFaultWhere : Reading → Option Asked → Status → Type 0
ReadFaultWhere r asked status = status ≡ ReadFault → (a : Asked) × (asked ≡ Some a) × MayEnd r a ReadFault

-- WriteFault comes only where a write of what is due failed, and a prefix of it was written
abbrev pub WriteFaultWhere : Reading → (out err : Writing) → Option Asked → Status → Type 0
WriteFaultWhere r out err asked status = status ≡ WriteFault → (due : Due) × IsDue r asked due × TellsPrefix out err due

-- Done comes only for a command; standard output got exactly its text, and standard error nothing
abbrev pub DoneWhere : Reading → (out err : Writing) → Option Asked → Status → Type 0
DoneWhere r out err asked status =
    status ≡ Done → (a : Asked) × (text : List ℕ) × (asked ≡ Some a) × IsText r a text × Got out text × GotNothing err

-- with every other status but WriteFault standard error got its line, and standard output nothing
abbrev pub IsQuiet : (out err : Writing) → Status → Type 0
IsQuiet out err Done = Unit {0}
IsQuiet out err WriteFault = Unit {0}
IsQuiet out err status = Got err (err_text status) × GotNothing out

-- an accepted command whose files pass is Done, where no read of them and no write of its text failed, but for want of memory
abbrev pub Completes : (err : Writing) → Status → Type 0
Completes err status = (status ≡ Done) ⊎ Comes err NoMemory status

abbrev pub IsComplete : Reading → (out err : Writing) → Option Asked → Status → Type 0
IsComplete r out err asked status =
    (a : Asked) → asked ≡ Some a → IsAnswerable r a → (WriteFails out → ⊥) → Completes err status

-- all of them together
pub record IsAnswer (r : Reading) (out err : Writing) (asked : Option Asked) (status : Status) : Type 0 where
  pub usage : UsageWhere err asked status
  pub refused : RefusedWhere r err asked status
  pub no_file : NoFileWhere r err asked status
  pub read_fault : ReadFaultWhere r asked status
  pub write_fault : WriteFaultWhere r out err asked status
  pub done : DoneWhere r out err asked status
  pub quiet : IsQuiet out err status
  pub complete : IsComplete r out err asked status
