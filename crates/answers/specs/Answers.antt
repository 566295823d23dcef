-- What a command comes to before anything is written: a text, or a refusal. All of it is this project's own rule.
use Rattle.std.specs.Prelude.{ℕ, ◌≡◌, ◌⊎◌, List, [], ◌∷◌, Option, Some, None, option_map, Result, Ok, Err}
use Rattle.sysregs.specs.declared.regs.Reg.TheVariants.{TcrEl1}
use Rattle.sysregs.specs.Refused.{refused_field}
use Rattle.dump_file.specs.Held.{Holding, Reading}
use Rattle.commands.specs.Asked.{Asked, Raw, Explain, Run, Drill}
use Rattle.statuses.specs.declared.status.Why.{Why}
use Rattle.statuses.specs.declared.status.Why.TheVariants.{Word}
use Rattle.statuses.specs.declared.status.Status.{Status}
use Rattle.statuses.specs.declared.status.Status.TheVariants.{Usage, Refused, NoMemory}
use Rattle.statuses.specs.Stops.{Named, AsImage, AsRegisters, AsDump, AsTrace, PassesBy, Stops}
use Rattle.run_answer.specs.Run.{IsRunText, IsDrillText}
use Rattle.answers.specs.Raw.{IsRawText}
use Rattle.answers.specs.Explain.{IsExplainText}

-- Command by command: what its words are refused for, its files, and its text.

-- what the words of a command are refused for: of `raw`, the lowest refused field that TCR_EL1 sets
abbrev pub words_refusal : Asked → Option Why
words_refusal (Raw a) = option_map (λ field. Word (record { reg = TcrEl1; field = field })) (refused_field TcrEl1 a.tcr)
words_refusal (Explain a) = None
words_refusal (Run a) = None
words_refusal (Drill a) = None

-- the files of a command, in the order in which they are read
abbrev pub files_of : Asked → List Named
files_of (Raw a) = record { form = AsImage; name = a.image } ∷ []
files_of (Explain a) = record { form = AsRegisters; name = a.registers } ∷ record { form = AsDump; name = a.dump } ∷ []
files_of (Run a) = record { form = AsTrace; name = a.trace } ∷ []
files_of (Drill a) = []

-- the text that a command gives over its files
abbrev pub IsTextOf : (holds : List ℕ → Holding) → Asked → (text : List ℕ) → Type 0
IsTextOf holds (Raw a) text = IsRawText (holds a.image) a text
IsTextOf holds (Explain a) text = IsExplainText (holds a.registers) (holds a.dump) a.access text
IsTextOf holds (Run a) text = IsRunText (holds a.trace) text
IsTextOf holds (Drill a) text = IsDrillText a.start text

-- one of the files may stop the command so, and all before it pass; where there is none, want of memory alone may
abbrev pub StopsIn : Reading → List Named → Status → Type 0
StopsIn r [] status = status ≡ NoMemory
StopsIn r (f ∷ fs) status = Stops r f status ⊎ (PassesBy (r.holds f.name) f.form × StopsIn r fs status)

-- What is due, before anything is written: a text, or a refusal.

abbrev pub Due : Type 0
Due = Result (List ℕ) Status

-- a status that a command with this refusal of its words and these files may end with
abbrev pub MayEndBy : Reading → Option Why → List Named → Status → Type 0
MayEndBy r (Some why) files status = (status ≡ Refused why) ⊎ (status ≡ NoMemory)
MayEndBy r None files status = StopsIn r files status

-- the same of a command
abbrev pub MayEnd : Reading → Asked → Status → Type 0
MayEnd r a status = MayEndBy r (words_refusal a) (files_of a) status

-- the words are accepted, and this is the command's text
abbrev pub IsText : Reading → Asked → (text : List ℕ) → Type 0
IsText r a text = (words_refusal a ≡ None) × IsTextOf r.holds a text

-- what may be due
abbrev pub IsDue : Reading → Option Asked → Due → Type 0
IsDue r None (Ok text) = ⊥
IsDue r None (Err status) = (status ≡ Usage) ⊎ (status ≡ NoMemory)
IsDue r (Some a) (Ok text) = IsText r a text
IsDue r (Some a) (Err status) = MayEnd r a status
