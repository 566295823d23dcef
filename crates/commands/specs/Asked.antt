-- What a command asks for.
use Rattle.std.specs.Prelude.{ℕ, List}
use Rattle.trails.specs.declared.outcome.Access.{Access}
use Rattle.commands.specs.declared.raw.RawArgs.{RawArgs}
use Rattle.commands.specs.declared.explain.ExplainArgs.{ExplainArgs}
use Rattle.commands.specs.declared.run.RunArgs.{RunArgs}
use Rattle.commands.specs.declared.drill.DrillArgs.{DrillArgs}
use Rattle.commands.specs.declared.command.Command.{Command}
use Rattle.commands.specs.declared.command.Command.TheVariants.{Raw as RawCommand, Explain as ExplainCommand, Run as RunCommand, Drill as DrillCommand}

-- an EL1 read over an image is asked for: the image's name, the two registers and the virtual address
pub record RawWords : Type 0 where
  pub image : List ℕ
  pub tcr : ℕ
  pub ttbr0 : ℕ
  pub va : ℕ

-- an access over a dump is asked for: the names of the register file and of the dump, and the access
pub record ExplainWords : Type 0 where
  pub registers : List ℕ
  pub dump : List ℕ
  pub access : Access

-- a run is asked for: the name of the trace
pub record RunWords : Type 0 where
  pub trace : List ℕ

-- a drill is asked for: the number with which its draws begin
pub record DrillWords : Type 0 where
  pub start : ℕ

-- what is asked for, command by command
pub data Asked : Type 0 where
  Raw : RawWords → Asked
  Explain : ExplainWords → Asked
  Run : RunWords → Asked
  Drill : DrillWords → Asked

-- what the code's arguments say
abbrev pub raw_words_of : RawArgs → RawWords
raw_words_of args = record { image = args.image.now; tcr = args.tcr; ttbr0 = args.ttbr0; va = args.va }

abbrev pub explain_words_of : ExplainArgs → ExplainWords
explain_words_of args = record { registers = args.registers.now; dump = args.dump.now; access = args.access }

abbrev pub run_words_of : RunArgs → RunWords
run_words_of args = record { trace = args.trace.now }

abbrev pub drill_words_of : DrillArgs → DrillWords
drill_words_of args = record { start = args.start }

-- what the code's command says
abbrev pub asked_of : Command → Asked
asked_of (RawCommand args) = Raw (raw_words_of args)
asked_of (ExplainCommand args) = Explain (explain_words_of args)
asked_of (RunCommand args) = Run (run_words_of args)
asked_of (DrillCommand args) = Drill (drill_words_of args)
