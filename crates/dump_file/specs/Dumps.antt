-- What opening a dump and reading its words come to.
use Rattle.std.specs.Prelude.{◌≡◌, ◌⊎◌, ℕ, Option, None, Err}
use Rattle.bitwords.specs.Causes.{Rose}
use Rattle.dump_file.specs.Held.{Holding, Untold, Absent, Bytes, IsMissingBy}
use Rattle.dump_file.specs.DumpOf.{dump_of, serving, dump_word}
use Rattle.dump_file.specs.Kept.{Opened, StandsFor}
use Rattle.dump_file.specs.declared.refusal.DumpRefusal.{DumpRefusal}
use Rattle.dump_file.specs.declared.refusal.DumpError.{DumpError}
use Rattle.dump_file.specs.declared.refusal.DumpError.TheVariants.{NoFile, Refused, ReadFault, NoMemory}

-- what a dump that was opened stands for, by what its file holds
abbrev pub IsOpened : (held : Holding) (dump : Opened) → Type 0
IsOpened Untold dump = Unit {0}
IsOpened Absent dump = ⊥
IsOpened (Bytes bytes) dump = StandsFor bytes dump

-- why a dump is refused, by what its file holds
abbrev pub IsRefusal : (held : Holding) (why : DumpRefusal) → Type 0
IsRefusal Untold why = Unit {0}
IsRefusal Absent why = ⊥
IsRefusal (Bytes bytes) why = dump_of bytes ≡ Err why

-- why a dump is not opened: its file is missing, or refused, a read failed, or memory was refused
abbrev pub IsError : (held : Holding) (missing missing_after faults faults_after : ℕ) (error : DumpError) → Type 0
IsError held missing missing_after faults faults_after NoFile = IsMissingBy held missing missing_after
IsError held missing missing_after faults faults_after (Refused why) = IsRefusal held why
IsError held missing missing_after faults faults_after ReadFault = Rose faults faults_after
IsError held missing missing_after faults faults_after NoMemory = Unit {0}

-- The word at a place. Where no segment holds it there is none. Else, of a file that doesn't tell its bytes, there is none
-- only where the count `missing` rose; of one that tells them, the word is theirs if the dump stands for them.
abbrev pub IsWord : (held : Holding) (dump : Opened) (missing missing_after pa : ℕ) (word : Option ℕ) → Type 0
IsWord Untold dump missing missing_after pa word = word ≡ None → (serving dump.segments pa ≡ None) ⊎ Rose missing missing_after
IsWord Absent dump missing missing_after pa word = Unit {0}
IsWord (Bytes bytes) dump missing missing_after pa word = StandsFor bytes dump → word ≡ dump_word bytes dump.segments pa
