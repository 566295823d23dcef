-- What the steps of opening a dump come to, in the code's own types.
use Rattle.std.specs.Prelude.{◌≡◌, ℕ, ◌≤◌, ◌+◌, List, length, take, Vec, Result, Ok, Err, All}
use Rattle.std.specs.declared.alloc.Global.{Global}
use Rattle.bitwords.specs.Causes.{Rose}
use Rattle.dump_file.specs.Held.{Holding, Untold, Absent, Bytes}
use Rattle.dump_file.specs.DumpOf.{Table, table_of, dump_of, segments_of}
use Rattle.dump_file.specs.Dumps.{IsRefusal}
use Rattle.dump_file.specs.declared.dump.Segment.{Segment}
use Rattle.dump_file.specs.declared.header.TableAt.{TableAt}
use Rattle.dump_file.specs.declared.refusal.DumpRefusal.{DumpRefusal}
use Rattle.dump_file.specs.declared.refusal.DumpError.{DumpError}
use Rattle.dump_file.specs.declared.refusal.DumpError.TheVariants.{NoFile, Refused, ReadFault, NoMemory}

-- the table that is due
abbrev pub GivesTable : (result : Result TableAt DumpRefusal) (due : Result Table DumpRefusal) → Type 0
GivesTable (Ok t) due = due ≡ Ok (record { place = t.place; count = t.count })
GivesTable (Err why) due = due ≡ Err why

-- each segment ends within the file
abbrev pub EndsWithin : (size : ℕ) (segments : List Segment) → Type 0
EndsWithin size segments = All (λ s. s.offset + s.size ≤ size) segments

-- a refusal that is due, or want of memory
abbrev pub IsDue : {A : Type 0} (due : Result A DumpRefusal) (error : DumpError) → Type 0
IsDue due NoFile = ⊥
IsDue due (Refused why) = due ≡ Err why
IsDue due ReadFault = ⊥
IsDue due NoMemory = Unit {0}

-- the segments that are due, which end within the file
abbrev pub GivesSegments : (size : ℕ) (due : Result (List Segment) DumpRefusal) (result : Result (Vec Segment Global) DumpError) → Type 0
GivesSegments size due (Ok segments) = (due ≡ Ok segments.items) × EndsWithin size segments.items
GivesSegments size due (Err error) = IsDue due error

-- what a file's size says of what it holds
abbrev pub IsOfSize : (held : Holding) (size : ℕ) → Type 0
IsOfSize Untold size = Unit {0}
IsOfSize Absent size = ⊥
IsOfSize (Bytes bytes) size = size ≡ length bytes

-- the table that a file's header names
abbrev pub IsTable : (held : Holding) (table : TableAt) → Type 0
IsTable Untold table = Unit {0}
IsTable Absent table = Unit {0}
IsTable (Bytes bytes) table = table_of (take 64 bytes) (length bytes) ≡ Ok (record { place = table.place; count = table.count })

-- the program headers that decide what a file's segments are
abbrev pub AreHeaders : (held : Holding) (count : ℕ) (headers : List ℕ) → Type 0
AreHeaders Untold count headers = Unit {0}
AreHeaders Absent count headers = Unit {0}
AreHeaders (Bytes bytes) count headers = dump_of bytes ≡ segments_of (length bytes) 0 count headers

-- why a file that is there is not opened
abbrev pub IsFault : (held : Holding) (faults faults_after : ℕ) (error : DumpError) → Type 0
IsFault held faults faults_after NoFile = ⊥
IsFault held faults faults_after (Refused why) = IsRefusal held why
IsFault held faults faults_after ReadFault = Rose faults faults_after
IsFault held faults faults_after NoMemory = Unit {0}
