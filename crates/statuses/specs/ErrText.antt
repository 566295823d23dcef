-- Lines of refusals. All of them are this project's own rule.
use Rattle.std.specs.Prelude.{ℕ, List, [], ◌∷◌, ◌++◌, codes, decimal}
use Rattle.sysregs.specs.declared.regs.Unsupported.{Unsupported}
use Rattle.sysregs.specs.Names.{reg_text, reg_key, field_text}
use Rattle.texts.specs.Texts.{joined_text}
use Rattle.texts.specs.Shown.{shown}
use Rattle.reg_file.specs.declared.refusals.RegRefusal.{RegRefusal}
use Rattle.reg_file.specs.declared.refusals.RegRefusal.TheVariants.{TooLarge, NotToml, Unknown, Missing, BadValue, Unsupported as UnsupportedIn}
use Rattle.dump_file.specs.declared.refusal.DumpField.{DumpField}
use Rattle.dump_file.specs.declared.refusal.DumpField.TheVariants.{Class, Encoding, Kind, Machine, EntrySize}
use Rattle.dump_file.specs.declared.refusal.DumpRefusal.{DumpRefusal}
use Rattle.dump_file.specs.declared.refusal.DumpRefusal.TheVariants.{NotElf, WrongKind, BadTable, TooMany, PastEnd}
use Rattle.trace_lang.specs.declared.refusals.TraceRefusal.{TraceRefusal}
use Rattle.trace_lang.specs.declared.refusals.TraceRefusal.TheVariants as trace
use Rattle.statuses.specs.declared.status.Why.{Why}
use Rattle.statuses.specs.declared.status.Why.TheVariants.{Word, Regs, Dump, Trace}
use Rattle.statuses.specs.declared.status.Status.{Status}
use Rattle.statuses.specs.declared.status.Status.TheVariants.{Done, Usage, NoFile, Refused, ReadFault, WriteFault, NoMemory}

-- `REG.FIELD`
abbrev pub field_name_text : Unsupported → List ℕ
field_name_text at = joined_text (reg_text at.reg ∷ codes "." ∷ field_text at.field ∷ [])

-- why a register file is refused
abbrev pub registers_text : RegRefusal → List ℕ
registers_text (TooLarge size) = codes "too large"
registers_text NotToml = codes "not toml"
registers_text (Unknown key) = codes "unknown " ++ shown key
registers_text (Missing reg) = codes "missing " ++ reg_key reg
registers_text (BadValue reg) = codes "bad value " ++ reg_key reg
registers_text (UnsupportedIn at) = codes "unsupported " ++ field_name_text at

-- what is wrong with the kind of a dump
abbrev pub wrong_text : DumpField → List ℕ
wrong_text Class = codes "wrong class"
wrong_text Encoding = codes "wrong encoding"
wrong_text Kind = codes "wrong kind"
wrong_text Machine = codes "wrong machine"
wrong_text EntrySize = codes "wrong entry size"

-- why a dump is refused
abbrev pub dump_text : DumpRefusal → List ℕ
dump_text NotElf = codes "not elf"
dump_text (WrongKind field) = wrong_text field
dump_text BadTable = codes "bad table"
dump_text TooMany = codes "too many segments"
dump_text (PastEnd segment) = joined_text (codes "segment " ∷ decimal segment ∷ codes " past end" ∷ [])

-- a refusal of a line of a trace
abbrev pub line_why : (line : ℕ) (text : List ℕ) → List ℕ
line_why n text = joined_text (codes "line " ∷ decimal n ∷ codes ": " ∷ text ∷ [])

-- a refusal of a word of a line
abbrev pub word_why : (line : ℕ) (text : List ℕ) (place : ℕ) → List ℕ
word_why n text place = joined_text (codes "line " ∷ decimal n ∷ codes ": " ∷ text ∷ codes " " ∷ decimal place ∷ [])

-- why a trace is refused
abbrev pub trace_text : TraceRefusal → List ℕ
trace_text (trace.TooLarge size) = codes "too large"
trace_text (trace.NotText n) = line_why n (codes "not text")
trace_text (trace.LongLine n) = line_why n (codes "long line")
trace_text (trace.BadWord n place) = word_why n (codes "bad word") place
trace_text (trace.BadNumber n place) = word_why n (codes "bad number") place
trace_text (trace.OutOfRange n place) = word_why n (codes "out of range") place
trace_text (trace.Unsupported n at) = line_why n (codes "unsupported ") ++ field_name_text at
trace_text (trace.NotAtEl1 n) = line_why n (codes "not at el1")
trace_text (trace.TooMany n) = line_why n (codes "too many")
trace_text trace.NoHeader = codes "no header"
trace_text trace.NoEnd = codes "no end"
trace_text (trace.AfterEnd n) = line_why n (codes "after end")

-- what is refused, and why
abbrev pub why_text : Why → List ℕ
why_text (Word at) = codes "raw: unsupported " ++ field_name_text at
why_text (Regs why) = codes "registers: " ++ registers_text why
why_text (Dump why) = codes "dump: " ++ dump_text why
why_text (Trace why) = codes "trace: " ++ trace_text why

-- a line that begins with the program's name
abbrev pub line_text : (text : List ℕ) → List ℕ
line_text text = joined_text (codes "vmsa: " ∷ text ∷ codes "\n" ∷ [])

-- a line for each command
abbrev pub usage_text : List ℕ
usage_text =
    joined_text
    (codes "usage: vmsa raw IMAGE TCR TTBR0 VA\n" ∷ codes "usage: vmsa explain REGS DUMP VA EL KIND [pan]\n" ∷
    codes "usage: vmsa run TRACE\n" ∷ codes "usage: vmsa drill N\n" ∷ [])

-- the lines of a status, for standard error
abbrev pub err_text : Status → List ℕ
err_text Done = []
err_text Usage = usage_text
err_text (NoFile name) = line_text (codes "no file " ++ shown name)
err_text (Refused why) = line_text (why_text why)
err_text ReadFault = line_text (codes "read fault")
err_text WriteFault = []
err_text NoMemory = line_text (codes "out of memory")
