-- The text of an access over a dump.
use Rattle.std.specs.Prelude.{ℕ, ◌≡◌, List, Option, None, Ok}
use Rattle.sysregs.specs.declared.regs.Regs.{Regs}
use Rattle.sysregs.specs.Refused.{AreAccepted}
use Rattle.trails.specs.declared.item.Item.{Item}
use Rattle.trails.specs.declared.outcome.Access.{Access}
use Rattle.trails.specs.declared.outcome.Outcome.{Outcome}
use Rattle.walk_spec.specs.Fresh.{fresh_items, fresh_outcome}
use Rattle.walk_spec.specs.Walked.{WalkedWhole}
use Rattle.reg_file.specs.RegisterFile.{regs_of}
use Rattle.dump_file.specs.Held.{Holding, Untold, Absent, Bytes}
use Rattle.dump_file.specs.DumpOf.{dump_of, dump_word}
use Rattle.dump_file.specs.declared.dump.Segment.{Segment}
use Rattle.explain_text.specs.Explained.{explain_text}

-- the text of the fresh walk over a memory
abbrev pub fresh_explain_text : (memory : ℕ → Option ℕ) (regs : Regs) (access : Access) → List ℕ
fresh_explain_text memory regs access =
    explain_text regs access (fresh_items memory regs access 0) (fresh_outcome memory regs access 0)

-- the registers that a file gives; of one that isn't told, some that set no refused field
abbrev pub AreRegisters : Holding → Regs → Type 0
AreRegisters Untold regs = AreAccepted regs
AreRegisters Absent regs = ⊥
AreRegisters (Bytes bytes) regs = regs_of bytes ≡ Ok regs

-- the text of an access over a dump: of the fresh walk over its memory, or, where it isn't told, of some whole walk
-- in which no read failed
abbrev pub IsTextOver : (dump : Holding) (regs : Regs) (access : Access) (text : List ℕ) → Type 0
IsTextOver Untold regs access text =
    (items : List Item) × (o : Outcome) × WalkedWhole regs access 0 None ⊥ items o × (text ≡ explain_text regs access items o)
IsTextOver Absent regs access text = ⊥
IsTextOver (Bytes bytes) regs access text =
    (segments : List Segment) × (dump_of bytes ≡ Ok segments) × (text ≡ fresh_explain_text (dump_word bytes segments) regs access)

-- the text of an access over a dump, with the registers of a register file
abbrev pub IsExplainText : (registers dump : Holding) (access : Access) (text : List ℕ) → Type 0
IsExplainText registers dump access text = (regs : Regs) × AreRegisters registers regs × IsTextOver dump regs access text
