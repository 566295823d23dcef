-- The text of an EL1 read over an image.
use Rattle.std.specs.Prelude.{ℕ, ◌≡◌, List, None}
use Rattle.trails.specs.declared.item.Item.{Item}
use Rattle.trails.specs.declared.outcome.Outcome.{Outcome}
use Rattle.walk_spec.specs.Fresh.{fresh_items, fresh_outcome}
use Rattle.walk_spec.specs.Walked.{WalkedWhole}
use Rattle.dump_file.specs.Held.{Holding, Untold, Absent, Bytes}
use Rattle.commands.specs.Asked.{RawWords}
use Rattle.answers.specs.Image.{image_word}
use Rattle.answers.specs.Texts.{raw_regs, raw_access, raw_text}

-- the text of the fresh walk over an image of these bytes
abbrev pub fresh_raw_text : (bytes : List ℕ) (tcr ttbr0 va : ℕ) → List ℕ
fresh_raw_text bytes tcr ttbr0 va =
    raw_text va (fresh_items (image_word bytes) (raw_regs tcr ttbr0) (raw_access va) 0)
    (fresh_outcome (image_word bytes) (raw_regs tcr ttbr0) (raw_access va) 0)

-- the text of some whole walk for exactly these registers and this address, in which no read failed
abbrev pub IsRawWalkText : RawWords → (text : List ℕ) → Type 0
IsRawWalkText a text =
    (items : List Item) × (o : Outcome) × WalkedWhole (raw_regs a.tcr a.ttbr0) (raw_access a.va) 0 None ⊥ items o × (text ≡ raw_text a.va items o)

-- the text of an EL1 read over a file: of the fresh walk over its bytes, or, where they aren't told, of some whole walk
abbrev pub IsRawText : (image : Holding) (asked : RawWords) (text : List ℕ) → Type 0
IsRawText Untold a text = IsRawWalkText a text
IsRawText Absent a text = ⊥
IsRawText (Bytes bytes) a text = text ≡ fresh_raw_text bytes a.tcr a.ttbr0 a.va

-- the same for a reader that was not told whether the file is there
abbrev pub IsRawTextThere : (image : Holding) (asked : RawWords) (text : List ℕ) → Type 0
IsRawTextThere Untold a text = IsRawText Untold a text
IsRawTextThere Absent a text = Unit {0}
IsRawTextThere (Bytes bytes) a text = IsRawText (Bytes bytes) a text
