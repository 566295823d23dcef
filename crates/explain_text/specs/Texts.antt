-- The lines in which a walk is printed. Each ends with byte 0x0a. All of them are this project's own rule.
use Rattle.std.specs.Prelude.{ℕ, ◌+◌, List, [], ◌∷◌, ◌++◌, Bool, if◌then◌else◌, codes, decimal}
use Rattle.std.specs.Prelude.{ℤ, pos, negsuc}
use Rattle.fault_codes.specs.Status.{status_of}
use Rattle.fault_codes.specs.declared.fault.Stage.{Stage}
use Rattle.fault_codes.specs.declared.fault.Stage.TheVariants.{S1, S2}
use Rattle.fault_codes.specs.declared.fault.Class.{Class}
use Rattle.fault_codes.specs.declared.fault.Class.TheVariants.{Translation, AddressSize, AccessFlag, Permission, External, Conflict}
use Rattle.fault_codes.specs.declared.fault.Fault.{Fault}
use Rattle.trails.specs.declared.item.Item.{Item}
use Rattle.trails.specs.declared.item.What.{What}
use Rattle.trails.specs.declared.item.What.TheVariants.{Base, Word}
use Rattle.texts.specs.Texts.{joined_text, hex_text, byte_text}

-- a text that is shown or not
abbrev pub shown_if : (shown : Bool) (text : List ℕ) → List ℕ
shown_if shown text = if shown then text else []

-- a level in decimal
abbrev pub level_text : (level : ℤ) → List ℕ
level_text (pos n) = decimal n
level_text (negsuc n) = codes "-" ++ decimal (n + 1)

-- the number of a stage
abbrev pub stage_digit : (stage : Stage) → List ℕ
stage_digit S1 = codes "1"
stage_digit S2 = codes "2"

-- the word of a class
abbrev pub class_text : (class : Class) → List ℕ
class_text Translation = codes "translation"
class_text AddressSize = codes "address-size"
class_text AccessFlag = codes "access-flag"
class_text Permission = codes "permission"
class_text External = codes "external"
class_text Conflict = codes "conflict"

-- the word of what an item is
abbrev pub what_text : (what : What) → List ℕ
what_text Base = codes " base"
what_text Word = codes " word"

-- what a word holds
abbrev pub value_text : (what : What) (value : ℕ) → List ℕ
value_text Base value = []
value_text Word value = codes " value " ++ hex_text value

-- when an item was read, which a run tells
abbrev pub moment_text : (in_run : Bool) (moment : ℕ) → List ℕ
moment_text in_run moment = shown_if in_run (codes " moment " ++ decimal moment)

-- the line of an item, as `s1 base level 0 at 0x1000`
abbrev pub item_text : (in_run : Bool) (item : Item) → List ℕ
item_text in_run i =
    joined_text
    (codes "s" ∷ stage_digit i.stage ∷ what_text i.what ∷ codes " level " ∷ level_text i.level ∷ codes " at " ∷ hex_text i.pa ∷
    value_text i.what i.value ∷ moment_text in_run i.moment ∷ codes "\n" ∷ [])

-- the mark of a stage 2 fault for a stage 1 descriptor
abbrev pub mark_text : (s1ptw : Bool) → List ℕ
mark_text s1ptw = shown_if s1ptw (codes " s1ptw")

-- the line of a fault: its stage, level and class, the code that a syndrome register gives it, and the mark
abbrev pub fault_text : (fault : Fault) → List ℕ
fault_text f =
    joined_text
    (codes "fault stage " ∷ stage_digit f.stage ∷ codes " level " ∷ level_text f.level ∷ codes " " ∷ class_text f.class ∷
    codes " fsc " ∷ byte_text (status_of f) ∷ mark_text f.s1ptw ∷ codes "\n" ∷ [])

-- the line of a word that memory lacks: its stage, level and place, and the mark
abbrev pub absent_text : (stage : Stage) (level : ℤ) (place : ℕ) (s1ptw : Bool) → List ℕ
absent_text s level pa s1ptw =
    joined_text
    (codes "absent stage " ∷ stage_digit s ∷ codes " level " ∷ level_text level
    ∷ codes " at " ∷ hex_text pa ∷ mark_text s1ptw ∷ codes "\n" ∷ [])
