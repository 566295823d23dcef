-- The text of one access: its line, the items of its walk, and its outcome. Its form is this project's own rule.
use Rattle.std.specs.Prelude.{ℕ, List, [], ◌∷◌, ◌++◌, Bool, false, flat_map, codes}
use Rattle.sysregs.specs.Registers.{asid_of, vmid_of}
use Rattle.sysregs.specs.declared.regs.Regs.{Regs}
use Rattle.permissions.specs.AccessNames.{el_text, kind_text}
use Rattle.trails.specs.declared.item.Item.{Item}
use Rattle.trails.specs.declared.outcome.Access.{Access}
use Rattle.trails.specs.Printed.{printed}
use Rattle.trails.specs.declared.outcome.Outcome.{Outcome}
use Rattle.trails.specs.declared.outcome.Outcome.TheVariants.{Mapped, Faulted, Absent, Conflict}
use Rattle.texts.specs.Texts.{joined_text, hex_text}
use Rattle.explain_text.specs.Texts.{shown_if, item_text, fault_text, absent_text}
use Rattle.explain_text.specs.Mapped.{mapped_text}

-- an access, behind a word and before the line's end
abbrev pub access_text : (word : List ℕ) (access : Access) (asid vmid : ℕ) → List ℕ
access_text word a asid vmid =
    joined_text
    (word ∷ codes " " ∷ hex_text a.va ∷ codes " " ∷ el_text a.el ∷ codes " " ∷ kind_text a.kind ∷ shown_if a.pan (codes " pan") ∷
    codes " asid " ∷ hex_text asid ∷ codes " vmid " ∷ hex_text vmid ∷ [])

-- the line of an outcome
abbrev pub line_of : (outcome : Outcome) → List ℕ
line_of (Mapped pa perms mem share) = mapped_text pa perms mem share
line_of (Faulted fault) = fault_text fault
line_of (Absent stage level pa s1ptw) = absent_text stage level pa s1ptw
line_of Conflict = codes "conflict fsc 0x30\n"

-- the line of an outcome, in a run or not
abbrev pub outcome_text : (in_run : Bool) (outcome : Outcome) → List ℕ
outcome_text in_run outcome = line_of (printed in_run outcome)

-- the text of one access: its line, the items in order without their moments, and the outcome
abbrev pub explain_text : (regs : Regs) (access : Access) (items : List Item) (outcome : Outcome) → List ℕ
explain_text r a items outcome =
    (access_text (codes "access") a (asid_of r) (vmid_of r) ++ codes "\n") ++ (flat_map (item_text false) items ++ outcome_text false outcome)
