-- The registers of a register file set no refused field.
use Rattle.std.proofs.Common.{◌≡◌, ℕ, List, ◌∷◌, Bool, true, false, Option, Some, None, option_map}
use Rattle.std.proofs.Common.{Result, Ok, Err, refl, drop, length, cond, ltb, subst, rules, IfOk}
use Rattle.std.specs.Option.{option_or}
use Rattle.std.specs.Str.{is_utf8}
use Rattle.toml.specs.Data.{Members}
use Rattle.toml.specs.Parse.{parse_document}
use Rattle.sysregs.specs.declared.regs.Reg.{Reg}
use Rattle.sysregs.specs.declared.regs.Reg.TheVariants.{SctlrEl1, TcrEl1, Ttbr0El1, Ttbr1El1, MairEl1, HcrEl2, VtcrEl2, VttbrEl2}
use Rattle.sysregs.specs.declared.regs.Regs.{Regs}
use Rattle.sysregs.specs.declared.regs.Field.{Field}
use Rattle.sysregs.specs.declared.regs.Unsupported.{Unsupported as UnsupportedField}
use Rattle.sysregs.specs.Refused.{AreAccepted, refused_field, value_of}
use Rattle.reg_file.specs.declared.reading.TheConstants.{MOST_BYTES}
use Rattle.reg_file.specs.declared.refusals.RegRefusal.{RegRefusal}
use Rattle.reg_file.specs.declared.refusals.RegRefusal.TheVariants.{TooLarge, NotToml, Unsupported}
use Rattle.texts.specs.Results.{◌>>=◌}
use Rattle.reg_file.specs.RegisterFile.{regs_of, regs_in, of_document, none_is, first_refused, all_regs, numbers_in}

-- neither is there
apart : (reg : Reg) (field : Option Field) (more : Option UnsupportedField) → option_or (option_map (λ f. record { reg = reg; field = f }) field) more
    ≡ None
    → (field ≡ None) × (more ≡ None)
apart reg None more h = (refl, h)
apart reg (Some f) more h = search (rules, h)

-- neither the first register nor one of the others is refused
first_passes : (regs : Regs) (reg : Reg) (more : List Reg) → first_refused regs (reg ∷ more) ≡ None
    → (refused_field reg (value_of regs reg) ≡ None) × (first_refused regs more ≡ None)
first_passes regs reg more h = apart reg (refused_field reg (value_of regs reg)) (first_refused regs more) h

all_pass : (regs : Regs) → first_refused regs all_regs ≡ None → AreAccepted regs
all_pass regs h register =
    let (sctlr, a) = first_passes regs SctlrEl1 (drop 1 all_regs) h in
    let (tcr, b) = first_passes regs TcrEl1 (drop 2 all_regs) a in
    let (ttbr0, c) = first_passes regs Ttbr0El1 (drop 3 all_regs) b in
    let (ttbr1, d) = first_passes regs Ttbr1El1 (drop 4 all_regs) c in
    let (mair, e) = first_passes regs MairEl1 (drop 5 all_regs) d in
    let (hcr, f) = first_passes regs HcrEl2 (drop 6 all_regs) e in
    let (vtcr, g) = first_passes regs VtcrEl2 (drop 7 all_regs) f in
    let (vttbr, i) = first_passes regs VttbrEl2 (drop 8 all_regs) g in
    elim register as (λ r. refused_field r (value_of regs r) ≡ None) [
      | SctlrEl1 ↦ sctlr
      | TcrEl1 ↦ tcr
      | Ttbr0El1 ↦ ttbr0
      | Ttbr1El1 ↦ ttbr1
      | MairEl1 ↦ mair
      | HcrEl2 ↦ hcr
      | VtcrEl2 ↦ vtcr
      | VttbrEl2 ↦ vttbr
    ]

-- registers that come out of the last test are those that went in, and pass it
tested : (regs out : Regs) (found : Option UnsupportedField) → (none_is Unsupported found >>= (λ _. Ok regs)) ≡ Ok out
    → (found ≡ None) × (regs ≡ out)
tested regs out None h = (refl, search (rules, h))
tested regs out (Some at) h = search (rules, h)

passed : (regs out : Regs) → (none_is Unsupported (first_refused regs all_regs) >>= (λ _. Ok regs)) ≡ Ok out → AreAccepted out
passed regs out h = let (none, same) = tested regs out (first_refused regs all_regs) h in subst AreAccepted same (all_pass regs none)

-- what stands behind the first refusals
behind : (known there : Result (Unit {0}) RegRefusal) (regs : Result Regs RegRefusal) (out : Regs) →
    (known >>= (λ _. there >>= (λ _. regs >>= (λ r. none_is Unsupported (first_refused r all_regs) >>= (λ _. Ok r))))) ≡ Ok out → AreAccepted out
behind (Ok _) (Ok _) (Ok regs) out h = passed regs out h
behind (Ok _) (Ok _) (Err why) out h = search (rules, h)
behind (Ok _) (Err why) regs out h = search (rules, h)
behind (Err why) there regs out h = search (rules, h)

in_table : (table : Members) (out : Regs) → regs_in table ≡ Ok out → AreAccepted out
in_table table out h = behind _ _ (numbers_in table) out h

in_document : (document : Option Members) (out : Regs) → of_document document ≡ Ok out → AreAccepted out
in_document None out h = search (rules, h)
in_document (Some table) out h = in_table table out h

in_file : (is_large is_text : Bool) (size : ℕ) (document : Option Members) (out : Regs) →
    cond is_large (Err (TooLarge size)) (cond is_text (of_document document) (Err NotToml)) ≡ Ok out → AreAccepted out
in_file true is_text size document out h = search (rules, h)
in_file false true size document out h = in_document document out h
in_file false false size document out h = search (rules, h)

-- registers that a file gives are accepted
pub file_accepted : (bytes : List ℕ) (regs : Regs) → regs_of bytes ≡ Ok regs → AreAccepted regs
file_accepted bytes regs h = in_file (ltb MOST_BYTES (length bytes)) (is_utf8 bytes) (length bytes) (parse_document bytes) regs h

pub answer_accepted : {E : Type 0} (bytes : List ℕ) (result : Result Regs E) → IfOk result (λ regs. regs_of bytes ≡ Ok regs) → IfOk result AreAccepted
answer_accepted bytes (Ok regs) h = file_accepted bytes regs h
answer_accepted bytes (Err e) h = tt
