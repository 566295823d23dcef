-- What a register file gives. It is this project's own rule, but for the grammar of TOML, which parse_document is.
use Rattle.std.specs.Prelude.{ℕ, pos, List, [], ◌∷◌, length, find, Bool, nat_lt, bytes_eq, if◌then◌else◌}
use Rattle.std.specs.Prelude.{Option, Some, None, is_none, option_map, unwrap_or, Result, Ok, Err}
use Rattle.std.specs.List.{list_any}
use Rattle.std.specs.Option.{option_or}
use Rattle.std.specs.Str.{is_utf8}
use Rattle.toml.specs.Data.{Data, integer, string, Members, no_members, member, get_member}
use Rattle.toml.specs.Parse.{parse_document}
use Rattle.texts.specs.Numbers.{number_of}
use Rattle.texts.specs.Results.{◌>>=◌}
use Rattle.sysregs.specs.declared.regs.Reg.{Reg}
use Rattle.sysregs.specs.declared.regs.Reg.TheVariants.{SctlrEl1, TcrEl1, Ttbr0El1, Ttbr1El1, MairEl1, HcrEl2, VtcrEl2, VttbrEl2}
use Rattle.sysregs.specs.declared.regs.Regs.{Regs}
use Rattle.sysregs.specs.declared.regs.Unsupported.{Unsupported as UnsupportedField}
use Rattle.sysregs.specs.Names.{reg_key}
use Rattle.sysregs.specs.Refused.{refused_field, value_of}
use Rattle.reg_file.specs.declared.reading.TheConstants.{MOST_BYTES}
use Rattle.reg_file.specs.declared.refusals.RegError.{RegError}
use Rattle.reg_file.specs.declared.refusals.RegError.TheVariants.{Refused, NoMemory}
use Rattle.reg_file.specs.declared.refusals.RegRefusal.{RegRefusal}
use Rattle.reg_file.specs.declared.refusals.RegRefusal.TheVariants.{TooLarge, NotToml, Unknown, Missing, BadValue, Unsupported}

-- the registers that a file must have
abbrev pub needed_regs : List Reg
needed_regs = SctlrEl1 ∷ TcrEl1 ∷ Ttbr0El1 ∷ Ttbr1El1 ∷ MairEl1 ∷ []

-- all that it may have
abbrev pub all_regs : List Reg
all_regs = SctlrEl1 ∷ TcrEl1 ∷ Ttbr0El1 ∷ Ttbr1El1 ∷ MairEl1 ∷ HcrEl2 ∷ VtcrEl2 ∷ VttbrEl2 ∷ []

-- a key is a register's name in lower case
abbrev pub is_known : (key : List ℕ) → Bool
is_known key = list_any (λ register. bytes_eq key (reg_key register)) all_regs

-- the first key that isn't known; the members of a table stand in the order of their keys' bytes
abbrev pub first_unknown : (table : Members) → Option (List ℕ)
first_unknown no_members = None
first_unknown (member key value rest) = if is_known key then first_unknown rest else Some key

-- a value is an integer that isn't negative, or a string that is a number as on the command line
abbrev pub number_from : (value : Data) → Option ℕ
number_from (integer (pos n)) = Some n
number_from (string text) = number_of text
number_from _ = None

-- a register is 0 where its key is absent
abbrev pub number_or_zero : (value : Option Data) → Option ℕ
number_or_zero None = Some 0
number_or_zero (Some value) = number_from value

-- the value at a register's key
abbrev pub entry : (table : Members) (register : Reg) → Option Data
entry table register = get_member (reg_key register) table

-- the number of a register, if its value is one
abbrev pub number_at : (table : Members) (register : Reg) → Option ℕ
number_at table register = number_or_zero (entry table register)

-- the registers with these values
abbrev pub regs_with : (value : Reg → ℕ) → Regs
regs_with value = record {
  sctlr_el1 = value SctlrEl1;
  tcr_el1 = value TcrEl1;
  ttbr0_el1 = value Ttbr0El1;
  ttbr1_el1 = value Ttbr1El1;
  mair_el1 = value MairEl1;
  hcr_el2 = value HcrEl2;
  vtcr_el2 = value VtcrEl2;
  vttbr_el2 = value VttbrEl2;
}

-- the field that a register's value is refused for
abbrev pub refused_at : (register : Reg) (value : ℕ) → Option UnsupportedField
refused_at register value = option_map (λ field. record { reg = register; field = field }) (refused_field register value)

-- the first of these registers whose value is refused
abbrev pub first_refused : (registers : Regs) (list : List Reg) → Option UnsupportedField
first_refused regs [] = None
first_refused regs (reg ∷ more) = option_or (refused_at reg (value_of regs reg)) (first_refused regs more)

-- the refusal of an error; want of memory is none
abbrev pub reg_refusal : (error : RegError) → Option RegRefusal
reg_refusal (Refused why) = Some why
reg_refusal NoMemory = None

-- refuses what was found
abbrev pub none_is : {A : Type 0} → (why : A → RegRefusal) (found : Option A) → Result (Unit {0}) RegRefusal
none_is why None = Ok tt
none_is why (Some x) = Err (why x)

-- the registers of a table, whose values are all numbers
abbrev pub numbers_in : (table : Members) → Result Regs RegRefusal
numbers_in table = do
  good ← none_is BadValue (find (λ register. is_none (number_at table register)) all_regs)
  Ok (regs_with (λ register. unwrap_or (number_at table register) 0))

-- the registers of a table
abbrev pub regs_in : (table : Members) → Result Regs RegRefusal
regs_in table = do
  known ← none_is Unknown (first_unknown table)
  there ← none_is Missing (find (λ register. is_none (entry table register)) needed_regs)
  regs ← numbers_in table
  supported ← none_is Unsupported (first_refused regs all_regs)
  Ok regs

-- the registers of a document
abbrev pub of_document : (document : Option Members) → Result Regs RegRefusal
of_document None = Err NotToml
of_document (Some table) = regs_in table

-- the registers of a register file, or why it is refused
abbrev pub regs_of : (bytes : List ℕ) → Result Regs RegRefusal
regs_of bytes =
    if nat_lt MOST_BYTES (length bytes) then Err (TooLarge (length bytes))
    else (if is_utf8 bytes then of_document (parse_document bytes) else Err NotToml)
