-- Worked register files.
use Rattle.std.proofs.Common.{◌≡◌, List, ℕ, [], ◌∷◌, ◌++◌, Ok, Err, codes, refl}
use Rattle.std.specs.Bool.{⊤}
use Rattle.std.specs.Str.{is_utf8, chars}
use Rattle.toml.proofs.OnLiterals.{toml_on_literals}
use Rattle.sysregs.specs.declared.regs.Reg.TheVariants.{SctlrEl1, TcrEl1, MairEl1, HcrEl2}
use Rattle.sysregs.specs.declared.regs.Field.TheVariants.{Ee, Fwb}
use Rattle.reg_file.specs.declared.refusals.RegRefusal.TheVariants.{NotToml, Unknown, Missing, BadValue, Unsupported}
use Rattle.reg_file.specs.RegisterFile.{regs_of}

unfoldable on_worked_files : ⊤
unfolding toml_on_literals is_utf8 chars
on_worked_files = tt

-- a file's last three needed registers
abbrev bases : List ℕ
bases = codes "ttbr0_el1 = \"0x1000\"\nttbr1_el1 = \"0x1234000000001000\"\nmair_el1 = \"0x40044ffff\"\n"

reads_strings
    : regs_of (codes "sctlr_el1 = \"0x1005\"\ntcr_el1 = \"0x35b5503510\"\n" ++ bases)
    ≡ Ok (record {
      sctlr_el1 = 0x1005;
      tcr_el1 = 0x35b5503510;
      ttbr0_el1 = 0x1000;
      ttbr1_el1 = 0x1234000000001000;
      mair_el1 = 0x40044ffff;
      hcr_el2 = 0;
      vtcr_el2 = 0;
      vttbr_el2 = 0;
    })
unfolding on_worked_files
reads_strings = refl

reads_integers_in_any_order
    : regs_of (codes "mair_el1 = 5 # five\r\nttbr1_el1 = 0x7fffffffffffffff\r\nttbr0_el1 = -0\r\nvttbr_el2 = 7\r\n\r\nsctlr_el1 = 0x4\r\ntcr_el1 = 2\r\n")
    ≡ Ok (record {
      sctlr_el1 = 4;
      tcr_el1 = 2;
      ttbr0_el1 = 0;
      ttbr1_el1 = 0x7fffffffffffffff;
      mair_el1 = 5;
      hcr_el2 = 0;
      vtcr_el2 = 0;
      vttbr_el2 = 7;
    })
unfolding on_worked_files
reads_integers_in_any_order = refl

empty_file : regs_of [] ≡ Err (Missing SctlrEl1)
unfolding on_worked_files
empty_file = refl

refuses_a_byte_that_is_no_text : regs_of (0xff ∷ []) ≡ Err NotToml
unfolding on_worked_files
refuses_a_byte_that_is_no_text = refl

refuses_a_key_twice : regs_of (codes "tcr_el1 = 0\ntcr_el1 = 0\n") ≡ Err NotToml
unfolding on_worked_files
refuses_a_key_twice = refl

-- an unknown key counts before a missing one, and of two the first in the order of their bytes
names_the_first_unknown_key : regs_of (codes "vbar_el1 = 0\nesr_el1.x = 0\n") ≡ Err (Unknown (codes "esr_el1"))
unfolding on_worked_files
names_the_first_unknown_key = refl

-- a missing register counts before a bad value
missing_before_bad : regs_of (codes "[mair_el1]\n") ≡ Err (Missing SctlrEl1)
unfolding on_worked_files
missing_before_bad = refl

names_the_missing_register : regs_of (codes "sctlr_el1 = 0\ntcr_el1 = 0\nttbr0_el1 = 0\nttbr1_el1 = 0\n") ≡ Err (Missing MairEl1)
unfolding on_worked_files
names_the_missing_register = refl

-- a bad value counts before a field that is refused
bad_before_unsupported : regs_of (codes "sctlr_el1 = 0x2000000\ntcr_el1 = -1\n" ++ bases) ≡ Err (BadValue TcrEl1)
unfolding on_worked_files
bad_before_unsupported = refl

names_the_first_refused_field
    : regs_of (codes "sctlr_el1 = 0x2000000\ntcr_el1 = 0x800000000000000\n" ++ bases) ≡ Err (Unsupported (record { reg = SctlrEl1; field = Ee }))
unfolding on_worked_files
names_the_first_refused_field = refl

refuses_a_field_of_stage_2
    : regs_of (codes "hcr_el2 = 0x400000000000\nsctlr_el1 = 0\ntcr_el1 = 0\n" ++ bases) ≡ Err (Unsupported (record { reg = HcrEl2; field = Fwb }))
unfolding on_worked_files
refuses_a_field_of_stage_2 = refl
