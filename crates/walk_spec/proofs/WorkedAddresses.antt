-- Worked walks: which addresses a side takes, and stage 1 while it is off.
use Rattle.std.proofs.Common.{[], ◌∷◌, false, refl}
use Rattle.sysregs.specs.Registers.{zero_regs}
use Rattle.permissions.specs.declared.bits.El.TheVariants.{El0, El1}
use Rattle.permissions.specs.declared.bits.Kind.TheVariants.{Read, Fetch}
use Rattle.attributes.specs.declared.kinds.Share.TheVariants.{Nsh, Ish, Osh}
use Rattle.fault_codes.specs.declared.fault.Stage.TheVariants.{S1}
use Rattle.fault_codes.specs.declared.fault.Class.TheVariants.{Translation, AddressSize}
use Rattle.trails.specs.declared.outcome.Outcome.TheVariants.{Mapped}
use Rattle.walk_spec.proofs.Worked.{on_worked_walks, image, words_at, tables, stage1_regs, page_regs, access, kernel_read}
use Rattle.walk_spec.proofs.Worked.{descent, rights, wb, wt, normal, fault, Comes, Comes1, user_regs}

-- a tagged user address to a page that EL0 and EL1 may read and write
maps_a_tagged_address
    : Comes user_regs (image 0x5000 (tables 0x60000000005f43)) (access 0xb400000040201abc El0 Read false)
    (descent S1 0 0x1000 (tables 0x60000000005f43)) (Mapped 0x5abc (rights "rw-" "rw-") (normal (wb "+r+w") (wb "+r+w")) Ish)
unfolding on_worked_walks
maps_a_tagged_address = (refl, refl)

-- the high side has a base of its own
maps_the_high_side
    : Comes user_regs (image 0x5000 (tables 0x60000000005f43)) (kernel_read 0xffff000040201abc) (descent S1 0 0x1000 (tables 0x60000000005f43))
    (Mapped 0x5abc (rights "rw-" "rw-") (normal (wb "+r+w") (wb "+r+w")) Ish)
unfolding on_worked_walks
maps_the_high_side = (refl, refl)

-- an address between the two sides
refuses_a_gap : Comes user_regs (image 0x5000 (tables 0x60000000005f43)) (kernel_read 0xfffe000040201abc) [] (fault S1 0 Translation)
unfolding on_worked_walks
refuses_a_gap = (refl, refl)

-- an address above the input range
refuses_above_the_input
    : Comes (stage1_regs 0x10 0x1000) (image 0x5000 (tables 0x5403)) (kernel_read 0x1000000000000) [] (fault S1 0 Translation)
unfolding on_worked_walks
refuses_above_the_input = (refl, refl)

-- stage 1 off: a fetch with SCTLR_EL1.I
walks_nothing_while_off
    : Comes (record zero_regs { sctlr_el1 = 0x1000 }) (words_at []) (access 0x1234 El1 Fetch false) []
    (Mapped 0x1234 (rights "rwx" "rwx") (normal (wt "+r") (wt "+r")) Osh)
unfolding on_worked_walks
walks_nothing_while_off = (refl, refl)

-- stage 1 off: an address of more than 52 bits
bounds_the_address_while_off
    : Comes (record zero_regs { sctlr_el1 = 0x1000 }) (words_at []) (access 0x10000000000000 El1 Fetch false) [] (fault S1 0 AddressSize)
unfolding on_worked_walks
bounds_the_address_while_off = (refl, refl)

-- TBI0 drops the upper byte and nothing below it
checks_bit_54_under_tbi
    : Comes (stage1_regs 0x250000002b 0x1000) (words_at ((0x1008, 0x5403) ∷ [])) (kernel_read 0x40000000001abc) [] (fault S1 0 Translation)
unfolding on_worked_walks
checks_bit_54_under_tbi = (refl, refl)

-- TBID0: a fetch has no tag, not even bit 63 alone
checks_a_tagged_fetch
    : Comes (stage1_regs 0x800250000002b 0x1000) (words_at ((0x1008, 0x5403) ∷ [])) (access 0x8000000000001abc El1 Fetch false) []
    (fault S1 0 Translation)
unfolding on_worked_walks
checks_a_tagged_fetch = (refl, refl)

-- TBID1 does the same for the high side
checks_a_tagged_fetch_of_the_high_side
    : Comes (record (stage1_regs 0x100045802b002b 0x1000) { ttbr1_el1 = 0x1000 }) (words_at ((0x1008, 0x5403) ∷ []))
    (access 0xabffffffffe01abc El1 Fetch false) [] (fault S1 0 Translation)
unfolding on_worked_walks
checks_a_tagged_fetch_of_the_high_side = (refl, refl)

-- the lowest bit above the input range
checks_the_bit_at_the_input_size : Comes page_regs (words_at ((0x1008, 0x5403) ∷ [])) (kernel_read 0x201abc) [] (fault S1 0 Translation)
unfolding on_worked_walks
checks_the_bit_at_the_input_size = (refl, refl)

-- E0PD0 keeps EL0 from the low side
keeps_el0_from_the_low_side
    : Comes (stage1_regs 0x8000050000002b 0x1000) (words_at ((0x1008, 0x5443) ∷ [])) (access 0x1abc El0 Read false) [] (fault S1 0 Translation)
unfolding on_worked_walks
keeps_el0_from_the_low_side = (refl, refl)

-- E0PD1 keeps EL0 from the high side
keeps_el0_from_the_high_side
    : Comes (record (stage1_regs 0x1000005802b002b 0x1000) { ttbr1_el1 = 0x1000 }) (words_at ((0x1008, 0x5443) ∷ []))
    (access 0xffffffffffe01abc El0 Read false) [] (fault S1 0 Translation)
unfolding on_worked_walks
keeps_el0_from_the_high_side = (refl, refl)

-- EPD1 keeps all from the high side
walks_no_high_side_with_epd1
    : Comes (record (stage1_regs 0x580ab002b 0x1000) { ttbr1_el1 = 0x1000 }) (words_at ((0x1008, 0x5403) ∷ [])) (kernel_read 0xffffffffffe01abc)
    [] (fault S1 0 Translation)
unfolding on_worked_walks
walks_no_high_side_with_epd1 = (refl, refl)

-- EPD0 counts before a base that is too high
asks_epd_before_the_base
    : Comes (stage1_regs 0xab 0x100000000) (words_at ((0x1008, 0x5403) ∷ [])) (kernel_read 0x1abc) [] (fault S1 0 Translation)
unfolding on_worked_walks
asks_epd_before_the_base = (refl, refl)

-- a fetch on the high side, told by bit 55: no field of the low side counts, and TG1 00 is read as 4 KB
asks_no_field_of_the_other_side
    : Comes1 (record (stage1_regs 0x880245002200ab 0x5679000000090000) {
      ttbr1_el1 = 0x1235800000001000;
      mair_el1 = 0x58440081e6bf044;
      vtcr_el2 = 0x80000;
      vttbr_el2 = 0xabcd000000000000;
    }) (access 0x12ffffffc0001abc El0 Fetch false) 2 0x800000001000
    ((0x800000001000, 0x4000000000002003) ∷ (0x2008, 0x554b) ∷ []) (Mapped 0x5abc (rights "r-x" "r-x") (normal (wb "+r+t") (wt "+r+w")) Nsh)
unfolding on_worked_walks
asks_no_field_of_the_other_side = (refl, refl)

-- stage 1 off: a bit above 51
checks_bit_52_while_off : Comes zero_regs (words_at []) (kernel_read 0x10000000001abc) [] (fault S1 0 AddressSize)
unfolding on_worked_walks
checks_bit_52_while_off = (refl, refl)

-- stage 1 off: the upper byte counts while TBI0 is 0, though TBI1 is 1
checks_the_upper_byte_while_off
    : Comes (record zero_regs { tcr_el1 = 0x450000002b }) (words_at []) (kernel_read 0x100000000001abc) [] (fault S1 0 AddressSize)
unfolding on_worked_walks
checks_the_upper_byte_while_off = (refl, refl)

-- stage 1 off: bit 55 counts, though TBI1 is 1
checks_bit_55_while_off
    : Comes (record zero_regs { tcr_el1 = 0x450000002b }) (words_at []) (kernel_read 0x80000000001abc) [] (fault S1 0 AddressSize)
unfolding on_worked_walks
checks_bit_55_while_off = (refl, refl)
