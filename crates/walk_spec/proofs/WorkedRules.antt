-- Worked walks, each for one rule that the others show only beside another or not at all.
use Rattle.std.proofs.Common.{[], ◌∷◌, ◌++◌, false, refl}
use Rattle.permissions.specs.declared.bits.El.TheVariants.{El0, El1}
use Rattle.permissions.specs.declared.bits.Kind.TheVariants.{Write, Fetch}
use Rattle.attributes.specs.declared.kinds.Device.TheVariants.{NGnRnE}
use Rattle.attributes.specs.declared.kinds.MemType.TheVariants.{Device}
use Rattle.attributes.specs.declared.kinds.Share.TheVariants.{Osh}
use Rattle.fault_codes.specs.declared.fault.Stage.TheVariants.{S1, S2}
use Rattle.fault_codes.specs.declared.fault.Class.TheVariants.{Translation, AddressSize, Permission}
use Rattle.trails.specs.declared.outcome.Outcome.TheVariants.{Mapped}
use Rattle.walk_spec.proofs.Worked.{on_worked_walks, words_at, stage1_regs, stage2_regs, page_regs, nested_regs, access}
use Rattle.walk_spec.proofs.Worked.{kernel_read, base, item, one_page, rights, fault, Comes, Comes1, Comes2}

-- a stage 2 base at the output size: for the output the fault has no mark
bounds_the_stage_2_base_for_the_output
    : Comes (stage2_regs 0xeb 0x100000000) (words_at ((0x100000008, 0x54ff) ∷ [])) (kernel_read 0x1abc) (base S2 3 0x100000000 ∷ [])
    (fault S2 0 AddressSize)
unfolding on_worked_walks
bounds_the_stage_2_base_for_the_output = (refl, refl)

-- 43 bits of 64 KB pages start at level 1, with two entries
walks_43_bits_with_64_kb
    : Comes1 (stage1_regs 0x500004015 0x10000) (kernel_read 0x4002001abcd) 1 0x10000
    ((0x10008, 0x20003) ∷ (0x20008, 0x30003) ∷ (0x30008, 0x50403) ∷ []) (Mapped 0x5abcd (rights "--x" "rwx") (Device NGnRnE) Osh)
unfolding on_worked_walks
walks_43_bits_with_64_kb = (refl, refl)

-- SL0 00 with 4 KB is level 2, which takes 22 bits at least
walks_22_bits_from_level_2
    : Comes2 (stage2_regs 0x5002a 0x8000) (kernel_read 0x201abc) 2 0x8000 ((0x8008, 0x6004fd) ∷ [])
    (Mapped 0x601abc (rights "rwx" "rwx") (Device NGnRnE) Osh)
unfolding on_worked_walks
walks_22_bits_from_level_2 = (refl, refl)

-- SL0 00 with 16 KB is level 3, where 29 bits take 16 tables
concatenates_16_tables_at_level_3
    : Comes2 (stage2_regs 0x58023 0x7c000) (kernel_read 0x1fffdabc) 3 0x40000 ((0x7fff8, 0xc4ff) ∷ [])
    (Mapped 0xdabc (rights "rwx" "rwx") (Device NGnRnE) Osh)
unfolding on_worked_walks
concatenates_16_tables_at_level_3 = (refl, refl)

-- stage 1 off: an address just above the input size of stage 2
bounds_the_ipa : Comes (stage2_regs 0x500eb 0x8000) (words_at ((0x8000, 0x54ff) ∷ [])) (kernel_read 0x200abc) [] (fault S2 0 Translation)
unfolding on_worked_walks
bounds_the_ipa = (refl, refl)

-- an output of stage 1 above the input size of stage 2
bounds_the_ipa_of_the_output
    : Comes nested_regs (words_at ((0x8008, 0x214ff) ∷ (0x8028, 0x254ff) ∷ (0x21008, 0x205403) ∷ [])) (kernel_read 0x1abc)
    (base S1 3 0x1000 ∷ one_page 0x8008 0x214ff ++ item S1 3 0x21008 0x205403 ∷ []) (fault S2 0 Translation)
unfolding on_worked_walks
bounds_the_ipa_of_the_output = (refl, refl)

-- a misplaced Contiguous bit at level 2 of 4 KB
ignores_a_misplaced_run_of_blocks
    : Comes1 (stage1_regs 0x500000022 0x1000) (kernel_read 0x201abc) 2 0x1000 ((0x1008, 0x10000000400401) ∷ [])
    (Mapped 0x401abc (rights "--x" "rwx") (Device NGnRnE) Osh)
unfolding on_worked_walks
ignores_a_misplaced_run_of_blocks = (refl, refl)

-- an address keeps its offset in a run of stage 1
goes_through_a_run
    : Comes1 page_regs (kernel_read 0x1abc) 3 0x1000 ((0x1008, 0x10000000011403) ∷ []) (Mapped 0x11abc (rights "--x" "rwx") (Device NGnRnE) Osh)
unfolding on_worked_walks
goes_through_a_run = (refl, refl)

-- a fetch on the low side: no field of the high side counts
asks_no_field_of_the_high_side
    : Comes1 (stage1_regs 0x110042500800022 0x1000) (access 0xab00000000001abc El0 Fetch false) 2 0x1000
    ((0x1000, 0x4000000000002003) ∷ (0x2008, 0x5443) ∷ []) (Mapped 0x5abc (rights "r-x" "r-x") (Device NGnRnE) Osh)
unfolding on_worked_walks
asks_no_field_of_the_high_side = (refl, refl)

-- the upper byte counts while TBI0 is 0, though TBI1 is 1
checks_the_upper_byte
    : Comes (stage1_regs 0x800450000002b 0x1000) (words_at ((0x1008, 0x5403) ∷ [])) (kernel_read 0x100000000001abc) [] (fault S1 0 Translation)
unfolding on_worked_walks
checks_the_upper_byte = (refl, refl)

-- a page that EL1 may read and fetch, and EL0 may only fetch
maps_a_read_only_page
    : Comes1 page_regs (access 0x1abc El1 Fetch false) 3 0x1000 ((0x1008, 0x5483) ∷ []) (Mapped 0x5abc (rights "--x" "r-x") (Device NGnRnE) Osh)
unfolding on_worked_walks
maps_a_read_only_page = (refl, refl)

-- PXN takes no right of EL0
leaves_el0_its_fetch_under_pxn
    : Comes1 page_regs (kernel_read 0x1abc) 3 0x1000 ((0x1008, 0x200000000054c3) ∷ []) (Mapped 0x5abc (rights "r-x" "r--") (Device NGnRnE) Osh)
unfolding on_worked_walks
leaves_el0_its_fetch_under_pxn = (refl, refl)

-- UXN takes no right of EL1
leaves_el1_its_fetch_under_uxn
    : Comes1 page_regs (access 0x1abc El1 Fetch false) 3 0x1000 ((0x1008, 0x40000000005483) ∷ [])
    (Mapped 0x5abc (rights "---" "r-x") (Device NGnRnE) Osh)
unfolding on_worked_walks
leaves_el1_its_fetch_under_uxn = (refl, refl)

-- PXNTable takes no right of EL0
leaves_el0_its_fetch_under_pxntable
    : Comes1 (stage1_regs 0x500000022 0x1000) (kernel_read 0x1abc) 2 0x1000 ((0x1000, 0x800000000002003) ∷ (0x2008, 0x54c3) ∷ [])
    (Mapped 0x5abc (rights "r-x" "r--") (Device NGnRnE) Osh)
unfolding on_worked_walks
leaves_el0_its_fetch_under_pxntable = (refl, refl)

-- S2AP 01 gives reading and fetching
maps_a_stage_2_page_for_reading
    : Comes2 (stage2_regs 0x500eb 0x8000) (kernel_read 0x1abc) 3 0x8000 ((0x8008, 0x547f) ∷ [])
    (Mapped 0x5abc (rights "r-x" "r-x") (Device NGnRnE) Osh)
unfolding on_worked_walks
maps_a_stage_2_page_for_reading = (refl, refl)

-- S2AP 10 gives writing alone
maps_a_stage_2_page_for_writing
    : Comes2 (stage2_regs 0x500eb 0x8000) (access 0x1abc El1 Write false) 3 0x8000 ((0x8008, 0x54bf) ∷ [])
    (Mapped 0x5abc (rights "-w-" "-w-") (Device NGnRnE) Osh)
unfolding on_worked_walks
maps_a_stage_2_page_for_writing = (refl, refl)

-- XN 01 keeps EL1 from fetching
keeps_el1_from_fetching_by_stage_2
    : Comes2 (stage2_regs 0x500eb 0x8000) (access 0x1abc El1 Fetch false) 3 0x8000 ((0x8008, 0x200000000054ff) ∷ []) (fault S2 3 Permission)
unfolding on_worked_walks
keeps_el1_from_fetching_by_stage_2 = (refl, refl)

-- rights are those that both stages give
joins_the_rights_of_both_stages
    : Comes nested_regs (words_at ((0x8008, 0x214ff) ∷ (0x8028, 0x6000000002547f) ∷ (0x21008, 0x5443) ∷ [])) (kernel_read 0x1abc)
    (base S1 3 0x1000 ∷ one_page 0x8008 0x214ff ++ item S1 3 0x21008 0x5443 ∷ one_page 0x8028 0x6000000002547f)
    (Mapped 0x25abc (rights "r--" "r--") (Device NGnRnE) Osh)
unfolding on_worked_walks
joins_the_rights_of_both_stages = (refl, refl)
