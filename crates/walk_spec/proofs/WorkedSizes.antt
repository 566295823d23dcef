-- Worked walks: output sizes, and forms of 52 bits.
use Rattle.std.proofs.Common.{[], ◌∷◌, true, false, refl}
use Rattle.permissions.specs.declared.bits.El.TheVariants.{El0, El1}
use Rattle.permissions.specs.declared.bits.Kind.TheVariants.{Fetch}
use Rattle.attributes.specs.declared.kinds.Cache.TheVariants.{Nc}
use Rattle.attributes.specs.declared.kinds.Device.TheVariants.{NGnRnE}
use Rattle.attributes.specs.declared.kinds.MemType.TheVariants.{Device, Normal}
use Rattle.attributes.specs.declared.kinds.Share.TheVariants.{Ish, Osh}
use Rattle.fault_codes.specs.declared.fault.Stage.TheVariants.{S1, S2}
use Rattle.fault_codes.specs.declared.fault.Class.TheVariants.{AddressSize}
use Rattle.trails.specs.declared.outcome.Outcome.TheVariants.{Mapped}
use Rattle.walk_spec.proofs.Worked.{on_worked_walks, image, words_at, tables, stage1_regs, stage2_regs, nested_regs, access, kernel_read}
use Rattle.walk_spec.proofs.Worked.{base, descent, rights, wb, wt, normal, fault, descriptor_fault, Comes, Comes1, Comes2}

-- an output above 32 bits
bounds_the_output
    : Comes (stage1_regs 0x10 0x1000) (image 0x5000 (tables 0x100005403)) (kernel_read 0x40201abc) (descent S1 0 0x1000 (tables 0x100005403))
    (fault S1 3 AddressSize)
unfolding on_worked_walks
bounds_the_output = (refl, refl)

-- 64 KB with 52 bits of input and output
maps_52_bits
    : Comes1 (stage1_regs 0x60000400c 0x10004) (kernel_read 0x8000020031234) 1 0x1000000010000
    ((0x1000000011000, 0x21003) ∷ (0x1000000020008, 0x30003) ∷ (0x30018, 0x52403) ∷ [])
    (Mapped 0x2000000051234 (rights "--x" "rwx") (Device NGnRnE) Osh)
unfolding on_worked_walks
maps_52_bits = (refl, refl)

-- 36 bits of output reach a table in their upper half; a table just above them is a fault of the level of its word
bounds_a_table_at_36_bits
    : Comes1 (stage1_regs 0x100000019 0x1000) (kernel_read 0x1abc) 1 0x1000 ((0x1000, 0x800000003) ∷ (0x800000000, 0x1000000003) ∷ [])
    (fault S1 2 AddressSize)
unfolding on_worked_walks
bounds_a_table_at_36_bits = (refl, refl)

-- the size counts before the access flag: a page just above 40 bits whose flag is 0
bounds_a_page_at_40_bits
    : Comes1 (stage1_regs 0x200000022 0x1000) (kernel_read 0x1abc) 2 0x1000 ((0x1000, 0x8000000003) ∷ (0x8000000008, 0x10000000003) ∷ [])
    (fault S1 3 AddressSize)
unfolding on_worked_walks
bounds_a_page_at_40_bits = (refl, refl)

-- a page just above 42 bits
bounds_a_page_at_42_bits
    : Comes1 (stage1_regs 0x300000022 0x1000) (kernel_read 0x1abc) 2 0x1000 ((0x1000, 0x20000000003) ∷ (0x20000000008, 0x40000000403) ∷ [])
    (fault S1 3 AddressSize)
unfolding on_worked_walks
bounds_a_page_at_42_bits = (refl, refl)

-- a page just above 44 bits
bounds_a_page_at_44_bits
    : Comes1 (stage1_regs 0x400000022 0x1000) (kernel_read 0x1abc) 2 0x1000 ((0x1000, 0x80000000003) ∷ (0x80000000008, 0x100000000403) ∷ [])
    (fault S1 3 AddressSize)
unfolding on_worked_walks
bounds_a_page_at_44_bits = (refl, refl)

-- 64 KB with 48 bits of output: bits 15 to 12 of a word are address bits 51 to 48, which are too high, and the base has its plain form
bounds_a_64_kb_page_at_48_bits
    : Comes1 (stage1_regs 0x500004022 0x10004) (kernel_read 0x1abcd) 2 0x10000 ((0x10000, 0x800000000003) ∷ (0x800000000008, 0x51403) ∷ [])
    (fault S1 3 AddressSize)
unfolding on_worked_walks
bounds_a_64_kb_page_at_48_bits = (refl, refl)

-- stage 2 has an output size of its own: a table above it on the way to a descriptor
bounds_a_stage_2_table_at_40_bits
    : Comes (record nested_regs { vtcr_el2 = 0x20061 }) (words_at ((0x8000, 0x8000000003) ∷ (0x8000000000, 0x10000000003) ∷ []))
    (kernel_read 0x1abc) (base S1 3 0x1000 ∷ descent S2 1 0x8000 ((0x8000, 0x8000000003) ∷ (0x8000000000, 0x10000000003) ∷ []))
    (descriptor_fault 2 AddressSize)
unfolding on_worked_walks
bounds_a_stage_2_table_at_40_bits = (refl, refl)

-- stage 2 with 64 KB and 48 bits: a page above them, also where its access flag is 0
bounds_a_stage_2_page_at_48_bits
    : Comes2 (stage2_regs 0x54062 0x10004) (kernel_read 0x1abcd) 2 0x10000 ((0x10000, 0x800000000003) ∷ (0x800000000008, 0x510ff) ∷ [])
    (fault S2 3 AddressSize)
unfolding on_worked_walks
bounds_a_stage_2_page_at_48_bits = (refl, refl)

-- a base at the output size is read and is then a fault of level 0, whatever the start level
bounds_the_base
    : Comes (stage1_regs 0x2b 0x100000000) (words_at ((0x100000008, 0x5403) ∷ [])) (kernel_read 0x1abc) (base S1 3 0x100000000 ∷ [])
    (fault S1 0 AddressSize)
unfolding on_worked_walks
bounds_the_base = (refl, refl)

-- a stage 2 base that is too high shows at the place of the first descriptor
bounds_the_stage_2_base
    : Comes (record nested_regs { vtcr_el2 = 0xeb; vttbr_el2 = 0x100000000 }) (words_at ((0x100000008, 0x54ff) ∷ [])) (kernel_read 0x1abc)
    (base S1 3 0x1000 ∷ base S2 3 0x100000000 ∷ []) (descriptor_fault 0 AddressSize)
unfolding on_worked_walks
bounds_the_stage_2_base = (refl, refl)

-- with 4 KB the size code 110 means 48 bits and a base in its plain form, and bit 35 is no part of it; HA stands in for the access flag
reads_size_code_6_as_48_bits
    : Comes1 (record (stage1_regs 0x8e0000002b 0x1004) { mair_el1 = 0x58440081e6bf044 }) (kernel_read 0x1abc) 3 0x1000
    ((0x1008, 0x10800000005017) ∷ []) (Mapped 0x800000005abc (rights "--x" "rwx") (Device NGnRnE) Osh)
unfolding on_worked_walks
reads_size_code_6_as_48_bits = (refl, refl)

-- 64 KB with 52 bits: base, table and block have address bits 51 to 48 in low bits; a misplaced Contiguous bit doesn't count
maps_a_block_of_52_bits
    : Comes1 (record (stage1_regs 0x60000400c 0x1007c) { mair_el1 = 0x58440081e6bf044 }) (kernel_read 0x16000001abcd) 1 0xf000000010000
    ((0xf000000010028, 0x2e003) ∷ (0xe000000028000, 0x1000004000d60d) ∷ [])
    (Mapped 0xd00004001abcd (rights "--x" "rwx") (normal (wt "+w+t") (wb "+r")) Osh)
unfolding on_worked_walks
maps_a_block_of_52_bits = (refl, refl)

-- the size code 111 means 52 bits too, here on the high side with 64 KB; HPD1 drops the table's permission bits
reads_size_code_7_as_52_bits
    : Comes1 (record (stage1_regs 0x417c056002b 0x5678000000001000) {
      ttbr1_el1 = 0x9235800000010028;
      mair_el1 = 0x58440081e6bf044;
      vttbr_el2 = 0xabcd000000000000;
    }) (kernel_read 0xfffffc000001abcd) 2 0xa800000010000
    ((0xa800000010000, 0x780000000002b003) ∷ (0xb000000020008, 0x10000000059727) ∷ [])
    (Mapped 0x900000005abcd (rights "--x" "rwx") (Normal (wb "+r+w") (wb "+r+w") true) Ish)
unfolding on_worked_walks
reads_size_code_7_as_52_bits = (refl, refl)

-- stage 2 with 64 KB and 52 bits, XN 01 and a misplaced Contiguous bit, under a cached fetch with stage 1 off
maps_52_bits_by_stage_2
    : Comes2 (record (stage2_regs 0x64062 0x1003c) { sctlr_el1 = 0x1000; tcr_el1 = 0x800005000000ab }) (access 0x1abcd El0 Fetch false) 2
    0xf000000010000 ((0xf000000010000, 0x2e003) ∷ (0xe000000020008, 0x3000000005d4ff) ∷ [])
    (Mapped 0xd00000005abcd (rights "rwx" "rw-") (normal (wt "+r") (wt "+r")) Osh)
unfolding on_worked_walks
maps_52_bits_by_stage_2 = (refl, refl)

-- stage 2's size code 111 means 52 bits, and XN 11 lets EL1 fetch; with stage 1 off TBI0 drops the upper byte of a fetch
reads_stage_2_size_code_7_as_52_bits
    : Comes2 (record (stage2_regs 0x74062 0x10028) { tcr_el1 = 0x250000002b }) (access 0xab0000000001abcd El1 Fetch false) 2 0xa000000010000
    ((0xa000000010000, 0x2b003) ∷ (0xb000000020008, 0x600000000594ff) ∷ []) (Mapped 0x900000005abcd (rights "rw-" "rwx") (normal Nc Nc) Osh)
unfolding on_worked_walks
reads_stage_2_size_code_7_as_52_bits = (refl, refl)

-- with stage 1 off 52 bits go on to stage 2, which has blocks of 4 TB at level 1; data is Device though I is 1
passes_52_bits_to_stage_2
    : Comes2 (record (stage2_regs 0x6408c 0x10000) { sctlr_el1 = 0x1000 }) (kernel_read 0xf800000001abc) 1 0x10000
    ((0x11f00, 0xc00000004fd) ∷ []) (Mapped 0xc0000001abc (rights "rwx" "rwx") (Device NGnRnE) Osh)
unfolding on_worked_walks
passes_52_bits_to_stage_2 = (refl, refl)
