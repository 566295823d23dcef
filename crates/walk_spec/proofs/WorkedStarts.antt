-- Worked walks: input sizes, start levels, and where start tables begin.
use Rattle.std.proofs.Common.{ℕ, [], ◌∷◌, ◌++◌, false, refl}
use Rattle.sysregs.specs.declared.regs.Regs.{Regs}
use Rattle.permissions.specs.declared.bits.El.TheVariants.{El1}
use Rattle.permissions.specs.declared.bits.Kind.TheVariants.{Write}
use Rattle.attributes.specs.declared.kinds.Cache.TheVariants.{Nc}
use Rattle.attributes.specs.declared.kinds.Device.TheVariants.{NGnRnE, NGRE}
use Rattle.attributes.specs.declared.kinds.MemType.TheVariants.{Device}
use Rattle.attributes.specs.declared.kinds.Share.TheVariants.{Osh}
use Rattle.fault_codes.specs.declared.fault.Stage.TheVariants.{S1, S2}
use Rattle.fault_codes.specs.declared.fault.Class.TheVariants.{Translation}
use Rattle.trails.specs.declared.outcome.Outcome.TheVariants.{Mapped}
use Rattle.walk_spec.proofs.Worked.{on_worked_walks, words_at, stage1_regs, stage2_regs, nested_regs, access, kernel_read, base, item}
use Rattle.walk_spec.proofs.Worked.{descent, rights, wb, wt, normal, fault, descriptor_fault, Comes, Comes2}

-- stage 1 off, and stage 2 from level 1 with tables concatenated
abbrev guest_regs : ℕ → Regs
guest_regs vtcr = stage2_regs vtcr 0x7000000008000

-- a block of 1 GB behind concatenated tables
maps_by_stage_2
    : Comes2 (guest_regs 0x20058) (kernel_read 0x8000000abc) 1 0x8000 ((0x9000, 0x400004fd) ∷ [])
    (Mapped 0x40000abc (rights "rwx" "rwx") (Device NGnRnE) Osh)
unfolding on_worked_walks
maps_by_stage_2 = (refl, refl)

-- an input size that doesn't suit the start level
wants_sizes_that_suit
    : Comes (guest_regs 0x20054) (words_at ((0x9000, 0x400004fd) ∷ [])) (kernel_read 0x8000000abc) [] (fault S2 0 Translation)
unfolding on_worked_walks
wants_sizes_that_suit = (refl, refl)

-- T0SZ 15 is below the range of 4 KB
refuses_t0sz_15_with_4_kb
    : Comes (stage1_regs 0x50000000f 0x1000) (words_at ((0x1000, 0x2003) ∷ [])) (kernel_read 0x1abc) [] (fault S1 0 Translation)
unfolding on_worked_walks
refuses_t0sz_15_with_4_kb = (refl, refl)

-- T0SZ 49 is above the range of 4 KB
refuses_t0sz_49_with_4_kb
    : Comes (stage1_regs 0x500000031 0x1000) (words_at ((0x1008, 0x5403) ∷ [])) (kernel_read 0x1abc) [] (fault S1 0 Translation)
unfolding on_worked_walks
refuses_t0sz_49_with_4_kb = (refl, refl)

-- T0SZ 11 is below the range of 64 KB
refuses_t0sz_11_with_64_kb
    : Comes (stage1_regs 0x50000400b 0x10000) (words_at ((0x10000, 0x20003) ∷ [])) (kernel_read 0x1abc) [] (fault S1 0 Translation)
unfolding on_worked_walks
refuses_t0sz_11_with_64_kb = (refl, refl)

-- T0SZ 48 is above the range of 64 KB
refuses_t0sz_48_with_64_kb
    : Comes (stage1_regs 0x500004030 0x10000) (words_at ((0x10000, 0x50403) ∷ [])) (kernel_read 0xabcd) [] (fault S1 0 Translation)
unfolding on_worked_walks
refuses_t0sz_48_with_64_kb = (refl, refl)

-- stage 2's T0SZ 15 is out of range, though 49 bits would suit a start at level 0
refuses_stage_2_t0sz_15_with_4_kb
    : Comes (stage2_regs 0x5008f 0x8000) (words_at ((0x8000, 0x9003) ∷ [])) (kernel_read 0x1abc) [] (fault S2 0 Translation)
unfolding on_worked_walks
refuses_stage_2_t0sz_15_with_4_kb = (refl, refl)

-- stage 2's T0SZ 49 is out of range, though 15 bits would suit a start at level 3
refuses_stage_2_t0sz_49_with_4_kb
    : Comes (stage2_regs 0x500f1 0x8000) (words_at ((0x8008, 0x54ff) ∷ [])) (kernel_read 0x1abc) [] (fault S2 0 Translation)
unfolding on_worked_walks
refuses_stage_2_t0sz_49_with_4_kb = (refl, refl)

-- stage 2's T0SZ 11 is below the range of 64 KB
refuses_stage_2_t0sz_11_with_64_kb
    : Comes (stage2_regs 0x6408b 0x10000) (words_at ((0x10000, 0x4fd) ∷ [])) (kernel_read 0x1abc) [] (fault S2 0 Translation)
unfolding on_worked_walks
refuses_stage_2_t0sz_11_with_64_kb = (refl, refl)

-- 44 bits from level 1 would take 32 concatenated tables
refuses_32_tables_with_4_kb
    : Comes (stage2_regs 0x50054 0x8000) (words_at ((0x8000, 0x400004fd) ∷ [])) (kernel_read 0x1abc) [] (fault S2 0 Translation)
unfolding on_worked_walks
refuses_32_tables_with_4_kb = (refl, refl)

-- 30 bits are too few for a start at level 1
refuses_30_bits_from_level_1
    : Comes (stage2_regs 0x50062 0x8000) (words_at ((0x8000, 0x400004fd) ∷ [])) (kernel_read 0x1abc) [] (fault S2 0 Translation)
unfolding on_worked_walks
refuses_30_bits_from_level_1 = (refl, refl)

-- 41 bits of 16 KB pages from level 2 would take 32 concatenated tables
refuses_32_tables_with_16_kb
    : Comes (stage2_regs 0x58057 0x8000) (words_at ((0x8000, 0x4fd) ∷ [])) (kernel_read 0x1abc) [] (fault S2 0 Translation)
unfolding on_worked_walks
refuses_32_tables_with_16_kb = (refl, refl)

-- 36 bits of 16 KB pages are too few for a start at level 1
refuses_36_bits_from_level_1
    : Comes (stage2_regs 0x5809c 0x8000) (words_at ((0x8000, 0xc003) ∷ [])) (kernel_read 0x1abc) [] (fault S2 0 Translation)
unfolding on_worked_walks
refuses_36_bits_from_level_1 = (refl, refl)

-- SL0 11 is invalid with 16 KB
refuses_start_code_3_with_16_kb
    : Comes (stage2_regs 0x580d0 0x8000) (words_at ((0x8000, 0xc003) ∷ [])) (kernel_read 0x1abc) [] (fault S2 0 Translation)
unfolding on_worked_walks
refuses_start_code_3_with_16_kb = (refl, refl)

-- 47 bits of 64 KB pages from level 2 would take 32 concatenated tables
refuses_32_tables_with_64_kb
    : Comes (stage2_regs 0x54051 0x10000) (words_at ((0x10000, 0x4fd) ∷ [])) (kernel_read 0x1abc) [] (fault S2 0 Translation)
unfolding on_worked_walks
refuses_32_tables_with_64_kb = (refl, refl)

-- 29 bits of 64 KB pages are too few for a start at level 2
refuses_29_bits_from_level_2
    : Comes (stage2_regs 0x54063 0x10000) (words_at ((0x10000, 0x4fd) ∷ [])) (kernel_read 0x1abc) [] (fault S2 0 Translation)
unfolding on_worked_walks
refuses_29_bits_from_level_2 = (refl, refl)

-- SL0 11 is invalid with 64 KB
refuses_start_code_3_with_64_kb
    : Comes (stage2_regs 0x540e8 0x10000) (words_at ((0x10000, 0x504ff) ∷ [])) (kernel_read 0xabc) [] (fault S2 0 Translation)
unfolding on_worked_walks
refuses_start_code_3_with_64_kb = (refl, refl)

-- a stage 1 base above the input size of stage 2
bounds_the_place_of_a_descriptor
    : Comes (record nested_regs { ttbr0_el1 = 0x201000 }) (words_at ((0x8008, 0x54ff) ∷ [])) (kernel_read 0x1abc) (base S1 3 0x201000 ∷ [])
    (descriptor_fault 0 Translation)
unfolding on_worked_walks
bounds_the_place_of_a_descriptor = (refl, refl)

-- tables of 16 entries begin at any multiple of 128 bytes, at both stages
aligns_tables_of_16_entries
    : Comes (record (stage1_regs 0x500000030 0x10fe) { mair_el1 = 0x750000; hcr_el2 = 0x1; vtcr_el2 = 0x300f0; vttbr_el2 = 0x80fe })
    (words_at ((0x8088, 0x214ff) ∷ (0x80a8, 0x200000256eb) ∷ (0x210f8, 0x540b) ∷ [])) (kernel_read 0xfabc) (base S1 3 0x1080 ∷
    descent S2 3 0x8080 ((0x8088, 0x214ff) ∷ []) ++ item S1 3 0x210f8 0x540b ∷ descent S2 3 0x8080 ((0x80a8, 0x200000256eb) ∷ []))
    (Mapped 0x20000025abc (rights "--x" "rwx") (normal (wt "+r+w+t") (wt "+w+t")) Osh)
unfolding on_worked_walks
aligns_tables_of_16_entries = (refl, refl)

-- tables of 2 entries begin at any multiple of 16 bytes, at both stages
aligns_tables_of_2_entries
    : Comes (record (stage1_regs 0x50000402f 0x1003e) { mair_el1 = 0xc0000; hcr_el2 = 0x1; vtcr_el2 = 0x5402f; vttbr_el2 = 0x3002e })
    (words_at ((0x30020, 0x504cb) ∷ (0x30028, 0x404ff) ∷ (0x40038, 0x40b) ∷ [])) (kernel_read 0x1abcd) (base S1 3 0x10030 ∷
    descent S2 3 0x30020 ((0x30028, 0x404ff) ∷ []) ++ item S1 3 0x40038 0x40b ∷ descent S2 3 0x30020 ((0x30020, 0x504cb) ∷ []))
    (Mapped 0x5abcd (rights "--x" "rwx") (Device NGRE) Osh)
unfolding on_worked_walks
aligns_tables_of_2_entries = (refl, refl)

-- 16 concatenated tables are aligned as one, and SL2 doesn't count; HA, HD and DBM let a block be written that may not be read
concatenates_16_tables_with_4_kb
    : Comes2 (stage2_regs 0x200650055 0x1f000) (access 0x7ffc0001abc El1 Write false) 1 0x10000 ((0x1fff8, 0x800004001103d) ∷ [])
    (Mapped 0x40001abc (rights "-w-" "-w-") (Device NGnRnE) Osh)
unfolding on_worked_walks
concatenates_16_tables_with_4_kb = (refl, refl)

-- SL0 01 with 16 KB is level 2, where 40 bits take 16 tables; XN 10 lets neither level fetch
concatenates_16_tables_with_16_kb
    : Comes2 (stage2_regs 0x58058 0x7c000) (kernel_read 0xfffe001abc) 2 0x40000 ((0x7fff8, 0x400000040004fd) ∷ [])
    (Mapped 0x4001abc (rights "rw-" "rw-") (Device NGnRnE) Osh)
unfolding on_worked_walks
concatenates_16_tables_with_16_kb = (refl, refl)

-- 16 stage 2 tables with 64 KB and blocks of 512 MB, below a stage 1 block of 4 TB; Outer Shareable wins over Inner
concatenates_16_tables_with_64_kb
    : Comes (record (stage1_regs 0x88002500004010 0x10000) { mair_el1 = 0xff0000; hcr_el2 = 0x1; vtcr_el2 = 0x54052; vttbr_el2 = 0x100000 })
    (words_at ((0x10008, 0x10080000000609) ∷ (0x100000, 0x4fd) ∷ (0x120000, 0x200007f1) ∷ [])) (kernel_read 0xab0004000001abcd)
    (base S1 1 0x10000 ∷ descent S2 2 0x100000 ((0x100000, 0x4fd) ∷ []) ++ item S1 1 0x10008 0x10080000000609 ∷
    descent S2 2 0x100000 ((0x120000, 0x200007f1) ∷ [])) (Mapped 0x2001abcd (rights "--x" "rwx") (normal (wb "+r+w") Nc) Osh)
unfolding on_worked_walks
concatenates_16_tables_with_64_kb = (refl, refl)
