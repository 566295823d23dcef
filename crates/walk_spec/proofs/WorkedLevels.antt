-- Worked walks: words of each level, blocks and runs, and the longest trails.
use Rattle.std.proofs.Common.{ℕ, List, [], ◌∷◌, ◌++◌, true, false, refl}
use Rattle.sysregs.specs.declared.regs.Regs.{Regs}
use Rattle.sysregs.specs.Registers.{zero_regs}
use Rattle.permissions.specs.declared.bits.El.TheVariants.{El0, El1}
use Rattle.permissions.specs.declared.bits.Kind.TheVariants.{Read, Write, Fetch}
use Rattle.attributes.specs.declared.kinds.Cache.TheVariants.{Nc}
use Rattle.attributes.specs.declared.kinds.Device.TheVariants.{NGnRnE}
use Rattle.attributes.specs.declared.kinds.MemType.TheVariants.{Device, Normal}
use Rattle.attributes.specs.declared.kinds.Share.TheVariants.{Nsh, Ish, Osh}
use Rattle.fault_codes.specs.declared.fault.Stage.TheVariants.{S1, S2}
use Rattle.fault_codes.specs.declared.fault.Class.TheVariants.{Translation}
use Rattle.trails.specs.declared.item.Item.{Item}
use Rattle.trails.specs.declared.outcome.Outcome.TheVariants.{Mapped}
use Rattle.walk_spec.proofs.Worked.{on_worked_walks, image, words_at, tables, stage1_regs, stage2_regs, page_regs, nested_regs, access, kernel_read, base}
use Rattle.walk_spec.proofs.Worked.{item, descent, one_page, rights, wb, wt, normal, fault, descriptor_fault, Comes, Comes1, Comes2}

-- four levels to a page
maps_a_page
    : Comes (stage1_regs 0x10 0x1000) (image 0x5000 (tables 0x5403)) (kernel_read 0x40201abc) (descent S1 0 0x1000 (tables 0x5403))
    (Mapped 0x5abc (rights "--x" "rwx") (Device NGnRnE) Osh)
unfolding on_worked_walks
maps_a_page = (refl, refl)

-- a block of 1 GB
maps_a_block
    : Comes (stage1_regs 0x10 0x1000) (image 0x5000 ((0x1000, 0x2003) ∷ (0x2008, 0x40000401) ∷ [])) (kernel_read 0x40201abc)
    (descent S1 0 0x1000 ((0x1000, 0x2003) ∷ (0x2008, 0x40000401) ∷ [])) (Mapped 0x40201abc (rights "--x" "rwx") (Device NGnRnE) Osh)
unfolding on_worked_walks
maps_a_block = (refl, refl)

-- a block at level 0 is invalid with 4 KB
has_no_block_at_level_0
    : Comes (stage1_regs 0x10 0x1000) (image 0x5000 ((0x1000, 0x2001) ∷ [])) (kernel_read 0x40201abc)
    (descent S1 0 0x1000 ((0x1000, 0x2001) ∷ [])) (fault S1 0 Translation)
unfolding on_worked_walks
has_no_block_at_level_0 = (refl, refl)

-- both stages from level 0
abbrev long_regs : Regs
long_regs = record (stage1_regs 0x10 0x1000) { mair_el1 = 0xff; hcr_el2 = 1; vtcr_el2 = 0x50090; vttbr_el2 = 0x8000 }

-- the words of a stage 2 that maps the first pages to themselves, and of stage 1
abbrev long_words : List (ℕ × ℕ)
long_words =
    (0x8000, 0x9003) ∷ (0x9000, 0xa003) ∷ (0xa000, 0xb003) ∷ (0xb008, 0x17ff) ∷ (0xb010, 0x27ff) ∷ (0xb018, 0x37ff) ∷ (0xb020, 0x47ff) ∷
    (0xb028, 0x57ff) ∷ tables 0x5403

-- the five items of stage 2 for a page
abbrev pages : ℕ → ℕ → List Item
pages p v = descent S2 0 0x8000 ((0x8000, 0x9003) ∷ (0x9000, 0xa003) ∷ (0xa000, 0xb003) ∷ (p, v) ∷ [])

-- the longest trail: four levels in each stage
walks_thirty_items
    : Comes long_regs (words_at long_words) (kernel_read 0x40201abc) (base S1 0 0x1000 ∷ pages 0xb008 0x17ff ++ item S1 0 0x1000 0x2003 ∷
    pages 0xb010 0x27ff ++ item S1 1 0x2008 0x3003 ∷ pages 0xb018 0x37ff ++ item S1 2 0x3008 0x4003 ∷ pages 0xb020 0x47ff ++
    item S1 3 0x4008 0x5403 ∷ pages 0xb028 0x57ff) (Mapped 0x5abc (rights "--x" "rwx") (normal (wb "+r+w") (wb "+r+w")) Ish)
unfolding on_worked_walks
walks_thirty_items = (refl, refl)

-- a word whose bit 0 is 0 is invalid, whatever bit 1 is
wants_bit_0 : Comes1 page_regs (kernel_read 0x1abc) 3 0x1000 ((0x1008, 0x5402) ∷ []) (fault S1 3 Translation)
unfolding on_worked_walks
wants_bit_0 = (refl, refl)

-- level 0 of 4 KB has no blocks, also where the access flag is 1
has_no_block_at_level_0_with_4_kb
    : Comes1 (stage1_regs 0x500000010 0x1000) (kernel_read 0x1abc) 0 0x1000 ((0x1000, 0x401) ∷ []) (fault S1 0 Translation)
unfolding on_worked_walks
has_no_block_at_level_0_with_4_kb = (refl, refl)

-- level 1 of 16 KB has no blocks
has_no_block_at_level_1_with_16_kb
    : Comes1 (stage1_regs 0x500008011 0x4000) (kernel_read 0x1002005abc) 1 0x4000 ((0x4008, 0x1000000401) ∷ []) (fault S1 1 Translation)
unfolding on_worked_walks
has_no_block_at_level_1_with_16_kb = (refl, refl)

-- a word that ends in 01 is invalid at level 3
has_no_block_at_level_3 : Comes1 page_regs (kernel_read 0x1abc) 3 0x1000 ((0x1008, 0x5401) ∷ []) (fault S1 3 Translation)
unfolding on_worked_walks
has_no_block_at_level_3 = (refl, refl)

-- the same at stage 2, on the way to a descriptor
has_no_stage_2_block_at_level_3
    : Comes nested_regs (words_at ((0x8008, 0x214fd) ∷ (0x21008, 0x5403) ∷ [])) (kernel_read 0x1abc)
    (base S1 3 0x1000 ∷ one_page 0x8008 0x214fd) (descriptor_fault 3 Translation)
unfolding on_worked_walks
has_no_stage_2_block_at_level_3 = (refl, refl)

-- level 0 of stage 2 with 4 KB has no blocks
has_no_stage_2_block_at_level_0
    : Comes2 (stage2_regs 0x50090 0x8000) (kernel_read 0x1abc) 0 0x8000 ((0x8000, 0x4fd) ∷ []) (fault S2 0 Translation)
unfolding on_worked_walks
has_no_stage_2_block_at_level_0 = (refl, refl)

-- address bits below a block's size don't count, nor does a misplaced Contiguous bit at level 1; HA, HD and DBM let a read-only block be written
drops_bits_below_a_block
    : Comes1 (record zero_regs { sctlr_el1 = 0x80001; tcr_el1 = 0x18000000019; ttbr0_el1 = 0x1000; mair_el1 = 0x58440081e6bf044 })
    (access 0x40201abc El1 Write false) 1 0x1000 ((0x1008, 0x180000c00117c1) ∷ []) (Mapped 0xc0201abc (rights "rw-" "rw-") (normal Nc Nc) Osh)
unfolding on_worked_walks
drops_bits_below_a_block = (refl, refl)

-- 40 bits of the high side start at level 0, and the permission bits of three tables join
walks_40_bits_from_level_0
    : Comes1 (record zero_regs { sctlr_el1 = 0x1; tcr_el1 = 0x58018002b; ttbr1_el1 = 0x1010; mair_el1 = 0x58440081e6bf044 })
    (access 0xffffff8040201abc El0 Read true) 0 0x1010
    ((0x1018, 0x800000000002003) ∷ (0x2008, 0x4000000000003003) ∷ (0x3008, 0x1000000000004003) ∷ (0x4008, 0x545b) ∷ [])
    (Mapped 0x5abc (rights "r--" "r--") (normal (wt "") Nc) Nsh)
unfolding on_worked_walks
walks_40_bits_from_level_0 = (refl, refl)

-- 48 bits of 16 KB pages start at level 0, and a table's address at bit 14; a read-only page keeps its fetch under WXN and PAN
walks_48_bits_with_16_kb
    : Comes1 (record zero_regs { sctlr_el1 = 0x80001; tcr_el1 = 0x54010002b; ttbr1_el1 = 0x4000; mair_el1 = 0x58440081e6bf044 })
    (access 0xffff801002005abc El1 Fetch true) 0 0x4000
    ((0x4008, 0xb003) ∷ (0x8008, 0xc003) ∷ (0xc008, 0x10003) ∷ (0x10008, 0x100000000144df) ∷ [])
    (Mapped 0x15abc (rights "r-x" "r-x") (Device NGnRnE) Osh)
unfolding on_worked_walks
walks_48_bits_with_16_kb = (refl, refl)

-- blocks of 32 MB at both stages, stage 2 from level 1 with 37 bits; EL1 may not fetch under WXN, and stage 2's inner half takes the tag
maps_blocks_of_32_mb
    : Comes (record (stage2_regs 0x5809b 0x8000) { sctlr_el1 = 0x80001; tcr_el1 = 0x50000801c; ttbr0_el1 = 0x4000; mair_el1 = 0xf00000 })
    (words_at ((0x4008, 0x10001004000709) ∷ (0x8000, 0xf003) ∷ (0x8008, 0x10003) ∷ (0xc000, 0x4fd) ∷ (0x10010, 0x80004f9) ∷ []))
    (access 0x2001abc El1 Write false) (base S1 2 0x4000 ∷ descent S2 1 0x8000 ((0x8000, 0xf003) ∷ (0xc000, 0x4fd) ∷ []) ++
    item S1 2 0x4008 0x10001004000709 ∷ descent S2 1 0x8000 ((0x8008, 0x10003) ∷ (0x10010, 0x80004f9) ∷ []))
    (Mapped 0x8001abc (rights "--x" "rw-") (normal (wb "+r+w") (wt "+r+w")) Ish)
unfolding on_worked_walks
maps_blocks_of_32_mb = (refl, refl)

-- an address keeps its offset in a run of stage 2; a stage 1 run that exceeds the input range doesn't count
goes_through_a_stage_2_run
    : Comes (record (stage1_regs 0x500000028 0x11040) { mair_el1 = 0xbf0000; hcr_el2 = 0x1; vtcr_el2 = 0x500e7; vttbr_el2 = 0x10000 })
    (words_at ((0x10088, 0x100000000314ff) ∷ (0x18008, 0x254df) ∷ (0x31040, 0x10000001000509) ∷ [])) (kernel_read 0x1abc) (base S1 2 0x11040 ∷
    descent S2 3 0x10000 ((0x10088, 0x100000000314ff) ∷ []) ++ item S1 2 0x31040 0x10000001000509 ∷
    descent S2 3 0x10000 ((0x18008, 0x254df) ∷ [])) (Mapped 0x25abc (rights "--x" "rwx") (normal Nc (wb "+r+w")) Nsh)
unfolding on_worked_walks
goes_through_a_stage_2_run = (refl, refl)

-- every bit of the registers and words that no rule names is 1; TG0 11 is read as 4 KB at both stages
ignores_reserved_bits
    : Comes (record zero_regs {
      sctlr_el1 = 0xfdfffffffdf7efff;
      tcr_el1 = 0xf667f80d3f00ff6b;
      ttbr0_el1 = 0x1001;
      mair_el1 = 0xf00000;
      hcr_el2 = 0xffffbffcf7ffeffb;
      vtcr_el2 = 0xfffffffcff94ffeb;
      vttbr_el2 = 0x8001;
    })
    (words_at ((0x8008, 0xff87000000021cff) ∷ (0x8028, 0xff87080000025fff) ∷ (0x21008, 0xff87000000005f2b) ∷ [])) (kernel_read 0x1abc)
    (base S1 3 0x1000 ∷ one_page 0x8008 0xff87000000021cff ++ item S1 3 0x21008 0xff87000000005f2b ∷ one_page 0x8028 0xff87080000025fff)
    (Mapped 0x80000025abc (rights "--x" "rwx") (Normal (wb "+r+w") (wb "+r+w") true) Ish)
unfolding on_worked_walks
ignores_reserved_bits = (refl, refl)

-- the longest trail again, where stage 2 moves every page
walks_thirty_items_under_moved_tables
    : Comes (record long_regs { tcr_el1 = 0x500000010; mair_el1 = 0xf00000 }) (words_at ((0x8000, 0x9003) ∷ (0x9000, 0xa003) ∷
    (0xa000, 0xb003) ∷ (0xb008, 0x414ff) ∷ (0xb010, 0x424ff) ∷ (0xb018, 0x434ff) ∷ (0xb020, 0x444ff) ∷ (0xb028, 0x457ef) ∷ (0x41000, 0x2003) ∷
    (0x42008, 0x3003) ∷ (0x43008, 0x4003) ∷ (0x44008, 0x570b) ∷ [])) (kernel_read 0x40201abc) (base S1 0 0x1000 ∷ pages 0xb008 0x414ff ++
    item S1 0 0x41000 0x2003 ∷ pages 0xb010 0x424ff ++ item S1 1 0x42008 0x3003 ∷ pages 0xb018 0x434ff ++ item S1 2 0x43008 0x4003 ∷
    pages 0xb020 0x444ff ++ item S1 3 0x44008 0x570b ∷ pages 0xb028 0x457ef)
    (Mapped 0x45abc (rights "--x" "rwx") (normal (wt "+r+w") (wb "+r+w")) Ish)
unfolding on_worked_walks
walks_thirty_items_under_moved_tables = (refl, refl)
