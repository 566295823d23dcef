-- Worked walks: the access flag, rights, and who may read, write and fetch.
use Rattle.std.proofs.Common.{[], ◌∷◌, ◌++◌, true, false, refl}
use Rattle.permissions.specs.declared.bits.El.TheVariants.{El0, El1}
use Rattle.permissions.specs.declared.bits.Kind.TheVariants.{Read, Write, Fetch}
use Rattle.attributes.specs.declared.kinds.Device.TheVariants.{NGRE}
use Rattle.attributes.specs.declared.kinds.MemType.TheVariants.{Device}
use Rattle.attributes.specs.declared.kinds.Share.TheVariants.{Nsh, Osh}
use Rattle.fault_codes.specs.declared.fault.Stage.TheVariants.{S1, S2}
use Rattle.fault_codes.specs.declared.fault.Class.TheVariants.{AccessFlag, Permission}
use Rattle.trails.specs.declared.outcome.Outcome.TheVariants.{Mapped}
use Rattle.walk_spec.proofs.Worked.{on_worked_walks, image, words_at, tables, stage1_regs, stage2_regs, page_regs, nested_regs, access, kernel_read}
use Rattle.walk_spec.proofs.Worked.{base, item, descent, one_page, rights, wb, normal, fault, Comes, Comes1, Comes2, user_regs}

-- with PAN, EL1 may not read what EL0 may
guards_user_pages
    : Comes user_regs (image 0x5000 (tables 0x60000000005f43)) (access 0x40201abc El1 Read true) (descent S1 0 0x1000 (tables 0x60000000005f43))
    (fault S1 3 Permission)
unfolding on_worked_walks
guards_user_pages = (refl, refl)

-- a kernel page from which EL0 may fetch
lets_el0_fetch
    : Comes user_regs (image 0x5000 (tables 0x5403)) (access 0x40201abc El0 Fetch false) (descent S1 0 0x1000 (tables 0x5403))
    (Mapped 0x5abc (rights "--x" "rwx") (normal (wb "+r+w") (wb "+r+w")) Nsh)
unfolding on_worked_walks
lets_el0_fetch = (refl, refl)

-- the same page, which EL0 may not read
keeps_el0_from_reading
    : Comes user_regs (image 0x5000 (tables 0x5403)) (access 0x40201abc El0 Read false) (descent S1 0 0x1000 (tables 0x5403))
    (fault S1 3 Permission)
unfolding on_worked_walks
keeps_el0_from_reading = (refl, refl)

-- a page that EL0 may write, from which EL1 may not fetch
keeps_el1_from_fetching
    : Comes user_regs (image 0x5000 (tables 0x5443)) (access 0x40201abc El1 Fetch false) (descent S1 0 0x1000 (tables 0x5443))
    (fault S1 3 Permission)
unfolding on_worked_walks
keeps_el1_from_fetching = (refl, refl)

-- a page whose access flag is 0
wants_the_access_flag
    : Comes (stage1_regs 0x10 0x1000) (image 0x5000 (tables 0x5003)) (kernel_read 0x40201abc) (descent S1 0 0x1000 (tables 0x5003))
    (fault S1 3 AccessFlag)
unfolding on_worked_walks
wants_the_access_flag = (refl, refl)

-- the access flag counts before rights
wants_the_access_flag_before_rights
    : Comes1 page_regs (access 0x1abc El0 Read false) 3 0x1000 ((0x1008, 0x5003) ∷ []) (fault S1 3 AccessFlag)
unfolding on_worked_walks
wants_the_access_flag_before_rights = (refl, refl)

-- stage 1's HA is none of stage 2's: a stage 2 page whose access flag is 0
wants_the_stage_2_access_flag
    : Comes2 (record (stage2_regs 0x500eb 0x8000) { tcr_el1 = 0x850000002b }) (kernel_read 0x1abc) 3 0x8000 ((0x8008, 0x50ff) ∷ [])
    (fault S2 3 AccessFlag)
unfolding on_worked_walks
wants_the_stage_2_access_flag = (refl, refl)

-- HD without HA lets nothing be written
wants_ha_for_dirty_pages
    : Comes1 (stage1_regs 0x1050000002b 0x1000) (access 0x1abc El0 Write false) 3 0x1000 ((0x1008, 0x80000000054c3) ∷ [])
    (fault S1 3 Permission)
unfolding on_worked_walks
wants_ha_for_dirty_pages = (refl, refl)

-- HA without HD lets nothing be written
wants_hd_for_dirty_pages
    : Comes1 (stage1_regs 0x850000002b 0x1000) (access 0x1abc El1 Write false) 3 0x1000 ((0x1008, 0x80000000054c3) ∷ []) (fault S1 3 Permission)
unfolding on_worked_walks
wants_hd_for_dirty_pages = (refl, refl)

-- HA and HD without DBM let nothing be written; the Contiguous bit is no DBM
wants_dbm_for_dirty_pages
    : Comes1 (stage1_regs 0x1850000002b 0x1000) (access 0x1abc El1 Write false) 3 0x1000 ((0x1008, 0x10000000005483) ∷ [])
    (fault S1 3 Permission)
unfolding on_worked_walks
wants_dbm_for_dirty_pages = (refl, refl)

-- DBM doesn't undo the read-only bit of a table
keeps_a_table_read_only
    : Comes1 (stage1_regs 0x18500000022 0x1000) (access 0x1abc El1 Write false) 2 0x1000
    ((0x1000, 0x4000000000002003) ∷ (0x2008, 0x8000000005483) ∷ []) (fault S1 3 Permission)
unfolding on_worked_walks
keeps_a_table_read_only = (refl, refl)

-- stage 2's HD without its HA, though stage 1 has HA
wants_stage_2_ha_for_dirty_pages
    : Comes2 (record (stage2_regs 0x4500eb 0x8000) { tcr_el1 = 0x850000002b }) (access 0x1abc El1 Write false) 3 0x8000
    ((0x8008, 0x800000000547f) ∷ []) (fault S2 3 Permission)
unfolding on_worked_walks
wants_stage_2_ha_for_dirty_pages = (refl, refl)

-- stage 2's HA without its HD, though stage 1 has both
wants_stage_2_hd_for_dirty_pages
    : Comes2 (record (stage2_regs 0x2500eb 0x8000) { tcr_el1 = 0x1850000002b }) (access 0x1abc El1 Write false) 3 0x8000
    ((0x8008, 0x800000000547f) ∷ []) (fault S2 3 Permission)
unfolding on_worked_walks
wants_stage_2_hd_for_dirty_pages = (refl, refl)

-- stage 2's HA and HD without DBM
wants_stage_2_dbm_for_dirty_pages
    : Comes2 (stage2_regs 0x6500eb 0x8000) (access 0x1abc El1 Write false) 3 0x8000 ((0x8008, 0x1000000000547f) ∷ []) (fault S2 3 Permission)
unfolding on_worked_walks
wants_stage_2_dbm_for_dirty_pages = (refl, refl)

-- a permission fault has the level of the leaf
faults_at_the_level_of_a_block
    : Comes1 (stage1_regs 0x500000019 0x1000) (access 0x40201abc El0 Read false) 1 0x1000 ((0x1008, 0x2003) ∷ (0x2008, 0x400401) ∷ [])
    (fault S1 2 Permission)
unfolding on_worked_walks
faults_at_the_level_of_a_block = (refl, refl)

-- and that of the leaf of stage 2, if stage 2 refuses
faults_at_the_level_of_a_stage_2_block
    : Comes2 (stage2_regs 0x50061 0x8000) (access 0x40201abc El1 Write false) 1 0x8000 ((0x8008, 0x9003) ∷ (0x9008, 0x40047d) ∷ [])
    (fault S2 2 Permission)
unfolding on_worked_walks
faults_at_the_level_of_a_stage_2_block = (refl, refl)

-- stage 1 refuses before its output goes through stage 2
judges_before_the_output_is_translated
    : Comes nested_regs (words_at ((0x8008, 0x214ff) ∷ (0x21008, 0x5403) ∷ [])) (access 0x1abc El0 Read false)
    (base S1 3 0x1000 ∷ one_page 0x8008 0x214ff ++ item S1 3 0x21008 0x5403 ∷ []) (fault S1 3 Permission)
unfolding on_worked_walks
judges_before_the_output_is_translated = (refl, refl)

-- EL0 may not write a page of EL1
keeps_el0_from_writing : Comes1 page_regs (access 0x1abc El0 Write false) 3 0x1000 ((0x1008, 0x5403) ∷ []) (fault S1 3 Permission)
unfolding on_worked_walks
keeps_el0_from_writing = (refl, refl)

-- under UXN EL0 may read and not fetch
keeps_el0_from_fetching
    : Comes1 page_regs (access 0x1abc El0 Fetch false) 3 0x1000 ((0x1008, 0x400000000054c3) ∷ []) (fault S1 3 Permission)
unfolding on_worked_walks
keeps_el0_from_fetching = (refl, refl)

-- under PXN EL1 may read and not fetch
keeps_el1_from_fetching_with_pxn
    : Comes1 page_regs (access 0x1abc El1 Fetch false) 3 0x1000 ((0x1008, 0x200000000054c3) ∷ []) (fault S1 3 Permission)
unfolding on_worked_walks
keeps_el1_from_fetching_with_pxn = (refl, refl)

-- PAN keeps EL1 from a write too
guards_user_pages_from_writes : Comes1 page_regs (access 0x1abc El1 Write true) 3 0x1000 ((0x1008, 0x5443) ∷ []) (fault S1 3 Permission)
unfolding on_worked_walks
guards_user_pages_from_writes = (refl, refl)

-- with EPAN, PAN covers a page that EL0 may only fetch
guards_pages_that_el0_may_fetch
    : Comes1 (record page_regs { sctlr_el1 = 0x200000000000001 }) (access 0x1abc El1 Read true) 3 0x1000 ((0x1008, 0x5403) ∷ [])
    (fault S1 3 Permission)
unfolding on_worked_walks
guards_pages_that_el0_may_fetch = (refl, refl)

-- with EPAN, PAN covers a page that EL0 may read and not fetch
guards_pages_that_el0_may_read
    : Comes1 (record page_regs { sctlr_el1 = 0x200000000000001 }) (access 0x1abc El1 Read true) 3 0x1000 ((0x1008, 0x400000000054c3) ∷ [])
    (fault S1 3 Permission)
unfolding on_worked_walks
guards_pages_that_el0_may_read = (refl, refl)

-- PAN and EPAN see the rights that tables leave: with APTable and UXNTable EL0 has none, so EL1 may read
guards_by_what_tables_leave
    : Comes
    (record (stage2_regs 0x58027 0x8000) { sctlr_el1 = 0x200000000000001; tcr_el1 = 0x500000022; ttbr0_el1 = 0x1000; mair_el1 = 0xff0000 })
    (words_at ((0x8000, 0x204ff) ∷ (0x8008, 0x244ff) ∷ (0x21000, 0x3000000000002003) ∷ (0x22008, 0x544b) ∷ [])) (access 0x1abc El1 Read true)
    (base S1 2 0x1000 ∷ one_page 0x8000 0x204ff ++ item S1 2 0x21000 0x3000000000002003 ∷ one_page 0x8000 0x204ff ++ item S1 3 0x22008 0x544b ∷
    one_page 0x8008 0x244ff) (Mapped 0x25abc (rights "---" "rwx") (normal (wb "+r+w") (wb "+r+w")) Nsh)
unfolding on_worked_walks
guards_by_what_tables_leave = (refl, refl)

-- HPD0 drops the permission bits of tables
drops_the_bits_of_tables
    : Comes1 (record (stage1_regs 0x20500000022 0x1000) { mair_el1 = 0x58440081e6bf044 }) (access 0x1abc El0 Write false) 2 0x1000
    ((0x1000, 0x7800000000002003) ∷ (0x2008, 0x5753) ∷ []) (Mapped 0x5abc (rights "rwx" "rw-") (Device NGRE) Osh)
unfolding on_worked_walks
drops_the_bits_of_tables = (refl, refl)
