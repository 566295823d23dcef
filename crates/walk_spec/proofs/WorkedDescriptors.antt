-- Worked walks: stage 1 descriptors through stage 2, and words that memory lacks.
use Rattle.std.proofs.Common.{ℕ, List, [], ◌∷◌, ◌++◌, true, false, refl}
use Rattle.sysregs.specs.declared.regs.Regs.{Regs}
use Rattle.permissions.specs.declared.bits.El.TheVariants.{El1}
use Rattle.permissions.specs.declared.bits.Kind.TheVariants.{Read, Write}
use Rattle.attributes.specs.declared.kinds.Device.TheVariants.{NGnRE, GRE}
use Rattle.attributes.specs.declared.kinds.MemType.TheVariants.{Device}
use Rattle.attributes.specs.declared.kinds.Share.TheVariants.{Osh}
use Rattle.fault_codes.specs.declared.fault.Stage.TheVariants.{S1, S2}
use Rattle.fault_codes.specs.declared.fault.Class.TheVariants.{Translation, AddressSize, AccessFlag, Permission}
use Rattle.trails.specs.declared.item.Item.{Item}
use Rattle.trails.specs.declared.outcome.Outcome.TheVariants.{Mapped}
use Rattle.walk_spec.proofs.Worked.{on_worked_walks, words_at, tables, stage1_regs, page_regs, nested_regs, access, kernel_read, base, item}
use Rattle.walk_spec.proofs.Worked.{descent, one_page, rights, fault, descriptor_fault, absent, descriptor_absent, Comes}

-- an empty memory lacks the first word
lacks_the_first_word : Comes (stage1_regs 0x10 0x1000) (words_at []) (kernel_read 0x40201abc) (base S1 0 0x1000 ∷ []) (absent S1 0 0x1000)
unfolding on_worked_walks
lacks_the_first_word = (refl, refl)

-- both stages, with a stage 2 from level 1
abbrev both_regs : ℕ → ℕ → Regs
both_regs hcr mair = record (stage1_regs 0x200000010 0x1000) { mair_el1 = mair; hcr_el2 = hcr; vtcr_el2 = 0x20058; vttbr_el2 = 0x8000 }

-- the items of stage 2 for an IPA below 1 GB
abbrev block : ℕ → List Item
block value = descent S2 1 0x8000 ((0x8000, value) ∷ [])

-- stage 2 doesn't map the place of a stage 1 descriptor
faults_for_a_descriptor
    : Comes (both_regs 1 0) (words_at ((0x8000, 0x0) ∷ [])) (kernel_read 0x40201abc) (base S1 0 0x1000 ∷ block 0x0)
    (descriptor_fault 1 Translation)
unfolding on_worked_walks
faults_for_a_descriptor = (refl, refl)

-- four levels to a page, each word through stage 2
combines_both_stages
    : Comes (both_regs 1 0xff) (words_at ((0x8000, 0x4c5) ∷ tables 0x5403)) (kernel_read 0x40201abc) (base S1 0 0x1000 ∷ block 0x4c5 ++
    item S1 0 0x1000 0x2003 ∷ block 0x4c5 ++ item S1 1 0x2008 0x3003 ∷ block 0x4c5 ++ item S1 2 0x3008 0x4003 ∷ block 0x4c5 ++
    item S1 3 0x4008 0x5403 ∷ block 0x4c5) (Mapped 0x5abc (rights "--x" "rwx") (Device NGnRE) Osh)
unfolding on_worked_walks
combines_both_stages = (refl, refl)

-- with HCR_EL2.PTW a descriptor may not be read from Device memory
protects_the_tables
    : Comes (both_regs 5 0xff) (words_at ((0x8000, 0x4c5) ∷ tables 0x5403)) (kernel_read 0x40201abc) (base S1 0 0x1000 ∷ block 0x4c5)
    (descriptor_fault 1 Permission)
unfolding on_worked_walks
protects_the_tables = (refl, refl)

-- a stage 2 page whose access flag is 0, at the place of a descriptor
wants_the_access_flag_for_a_descriptor
    : Comes nested_regs (words_at ((0x8008, 0x210ff) ∷ [])) (kernel_read 0x1abc) (base S1 3 0x1000 ∷ one_page 0x8008 0x210ff)
    (descriptor_fault 3 AccessFlag)
unfolding on_worked_walks
wants_the_access_flag_for_a_descriptor = (refl, refl)

-- stage 2 with 32 bits of output maps the place of a descriptor above them
bounds_the_page_of_a_descriptor
    : Comes (record nested_regs { vtcr_el2 = 0xeb }) (words_at ((0x8008, 0x1000214ff) ∷ [])) (kernel_read 0x1abc)
    (base S1 3 0x1000 ∷ one_page 0x8008 0x1000214ff) (descriptor_fault 3 AddressSize)
unfolding on_worked_walks
bounds_the_page_of_a_descriptor = (refl, refl)

-- stage 2 doesn't let the place of a descriptor be read
wants_a_readable_descriptor
    : Comes nested_regs (words_at ((0x8008, 0x214bf) ∷ (0x21008, 0x5403) ∷ [])) (kernel_read 0x1abc)
    (base S1 3 0x1000 ∷ one_page 0x8008 0x214bf) (descriptor_fault 3 Permission)
unfolding on_worked_walks
wants_a_readable_descriptor = (refl, refl)

-- PTW keeps descriptors from Device memory, here of a block
protects_the_tables_by_a_block
    : Comes (record nested_regs { hcr_el2 = 0x5; vtcr_el2 = 0x50022 }) (words_at ((0x1008, 0x5403) ∷ (0x8000, 0x4cd) ∷ [])) (kernel_read 0x1abc)
    (base S1 3 0x1000 ∷ descent S2 2 0x8000 ((0x8000, 0x4cd) ∷ [])) (descriptor_fault 2 Permission)
unfolding on_worked_walks
protects_the_tables_by_a_block = (refl, refl)

-- PTW allows descriptors in Non-cacheable memory, and the output in Device memory; without EPAN a page that EL0 may only fetch is none of PAN's
lets_the_output_be_device
    : Comes (record nested_regs { mair_el1 = 0xff0000; hcr_el2 = 0x5; vtcr_el2 = 0xeb })
    (words_at ((0x8008, 0x214d7) ∷ (0x8028, 0x800257cf) ∷ (0x21008, 0x570b) ∷ [])) (access 0x1abc El1 Read true)
    (base S1 3 0x1000 ∷ one_page 0x8008 0x214d7 ++ item S1 3 0x21008 0x570b ∷ one_page 0x8028 0x800257cf)
    (Mapped 0x80025abc (rights "--x" "rwx") (Device GRE) Osh)
unfolding on_worked_walks
lets_the_output_be_device = (refl, refl)

-- a descriptor is read even for a write, so a read-only place serves; without PTW Device memory does
reads_descriptors_for_a_write
    : Comes (record nested_regs { mair_el1 = 0x40000; vtcr_el2 = 0x100eb })
    (words_at ((0x8008, 0x40000000021443) ∷ (0x8028, 0x8000254cf) ∷ (0x21008, 0x540b) ∷ [])) (access 0x1abc El1 Write false)
    (base S1 3 0x1000 ∷ one_page 0x8008 0x40000000021443 ++ item S1 3 0x21008 0x540b ∷ one_page 0x8028 0x8000254cf)
    (Mapped 0x800025abc (rights "--x" "rwx") (Device NGnRE) Osh)
unfolding on_worked_walks
reads_descriptors_for_a_write = (refl, refl)

-- stage 2 doesn't map the output: a fault without the mark
faults_for_the_output
    : Comes nested_regs (words_at ((0x8008, 0x214ff) ∷ (0x8028, 0x0) ∷ (0x21008, 0x5403) ∷ [])) (kernel_read 0x1abc)
    (base S1 3 0x1000 ∷ one_page 0x8008 0x214ff ++ item S1 3 0x21008 0x5403 ∷ one_page 0x8028 0x0) (fault S2 3 Translation)
unfolding on_worked_walks
faults_for_the_output = (refl, refl)

-- a stage 1 word that memory lacks
lacks_a_stage_1_word : Comes page_regs (words_at ((0x1000, 0x5403) ∷ [])) (kernel_read 0x1abc) (base S1 3 0x1000 ∷ []) (absent S1 3 0x1008)
unfolding on_worked_walks
lacks_a_stage_1_word = (refl, refl)

-- a stage 1 word that memory lacks is named by its physical place
names_a_physical_place
    : Comes nested_regs (words_at ((0x1008, 0x5403) ∷ (0x8008, 0x214ff) ∷ [])) (kernel_read 0x1abc) (base S1 3 0x1000 ∷ one_page 0x8008 0x214ff)
    (absent S1 3 0x21008)
unfolding on_worked_walks
names_a_physical_place = (refl, refl)

-- a stage 2 word that memory lacks on the way to a descriptor
lacks_a_word_for_a_descriptor
    : Comes nested_regs (words_at ((0x1008, 0x5403) ∷ [])) (kernel_read 0x1abc) (base S1 3 0x1000 ∷ base S2 3 0x8000 ∷ [])
    (descriptor_absent 3 0x8008)
unfolding on_worked_walks
lacks_a_word_for_a_descriptor = (refl, refl)

-- a stage 2 word that memory lacks on the way of the output
lacks_a_word_for_the_output
    : Comes nested_regs (words_at ((0x8008, 0x214ff) ∷ (0x21008, 0x5403) ∷ [])) (kernel_read 0x1abc)
    (base S1 3 0x1000 ∷ one_page 0x8008 0x214ff ++ item S1 3 0x21008 0x5403 ∷ base S2 3 0x8000 ∷ []) (absent S2 3 0x8028)
unfolding on_worked_walks
lacks_a_word_for_the_output = (refl, refl)
