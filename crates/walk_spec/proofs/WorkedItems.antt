-- Worked walks on given items: run-mates, and lists that end too early.
use Rattle.std.proofs.Common.{ℕ, List, [], ◌∷◌, ◌++◌, ◌≡◌, refl}
use Rattle.sysregs.specs.declared.regs.Regs.{Regs}
use Rattle.attributes.specs.declared.kinds.Device.TheVariants.{NGnRnE}
use Rattle.attributes.specs.declared.kinds.MemType.TheVariants.{Device}
use Rattle.attributes.specs.declared.kinds.Share.TheVariants.{Osh}
use Rattle.fault_codes.specs.declared.fault.Stage.TheVariants.{S1, S2}
use Rattle.trails.specs.declared.item.Item.{Item}
use Rattle.walk_spec.specs.Ask.{bad}
use Rattle.walk_spec.proofs.Worked.{on_worked_walks, tables, stage1_regs, stage2_regs, base, item, descent, rights, stands, lands, wants_word}

-- the word of one page of a contiguous run serves for another page of the run
serves_a_run_mate
    : stands (stage1_regs 0x10 0x1000) 0x40202000 (descent S1 0 0x1000 (tables 0x10000000011403)) ≡ lands 16 0x12000 (rights "--x" "rwx")
    (Device NGnRnE) Osh
unfolding on_worked_walks
serves_a_run_mate = refl

-- a Contiguous bit that doesn't count: the neighbour's word does not fit
refuses_a_misplaced_run : stands (stage1_regs 0x10 0x1000) 0x40202000 (descent S1 0 0x1000 (tables 0x10000000015403)) ≡ bad
unfolding on_worked_walks
refuses_a_misplaced_run = refl

-- a list that ends too early
needs_the_next_word
    : stands (stage1_regs 0x10 0x1000) 0x40201abc (descent S1 0 0x1000 ((0x1000, 0x2003) ∷ [])) ≡ wants_word S1 2 0x2008 0x2000 0x40201abc
unfolding on_worked_walks
needs_the_next_word = refl

-- any aligned base fits, and not that of the registers alone
takes_another_base : stands (stage1_regs 0x10 0x1000) 0x40201abc (base S1 0 0x7000 ∷ []) ≡ wants_word S1 3 0x7000 0x7000 0x40201abc
unfolding on_worked_walks
takes_another_base = refl

-- a base within a table of this size does not fit
refuses_a_misaligned_base : stands (stage1_regs 0x10 0x1000) 0x40201abc (base S1 0 0x7800 ∷ []) ≡ bad
unfolding on_worked_walks
refuses_a_misaligned_base = refl

-- nor one of another start level
refuses_a_base_of_another_level : stands (stage1_regs 0x10 0x1000) 0x40201abc (base S1 1 0x7000 ∷ []) ≡ bad
unfolding on_worked_walks
refuses_a_base_of_another_level = refl

-- nor one of the other stage
refuses_a_base_of_the_other_stage : stands (stage1_regs 0x10 0x1000) 0x40201abc (base S2 0 0x7000 ∷ []) ≡ bad
unfolding on_worked_walks
refuses_a_base_of_the_other_stage = refl

-- nor one of more than 52 bits
refuses_a_base_above_52_bits : stands (stage1_regs 0x10 0x1000) 0x40201abc (base S1 0 0x10000000000000 ∷ []) ≡ bad
unfolding on_worked_walks
refuses_a_base_above_52_bits = refl

-- a word of another place does not fit
refuses_a_word_of_another_place : stands (stage1_regs 0x10 0x1000) 0x40201abc (descent S1 0 0x1000 ((0x1008, 0x2003) ∷ [])) ≡ bad
unfolding on_worked_walks
refuses_a_word_of_another_place = refl

-- nor one of another level
refuses_a_word_of_another_level : stands (stage1_regs 0x10 0x1000) 0x40201abc (base S1 0 0x1000 ∷ item S1 1 0x1000 0x2003 ∷ []) ≡ bad
unfolding on_worked_walks
refuses_a_word_of_another_level = refl

-- nor one of the other stage
refuses_a_word_of_the_other_stage : stands (stage1_regs 0x10 0x1000) 0x40201abc (base S1 0 0x1000 ∷ item S2 0 0x1000 0x2003 ∷ []) ≡ bad
unfolding on_worked_walks
refuses_a_word_of_the_other_stage = refl

-- a stage 2 of 25 bits from level 3, with 16 concatenated tables at 0x10000
abbrev run_regs : Regs
run_regs = stage2_regs 0x500e7 0x10000

-- the items of this stage 2 whose word is that of the sixth page of the run from IPA 0x30000
abbrev sixth : ℕ → List Item
sixth value = descent S2 3 0x10000 ((0x101a8, value) ∷ [])

-- it serves for the third page of a run of stage 2
serves_a_stage_2_run_mate : stands run_regs 0x32abc (sixth 0x100000000754ff) ≡ lands 16 0x72abc (rights "rwx" "rwx") (Device NGnRnE) Osh
unfolding on_worked_walks
serves_a_stage_2_run_mate = refl

-- its Contiguous bit doesn't count where its own output is that of the fifth page
refuses_a_misplaced_stage_2_run : stands run_regs 0x32abc (sixth 0x100000000744ff) ≡ bad
unfolding on_worked_walks
refuses_a_misplaced_stage_2_run = refl

-- without the Contiguous bit it serves for no other page
refuses_a_word_without_the_bit : stands run_regs 0x32abc (sixth 0x754ff) ≡ bad
unfolding on_worked_walks
refuses_a_word_without_the_bit = refl

-- it doesn't serve for the last page of the run before
refuses_a_stage_2_word_of_another_run : stands run_regs 0x2fabc (sixth 0x100000000754ff) ≡ bad
unfolding on_worked_walks
refuses_a_stage_2_word_of_another_run = refl

-- it serves for the place of a stage 1 descriptor, and then for the output of stage 1; the piece that both map is one page
serves_descriptor_and_output
    : stands (record run_regs { sctlr_el1 = 1; tcr_el1 = 0x50000002b; ttbr0_el1 = 0x31000 }) 0x1abc
    (base S1 3 0x31000 ∷ sixth 0x100000000754ff ++ item S1 3 0x71008 0x32403 ∷ sixth 0x100000000754ff) ≡ lands 12 0x72abc (rights "--x" "rwx")
    (Device NGnRnE) Osh
unfolding on_worked_walks
serves_descriptor_and_output = refl

-- a list that ends with the base of stage 2
needs_the_next_stage_2_word : stands run_regs 0x32abc (base S2 3 0x10000 ∷ []) ≡ wants_word S2 0 0x10190 0x10000 0x32abc
unfolding on_worked_walks
needs_the_next_stage_2_word = refl
