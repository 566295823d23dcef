-- Lists of items on which each law speaks, computed by the checker from the definitions alone.
use Rattle.std.proofs.Common.{◌≡◌, ℕ, List, [], ◌∷◌, ◌++◌, true, false, refl, pos}
use Rattle.std.specs.Prelude.{Some, None}
use Rattle.sysregs.specs.declared.regs.Config.{Config}
use Rattle.sysregs.specs.declared.regs.Side.TheVariants.{Low}
use Rattle.sysregs.specs.Registers.{config_of}
use Rattle.permissions.specs.declared.bits.El.TheVariants.{El0}
use Rattle.permissions.specs.declared.bits.Kind.TheVariants.{Write}
use Rattle.attributes.specs.declared.kinds.Device.TheVariants.{NGnRE}
use Rattle.attributes.specs.declared.kinds.MemType.TheVariants.{Device}
use Rattle.attributes.specs.declared.kinds.Share.TheVariants.{Ish, Osh}
use Rattle.fault_codes.specs.declared.fault.Stage.TheVariants.{S1, S2}
use Rattle.trails.specs.declared.item.Item.{Item}
use Rattle.trails.specs.declared.outcome.Access.{Access}
use Rattle.walk_spec.specs.declared.leaf.Leaf2.{Leaf2}
use Rattle.walk_spec.specs.Ask.{ends}
use Rattle.walk_spec.specs.Steps.{reaches}
use Rattle.walk_spec.specs.Stage1.{stands2}
use Rattle.walk_spec.specs.BothStages.{Landing}
use Rattle.walk_spec.proofs.Worked.{on_worked_walks, tables, user_regs, stage2_regs, access, kernel_read, base, item, descent, rights, wb, normal}
use Rattle.walk_laws.specs.Shift.{stands, regions, regions2, IsOpen, NeedsWord}
use Rattle.walk_laws.proofs.Shifts.{stage2_shifts, walk_shifts, table1_shifts, table2_shifts}

abbrev user : Config
user = config_of user_regs

-- the second page of a run of sixteen
abbrev run_items : List Item
run_items = descent S1 0 0x1000 (tables 0x70000000011f43)

abbrev run_landing : ℕ → Landing
run_landing pa = record { class = 16; pa = pa; perms = rights "rw-" "rw-"; mem = normal (wb "rw") (wb "rw"); sh = Ish }

-- an access of another kind, with a tag, to the fourth page
abbrev tagged_write : Access
tagged_write = access 0xb400000040203def El0 Write false

-- the word of one page serves another page of the run, another kind of access and another tag
serves_the_run : (stands user false tagged_write run_items ≡ ends (reaches (run_landing 0x13def)) [])
    × (regions user false (kernel_read 0x40201abc) run_items ≡ regions user false tagged_write run_items)
unfolding on_worked_walks
serves_the_run = walk_shifts user (kernel_read 0x40201abc) tagged_write run_items (run_landing 0x11abc) refl refl refl refl

-- a table covers an entry of its level around the address, and a page of a run the run
names_the_regions : regions user false tagged_write run_items ≡ None ∷ Some record { class = 39; start = 0 } ∷ Some record {
  class = 30;
  start = 1;
} ∷ Some record { class = 21; start = 0x201 } ∷ Some record { class = 16; start = 0x4020 } ∷ []
unfolding on_worked_walks
names_the_regions = refl

-- stage 1 of 48 bits with 4 KB, below a stage 2 of 40 bits from level 1
abbrev guest : Config
guest = config_of (record (stage2_regs 0x20058 0x8000) { sctlr_el1 = 1; tcr_el1 = 0x200000010; ttbr0_el1 = 0x1000; mair_el1 = 0xff })

-- the items of stage 2 for an IPA below 1 GB: a block
abbrev block : List Item
block = descent S2 1 0x8000 ((0x8000, 0x4c5) ∷ [])

-- the items before a table of stage 1 at level 2
abbrev front_items : List Item
front_items = base S1 0 0x1000 ∷ block ++ item S1 0 0x1000 0x2003 ∷ block ++ item S1 1 0x2008 0x3003 ∷ block

-- the items up to a page
abbrev page_items : List Item
page_items = front_items ++ item S1 2 0x3008 0x4003 ∷ block ++ item S1 3 0x4008 0x5403 ∷ block

abbrev page_landing : ℕ → Landing
page_landing pa = record { class = 12; pa = pa; perms = rights "--x" "rwx"; mem = Device NGnRE; sh = Osh }

-- the page is smaller than the block behind it, and so is the piece
serves_the_page : (stands guest false (kernel_read 0x40201def) page_items ≡ ends (reaches (page_landing 0x5def)) [])
    × (regions guest false (kernel_read 0x40201abc) page_items ≡ regions guest false (kernel_read 0x40201def) page_items)
unfolding on_worked_walks
serves_the_page = walk_shifts guest (kernel_read 0x40201abc) (kernel_read 0x40201def) page_items (page_landing 0x5abc) refl refl refl refl

-- another address below the table of stage 1 needs the base of stage 2 for its own entry
goes_on_behind_a_table_of_stage_1 : IsOpen (stands guest true (kernel_read 0x402ff000) (front_items ++ item S1 2 0x3008 0x4003 ∷ []))
    × (regions guest true (kernel_read 0x40201abc) (front_items ++ item S1 2 0x3008 0x4003 ∷ []) ≡ regions guest true (kernel_read 0x402ff000)
    (front_items ++ item S1 2 0x3008 0x4003 ∷ []))
unfolding on_worked_walks
goes_on_behind_a_table_of_stage_1 =
    table1_shifts guest true (kernel_read 0x40201abc) (kernel_read 0x402ff000) (front_items ++ item S1 2 0x3008 0x4003 ∷ []) 1 0x4003 0x4000 record
    { no_el0 = false; read_only = false; pxn = false; uxn = false } record {
      front = front_items;
      item = item S1 2 0x3008 0x4003;
      last = refl;
      is_of = refl;
      what = refl;
      level = refl;
      has = refl;
    } refl tt refl refl

-- another IPA below the table of stage 2 needs a word in it
goes_on_behind_a_table_of_stage_2 : NeedsWord (stands2 guest Low true 0x1ff000 (descent S2 1 0x8000 ((0x8000, 0x9003) ∷ (0x9000, 0xa003) ∷ [])))
    × (regions2 guest Low true 0x1008 (descent S2 1 0x8000 ((0x8000, 0x9003) ∷ (0x9000, 0xa003) ∷ [])) ≡ regions2 guest Low true 0x1ff000
    (descent S2 1 0x8000 ((0x8000, 0x9003) ∷ (0x9000, 0xa003) ∷ [])))
unfolding on_worked_walks
goes_on_behind_a_table_of_stage_2 =
    table2_shifts guest Low true 0x1008 0x1ff000 (descent S2 1 0x8000 ((0x8000, 0x9003) ∷ (0x9000, 0xa003) ∷ [])) 1 0xa003 0xa000 record {
      front = descent S2 1 0x8000 ((0x8000, 0x9003) ∷ []);
      item = item S2 2 0x9000 0xa003;
      last = refl;
      is_of = refl;
      what = refl;
      level = refl;
      has = refl;
    } refl tt refl

-- a page of stage 2 in a run of sixteen, which stands second
abbrev stage_2_items : List Item
stage_2_items = descent S2 1 0x8000 ((0x8000, 0x9003) ∷ (0x9000, 0xa003) ∷ (0xa008, 0x100000000117ff) ∷ [])

abbrev run_leaf : ℕ → Leaf2
run_leaf pa = record { level = pos 3; class = 16; pa = pa; perms = rights "rwx" "rwx"; mem = normal (wb "") (wb ""); sh = Ish }

-- it serves each page of the run
serves_the_run_of_stage_2 : (stands2 guest Low true 0x5010 stage_2_items ≡ ends (reaches (run_leaf 0x15010)) [])
    × (regions2 guest Low true 0x1008 stage_2_items ≡ regions2 guest Low true 0x5010 stage_2_items)
unfolding on_worked_walks
serves_the_run_of_stage_2 = stage2_shifts guest Low true 0x1008 0x5010 stage_2_items (run_leaf 0x11008) refl refl
