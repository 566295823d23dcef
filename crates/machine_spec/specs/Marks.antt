-- What the items of a trail are, as the walk met them: what a word means, and what an invalidation looks at in it.
use Rattle.std.specs.Prelude.{ℕ, ◌*◌, ◌^◌, Bool, true, false, not, ◌&&◌, ◌||◌, List, [], ◌∷◌, if◌then◌else◌}
use Rattle.sysregs.specs.declared.regs.Regs.{Regs}
use Rattle.sysregs.specs.Registers.{asid_of, vmid_of}
use Rattle.fault_codes.specs.declared.fault.Stage.{Stage}
use Rattle.fault_codes.specs.declared.fault.Stage.TheVariants.{S1, S2}
use Rattle.descriptors.specs.declared.kinds.Kind1.{Kind1}
use Rattle.descriptors.specs.declared.kinds.Kind1.TheVariants.{Invalid, Table, Leaf}
use Rattle.descriptors.specs.declared.kinds.Kind2.{Kind2}
use Rattle.descriptors.specs.declared.kinds.Kind2.TheVariants.{Invalid as Invalid2, Table as Table2, Leaf as Leaf2}
use Rattle.descriptors.specs.Meaning.{means1_of, means2_of}
use Rattle.trails.specs.declared.item.Item.{Item}
use Rattle.table_reads.specs.Places.{is_too_large}
use Rattle.tlbi_ops.specs.declared.inval.Tag.{Tag}
use Rattle.tlbi_ops.specs.Covers.{is_stage1}
use Rattle.walk_spec.specs.Ask.{Ask, done, ask}
use Rattle.walk_spec.specs.declared.region.Region.{Region}
use Rattle.walk_spec.specs.Needs.{Regime, Need, stage1_base, stage2_base, word, sizes_of, region_of}

-- What a word is: invalid, a table, a block or page of stage 1, which may be global, or one of stage 2; and whether it may
-- be cached, which a word that gives a translation, address size or access flag fault may not. Of a stage 1 leaf that
-- isn't said, since its row is made only where the walk ends in a translation.
pub data Part : Type 0 where
  nothing : Part
  table : (cached : Bool) → Part
  leaf_of_stage1 : (global : Bool) → Part
  leaf_of_stage2 : (cached : Bool) → Part

-- a word of stage 1 (DDI 0487: the nG bit)
abbrev pub part1 : (regime : Regime) (kind : Kind1) → Part
part1 r Invalid = nothing
part1 r (Table address bits) = table (not (is_too_large r.stage1 address))
part1 r (Leaf out attr_index bits sh af global contiguous) = leaf_of_stage1 global

-- a word of stage 2 (DDI 0487: hardware management of the access flag)
abbrev pub part2 : (regime : Regime) (kind : Kind2) → Part
part2 r Invalid2 = nothing
part2 r (Table2 address) = table (not (is_too_large r.stage2 address))
part2 r (Leaf2 out mem_attr read write xn sh af dbm contiguous) = leaf_of_stage2 (not (is_too_large r.stage2 out) && (af || r.config.ha2))

-- a word of a stage with so many levels left
abbrev pub part_of : (regime : Regime) (stage : Stage) (left word : ℕ) → Part
part_of r S1 left w = part1 r (means1_of r.config r.side left w)
part_of r S2 left w = part2 r (means2_of r.config left w)

-- An item with what it is: its stage, whether it is a base, and of a word what it means, the region of its entry, block,
-- page or run around the address that it was read for, and the granule.
pub record Mark : Type 0 where
  pub stage : Stage
  pub base : Bool
  pub part : Part
  pub region : Region
  pub granule : ℕ
  pub item : Item

abbrev pub mark_base : (stage : Stage) (item : Item) → Mark
mark_base s i = record { stage = s; base = true; part = nothing; region = record { class = 0; start = 0 }; granule = 0; item = i }

-- the item that answered a need
unfoldable pub mark : (regime : Regime) (need : Need) (item : Item) → Mark
mark r stage1_base i = mark_base S1 i
mark r (stage2_base x) i = mark_base S2 i
mark r (word w) i =
    record {
      stage = w.stage;
      base = false;
      part = part_of r w.stage w.left i.value;
      region = region_of r w i;
      granule = (sizes_of r w.stage).granule;
      item = i;
    }

-- the items that a walk met
abbrev pub marks : {A : Type 0} → (regime : Regime) (walk : Ask Need Item A) (items : List Item) → List Mark
marks r (done a) items = []
marks r (ask n k) [] = []
marks r (ask n k) (i ∷ items) = mark r n i ∷ marks r (k i) items

abbrev pub is_table : (part : Part) → Bool
is_table nothing = false
is_table (table cached) = true
is_table (leaf_of_stage1 global) = false
is_table (leaf_of_stage2 cached) = false

abbrev pub is_leaf : (part : Part) → Bool
is_leaf nothing = false
is_leaf (table cached) = false
is_leaf (leaf_of_stage1 global) = true
is_leaf (leaf_of_stage2 cached) = true

-- a global block or page serves every ASID
abbrev pub is_global : (part : Part) → Bool
is_global nothing = false
is_global (table cached) = false
is_global (leaf_of_stage1 global) = global
is_global (leaf_of_stage2 cached) = false

-- an item of stage 1
abbrev pub is_first : (mark : Mark) → Bool
is_first m = is_stage1 m.stage

-- a block or page of stage 1
abbrev pub is_leaf1 : (mark : Mark) → Bool
is_leaf1 m = is_first m && is_leaf m.part

-- an ASID belongs to tables of stage 1, and to blocks and pages that aren't global
abbrev pub has_asid : (mark : Mark) → Bool
has_asid m = is_first m && (is_table m.part || (is_leaf m.part && not (is_global m.part)))

-- what an invalidation looks at in a word that was read under these registers; stage 2 has no ASID
abbrev pub tag_by : (registers : Regs) (mark : Mark) → Tag
tag_by regs m = record {
  start = m.region.start * 2 ^ m.region.class;
  class = m.region.class;
  granule = m.granule;
  asid = if is_first m then asid_of regs else 0;
  vmid = vmid_of regs;
  stage = m.stage;
  table = is_table m.part;
  global = is_global m.part;
}
