-- Which rows a step makes (this project's own rules): from the words that it read, in the order of its trail.
use Rattle.std.specs.Prelude.{ℕ, ◌+◌, ◌/◌, ◌^◌, Bool, false, ◌==◌, ◌&&◌, if◌then◌else◌, List, [], ◌∷◌}
use Rattle.std.specs.Prelude.{◌++◌, Option, Some, None}
use Rattle.std.specs.Option.{option_or}
use Rattle.sysregs.specs.declared.regs.Regs.{Regs}
use Rattle.sysregs.specs.Registers.{config_of, asid_of, vmid_of}
use Rattle.fault_codes.specs.declared.fault.Stage.{Stage}
use Rattle.fault_codes.specs.declared.fault.Stage.TheVariants.{S1, S2}
use Rattle.trails.specs.declared.item.Item.{Item}
use Rattle.tagged_tlb.specs.declared.row.Key.{Key}
use Rattle.tagged_tlb.specs.declared.row.Made.{Made}
use Rattle.walk_spec.specs.Ask.{Fed, ended, lacks}
use Rattle.walk_spec.specs.Needs.{Need}
use Rattle.walk_spec.specs.Steps.{End, stops, reaches}
use Rattle.walk_spec.specs.BothStages.{Landing}
use Rattle.tagged_tlb.specs.declared.row.Kind.{Kind}
use Rattle.tagged_tlb.specs.declared.row.Kind.TheVariants.{Leaf1, Table1, Leaf2, Table2}
use Rattle.machine_spec.specs.Marks.{Part, nothing, table, leaf_of_stage1, leaf_of_stage2, Mark, is_first, is_leaf1, is_global, tag_by}
use Rattle.tagged_tlb.specs.declared.row.Row.{Row}

-- under which registers a step makes rows, and which step it is
pub record Maker : Type 0 where
  pub regs : Regs
  pub step : ℕ

abbrev pub key_of : (registers : Regs) → Key
key_of regs = record { config = config_of regs; vmid = vmid_of regs; asid = asid_of regs }

-- stage 2 knows no ASID
abbrev pub key_for : (registers : Regs) (stage : Stage) → Key
key_for regs S1 = key_of regs
key_for regs S2 = record (key_of regs) { asid = 0 }

abbrev pub made_in : (step order : ℕ) → Made
made_in step order = record { step = step; order = order }

-- the row of a word: it serves the region of the word
abbrev pub row_of : (maker : Maker) (mark : Mark) (kind : Kind) (trail : List Item) → Row
row_of k m kind trail = record {
  kind = kind;
  key = key_for k.regs m.stage;
  global = false;
  region = m.region;
  made = made_in k.step 0;
  tag = tag_by k.regs m;
  trail = trail;
}

-- a row that is made on a condition
abbrev pub only_if : (condition : Bool) (row : Row) → List Row
only_if b r = if b then r ∷ [] else []

-- A word of stage 1 gives a row where it is a table, with the whole trail up to it; one of stage 2 gives a row with the
-- items of its chain up to it. Both only where the word may be cached.
abbrev pub rows_by : (maker : Maker) (mark : Mark) (whole chain : List Item) (stage : Stage) (part : Part) → List Row
rows_by k m whole chain S1 nothing = []
rows_by k m whole chain S1 (table cached) = only_if cached (row_of k m Table1 whole)
rows_by k m whole chain S1 (leaf_of_stage1 global) = []
rows_by k m whole chain S1 (leaf_of_stage2 cached) = []
rows_by k m whole chain S2 nothing = []
rows_by k m whole chain S2 (table cached) = only_if cached (row_of k m Table2 chain)
rows_by k m whole chain S2 (leaf_of_stage1 global) = []
rows_by k m whole chain S2 (leaf_of_stage2 cached) = only_if cached (row_of k m Leaf2 chain)

-- it was read in this step
abbrev pub is_read_now : (maker : Maker) (mark : Mark) → Bool
is_read_now k m = m.item.moment == k.step

-- the items of the chain of stage 2 that stands open, with one more
abbrev pub chain_with : (chain : List Item) (mark : Mark) → List Item
chain_with chain m = if is_first m then [] else (if m.base then m.item ∷ [] else chain ++ m.item ∷ [])

-- the rows of the words that were read in this step, behind the items before them
abbrev pub rows_of : (maker : Maker) (whole chain : List Item) (marks : List Mark) → List Row
rows_of k whole chain [] = []
rows_of k whole chain (m ∷ marks) =
    let whole2 = whole ++ m.item ∷ [] in
    let chain2 = chain_with chain m in
    (if is_read_now k m then rows_by k m whole2 chain2 m.stage m.part else []) ++ rows_of k whole2 chain2 marks

-- the last item of stage 1
abbrev pub last_first : (marks : List Mark) → Option Mark
last_first [] = None
last_first (m ∷ marks) = option_or (last_first marks) (if is_first m then Some m else None)

-- the row of a stage 1 leaf with the stage 2 of its output: it serves the piece of both leaves around the address
abbrev pub leaf_row : (maker : Maker) (class address : ℕ) (mark : Mark) (trail : List Item) → Row
leaf_row k class x m trail = record (row_of k m Leaf1 trail) {
  global = is_global m.part;
  region = record { class = class; start = x / 2 ^ class };
}

-- it is made where the stage 1 leaf was read in this step
abbrev pub leaf_rows : (maker : Maker) (class address : ℕ) (trail : List Item) (last : Option Mark) → List Row
leaf_rows k class x trail None = []
leaf_rows k class x trail (Some m) = only_if (is_leaf1 m && is_read_now k m) (leaf_row k class x m trail)

-- the combined row of a walk that was fed so
abbrev pub combined_rows : (maker : Maker) (address : ℕ) (trail : List Item) (marks : List Mark) (end : Fed Need (End Landing)) → List Row
combined_rows k x trail marks (ended (stops f)) = []
combined_rows k x trail marks (ended (reaches l)) = leaf_rows k l.class x trail (last_first marks)
combined_rows k x trail marks (lacks n) = []

-- the rows in the order in which they are made
abbrev pub numbered : (order : ℕ) (rows : List Row) → List Row
numbered order [] = []
numbered order (r ∷ rows) = record r { made = made_in r.made.step order } ∷ numbered (order + 1) rows

-- all rows of a step that ends so
abbrev pub rows_made : (maker : Maker) (address : ℕ) (trail : List Item) (marks : List Mark) (end : Fed Need (End Landing)) → List Row
rows_made k x trail marks end = numbered 0 (rows_of k [] [] marks ++ combined_rows k x trail marks end)
