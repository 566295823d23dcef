-- The rows that a step makes, as code tells them: with places in the trail of the step.
use Rattle.std.specs.Prelude.{◌≡◌, ℕ, ◌+◌, ◌/◌, ◌%◌, ◌^◌, ◌<◌, ◌≤◌, Bool, true, false, ◌&&◌}
use Rattle.std.specs.Prelude.{List, [], ◌∷◌, take, drop, map, fold, Option, Some, None, if◌then◌else◌}
use Rattle.geometry.specs.Tables.{most_left, level_of}
use Rattle.sysregs.specs.declared.regs.Regs.{Regs}
use Rattle.sysregs.specs.Registers.{config_of}
use Rattle.sysregs.specs.Sides.{side_of}
use Rattle.fault_codes.specs.declared.fault.Stage.{Stage}
use Rattle.fault_codes.specs.declared.fault.Stage.TheVariants.{S1, S2}
use Rattle.trails.specs.declared.item.Item.{Item}
use Rattle.trails.specs.declared.item.What.TheVariants.{Base as ABase, Word as AWord}
use Rattle.trails.specs.declared.outcome.Access.{Access}
use Rattle.trails.specs.declared.outcome.Outcome.{Outcome}
use Rattle.trails.specs.declared.outcome.Outcome.TheVariants.{Mapped}
use Rattle.walk_spec.specs.Ask.{Stands, ends, needs, Fed, ended, lacks}
use Rattle.walk_spec.specs.Needs.{Need, Regime, regime_of, sizes_of}
use Rattle.walk_spec.specs.Steps.{End, stops, reaches}
use Rattle.walk_spec.specs.BothStages.{Landing, walk}
use Rattle.tagged_tlb.specs.declared.row.Kind.{Kind}
use Rattle.tagged_tlb.specs.declared.row.Kind.TheVariants.{Leaf1, Table1, Leaf2, Table2}
use Rattle.tagged_tlb.specs.declared.row.Row.{Row}
use Rattle.machine_spec.specs.Marks.{Mark, marks, is_leaf1, is_global, tag_by}
use Rattle.walk_spec.specs.Stage1.{untagged}
use Rattle.machine_spec.specs.Made.{Maker, key_for, made_in, is_read_now, rows_by, rows_of, numbered, rows_made}
use Rattle.served_walk.specs.Spots.{start_with}
use Rattle.made_rows.specs.declared.making.NewRow.{NewRow}
use Rattle.made_rows.specs.declared.gather.Stand.{Stand}
use Rattle.made_rows.specs.declared.word.Word.{Word}
use Rattle.made_rows.specs.Met.{mark_for, open_ipa, next_goal, met}
use Rattle.made_rows.specs.Sized.{is_sized}
use Rattle.made_rows.specs.Pieces.{after1, after2}
use Rattle.made_rows.specs.Words.{means_by}

-- for which access rows are made, under which registers and in which step
pub record MadeFor : Type 0 where
  pub regs : Regs
  pub access : Access
  pub step : ℕ

abbrev pub maker_for : (made : MadeFor) → Maker
maker_for m = record { regs = m.regs; step = m.step }

abbrev pub regime_for : (made : MadeFor) → Regime
regime_for m = regime_of (config_of m.regs) (side_of m.access.va)

abbrev pub stage_by : (kind : Kind) → Stage
stage_by Leaf1 = S1
stage_by Table1 = S1
stage_by Leaf2 = S2
stage_by Table2 = S2

-- the row, whose trail is a part of that of the step
abbrev pub row_from : (maker : Maker) (trail : List Item) (new : NewRow) → Row
row_from k trail n = record {
  trail = drop n.start (take n.end trail);
  tag = n.tag;
  key = key_for k.regs (stage_by n.kind);
  region = n.region;
  made = made_in k.step 0;
  kind = n.kind;
  global = n.global;
}

abbrev pub rows_from : (maker : Maker) (trail : List Item) (new : List NewRow) → List Row
rows_from k trail rows = map (row_from k trail) rows

abbrev pub one_from : (maker : Maker) (trail : List Item) (new : Option NewRow) → List Row
one_from k trail None = []
one_from k trail (Some n) = row_from k trail n ∷ []

-- the region of a row is no larger than the addresses without tags
abbrev pub IsSmall : (new : NewRow) → Type 0
IsSmall n = n.region.class ≤ 55

-- a word of a level that its stage has, and a base of a stage whose sizes are in range, which stage 1 may read from
pub record IsKnown (r : Regime) (i : Item) : Type 0 where
  pub word : i.what ≡ AWord → (left : ℕ) × (left ≤ most_left) × (left ≤ (sizes_of r i.stage).start) × (i.level ≡ level_of left)
      × (is_sized r i.stage ≡ true)
  pub base : i.what ≡ ABase → i.stage ≡ S1 → (i.value < 2 ^ 52) × (i.value % 8 ≡ 0)
  pub sized : i.what ≡ ABase → is_sized r i.stage ≡ true

abbrev pub AreKnown : (regime : Regime) (items : List Item) → Type 0
AreKnown r [] = Unit {0}
AreKnown r (i ∷ items) = IsKnown r i × AreKnown r items

-- a word tells the mark of an item that was read for an address
pub record TellsMark (r : Regime) (m : Mark) (stage : Stage) (w : Word) (address : ℕ) : Type 0 where
  pub stage_is : m.stage ≡ stage
  pub word : m.base ≡ false
  pub part : means_by m.part ≡ w.means
  pub region : m.region ≡ record { class = w.class; start = address / 2 ^ w.class }
  pub granule : m.granule ≡ (sizes_of r stage).granule

-- the last item of stage 1 is a leaf that was read in this step
abbrev pub is_new_leaf : (maker : Maker) (last : Option Mark) → Bool
is_new_leaf k None = false
is_new_leaf k (Some m) = is_leaf1 m && is_read_now k m

-- an outcome is a translation
abbrev pub is_mapping : (outcome : Outcome) → Bool
is_mapping (Mapped pa perms mem sh) = true
is_mapping o = false

-- a walk came to a translation
abbrev pub is_mapped : (end : Fed Need (End Landing)) → Bool
is_mapped (ended (stops f)) = false
is_mapped (ended (reaches l)) = true
is_mapped (lacks n) = false

-- the walk stands on a trail up to this end, and no item is left over
abbrev pub StandsTo : (stands : Stands Need Item (End Landing)) (end : Fed Need (End Landing)) → Type 0
StandsTo s (ended e) = s ≡ ends e []
StandsTo s (lacks n) = s ≡ needs n

-- these are the rows that a step makes whose access ended so on a trail
abbrev pub AreMade : (regs : Regs) (step : ℕ) (access : Access) (trail : List Item) (end : Fed Need (End Landing)) (rows : List NewRow) → Type 0
AreMade regs step a trail end rows =
    let k : Maker = record { regs = regs; step = step } in
    let c = config_of regs in
    numbered 0 (rows_from k trail rows) ≡ rows_made k (untagged a.va) trail (marks (regime_of c (side_of a.va)) (walk c true a) trail) end

-- WHILE A TRAIL IS PASSED

-- a row tells the leaf of stage 1 that a mark is of, but for its region and its end
pub record IsLeafRow (made : MadeFor) (m : Mark) (n : NewRow) : Type 0 where
  pub new : is_new_leaf (maker_for made) (Some m) ≡ true
  pub kind : n.kind ≡ Leaf1
  pub start : n.start ≡ 0
  pub tag : n.tag ≡ tag_by made.regs m
  pub global : n.global ≡ is_global m.part
  pub class : n.region.class ≡ m.region.class

-- the row of the last item of stage 1, where that is a leaf of this step
abbrev pub IsLeaf : (made : MadeFor) (last : Option Mark) (leaf : Option NewRow) → Type 0
IsLeaf made o None = is_new_leaf (maker_for made) o ≡ false
IsLeaf made None (Some n) = ⊥
IsLeaf made (Some m) (Some n) = IsLeafRow made m n

-- what is known of the last item of stage 1 and of the words behind it
pub record HasLeaf (made : MadeFor) (last : Option Mark) (class2 : Option ℕ) (s : Stand) : Type 0 where
  pub leaf : IsLeaf made last s.leaf
  pub class : is_new_leaf (maker_for made) last ≡ true → s.class2 ≡ class2

-- the rows of an item, where it was read in this step
abbrev pub rows_now : (maker : Maker) (mark : Mark) (whole chain : List Item) → List Row
rows_now k m whole chain = if is_read_now k m then rows_by k m whole chain m.stage m.part else []

-- the mark of an item whose chain is for an IPA
abbrev pub mark_in : (made : MadeFor) (ipa : ℕ) (item : Item) → Mark
mark_in made x i = mark_for (regime_for made) (untagged made.access.va) x i

-- An item was passed: what stands behind it, and its row.
pub record Passed (made : MadeFor) (at : ℕ) (i : Item) (old new : Stand) (row : Option NewRow) : Type 0 where
  pub ipa : new.ipa ≡ open_ipa old.ipa old.goal i
  pub goal : new.goal ≡ next_goal (regime_for made) (untagged made.access.va) old.goal i
  pub start : new.start ≡ start_with old.start at (mark_in made new.ipa i)
  pub row_is : (trail : List Item) → one_from (maker_for made) trail row
      ≡ rows_now (maker_for made) (mark_in made new.ipa i) (take (at + 1) trail) (drop new.start (take (at + 1) trail))
  pub leaf : (o : Option Mark) (k : Option ℕ) → HasLeaf made o k old → HasLeaf made (after1 o (mark_in made new.ipa i))
      (after2 k (mark_in made new.ipa i)) new

-- the items of a trail with what they are, from the front; with stage 1 off the output is VA bits 51 to 0
abbrev pub met_in : (made : MadeFor) (trail : List Item) → List Mark
met_in made trail = met (regime_for made) (untagged made.access.va) 0 (made.access.va % 2 ^ 52) trail

-- a whole trail was passed
pub record PassedAll (made : MadeFor) (trail : List Item) (rows : List NewRow) (s : Stand) : Type 0 where
  pub rows_are : rows_from (maker_for made) trail rows ≡ rows_of (maker_for made) [] [] (met_in made trail)
  pub leaf : HasLeaf made (fold after1 None (met_in made trail)) (fold after2 None (met_in made trail)) s
