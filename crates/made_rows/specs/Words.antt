-- What a word is to the rows of a step.
use Rattle.std.specs.Prelude.{ℕ}
use Rattle.fault_codes.specs.declared.fault.Stage.{Stage}
use Rattle.fault_codes.specs.declared.fault.Stage.TheVariants.{S1, S2}
use Rattle.trails.specs.declared.item.Item.{Item}
use Rattle.walk_spec.specs.Needs.{Regime, mapping_of, class_by, sizes_of}
use Rattle.machine_spec.specs.Marks.{Part, nothing, table, leaf_of_stage1, leaf_of_stage2, part_of}
use Rattle.made_rows.specs.declared.word.Means.{Means}
use Rattle.made_rows.specs.declared.word.Means.TheVariants.{Nothing, Table, Leaf1, Leaf2}
use Rattle.made_rows.specs.declared.word.Word.{Word}
use Rattle.made_rows.specs.Met.{goes_by_word}

abbrev pub means_by : (part : Part) → Means
means_by nothing = Nothing
means_by (table cached) = Table cached
means_by (leaf_of_stage1 global) = Leaf1 global
means_by (leaf_of_stage2 cached) = Leaf2 cached

-- where stage 1 goes by a word
abbrev pub goal_at : (regime : Regime) (va : ℕ) (stage : Stage) (left : ℕ) (item : Item) → ℕ
goal_at r va S1 left i = goes_by_word r va left i
goal_at r va S2 left i = 0

-- a word of a stage with so many levels left, for an access to an address
abbrev pub word_at : (regime : Regime) (va : ℕ) (stage : Stage) (left : ℕ) (item : Item) → Word
word_at r va s left i = record {
  means = means_by (part_of r s left i.value);
  class = class_by (mapping_of r s left i.value) (sizes_of r s) left i.pa;
  goal = goal_at r va s left i;
}
