-- What a step keeps to.
use Rattle.std.specs.Prelude.{ℕ, ◌≤◌, ◌<◌, ◌^◌, ◌%◌, ◌≡◌, Bool, ◌&&◌, Option, Some, None, Result, Ok, Err}
use Rattle.bitwords.specs.Fields.{bit, bits_of}
use Rattle.geometry.specs.Tables.{most_left, level_of}
use Rattle.permissions.specs.Rights.{perms_of, rights2}
use Rattle.attributes.specs.Memory.{s2_attr_of, share_of}
use Rattle.fault_codes.specs.Status.{HasStatus, HasLevel}
use Rattle.fault_codes.specs.declared.fault.Fault.{Fault}
use Rattle.fault_codes.specs.declared.fault.Class.TheVariants.{Permission}
use Rattle.table_reads.specs.declared.lead.Lead.{Lead}
use Rattle.table_reads.specs.declared.lead.Lead.TheVariants.{Down, Reached, Stopped}
use Rattle.descriptors.specs.declared.kinds.Kind2.{Kind2}
use Rattle.descriptors.specs.declared.kinds.Kind2.TheVariants.{Leaf}
use Rattle.walk_spec.specs.declared.leaf.Leaf2.{Leaf2}
use Rattle.walk_spec.specs.declared.leaf.Fields2.{Fields2}
use Rattle.walk_spec.specs.Stage2.{Asked2, step2}
use Rattle.stage2_walk.specs.declared.step.Last2.{Last2}
use Rattle.stage2_walk.specs.declared.step.Target.{Target}

-- a leaf keeps the IPA's place among eight bytes, and a permission fault has its level
abbrev pub IsSoundLeaf : (ipa : ℕ) (leaf : Leaf2) → Type 0
IsSoundLeaf ipa l = (l.pa % 8 ≡ ipa % 8) × HasLevel Permission l.level

-- the next table has a level below, and can be read; a leaf is sound; a fault has a status code
abbrev pub IsSoundStep : (left ipa : ℕ) (step : Lead Leaf2 ℕ) → Type 0
IsSoundStep left ipa (Down table) = (0 < left) × (table < 2 ^ 52) × (table % 8 ≡ 0)
IsSoundStep left ipa (Reached l) = IsSoundLeaf ipa l
IsSoundStep left ipa (Stopped f) = HasStatus f

-- what a word means that has these fields and this access flag
abbrev pub kind_of : (af : Bool) (fields : Fields2) → Kind2
kind_of af f = Leaf f.out f.mem_attr f.read f.write f.xn f.sh af f.dbm f.contiguous

-- a word leads down to this table, wherever it stands, or it doesn't
abbrev pub GoesDown : (step : ℕ → Lead Leaf2 ℕ) (left : ℕ) (table : Option ℕ) → Type 0
GoesDown step left (Some t) = ((place : ℕ) → Down t ≡ step place) × (0 < left) × (t < 2 ^ 52) × (t % 8 ≡ 0)
GoesDown step left None = (place t : ℕ) → Down t ≡ step place → ⊥

-- the last word of a walk leads down to no table
pub record IsLast (q : Asked2) (last : Last2) : Type 0 where
  pub left : last.left ≤ most_left
  pub end : GoesDown (λ place. step2 q last.left place last.word) last.left None

-- what the last word of a walk gives that leads to a leaf which sends the IPA to this address, with this class
abbrev pub leaf_at : (q : Asked2) (last : Last2) (pa class : ℕ) → Leaf2
leaf_at q last pa class =
    let dirty = q.config.ha2 && q.config.hd2 in
    let w = last.word in
    record {
      level = level_of last.left;
      class = class;
      pa = pa;
      perms = perms_of (rights2 (bit w 6) (bit w 7) (bits_of w 54 53) (bit w 51) dirty);
      mem = s2_attr_of (bits_of w 5 2);
      sh = share_of (bits_of w 9 8);
    }

-- where the last word of a walk leads: to the leaf with this target, or to a fault
abbrev pub IsTarget : (q : Asked2) (last : Last2) (lead : Lead Leaf2 ℕ) (end : Result Target Fault) → Type 0
IsTarget q last lead (Ok t) = lead ≡ Reached (leaf_at q last t.pa t.class)
IsTarget q last lead (Err f) = lead ≡ Stopped f

-- what the last word of a walk gives, which leads to a leaf or a fault
abbrev pub EndsIn : (lead : Lead Leaf2 ℕ) (end : Result Leaf2 Fault) → Type 0
EndsIn (Down table) r = ⊥
EndsIn (Reached l) r = r ≡ Ok l
EndsIn (Stopped f) r = r ≡ Err f
