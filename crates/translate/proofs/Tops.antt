-- Which words of stage 1 are those of tables.
use Rattle.std.proofs.Common.{◌≡◌, ℕ, zero, suc, ◌≤◌, refl, ap, ◌∙◌, true, false, Bool, not, arith}
use Rattle.std.specs.Prelude.{◌&&◌, ◌||◌, ℤ, pos, negsuc, if◌then◌else◌}
use Rattle.std.proofs.lemmas.Bool.{eqb-true}
use Rattle.geometry.specs.Tables.{most_left, level_of, left_below}
use Rattle.sysregs.specs.declared.regs.Config.{Config}
use Rattle.sysregs.specs.declared.regs.Side.{Side}
use Rattle.fault_codes.specs.declared.fault.Fault.{Fault}
use Rattle.fault_codes.specs.declared.fault.Stage.TheVariants.{S1}
use Rattle.descriptors.specs.declared.kinds.Kind1.{Kind1}
use Rattle.descriptors.specs.declared.kinds.Kind1.TheVariants.{Invalid, Table, Leaf}
use Rattle.descriptors.specs.Meaning.{means1_of}
use Rattle.trails.specs.declared.item.Item.{Item}
use Rattle.trails.specs.declared.item.What.{What}
use Rattle.trails.specs.declared.item.What.TheVariants.{Base, Word}
use Rattle.table_reads.specs.declared.lead.Lead.TheVariants.{Down, Reached, Stopped}
use Rattle.walk_spec.specs.declared.entry.Entry1.{Entry1}
use Rattle.walk_spec.specs.declared.entry.Table1.{Table1}
use Rattle.walk_spec.specs.declared.leaf.Leaf1.{Leaf1}
use Rattle.walk_spec.specs.Needs.{is_word, is_base, stage_eq, level_eq}
use Rattle.walk_spec.specs.Stage1.{Asked, fault1, leaf1_of, step1, step1_by}
use Rattle.table_reads.specs.Places.{is_too_large}
use Rattle.permissions.specs.Rights.{joined, is_uxn, is_allowed1}
use Rattle.fault_codes.specs.declared.fault.Class.TheVariants.{AddressSize, AccessFlag, Permission}
use Rattle.translate.specs.Standing.{is_table, is_top, is_word1}

not_down : (b1 b2 b3 : Bool) (f1 f2 f3 : Fault) (l : Leaf1) (t : Table1)
    → Down t ≡ (if b1 then Stopped f1 else (if b2 then Stopped f2 else (if b3 then Stopped f3 else Reached l))) → ⊥
not_down true b2 b3 f1 f2 f3 l t h = absurd cc
not_down false true b3 f1 f2 f3 l t h = absurd cc
not_down false false true f1 f2 f3 l t h = absurd cc
not_down false false false f1 f2 f3 l t h = absurd cc

not_reached : (b : Bool) (f : Fault) (t : Table1) (l : Leaf1) → Reached l ≡ (if b then Stopped f else Down t) → ⊥
not_reached true f t l h = absurd cc
not_reached false f t l h = absurd cc

by_down : (q : Asked) (e : Entry1) (p : ℕ) (k : Kind1) (t : Table1) → Down t ≡ step1_by q e p k → is_table k ≡ true
by_down q e p Invalid t h = absurd cc
by_down q e p (Table next bits) t h = refl
by_down q e p (Leaf out attr_index bits sh af global contiguous) t h =
    let l = leaf1_of q.regime e p record { out = out; attr_index = attr_index; sh = sh; bits = bits; global = global; contiguous = contiguous } in
    absurd (not_down (is_too_large q.regime.stage1 out) (not (af || q.regime.config.ha1))
    (q.judged && not (is_allowed1 l.perms (is_uxn bits e.table.bits) q.access.el q.access.kind q.access.pan q.regime.config.epan))
    (fault1 AddressSize e.left) (fault1 AccessFlag e.left) (fault1 Permission e.left) l t h)

by_reached : (q : Asked) (e : Entry1) (p : ℕ) (k : Kind1) (l : Leaf1) → Reached l ≡ step1_by q e p k → is_table k ≡ false
by_reached q e p Invalid l h = absurd cc
by_reached q e p (Table next bits) l h =
    absurd (not_reached (is_too_large q.regime.stage1 next) (fault1 AddressSize e.left) record { address = next; bits = joined e.table.bits bits } l h)
by_reached q e p (Leaf out attr_index bits sh af global contiguous) l h = refl

step_down : (q : Asked) (e : Entry1) (p v : ℕ) (t : Table1) → Down t ≡ step1 q e p v → is_table (means1_of q.regime.config q.regime.side e.left v)
    ≡ true
unfolding step1
step_down q e p v t h = by_down q e p (means1_of q.regime.config q.regime.side e.left v) t h

step_reached : (q : Asked) (e : Entry1) (p v : ℕ) (l : Leaf1) → Reached l ≡ step1 q e p v
    → is_table (means1_of q.regime.config q.regime.side e.left v) ≡ false
unfolding step1
step_reached q e p v l h = by_reached q e p (means1_of q.regime.config q.regime.side e.left v) l h

level_is : (x : ℤ) (n : ℕ) → level_eq x (pos n) ≡ true → x ≡ pos n
level_is (pos m) n h = ap pos (eqb-true m n h)
level_is (negsuc m) n h = absurd cc

left_is : (x : ℤ) (left : ℕ) → left ≤ most_left → level_eq x (level_of left) ≡ true → left_below x ≡ left
left_is x zero l h = ap left_below (level_is x 3 h)
left_is x (suc zero) l h = ap left_below (level_is x 2 h)
left_is x (suc (suc zero)) l h = ap left_below (level_is x 1 h)
left_is x (suc (suc (suc zero))) l h = ap left_below (level_is x 0 h)
left_is x (suc (suc (suc (suc n)))) l h = absurd (omega (arith, l))

first_true : (a b : Bool) → (a && b) ≡ true → a ≡ true
first_true true b h = refl
first_true false b h = absurd cc

second_true : (a b : Bool) → (a && b) ≡ true → b ≡ true
second_true true b h = h
second_true false b h = absurd cc

top_by : (a b d : Bool) → a ≡ true → d ≡ true → (a && (b || d)) ≡ true
top_by true true d h k = refl
top_by true false d h k = k
top_by false b d h k = absurd cc

untop_by : (a b d : Bool) → b ≡ false → d ≡ false → (a && (b || d)) ≡ false
untop_by true true d h k = absurd cc
untop_by true false d h k = k
untop_by false b d h k = refl

word_no_base : (w : What) → is_word w ≡ true → is_base w ≡ false
word_no_base Base h = absurd cc
word_no_base Word h = refl

module _ (c : Config) (s : Side) (left : ℕ) (i : Item) (few : left ≤ most_left) (w : is_word1 left i ≡ true) where
  stage_is : stage_eq i.stage S1 ≡ true
  stage_is = second_true (is_word i.what) (stage_eq i.stage S1) (first_true (is_word i.what && stage_eq i.stage S1) (level_eq i.level (level_of left)) w)

  word_is : is_word i.what ≡ true
  word_is = first_true (is_word i.what) (stage_eq i.stage S1) (first_true (is_word i.what && stage_eq i.stage S1) (level_eq i.level (level_of left)) w)

  below_is : left_below i.level ≡ left
  below_is = left_is i.level left few (second_true (is_word i.what && stage_eq i.stage S1) (level_eq i.level (level_of left)) w)

  kind_is : is_table (means1_of c s (left_below i.level) i.value) ≡ is_table (means1_of c s left i.value)
  kind_is = ap (λ n. is_table (means1_of c s n i.value)) below_is

  pub table_top : is_table (means1_of c s left i.value) ≡ true → is_top c s i ≡ true
  table_top h = top_by (stage_eq i.stage S1) (is_base i.what) (is_table (means1_of c s (left_below i.level) i.value)) stage_is (kind_is ∙ h)

  pub leaf_top : is_table (means1_of c s left i.value) ≡ false → is_top c s i ≡ false
  leaf_top h =
      untop_by (stage_eq i.stage S1) (is_base i.what) (is_table (means1_of c s (left_below i.level) i.value)) (word_no_base i.what word_is) (kind_is ∙ h)

-- the word of a table is one, and that of a leaf none
module _ (q : Asked) (e : Entry1) (i : Item) (few : e.left ≤ most_left) (w : is_word1 e.left i ≡ true) where
  pub down_top : (t : Table1) → Down t ≡ step1 q e i.pa i.value → is_top q.regime.config q.regime.side i ≡ true
  down_top t h = table_top q.regime.config q.regime.side e.left i few w (step_down q e i.pa i.value t h)

  pub reached_top : (l : Leaf1) → Reached l ≡ step1 q e i.pa i.value → is_top q.regime.config q.regime.side i ≡ false
  reached_top l h = leaf_top q.regime.config q.regime.side e.left i few w (step_reached q e i.pa i.value l h)
