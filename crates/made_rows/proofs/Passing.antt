-- One item is passed.
use Rattle.std.proofs.Common.{◌≡◌, ℕ, ◌+◌, ◌≤◌, Bool, true, false, cond, List, [], ◌∷◌}
use Rattle.std.proofs.Common.{take, drop, refl, sym, ap, ◌∙◌, subst, Option, Some, None}
use Rattle.std.specs.Prelude.{◌&&◌, ◌==◌, is_some}
use Rattle.std.proofs.lemmas.Bool.{both_ways}
use Rattle.std.proofs.lemmas.Option.{same_Some}
use Rattle.geometry.specs.Tables.{most_left, level_of, left_below}
use Rattle.fault_codes.specs.declared.fault.Stage.{Stage}
use Rattle.fault_codes.specs.declared.fault.Stage.TheVariants.{S1, S2}
use Rattle.descriptors.specs.declared.kinds.Kind1.{Kind1}
use Rattle.descriptors.specs.declared.kinds.Kind1.TheVariants.{Invalid, Table as TableKind, Leaf as LeafKind}
use Rattle.descriptors.specs.declared.kinds.Kind2.{Kind2}
use Rattle.descriptors.specs.declared.kinds.Kind2.TheVariants.{Invalid as Invalid2, Table as Table2Kind, Leaf as Leaf2Kind}
use Rattle.trails.specs.declared.item.Item.{Item}
use Rattle.trails.specs.declared.item.What.TheVariants.{Word as AWord}
use Rattle.tlbi_ops.specs.Covers.{is_stage1}
use Rattle.walk_spec.specs.declared.region.Region.{Region}
use Rattle.walk_spec.specs.Needs.{Regime}
use Rattle.walk_spec.specs.Stage1.{untagged}
use Rattle.stage2_walk.proofs.Starts.{left_below_of}
use Rattle.tagged_tlb.specs.declared.row.Kind.TheVariants.{Leaf1 as OfLeaf1, Table1 as OfTable1, Leaf2 as OfLeaf2, Table2 as OfTable2}
use Rattle.tagged_tlb.specs.declared.row.Row.{Row}
use Rattle.machine_spec.specs.Marks.{Part, nothing, table, leaf_of_stage1, leaf_of_stage2, Mark, mark, part1, part2, part_of, is_first, is_leaf, is_global}
use Rattle.machine_spec.specs.Made.{Maker, is_read_now, row_of, rows_by}
use Rattle.made_rows.specs.declared.making.NewRow.{NewRow}
use Rattle.made_rows.specs.declared.word.Means.TheVariants.{Nothing, Table, Leaf1, Leaf2}
use Rattle.made_rows.specs.declared.word.Word.{Word}
use Rattle.made_rows.specs.Met.{goes_by_word, goes_by_item, address_by, next_goal}
use Rattle.made_rows.specs.Words.{means_by, goal_at, word_at}
use Rattle.made_rows.specs.NewRows.{MadeFor, maker_for, regime_for, row_from, one_from, TellsMark, is_new_leaf, IsLeaf, rows_now, mark_in, Passed}

-- WHAT A WORD IS, BACK FROM CODE

means_table : (p : Part) (b : Bool) → means_by p ≡ Table b → p ≡ table b
means_table nothing b h = absurd cc
means_table (table c) b h = cc
means_table (leaf_of_stage1 g) b h = absurd cc
means_table (leaf_of_stage2 c) b h = absurd cc

means_leaf1 : (p : Part) (b : Bool) → means_by p ≡ Leaf1 b → p ≡ leaf_of_stage1 b
means_leaf1 nothing b h = absurd cc
means_leaf1 (table c) b h = absurd cc
means_leaf1 (leaf_of_stage1 g) b h = cc
means_leaf1 (leaf_of_stage2 c) b h = absurd cc

means_leaf2 : (p : Part) (b : Bool) → means_by p ≡ Leaf2 b → p ≡ leaf_of_stage2 b
means_leaf2 nothing b h = absurd cc
means_leaf2 (table c) b h = absurd cc
means_leaf2 (leaf_of_stage1 g) b h = absurd cc
means_leaf2 (leaf_of_stage2 c) b h = cc

means_nothing : (p : Part) → means_by p ≡ Nothing → p ≡ nothing
means_nothing nothing h = refl
means_nothing (table c) h = absurd cc
means_nothing (leaf_of_stage1 g) h = absurd cc
means_nothing (leaf_of_stage2 c) h = absurd cc

not_leaf2 : (r : Regime) (kind : Kind1) (b : Bool) → part1 r kind ≡ leaf_of_stage2 b → ⊥
not_leaf2 r Invalid b h = absurd cc
not_leaf2 r (TableKind address bits) b h = absurd cc
not_leaf2 r (LeafKind out attr_index bits sh af global contiguous) b h = absurd cc

not_leaf1 : (r : Regime) (kind : Kind2) (b : Bool) → part2 r kind ≡ leaf_of_stage1 b → ⊥
not_leaf1 r Invalid2 b h = absurd cc
not_leaf1 r (Table2Kind address) b h = absurd cc
not_leaf1 r (Leaf2Kind out mem_attr read write xn sh af dbm contiguous) b h = absurd cc

-- THE MARK OF A WORD

module _ (made : MadeFor) (x : ℕ) (i : Item) (w : i.what ≡ AWord) where
  abbrev M : Mark
  M = mark_in made x i

  abbrev K : Maker
  K = maker_for made

  stage_of : M.stage ≡ i.stage
  unfolding mark
  stage_of = rw w refl

  item_of : M.item ≡ i
  unfolding mark
  item_of = rw w refl

  base_of : M.base ≡ false
  unfolding mark
  base_of = rw w refl

  pub now_of : is_read_now K M ≡ (i.moment == made.step)
  now_of = ap (λ (j : Item). j.moment == made.step) item_of

  tells : (left : ℕ) → left ≤ most_left → i.level ≡ level_of left → (v : Word) → Some (word_at (regime_for made)
      (untagged made.access.va) i.stage left i) ≡ Some v
      → TellsMark (regime_for made) M i.stage v (address_by i.stage (untagged made.access.va) x)
  unfolding mark
  tells left l e v h =
      let b : left_below i.level ≡ left = ap left_below e ∙ left_below_of left l in
      subst (λ v. TellsMark (regime_for made) M i.stage v (address_by i.stage (untagged made.access.va) x))
      (same_Some _ _ h)
      record {
        stage_is = stage_of;
        word = base_of;
        part = rw (w, b) refl;
        region = rw (w, b) refl;
        granule = rw w refl;
      }

  -- a row of a part that may be cached, or none
  one_if : (b : Bool) (n : NewRow) (r : Row) (trail : List Item) → row_from K trail n ≡ r
      → one_from K trail (cond b (Some n) None) ≡ cond b (r ∷ []) []
  one_if true n r trail h = ap (λ z. z ∷ []) h
  one_if false n r trail h = refl

  rows_as : (b : Bool) (s : Stage) (p : Part) (whole part : List Item) → is_read_now K M ≡ b → M.stage ≡ s → M.part ≡ p
      → rows_now K M whole part ≡ cond b (rows_by K M whole part s p) []
  rows_as b s p whole part n t e = rw (n, t, e) refl

  late : (b : Bool) → b ≡ false → (a : Bool) → (a && b) ≡ false
  late b e true = e
  late b e false = refl

  -- STAGE 1

  module _ (s : i.stage ≡ S1) where
    first_of : is_first M ≡ true
    first_of = ap is_stage1 (stage_of ∙ s)

    stage1_is : M.stage ≡ S1
    stage1_is = stage_of ∙ s

    pub tells1 : (left : ℕ) → left ≤ most_left → i.level ≡ level_of left → (v : Word) → Some (word_at (regime_for made)
        (untagged made.access.va) i.stage left i) ≡ Some v
        → TellsMark (regime_for made) M S1 v (untagged made.access.va)
    tells1 left l e v h = subst (λ s. TellsMark (regime_for made) M s v (address_by s (untagged made.access.va) x)) s (tells left l e v h)

    pub led1 : (goal0 left : ℕ) → left ≤ most_left → i.level ≡ level_of left → (v : Word)
        → Some (word_at (regime_for made) (untagged made.access.va) i.stage left i) ≡ Some v
        → v.goal ≡ next_goal (regime_for made) (untagged made.access.va) goal0 i
    led1 goal0 left l e v h =
        let r : Regime = regime_for made in
        let va : ℕ = untagged made.access.va in
        let b : left_below i.level ≡ left = ap left_below e ∙ left_below_of left l in
        sym (ap (λ (w : Word). w.goal) (same_Some _ _ h)) ∙ ap (λ st. goal_at r va st left i) s ∙ ap (λ n. goes_by_word r va n i) (sym b)
        ∙ ap (goes_by_item r va i) (sym w) ∙ ap (λ st. cond (is_stage1 st) (goes_by_item r va i i.what) goal0) (sym s)

    not_leaf2_here : (b : Bool) → M.part ≡ leaf_of_stage2 b → ⊥
    unfolding mark
    not_leaf2_here b h =
        let r : Regime = regime_for made in
        let p : M.part ≡ part_of r S1 (left_below i.level) i.value = rw (w, s) refl in
        not_leaf2 r _ b (sym p ∙ h)

    leaf1_is : (p : Part) (b : Bool) → M.part ≡ p → is_read_now K M ≡ b → is_new_leaf K (Some M) ≡ (is_leaf p && b)
    leaf1_is p b e n = rw (first_of, e, n) refl

    pub passed1 : (at goal0 goal start : ℕ) (led : goal ≡ next_goal (regime_for made) (untagged made.access.va) goal0 i) (leaf0 : Option NewRow)
        (class0 : Option ℕ) (leaf : Option NewRow) (row : Option NewRow) →
        ((trail : List Item) → one_from K trail row ≡ rows_now K M (take (at + 1) trail) (drop (at + 1) (take (at + 1) trail)))
        → IsLeaf made (Some M) leaf →
        Passed made at i record { ipa = x; goal = goal0; start = start; leaf = leaf0; class2 = class0 }
        record { ipa = x; goal = goal; start = at + 1; leaf = leaf; class2 = None } row
    passed1 at goal0 goal start led leaf0 class0 leaf row h g = record {
      ipa = rw w refl;
      goal = led;
      start = rw first_of refl;
      row_is = h;
      leaf = λ o k l. record { leaf = rw first_of g; class = λ _. rw first_of refl };
    }

    -- a word of another moment
    pub earlier1 : (at goal0 goal start : ℕ) (led : goal ≡ next_goal (regime_for made) (untagged made.access.va) goal0 i) (leaf0 : Option NewRow)
        (class0 : Option ℕ) → is_read_now K M ≡ false →
        Passed made at i record { ipa = x; goal = goal0; start = start; leaf = leaf0; class2 = class0 }
        record { ipa = x; goal = goal; start = at + 1; leaf = None; class2 = None } None
    earlier1 at goal0 goal start led leaf0 class0 n =
        passed1 at goal0 goal start led leaf0 class0 None None (λ trail. sym (rows_as false S1 M.part _ _ n stage1_is refl))
        (leaf1_is M.part false refl n ∙ late false refl (is_leaf M.part))

    module _ (n : is_read_now K M ≡ true) (v : Word) (t : TellsMark (regime_for made) M S1 v (untagged made.access.va)) where
      -- a table
      pub table1 : (at goal0 goal start : ℕ) (led : goal ≡ next_goal (regime_for made) (untagged made.access.va) goal0 i) (leaf0 : Option NewRow)
          (class0 : Option ℕ) (b : Bool) (row : NewRow) → v.means ≡ Table b →
          ((trail : List Item) → row_from K trail row ≡ row_of K M OfTable1 (take (at + 1) trail)) →
          Passed made at i record { ipa = x; goal = goal0; start = start; leaf = leaf0; class2 = class0 }
          record { ipa = x; goal = goal; start = at + 1; leaf = None; class2 = None } (cond b (Some row) None)
      table1 at goal0 goal start led leaf0 class0 b row e h =
          let p : M.part ≡ table b = means_table M.part b (t.part ∙ e) in
          passed1 at goal0 goal start led leaf0 class0 None (cond b (Some row) None)
          (λ trail. one_if b row (row_of K M OfTable1 (take (at + 1) trail)) trail (h trail)
          ∙ sym (rows_as true S1 (table b) (take (at + 1) trail) (drop (at + 1) (take (at + 1) trail)) n stage1_is p))
          (leaf1_is (table b) true p n)

      -- a leaf
      pub leaf1 : (at goal0 goal start : ℕ) (led : goal ≡ next_goal (regime_for made) (untagged made.access.va) goal0 i) (leaf0 : Option NewRow)
          (class0 : Option ℕ) (b : Bool) (row : NewRow) → v.means ≡ Leaf1 b →
          ((trail : List Item) → row_from K trail row ≡ row_of K M OfLeaf1 (drop 0 (take 0 trail))) → row.start ≡ 0 → row.region.class ≡ v.class →
          Passed made at i record { ipa = x; goal = goal0; start = start; leaf = leaf0; class2 = class0 }
          record { ipa = x; goal = goal; start = at + 1; leaf = Some (record row { global = b }); class2 = None } None
      leaf1 at goal0 goal start led leaf0 class0 b row e h z k =
          let p : M.part ≡ leaf_of_stage1 b = means_leaf1 M.part b (t.part ∙ e) in
          passed1 at goal0 goal start led leaf0 class0 (Some (record row { global = b })) None
          (λ trail. sym (rows_as true S1 (leaf_of_stage1 b) (take (at + 1) trail) (drop (at + 1) (take (at + 1) trail)) n stage1_is p))
          record {
            new = leaf1_is (leaf_of_stage1 b) true p n;
            kind = ap (λ (r : Row). r.kind) (h []);
            start = z;
            tag = ap (λ (r : Row). r.tag) (h []);
            global = sym (ap is_global p);
            class = k ∙ sym (ap (λ (g : Region). g.class) t.region);
          }

      -- nothing that is kept
      pub nothing1 : (at goal0 goal start : ℕ) (led : goal ≡ next_goal (regime_for made) (untagged made.access.va) goal0 i) (leaf0 : Option NewRow)
          (class0 : Option ℕ) → v.means ≡ Nothing →
          Passed made at i record { ipa = x; goal = goal0; start = start; leaf = leaf0; class2 = class0 }
          record { ipa = x; goal = goal; start = at + 1; leaf = None; class2 = None } None
      nothing1 at goal0 goal start led leaf0 class0 e =
          let p : M.part ≡ nothing = means_nothing M.part (t.part ∙ e) in
          passed1 at goal0 goal start led leaf0 class0 None None
          (λ trail. sym (rows_as true S1 nothing (take (at + 1) trail) (drop (at + 1) (take (at + 1) trail)) n stage1_is p)) (leaf1_is nothing true p n)

      pub not_second : (b : Bool) → v.means ≡ Leaf2 b → ⊥
      not_second b e = not_leaf2_here b (means_leaf2 M.part b (t.part ∙ e))

  -- STAGE 2

  module _ (s : i.stage ≡ S2) where
    second_of : is_first M ≡ false
    second_of = ap is_stage1 (stage_of ∙ s)

    stage2_is : M.stage ≡ S2
    stage2_is = stage_of ∙ s

    pub tells2 : (left : ℕ) → left ≤ most_left → i.level ≡ level_of left → (v : Word) → Some (word_at (regime_for made)
        (untagged made.access.va) i.stage left i) ≡ Some v
        → TellsMark (regime_for made) M S2 v x
    tells2 left l e v h = subst (λ s. TellsMark (regime_for made) M s v (address_by s (untagged made.access.va) x)) s (tells left l e v h)

    not_leaf1_here : (b : Bool) → M.part ≡ leaf_of_stage1 b → ⊥
    unfolding mark
    not_leaf1_here b h =
        let r : Regime = regime_for made in
        let p : M.part ≡ part_of r S2 (left_below i.level) i.value = rw (w, s) refl in
        not_leaf1 r _ b (sym p ∙ h)

    passed2 : (at goal0 start : ℕ) (leaf0 : Option NewRow) (class0 class : Option ℕ) (row : Option NewRow) →
        ((trail : List Item) → one_from K trail row ≡ rows_now K M (take (at + 1) trail) (drop start (take (at + 1) trail))) →
        ((o : Option Mark) → IsLeaf made o leaf0 → is_new_leaf K o ≡ true → class ≡ Some M.region.class) →
        Passed made at i record { ipa = x; goal = goal0; start = start; leaf = leaf0; class2 = class0 }
        record { ipa = x; goal = goal0; start = start; leaf = leaf0; class2 = class } row
    passed2 at goal0 start leaf0 class0 class row h g = record {
      ipa = rw w refl;
      goal = rw s refl;
      start = rw (second_of, base_of) refl;
      row_is = h;
      leaf = λ o k l. record {
        leaf = rw second_of l.leaf;
        class = λ e. rw (second_of, base_of)
            (g o l.leaf (subst (λ b. is_new_leaf K (cond b (Some M) o) ≡ true) second_of e));
      };
    }

    -- a word of another moment, where no leaf of stage 1 was read now
    pub earlier2 : (at goal0 start : ℕ) (leaf0 : Option NewRow) (class0 : Option ℕ) → is_some leaf0 ≡ false → is_read_now K M ≡ false →
        Passed made at i record { ipa = x; goal = goal0; start = start; leaf = leaf0; class2 = class0 }
        record { ipa = x; goal = goal0; start = start; leaf = leaf0; class2 = class0 } None
    earlier2 at goal0 start (Some row) class0 h n = absurd cc
    earlier2 at goal0 start None class0 h n =
        passed2 at goal0 start None class0 class0 None (λ trail. sym (rows_as false S2 M.part _ _ n stage2_is refl))
        (λ o l e. absurd (both_ways (is_new_leaf K o) l e))

    module _ (v : Word) (t : TellsMark (regime_for made) M S2 v x) where
      class_is : Some v.class ≡ Some M.region.class
      class_is = sym (ap (λ (g : Region). Some g.class) t.region)

      -- another moment
      pub before2 : (at goal0 start : ℕ) (leaf0 : Option NewRow) (class0 : Option ℕ) → is_read_now K M ≡ false →
          Passed made at i record { ipa = x; goal = goal0; start = start; leaf = leaf0; class2 = class0 }
          record { ipa = x; goal = goal0; start = start; leaf = leaf0; class2 = Some v.class } None
      before2 at goal0 start leaf0 class0 n =
          passed2 at goal0 start leaf0 class0 (Some v.class) None (λ trail. sym (rows_as false S2 M.part _ _ n stage2_is refl)) (λ o l e. class_is)

      module _ (n : is_read_now K M ≡ true) where
        pub table2 : (at goal0 start : ℕ) (leaf0 : Option NewRow) (class0 : Option ℕ) (b : Bool) (row : NewRow) → v.means ≡ Table b →
            ((trail : List Item) → row_from K trail row ≡ row_of K M OfTable2 (drop start (take (at + 1) trail))) →
            Passed made at i record { ipa = x; goal = goal0; start = start; leaf = leaf0; class2 = class0 }
            record { ipa = x; goal = goal0; start = start; leaf = leaf0; class2 = Some v.class } (cond b (Some row) None)
        table2 at goal0 start leaf0 class0 b row e h =
            let p : M.part ≡ table b = means_table M.part b (t.part ∙ e) in
            passed2 at goal0 start leaf0 class0 (Some v.class) (cond b (Some row) None)
            (λ trail. one_if b row (row_of K M OfTable2 (drop start (take (at + 1) trail))) trail (h trail)
            ∙ sym (rows_as true S2 (table b) (take (at + 1) trail) (drop start (take (at + 1) trail)) n stage2_is p)) (λ o l e. class_is)

        pub leaf2 : (at goal0 start : ℕ) (leaf0 : Option NewRow) (class0 : Option ℕ) (b : Bool) (row : NewRow) → v.means ≡ Leaf2 b →
            ((trail : List Item) → row_from K trail row ≡ row_of K M OfLeaf2 (drop start (take (at + 1) trail))) →
            Passed made at i record { ipa = x; goal = goal0; start = start; leaf = leaf0; class2 = class0 }
            record { ipa = x; goal = goal0; start = start; leaf = leaf0; class2 = Some v.class } (cond b (Some row) None)
        leaf2 at goal0 start leaf0 class0 b row e h =
            let p : M.part ≡ leaf_of_stage2 b = means_leaf2 M.part b (t.part ∙ e) in
            passed2 at goal0 start leaf0 class0 (Some v.class) (cond b (Some row) None)
            (λ trail. one_if b row (row_of K M OfLeaf2 (drop start (take (at + 1) trail))) trail (h trail)
            ∙ sym (rows_as true S2 (leaf_of_stage2 b) (take (at + 1) trail) (drop start (take (at + 1) trail)) n stage2_is p)) (λ o l e. class_is)

        pub nothing2 : (at goal0 start : ℕ) (leaf0 : Option NewRow) (class0 : Option ℕ) → v.means ≡ Nothing →
            Passed made at i record { ipa = x; goal = goal0; start = start; leaf = leaf0; class2 = class0 }
            record { ipa = x; goal = goal0; start = start; leaf = leaf0; class2 = Some v.class } None
        nothing2 at goal0 start leaf0 class0 e =
            let p : M.part ≡ nothing = means_nothing M.part (t.part ∙ e) in
            passed2 at goal0 start leaf0 class0 (Some v.class) None
            (λ trail. sym (rows_as true S2 nothing (take (at + 1) trail) (drop start (take (at + 1) trail)) n stage2_is p)) (λ o l e. class_is)

        pub not_first : (b : Bool) → v.means ≡ Leaf1 b → ⊥
        not_first b e = not_leaf1_here b (means_leaf1 M.part b (t.part ∙ e))
