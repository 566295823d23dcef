-- The items of a trail are what its walk met them as.
use Rattle.std.proofs.Common.{◌≡◌, ℕ, true, false, cond, List, [], ◌∷◌, refl, sym, ap, ◌∙◌}
use Rattle.geometry.specs.Tables.{left_below}
use Rattle.fault_codes.specs.declared.fault.Stage.{Stage}
use Rattle.fault_codes.specs.declared.fault.Stage.TheVariants.{S1, S2}
use Rattle.trails.specs.declared.item.Item.{Item}
use Rattle.trails.specs.declared.item.What.TheVariants.{Word}
use Rattle.walk_spec.specs.Ask.{Ask, done, ask}
use Rattle.walk_spec.specs.Needs.{Regime, Need, stage1_base, stage2_base, word, WordNeed, fits}
use Rattle.stage2_walk.proofs.Starts.{left_below_of}
use Rattle.machine_spec.specs.Marks.{Mark, mark, marks}
use Rattle.machine_laws.specs.Standing.{IsOn}
use Rattle.machine_laws.proofs.MarksOf.{fits_word_parts, fits_base1_parts, fits_base2_parts}
use Rattle.served_walk.specs.Spots.{mark_of_word}
use Rattle.tlbi_ops.specs.Covers.{is_stage1}
use Rattle.made_rows.specs.Met.{goes_by_item, begins_chain, address_by, mark_for, open_ipa, next_goal, met}
use Rattle.made_rows.proofs.Steady.{IsSteady, goal_behind, AreSteady}

module _ (r : Regime) (va : ℕ) where
  -- the mark of a word is told by its stage, levels left and address
  mark_same : (i : Item) (w v : WordNeed) → w.stage ≡ v.stage → w.left ≡ v.left → w.address ≡ v.address → mark r (word w) i ≡ mark r (word v) i
  unfolding mark
  mark_same i w v s l a = rw (s, l, a) refl

  word_is : (x : ℕ) (i : Item) (w : WordNeed) → IsSteady r va x w → fits r (word w) i ≡ true → mark r (word w) i ≡ mark_for r va x i
  word_is x i w h f =
      let p = fits_word_parts r w i f in
      let l : left_below i.level ≡ w.left = ap left_below p.level ∙ left_below_of w.left h.left in
      let v : WordNeed = record {
        stage = i.stage;
        left = left_below i.level;
        place = i.pa;
        s1ptw = false;
        address = address_by i.stage va x;
        table = 0;
      } in
      mark_same i w v (sym p.stage) (sym l) (h.address ∙ ap (λ s. address_by s va x) (sym p.stage))
      ∙ ap (mark_of_word r i.stage (address_by i.stage va x) i) (sym p.what)

  word_goes : (i : Item) → i.what ≡ Word → begins_chain i ≡ false
  word_goes i e = rw e refl

  base1_is : (x : ℕ) (i : Item) → fits r stage1_base i ≡ true → mark r stage1_base i ≡ mark_for r va x i
  unfolding mark
  base1_is x i f = (let p = fits_base1_parts r i f in rw (p.0, p.1) refl)

  base1_goes : (i : Item) → fits r stage1_base i ≡ true → begins_chain i ≡ false
  base1_goes i f = (let p = fits_base1_parts r i f in rw (p.0, p.1) refl)

  base2_is : (x y : ℕ) (i : Item) → fits r (stage2_base x) i ≡ true → mark r (stage2_base x) i ≡ mark_for r va y i
  unfolding mark
  base2_is x y i f = (let p = fits_base2_parts r x i f in rw (p.0, p.1) refl)

  base2_begins : (x : ℕ) (i : Item) → fits r (stage2_base x) i ≡ true → begins_chain i ≡ true
  base2_begins x i f = (let p = fits_base2_parts r x i f in rw (p.0, p.1) refl)

  -- where stage 1 goes behind an item of each kind
  goal1 : (g : ℕ) (i : Item) → i.stage ≡ S1 → goes_by_item r va i i.what ≡ next_goal r va g i
  goal1 g i s = ap (λ st. cond (is_stage1 st) (goes_by_item r va i i.what) g) (sym s)

  goal2 : (g : ℕ) (i : Item) → i.stage ≡ S2 → g ≡ next_goal r va g i
  goal2 g i s = ap (λ st. cond (is_stage1 st) (goes_by_item r va i i.what) g) (sym s)

  goal_word : (g : ℕ) (i : Item) (s : Stage) → i.stage ≡ s → goal_behind r va g s i ≡ next_goal r va g i
  goal_word g i S1 e = goal1 g i e
  goal_word g i S2 e = goal2 g i e

  -- one item
  one_met : (x y g h : ℕ) (m : Mark) (i : Item) (items : List Item) (ms : List Mark) → y ≡ open_ipa x g i → m ≡ mark_for r va y i
      → h ≡ next_goal r va g i →
      ms ≡ met r va y h items → m ∷ ms ≡ met r va x g (i ∷ items)
  one_met x y g h m i items ms a b c d =
      ap (λ z. z ∷ ms) b ∙ ap (λ z. mark_for r va y i ∷ z) d ∙ ap (λ z. mark_for r va y i ∷ met r va y z items) c
      ∙ ap (λ z. mark_for r va z i ∷ met r va z (next_goal r va g i) items) a

  stays : (x g : ℕ) (i : Item) → begins_chain i ≡ false → x ≡ open_ipa x g i
  stays x g i b = ap (λ b. cond b g x) (sym b)

  opens : (x g : ℕ) (i : Item) → begins_chain i ≡ true → g ≡ open_ipa x g i
  opens x g i b = ap (λ b. cond b g x) (sym b)

  pub met_are : {A : Type 0} (P : A → ℕ → Type 0) (x g : ℕ) (t u : Ask Need Item A) (items : List Item) → AreSteady P r va x g t
      → IsOn r t items u →
      marks r t items ≡ met r va x g items
  met_are P x g (done a) u [] s h = refl
  met_are P x g (done a) u (i ∷ items) s h = absurd h
  met_are P x g (ask n k) u [] s h = refl
  met_are P x g (ask stage1_base k) u (i ∷ items) s h =
      one_met x x g (goes_by_item r va i i.what) (mark r stage1_base i) i items (marks r (k i) items) (stays x g i (base1_goes i h.0)) (base1_is x i h.0)
      (goal1 g i (fits_base1_parts r i h.0).1) (met_are P x (goes_by_item r va i i.what) (k i) u items (s.1 i h.0) h.1)
  met_are P x g (ask (stage2_base y) k) u (i ∷ items) s h =
      one_met x y g g (mark r (stage2_base y) i) i items (marks r (k i) items) (s.0 ∙ opens x g i (base2_begins y i h.0)) (base2_is y y i h.0)
      (goal2 g i (fits_base2_parts r y i h.0).1) (met_are P y g (k i) u items (s.2 i) h.1)
  met_are P x g (ask (word w) k) u (i ∷ items) s h =
      let p = fits_word_parts r w i h.0 in
      one_met x x g (goal_behind r va g w.stage i) (mark r (word w) i) i items (marks r (k i) items) (stays x g i (word_goes i p.what)) (word_is x i w s.0 h.0)
      (goal_word g i w.stage p.stage) (met_are P x (goal_behind r va g w.stage i) (k i) u items (s.1 i h.0) h.1)
