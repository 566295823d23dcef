-- What an item that fits a need tells of it, and marks of walks that go in step.
use Rattle.std.proofs.Common.{◌≡◌, ℕ, true, false, ◌&&◌, ◌||◌, List, [], ◌∷◌, refl, sym, ap, ◌∙◌}
use Rattle.std.specs.Prelude.{ℤ, pos, negsuc, ◌==◌}
use Rattle.std.proofs.lemmas.Bool.{eqb-true}
use Rattle.std.proofs.lemmas.Option.{same_Some}
use Rattle.geometry.specs.Tables.{level_of}
use Rattle.fault_codes.specs.declared.fault.Stage.{Stage}
use Rattle.fault_codes.specs.declared.fault.Stage.TheVariants.{S1, S2}
use Rattle.trails.specs.declared.item.Item.{Item}
use Rattle.trails.specs.declared.item.What.{What}
use Rattle.trails.specs.declared.item.What.TheVariants.{Base, Word}
use Rattle.walk_spec.specs.Ask.{Ask, done, ask, on}
use Rattle.walk_spec.specs.declared.region.Region.{Region}
use Rattle.walk_spec.specs.Needs.{Regime, Need, stage1_base, stage2_base, word, WordNeed, fits, is_word, is_base}
use Rattle.walk_spec.specs.Needs.{stage_eq, level_eq, is_run_mate, region_of, sizes_of}
use Rattle.walk_laws.proofs.Stepping.{Takes, InStep}
use Rattle.walk_laws.proofs.Places.{SameRegion, first_of_and, second_of_and}
use Rattle.walk_laws.proofs.Tables2.{level_of_one}
use Rattle.machine_spec.specs.Marks.{Mark, mark, marks, part_of}
use Rattle.machine_laws.specs.Standing.{IsOn}
use Rattle.machine_laws.proofs.Stands.{marks_nil}

-- ITEMS THAT FIT

pub level_is : (a b : ℤ) → level_eq a b ≡ true → a ≡ b
level_is (pos m) (pos n) h = ap (λ z. pos z) (eqb-true m n h)
level_is (pos m) (negsuc n) h = absurd cc
level_is (negsuc m) (pos n) h = absurd cc
level_is (negsuc m) (negsuc n) h = ap (λ z. negsuc z) (eqb-true m n h)

stage_is : (s t : Stage) → stage_eq s t ≡ true → s ≡ t
stage_is S1 S1 h = refl
stage_is S1 S2 h = absurd cc
stage_is S2 S1 h = absurd cc
stage_is S2 S2 h = refl

is_word_of : (w : What) → is_word w ≡ true → w ≡ Word
is_word_of Base h = absurd cc
is_word_of Word h = refl

is_base_of : (w : What) → is_base w ≡ true → w ≡ Base
is_base_of Base h = refl
is_base_of Word h = absurd cc

-- what a word's need and a base's tell of the item
pub record FitsWord (w : WordNeed) (i : Item) : Type 0 where
  pub what : i.what ≡ Word
  pub stage : i.stage ≡ w.stage
  pub level : i.level ≡ level_of w.left

pub fits_word_parts : (r : Regime) (w : WordNeed) (i : Item) → fits r (word w) i ≡ true → FitsWord w i
unfolding fits
fits_word_parts r w i h =
    let a = first_of_and (is_word i.what && stage_eq i.stage w.stage && level_eq i.level (level_of w.left)) ((i.pa == w.place) || is_run_mate r w i) h in
    let b = first_of_and (is_word i.what && stage_eq i.stage w.stage) (level_eq i.level (level_of w.left)) a in
    record {
      what = is_word_of i.what (first_of_and (is_word i.what) (stage_eq i.stage w.stage) b);
      stage = stage_is i.stage w.stage (second_of_and (is_word i.what) (stage_eq i.stage w.stage) b);
      level = level_is i.level (level_of w.left) (second_of_and (is_word i.what && stage_eq i.stage w.stage) (level_eq i.level (level_of w.left)) a);
    }

pub fits_base1_parts : (r : Regime) (i : Item) → fits r stage1_base i ≡ true → (i.what ≡ Base) × (i.stage ≡ S1)
unfolding fits
fits_base1_parts r i h =
    let d = first_of_and _ _ (first_of_and _ _ (first_of_and _ _ (first_of_and _ _ h))) in
    (is_base_of i.what (first_of_and (is_base i.what) (stage_eq i.stage S1) d), stage_is i.stage S1 (second_of_and (is_base i.what) (stage_eq i.stage S1) d))

pub fits_base2_parts : (r : Regime) (x : ℕ) (i : Item) → fits r (stage2_base x) i ≡ true → (i.what ≡ Base) × (i.stage ≡ S2)
unfolding fits
fits_base2_parts r x i h =
    let d = first_of_and _ _ (first_of_and _ _ (first_of_and _ _ (first_of_and _ _ h))) in
    (is_base_of i.what (first_of_and (is_base i.what) (stage_eq i.stage S2) d), stage_is i.stage S2 (second_of_and (is_base i.what) (stage_eq i.stage S2) d))

-- two words that one item fits are of one stage and one level
pub same_word : (w v : WordNeed) (i : Item) → FitsWord w i → FitsWord v i → (w.stage ≡ v.stage) × (w.left ≡ v.left)
same_word w v i f g = (sym f.stage ∙ g.stage, level_of_one w.left v.left (sym f.level ∙ g.level))

-- MARKS

mark_with : Regime → Item → Stage → ℕ → Region → Mark
mark_with r i s left g = record { stage = s; base = false; part = part_of r s left i.value; region = g; granule = (sizes_of r s).granule; item = i }

mark_of_word : (r : Regime) (w : WordNeed) (i : Item) → mark r (word w) i ≡ mark_with r i w.stage w.left (region_of r w i)
unfolding mark mark_with
mark_of_word r w i = refl

mark_words : (r : Regime) (w v : WordNeed) (i : Item) → (w.stage ≡ v.stage) × (w.left ≡ v.left) → region_of r w i ≡ region_of r v i
    → mark r (word w) i ≡ mark r (word v) i
mark_words r w v i e g =
    mark_of_word r w i ∙ ap (λ s. mark_with r i s w.left (region_of r w i)) e.0 ∙ ap (λ n. mark_with r i v.stage n (region_of r w i)) e.1
    ∙ ap (mark_with r i v.stage v.left) g ∙ sym (mark_of_word r v i)

-- an item of one region for two needs that it fits has one mark
pub same_mark : (r : Regime) (m n : Need) (i : Item) → fits r m i ≡ true → fits r n i ≡ true → SameRegion r m n i → mark r m i ≡ mark r n i
unfolding mark
same_mark r stage1_base stage1_base i f g s = refl
same_mark r stage1_base (stage2_base y) i f g s = (let q : S1 ≡ S2 = sym (fits_base1_parts r i f).1 ∙ (fits_base2_parts r y i g).1 in absurd cc)
same_mark r stage1_base (word v) i f g s = absurd cc
same_mark r (stage2_base x) stage1_base i f g s = (let q : S1 ≡ S2 = sym (fits_base1_parts r i g).1 ∙ (fits_base2_parts r x i f).1 in absurd cc)
same_mark r (stage2_base x) (stage2_base y) i f g s = refl
same_mark r (stage2_base x) (word v) i f g s = absurd cc
same_mark r (word w) stage1_base i f g s = absurd cc
same_mark r (word w) (stage2_base y) i f g s = absurd cc
same_mark r (word w) (word v) i f g s = mark_words r w v i (same_word w v i (fits_word_parts r w i f) (fits_word_parts r v i g)) (same_Some _ _ s)

module _ {A : Type 0} (r : Regime) where
  -- standing on a list is taking it
  pub takes_on : (t u : Ask Need Item A) (xs : List Item) → IsOn r t xs u → Takes (fits r) t xs u
  takes_on t u [] h = h
  takes_on (done a) u (x ∷ xs) h = h
  takes_on (ask n k) u (x ∷ xs) h = (h.0, takes_on (k x) u xs h.1)

  pub on_takes : (t u : Ask Need Item A) (xs : List Item) → Takes (fits r) t xs u → IsOn r t xs u
  on_takes t u [] h = h
  on_takes (done a) u (x ∷ xs) h = h
  on_takes (ask n k) u (x ∷ xs) h = (h.0, on_takes (k x) u xs h.1)

  -- what is left tells how the whole stands
  pub on_stands : (t u : Ask Need Item A) (xs : List Item) → IsOn r t xs u → on (fits r) t xs ≡ on (fits r) u []
  on_stands t u [] h = ap (λ z. on (fits r) z []) (sym h)
  on_stands (done a) u (x ∷ xs) h = absurd h
  on_stands (ask n k) u (x ∷ xs) h = rw h.0 (on_stands (k x) u xs h.1)

module _ {A B : Type 0} (r : Regime) where
  -- the other of two walks in step stands on the items too
  pub step_on_other : (t u : Ask Need Item A) (t' u' : Ask Need Item B) (xs : List Item) → InStep (fits r) (SameRegion r) t t' xs u u' → IsOn r t' xs u'
  step_on_other t u t' u' [] h = h.1
  step_on_other (ask n k) u (ask n' k') u' (x ∷ xs) h = (h.1, step_on_other (k x) u (k' x) u' xs h.3)
  step_on_other (ask n k) u (done b) u' (x ∷ xs) h = absurd h
  step_on_other (done a) u t' u' (x ∷ xs) h = absurd h

  -- and meets the same marks
  pub step_marks : (t u : Ask Need Item A) (t' u' : Ask Need Item B) (xs : List Item) → InStep (fits r) (SameRegion r) t t' xs u u'
      → marks r t xs ≡ marks r t' xs
  step_marks t u t' u' [] h = marks_nil r t ∙ sym (marks_nil r t')
  step_marks (ask n k) u (ask n' k') u' (x ∷ xs) h =
      ap (λ m. m ∷ marks r (k x) xs) (same_mark r n n' x h.0 h.1 h.2) ∙ ap (λ ms. mark r n' x ∷ ms) (step_marks (k x) u (k' x) u' xs h.3)
  step_marks (ask n k) u (done b) u' (x ∷ xs) h = absurd h
  step_marks (done a) u t' u' (x ∷ xs) h = absurd h
