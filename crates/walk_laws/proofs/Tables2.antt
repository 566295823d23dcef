-- Stage 2 behind a table, for each IPA of the table's region.
use Rattle.std.proofs.Common.{◌≡◌, ℕ, zero, suc, ◌/◌, ◌^◌, ◌≤◌, List, [], refl, sym, ap}
use Rattle.std.proofs.Common.{◌∙◌, arith, Bool, true, ◌&&◌, inr, ℤ, pos, negsuc, subst}
use Rattle.std.specs.Prelude.{◌≡◌, Option, Some, None}
use Rattle.std.proofs.lemmas.Bool.{eqb-true}
use Rattle.std.proofs.lemmas.Int.{ints}
use Rattle.geometry.specs.Tables.{class_of, level_of}
use Rattle.sysregs.specs.declared.regs.Config.{Config}
use Rattle.fault_codes.specs.declared.fault.Stage.{Stage}
use Rattle.fault_codes.specs.declared.fault.Stage.TheVariants.{S2}
use Rattle.descriptors.specs.declared.kinds.Kind2.TheVariants.{Table}
use Rattle.descriptors.specs.Meaning.{means2_of}
use Rattle.trails.specs.declared.item.Item.{Item}
use Rattle.trails.specs.declared.item.What.TheVariants.{Word}
use Rattle.walk_spec.specs.declared.leaf.Leaf2.{Leaf2}
use Rattle.walk_spec.specs.Ask.{Ask, done, ask, Stands, needs, bad, ends, on}
use Rattle.walk_spec.specs.Needs.{Regime, Need, stage1_base, stage2_base, word, fits, is_word, stage_eq, level_eq}
use Rattle.walk_spec.specs.Steps.{End}
use Rattle.walk_spec.specs.Stage2.{walk2}
use Rattle.walk_spec.specs.Stage1.{asked2}
use Rattle.walk_laws.specs.Shift.{NeedsWord}
use Rattle.walk_laws.proofs.Stepping.{InStep, LastIs, UsesAll, takes_all}
use Rattle.walk_laws.proofs.Places.{SameRegion, word_at, first_of_and, second_of_and}
use Rattle.walk_laws.proofs.Levels.{beneath}
use Rattle.walk_laws.proofs.Sound.{IsOfFields}
use Rattle.walk_laws.proofs.Stage2.{Turn2, table, leaf, fault, turn2, down2, class2, behind2, stepped2}

level_eq_true : (a b : ℤ) → level_eq a b ≡ true → a ≡ b
level_eq_true (pos m) (pos n) h = ap (λ z. pos z) (eqb-true m n h)
level_eq_true (pos m) (negsuc n) h = absurd cc
level_eq_true (negsuc m) (pos n) h = absurd cc
level_eq_true (negsuc m) (negsuc n) h = ap (λ z. negsuc z) (eqb-true m n h)

-- a level tells how many are left below it
pub level_of_one : (m n : ℕ) → level_of m ≡ level_of n → m ≡ n
level_of_one m n h = omega (arith, ints)

-- an item that fits a word's need has its level
pub fit_level : (r : Regime) (s : Stage) (left place : ℕ) (p : Bool) (x t : ℕ) (i : Item) → fits r (word_at s left place p x t) i ≡ true →
    i.level ≡ level_of left
unfolding fits
fit_level r s left place p x t i h = level_eq_true i.level (level_of left) (second_of_and (is_word i.what && stage_eq i.stage s) _ (first_of_and _ _ h))

-- a walk asks for a word
abbrev pub AsksWord : {A : Type 0} → Ask Need Item A → Type 0
AsksWord (ask stage1_base k) = ⊥
AsksWord (ask (stage2_base x) k) = ⊥
AsksWord (ask (word w) k) = Unit {0}
AsksWord (done a) = ⊥

asks_word : {A : Type 0} (f : Need → Item → Bool) (u : Ask Need Item A) → NeedsWord (on f u []) → AsksWord u
asks_word f (ask stage1_base k) h = h
asks_word f (ask (stage2_base x) k) h = h
asks_word f (ask (word w) k) h = h
asks_word f (done a) h = h

pub needs_word : {A : Type 0} (f : Need → Item → Bool) (u : Ask Need Item A) → AsksWord u → NeedsWord (on f u [])
needs_word f (ask stage1_base k) h = h
needs_word f (ask (stage2_base x) k) h = h
needs_word f (ask (word w) k) h = h
needs_word f (done a) h = h

uses_word : {A : Type 0} (s : Stands Need Item A) → NeedsWord s → UsesAll s
uses_word (needs n) h = tt
uses_word bad h = h
uses_word (ends a items) h = absurd h

pub no_mapping : (m : ℕ × Bool) (o : Option (ℕ × Bool)) → o ≡ None → o ≡ Some m → ⊥
no_mapping m o e h = cc

table_of : (c : Config) (left left' next : ℕ) (i i' : Item) → i ≡ i' → left ≡ left' → means2_of c left i.value ≡ Table next →
    means2_of c left' i'.value ≡ Table next
table_of c left left' next i i' e l m = rw (← e, ← l) m

class_of_table : (r : Regime) (left next : ℕ) (i : Item) → means2_of r.config left i.value ≡ Table next
    → class_of r.stage2.granule left ≤ class2 r left i
class_of_table r left next i m = rw m (omega arith)

module _ (r : Regime) (p : Bool) (x y : ℕ) where
  asks_beneath : (left next : ℕ) → AsksWord (beneath (down2 r p x) left next) → AsksWord (beneath (down2 r p y) left next)
  asks_beneath zero next h = h
  asks_beneath (suc zero) next h = tt
  asks_beneath (suc (suc left)) next h = tt

  -- behind a table both ask for a word, if one does
  asks_behind : (left : ℕ) (i : Item) (next : ℕ) → means2_of r.config left i.value ≡ Table next → Turn2 r left i
      → AsksWord (behind2 r p x y x left i) →
      AsksWord (behind2 r p x y y left i)
  asks_behind left i next m (table n a d) h =
      let w : AsksWord (beneath (down2 r p x) left n) = rw (d p x) at h in
      rw (d p y) (asks_beneath left n w)
  asks_behind left i next m (leaf f e d) h = absurd (no_mapping (f.out, f.contiguous) None refl (rw m at e))
  asks_behind left i next m (fault k d) h = absurd (rw (d p x) at h)

  -- Where the last item is a table and stage 2 needs a word, it goes in step with that of each IPA of the table's region,
  -- which needs a word too.
  pub tables2_in_step : IsOfFields r → (items : List Item) (i : Item) (left next : ℕ) → LastIs items i → i.what ≡ Word
      → i.level ≡ level_of left →
      means2_of r.config left i.value ≡ Table next → x / 2 ^ class_of r.stage2.granule left ≡ y / 2 ^ class_of r.stage2.granule left →
      NeedsWord (on (fits r) (walk2 (asked2 r p x)) items) → (u : Ask Need Item (End Leaf2)) × (v : Ask Need Item (End Leaf2))
      × InStep (fits r) (SameRegion r) (walk2 (asked2 r p x)) (walk2 (asked2 r p y)) items u v × AsksWord u × AsksWord v
  tables2_in_step f items i left next l o e m s h =
      let t = takes_all (fits r) (walk2 (asked2 r p x)) items (uses_word _ h) in
      let w = stepped2 r p x y f items t.0 t.1 (inr (i, l, (tt, o))) in
      let a : AsksWord t.0 = asks_word (fits r) t.0 (rw t.2 at h) in
      let q : i ≡ w.item = w.is_last i l o in
      let n : left ≡ w.left = level_of_one left w.left (sym e ∙ ap (λ z. z.level) q ∙ fit_level r S2 w.left w.fit.0 p x w.fit.1 w.item w.fit.2) in
      let m' = table_of r.config left w.left next i w.item q n m in
      let s' : x / 2 ^ class_of r.stage2.granule w.left ≡ y / 2 ^ class_of r.stage2.granule w.left =
      subst (λ (k : ℕ). x / 2 ^ class_of r.stage2.granule k ≡ y / 2 ^ class_of r.stage2.granule k) n s in
      let c = class_of_table r w.left next w.item m' in
      let d = asks_behind w.left w.item next m' (turn2 r w.left w.item) (rw w.left_as at a) in
      (t.0, behind2 r p x y y w.left w.item, w.shift (class_of r.stage2.granule w.left) c s', a, d)
