-- Stage 2 for two IPAs of one region, side by side.
use Rattle.std.proofs.Common.{◌≡◌, ℕ, zero, suc, ◌/◌, ◌%◌, ◌^◌, ◌≤◌, List, [], ◌∷◌, refl, sym}
use Rattle.std.proofs.Common.{ap, ◌∙◌, arith, Bool, true, false, ◌||◌, inl, Ok, Result, subst}
use Rattle.std.specs.Prelude.{not, Some}
use Rattle.std.proofs.lemmas.Bool.{eqb-true}
use Rattle.geometry.specs.Tables.{IsGranule, class_of, table_size, most_left}
use Rattle.geometry.specs.Runs.{goes_to}
use Rattle.fault_codes.specs.declared.fault.Fault.{Fault}
use Rattle.fault_codes.specs.declared.fault.Stage.TheVariants.{S2}
use Rattle.fault_codes.specs.declared.fault.Class.{Class}
use Rattle.fault_codes.specs.declared.fault.Class.TheVariants.{Translation, AddressSize, AccessFlag}
use Rattle.descriptors.specs.declared.kinds.Kind2.{Kind2}
use Rattle.descriptors.specs.declared.kinds.Kind2.TheVariants.{Invalid, Table, Leaf}
use Rattle.descriptors.specs.Meaning.{means2_of}
use Rattle.trails.specs.declared.item.Item.{Item}
use Rattle.trails.specs.declared.item.What.{What}
use Rattle.trails.specs.declared.item.What.TheVariants.{Base, Word}
use Rattle.table_reads.specs.declared.lead.Lead.{Lead}
use Rattle.table_reads.specs.declared.lead.Lead.TheVariants.{Down, Reached, Stopped}
use Rattle.table_reads.specs.Numbers.{AreSound}
use Rattle.table_reads.specs.Places.{place_of, is_too_large}
use Rattle.table_reads.specs.Items.{fault_at}
use Rattle.walk_spec.specs.declared.leaf.Leaf2.{Leaf2}
use Rattle.walk_spec.specs.declared.leaf.Fields2.{Fields2}
use Rattle.walk_spec.specs.Ask.{Ask, done, after}
use Rattle.walk_spec.specs.Needs.{Regime, Need, stage2_base, fits, is_base, mapping_of, class_by}
use Rattle.walk_spec.specs.Steps.{End, stops, reaches, step_then}
use Rattle.walk_spec.specs.Stage2.{fault2, leaf2_of, step2, level2, walk2_from, is_refused2, walk2}
use Rattle.walk_spec.specs.Stage1.{asked2}
use Rattle.walk_laws.specs.Moved.{moved2}
use Rattle.walk_laws.proofs.Numbers.{goes_to_again}
use Rattle.walk_laws.proofs.Stepping.{Takes, InStep, LastIs}
use Rattle.walk_laws.proofs.Places.{one_word, one_last, one_taken, word_flat, IsAligned, run_below, class_up, class_least, class_by_least}
use Rattle.walk_laws.proofs.Places.{class_by_most, class_by_fits, alike_places, word_at, SameRegion, first_of_and, second_of_and}
use Rattle.walk_laws.proofs.Aligned.{aligned_page, aligned_start, table2_page}
use Rattle.walk_laws.proofs.Levels.{Descent, levels, beneath, behind, Closes, Measure, Twins, Way, way, no_leaf}
use Rattle.walk_laws.proofs.Roots.{Root, WordOf, Rooted, from_root}
use Rattle.walk_laws.proofs.Sound.{IsOfFields, granule2, sound2, range2}

-- What a word of stage 2 leads to, whatever the IPA: the next table, a block or page, or a fault.
pub data Turn2 (r : Regime) (left : ℕ) (i : Item) : Type 0 where
  table : (next : ℕ) → next % 2 ^ 12 ≡ 0 → ((p : Bool) (x : ℕ) → step2 (asked2 r p x) left i.pa i.value ≡ Down next) → Turn2 r left i
  leaf : (f : Fields2) → mapping_of r S2 left i.value ≡ Some (f.out, f.contiguous) →
      ((p : Bool) (x : ℕ) → step2 (asked2 r p x) left i.pa i.value ≡ Reached (leaf2_of (asked2 r p x) left i.pa f)) → Turn2 r left i
  fault : (k : Class) → ((p : Bool) (x : ℕ) → step2 (asked2 r p x) left i.pa i.value ≡ Stopped (fault2 (asked2 r p x) k left)) → Turn2 r left i

module _ (r : Regime) (left : ℕ) (i : Item) where
  turn_table : (next : ℕ) (big : Bool) → means2_of r.config left i.value ≡ Table next → is_too_large r.stage2 next ≡ big → Turn2 r left i
  unfolding step2
  turn_table next true e b = fault AddressSize (λ p x. rw (e, b) refl)
  turn_table next false e b = table next (table2_page r.config left i.value next e) (λ p x. rw (e, b) refl)

  turn_leaf : (out mem_attr xn sh : ℕ) (read write af dbm contiguous big off : Bool) →
      means2_of r.config left i.value ≡ Leaf out mem_attr read write xn sh af dbm contiguous → is_too_large r.stage2 out ≡ big →
      not (af || r.config.ha2) ≡ off → Turn2 r left i
  unfolding step2
  turn_leaf out mem_attr xn sh read write af dbm contiguous true off e b n = fault AddressSize (λ p x. rw (e, b) refl)
  turn_leaf out mem_attr xn sh read write af dbm contiguous false true e b n = fault AccessFlag (λ p x. rw (e, b, n) refl)
  turn_leaf out mem_attr xn sh read write af dbm contiguous false false e b n =
      leaf record {
        out = out;
        mem_attr = mem_attr;
        xn = xn;
        sh = sh;
        read = read;
        write = write;
        dbm = dbm;
        contiguous = contiguous;
      } (rw e refl) (λ p x. rw (e, b, n) refl)

  turn_by : (kind : Kind2) → means2_of r.config left i.value ≡ kind → Turn2 r left i
  unfolding step2
  turn_by Invalid e = fault Translation (λ p x. rw e refl)
  turn_by (Table next) e = turn_table next (is_too_large r.stage2 next) e refl
  turn_by (Leaf out mem_attr read write xn sh af dbm contiguous) e =
      turn_leaf out mem_attr xn sh read write af dbm contiguous (is_too_large r.stage2 out) (not (af || r.config.ha2)) e refl refl

  pub turn2 : Turn2 r left i
  turn2 = turn_by (means2_of r.config left i.value) refl

leaf2_again : (r : Regime) (p : Bool) (left pa : ℕ) (f : Fields2) (x y : ℕ) → leaf2_of (asked2 r p y) left pa f
    ≡ moved2 (leaf2_of (asked2 r p x) left pa f) y
leaf2_again r p left pa f x y =
    let g : ℕ → Leaf2 = λ n. record (leaf2_of (asked2 r p x) left pa f) { pa = n } in
    ap g (sym (goes_to_again f.out (leaf2_of (asked2 r p x) left pa f).class x y))

module _ (r : Regime) where
  -- the word of a level, what it leads to, and the levels that are left
  abbrev pub had2 : (s1ptw : Bool) (ipa left table : ℕ) → Ask Need Item (Result Item Fault)
  had2 p x left t = one_word (word_at S2 left (place_of r.stage2 left t x) p x t)

  abbrev pub by2 : (s1ptw : Bool) (ipa left table : ℕ) (item : Item) → Lead Leaf2 ℕ
  by2 p x left t i = step2 (asked2 r p x) left i.pa i.value

  abbrev pub last2 : (s1ptw : Bool) → Fault
  last2 p = fault_at S2 p Translation 0

  abbrev pub down2 : (s1ptw : Bool) (ipa : ℕ) → Descent Leaf2 ℕ
  down2 p x = record { had = had2 p x; step = by2 p x; last = last2 p }

  abbrev pub levels2 : (s1ptw : Bool) (ipa left table : ℕ) → Ask Need Item (End Leaf2)
  levels2 p x = levels (down2 p x)

  walk2_levels_all : (p : Bool) (x left : ℕ) → walk2_from (asked2 r p x) left ≡ levels2 p x left
  walk2_levels_all p x zero = refl
  walk2_levels_all p x (suc left) =
      let f : (ℕ → Ask Need Item (End Leaf2)) → ℕ → Ask Need Item (End Leaf2) = λ below. λ t. after (level2 (asked2 r p x) (suc left) t)
      (step_then below) in
      ap f (walk2_levels_all p x left)

  pub walk2_levels : (p : Bool) (x left t : ℕ) → walk2_from (asked2 r p x) left t ≡ levels2 p x left t
  walk2_levels p x left t = ap (λ f. f t) (walk2_levels_all p x left)

  abbrev pub class2 : ℕ → Item → ℕ
  class2 left i = class_by (mapping_of r S2 left i.value) r.stage2 left i.pa

  -- each item is a word of stage 2
  abbrev pub Any : Item → Type 0
  Any i = Unit {0}

  abbrev pub measure2 : (x y : ℕ) → Measure ℕ
  measure2 x y = record { own = Any; sound = IsAligned r.stage2; low = class_of r.stage2.granule; class = class2; same = λ k. x / 2 ^ k ≡ y / 2 ^ k }

  abbrev pub Law2 : (p : Bool) (x y : ℕ) → Type 0
  Law2 p x y = Twins (fits r) (SameRegion r) (down2 p x) (down2 p y) (measure2 x y)

  none2 : (p : Bool) (x left t : ℕ) (i : Item) → Takes (fits r) (had2 p x left t) [] (done (Ok i)) → ⊥
  none2 p x left t i h = absurd cc

  tables2 : (g : IsGranule r.stage2.granule) (p : Bool) (x y left : ℕ) (i : Item) (next : ℕ) → Turn2 r left i →
      step2 (asked2 r p x) left i.pa i.value ≡ Down next → (step2 (asked2 r p y) left i.pa i.value ≡ Down next)
      × ((below : ℕ) → IsAligned r.stage2 below next)
  tables2 g p x y left i next (table n a d) h =
      let e : Down n ≡ Down next = sym (d p x) ∙ h in
      let q : n ≡ next = cc in
      (d p y ∙ e, λ below w. aligned_page r.stage2.granule below next g (rw q at a))
  tables2 g p x y left i next (leaf f m d) h = (let e : Reached (leaf2_of (asked2 r p x) left i.pa f) ≡ Down next = sym (d p x) ∙ h in absurd cc)
  tables2 g p x y left i next (fault k d) h = (let e : Stopped (fault2 (asked2 r p x) k left) ≡ Down next = sym (d p x) ∙ h in absurd cc)

  pub law2 : (g : IsGranule r.stage2.granule) (p : Bool) (x y : ℕ) → Law2 p x y
  law2 g p x y = record {
    none = λ left t i h. none2 p x left t i h;
    whole = λ left t items u i h e o. one_last r (word_at S2 left (place_of r.stage2 left t x) p x t) items u i h e;
    words = λ left t items i k a h l s.
        word_flat r S2 left (place_of r.stage2 left t x) (place_of r.stage2 left t y) p x y t t k items i
        (alike_places r.stage2 left t i.pa (mapping_of r S2 left i.value) x y k g a l s) l s h;
    tables = λ left t i next h. tables2 g p x y left i next (turn2 r left i) h;
    least = λ left i. class_by_least (mapping_of r S2 left i.value) r.stage2 left i.pa g;
    shrinks = λ m left i l. (let a = class_by_most (mapping_of r S2 m i.value) r.stage2 m i.pa g in let b = run_below r.stage2.granule m left g l in
        omega (arith, a, b));
  }

pub what_base : (w : What) → is_base w ≡ true → w ≡ Base
what_base Base h = refl
what_base Word h = absurd cc

same_base : (r : Regime) (x y : ℕ) (b : Item) → fits r (stage2_base y) b ≡ fits r (stage2_base x) b
unfolding fits
same_base r x y b = refl

-- a base of stage 2 is a multiple of its table's size
base_fits : (r : Regime) (x : ℕ) (b : Item) → fits r (stage2_base x) b ≡ true → (b.what ≡ Base)
    × (b.value % table_size r.stage2.granule r.stage2.input r.stage2.start ≡ 0)
unfolding fits
base_fits r x b h =
    let d = first_of_and _ _ h in
    (what_base b.what (first_of_and _ _ (first_of_and _ _ (first_of_and _ _ (first_of_and _ _ d)))), eqb-true _ _ (second_of_and _ _ d))

module _ (r : Regime) (p : Bool) (x y : ℕ) where
  -- how stage 2 goes on behind a word, for an IPA
  abbrev pub behind2 : (ipa left : ℕ) (item : Item) → Ask Need Item (End Leaf2)
  behind2 z left i = behind (down2 r p z) left 0 i

  -- Stage 2 has taken the items, the last of them a word, and stage 2 of the other IPA goes in step where the two agree
  -- above the class of this word.
  pub record Stepped2 (items : List Item) (u : Ask Need Item (End Leaf2)) : Type 0 where
    pub left : ℕ
    pub item : Item
    pub sound : AreSound r.stage2
    pub most : class2 r left item ≤ r.stage2.input
    pub fit : (place table : ℕ) × (fits r (word_at S2 left place p x table) item ≡ true)
    pub left_as : u ≡ behind2 x left item
    pub is_last : (i : Item) → LastIs items i → i.what ≡ Word → i ≡ item
    pub shift : (k : ℕ) → k ≤ class2 r left item → x / 2 ^ k ≡ y / 2 ^ k →
        InStep (fits r) (SameRegion r) (walk2 (asked2 r p x)) (walk2 (asked2 r p y)) items u (behind2 y left item)

  abbrev root2 : Root
  root2 = record {
    need = stage2_base x;
    is_large = is_too_large r.stage2;
    refusal = fault2 (asked2 r p x) Translation most_left;
    excess = fault2 (asked2 r p x) AddressSize most_left;
  }

  abbrev from2 : ℕ → Ask Need Item (End Leaf2)
  from2 = walk2_from (asked2 r p x) r.stage2.start

  from_way : (f : IsOfFields r) (items : List Item) (u : Ask Need Item (End Leaf2)) (o : Rooted (fits r)
      (Any r) root2 from2 (is_refused2 r.config x) items u) →
      Way (fits r) (SameRegion r) (down2 r p x) (down2 r p y) (measure2 r x y) (law2 r (granule2 r f) p x y) r.stage2.start o.base.value o.rest u →
      Stepped2 (o.base ∷ o.rest) u
  from_way f items u o w =
      let s = sound2 r x f o.accepted in
      let e = s.0.entries in
      let m = class_up r.stage2.granule w.at r.stage2.start w.most in
      let c : class2 r w.at w.item ≤ r.stage2.input = class_by_fits (mapping_of r S2 w.at w.item.value) r.stage2 w.at w.item.pa (omega (arith, m, e)) in
      record {
        left = w.at;
        item = w.item;
        sound = s.0;
        most = c;
        fit = (
          place_of r.stage2 w.at w.table x,
          w.table,
          (one_taken r (word_at S2 w.at (place_of r.stage2 w.at w.table x) p x w.table) w.fed.0 w.item w.fed.1).1,
        );
        left_as = w.left_as;
        is_last = λ i l q. w.is_last i (o.is_last i l q) tt;
        shift = λ k l q. (let ny = range2 r x y k f (omega (arith, c, l)) q o.accepted in
            let a = aligned_start r.stage2 o.base.value (granule2 r f) (base_fits r x o.base o.fit).1 in
            rw (o.accepted, ny) (
              o.fit,
              same_base r x y o.base
                  ∙ o.fit,
              refl,
              rw o.within (rw (walk2_levels r p x r.stage2.start o.base.value, walk2_levels r p y r.stage2.start o.base.value)
                  (w.shift k a l q)),
            ));
      }

  -- Stage 2 that has taken items up to a word or a leaf goes in step with that of another IPA of the word's region.
  pub stepped2 : IsOfFields r → (items : List Item) (u : Ask Need Item (End Leaf2)) → Takes (fits r) (walk2 (asked2 r p x)) items u →
      Closes (WordOf (Any r)) items u → Stepped2 items u
  stepped2 f items u h c =
      let o = from_root (fits r) (Any r) root2 from2 (λ i k. (base_fits r x i k).0) (is_refused2 r.config x) items u h c in
      let w = way (fits r) (SameRegion r) (down2 r p x) (down2 r p y) (measure2 r x y) (law2 r (granule2 r f) p x y) r.stage2.start o.base.value o.rest u
      (rw (walk2_levels r p x r.stage2.start o.base.value) at o.taken) o.closes in
      subst (λ (z : List Item). Stepped2 z u) (sym o.split) (from_way f items u o w)

  -- what is known of a leaf that stage 2 reached
  pub record Reached2 (items : List Item) (l : Leaf2) : Type 0 where
    pub least : 12 ≤ l.class
    pub most : l.class ≤ r.stage2.input
    pub here : l.pa ≡ goes_to l.pa l.class x
    pub shift : x / 2 ^ l.class ≡ y / 2 ^ l.class →
        InStep (fits r) (SameRegion r) (walk2 (asked2 r p x)) (walk2 (asked2 r p y)) items (done (reaches l)) (done (reaches (moved2 l y)))

  at_leaf : IsOfFields r → (items : List Item) (l : Leaf2) (w : Stepped2 items (done (reaches l))) → Turn2 r w.left w.item → Reached2 items l
  at_leaf f items l w (table next a d) =
      let e : done (reaches l) ≡ beneath (down2 r p x) w.left next = w.left_as ∙ rw (d p x) refl in
      absurd (no_leaf (fits r) (SameRegion r) (down2 r p x) (down2 r p y) (measure2 r x y) (law2 r (granule2 r f) p x y) w.left next l (sym e))
  at_leaf f items l w (fault k d) = (let e : done (reaches l) ≡ done (stops (fault2 (asked2 r p x) k w.left)) = w.left_as ∙ rw (d p x) refl in absurd cc)
  at_leaf f items l w (leaf v m d) =
      let e : done (reaches l) ≡ done (reaches (leaf2_of (asked2 r p x) w.left w.item.pa v)) = w.left_as ∙ rw (d p x) refl in
      let q : l ≡ leaf2_of (asked2 r p x) w.left w.item.pa v = cc in
      let c : l.class ≡ class2 r w.left w.item = ap (λ z. z.class) q ∙ rw m refl in
      let h : l.pa ≡ goes_to v.out l.class x = ap (λ z. z.pa) q ∙ ap (λ k. goes_to v.out k x) (sym (ap (λ z. z.class) q)) in
      let g = granule2 r f in
      let a = class_by_least (mapping_of r S2 w.left w.item.value) r.stage2 w.left w.item.pa g in
      let b = class_least r.stage2.granule w.left g in
      let n = w.most in
      record {
        least = omega (arith, a, b, c);
        most = omega (arith, c, n);
        here = h ∙ sym (ap (λ z. goes_to z l.class x) h ∙ goes_to_again v.out l.class x x);
        shift = λ s. (let i = w.shift l.class (omega (arith, c)) s in
            let o : behind2 y w.left w.item ≡ done (reaches (moved2 l y)) =
            rw (d p y) (ap (λ z. done (reaches z)) (leaf2_again r p w.left w.item.pa v x y ∙ ap (λ z. moved2 z y) (sym q))) in
            subst (λ z. InStep (fits r) (SameRegion r) (walk2 (asked2 r p x)) (walk2 (asked2 r p y)) items (done (reaches l)) z) o i);
      }

  -- a leaf of stage 2 serves each IPA of its region
  pub reached2 : IsOfFields r → (items : List Item) (l : Leaf2) → Takes (fits r) (walk2 (asked2 r p x)) items (done (reaches l)) → Reached2 items l
  reached2 f items l h = let w = stepped2 f items (done (reaches l)) h (inl (l, refl)) in at_leaf f items l w (turn2 r w.left w.item)
