-- The places of two addresses of one region, in either stage, and the items that serve both.
use Rattle.std.proofs.Common.{◌≡◌, ℕ, ◌+◌, ◌-◌, ◌*◌, ◌/◌, ◌%◌, ◌^◌, ◌<◌, ◌≤◌, refl, sym, ap}
use Rattle.std.proofs.Common.{◌∙◌, arith, Bool, true, false, cond, ◌&&◌, ◌||◌, List, [], ◌∷◌, Ok, Result}
use Rattle.std.specs.Prelude.{◌==◌, Option, Some, None}
use Rattle.std.proofs.lemmas.Bool.Decides.{nat_tests}
use Rattle.std.proofs.lemmas.Bool.{leb-true}
use Rattle.std.proofs.Math.Nat.{mul-le-mul_right}
use Rattle.geometry.specs.Tables.{IsGranule, class_of, top_of, level_of}
use Rattle.geometry.specs.Runs.{run_at, class_in, fits_run, is_counted, is_one_run}
use Rattle.geometry.proofs.Indices.{same_index}
use Rattle.fault_codes.specs.declared.fault.Fault.{Fault}
use Rattle.fault_codes.specs.declared.fault.Stage.{Stage}
use Rattle.trails.specs.declared.item.Item.{Item}
use Rattle.table_reads.specs.declared.sizes.Sizes.{Sizes}
use Rattle.table_reads.specs.Places.{place_of}
use Rattle.walk_spec.specs.declared.region.Region.{Region}
use Rattle.walk_spec.specs.Needs.{Regime, Need, word, fits, is_word, stage_eq, level_eq, sizes_of, mapping_of, serves_run, class_by}
use Rattle.walk_spec.specs.Ask.{Ask, done, ask}
use Rattle.walk_laws.specs.Regions.{region_met}
use Rattle.walk_laws.proofs.Stepping.{Takes, InStep, LastIs}
use Rattle.walk_laws.proofs.Numbers.{coarser, one_line, line_bytes}

-- the class of a run of a level, or of an entry where the level has none
abbrev pub run_class : (granule left : ℕ) → ℕ
run_class g left = class_in (run_at g left) (class_of g left)

-- a run has 2 to this many entries
abbrev pub run_bits : (granule left : ℕ) → ℕ
run_bits g left = run_class g left - class_of g left

-- the bytes of a run's words
abbrev pub line_of : (granule left : ℕ) → ℕ
line_of g left = 8 * 2 ^ run_bits g left

pub class_up : (g m n : ℕ) → m ≤ n → class_of g m ≤ class_of g n
class_up g m n l = let q : m * (g - 3) ≤ n * (g - 3) = mul-le-mul_right (g - 3) l in omega (arith, q)

pub class_least : (g left : ℕ) → IsGranule g → 12 ≤ class_of g left
class_least g left h = grind arith

pub run_within : (g left : ℕ) → IsGranule g → (class_of g left ≤ run_class g left) × (run_class g left ≤ class_of g left + 7)
run_within g left h = (grind (arith, nat_tests), grind (arith, nat_tests))

-- a run is no larger than an entry of the level above
pub run_below : (g m left : ℕ) → IsGranule g → m < left → run_class g m ≤ class_of g left
run_below g m left h l =
    let w = run_within g m h in
    let u : class_of g (m + 1) ≤ class_of g left = class_up g (m + 1) left (omega arith) in
    let s : class_of g m + 9 ≤ class_of g (m + 1) = grind arith in
    omega (arith, w.1)

-- a block or page is a run, where its Contiguous bit is set and counts
abbrev pub counted_by : (mapping : Option (ℕ × Bool)) (sizes : Sizes) (left pa : ℕ) → Bool
counted_by None n left pa = false
counted_by (Some m) n left pa = m.1 && is_counted n.granule n.input left m.0 pa

pub class_by_is : (m : Option (ℕ × Bool)) (n : Sizes) (left pa : ℕ) →
    class_by m n left pa ≡ cond (counted_by m n left pa) (run_class n.granule left) (class_of n.granule left)
class_by_is None n left pa = refl
class_by_is (Some m) n left pa = refl

serves_run_is : (m : Option (ℕ × Bool)) (n : Sizes) (left pa place : ℕ) →
    serves_run m n left pa place ≡ (counted_by m n left pa && is_one_run n.granule left pa place)
serves_run_is None n left pa place = refl
serves_run_is (Some m) n left pa place = refl

pub first_of_and : (a b : Bool) → (a && b) ≡ true → a ≡ true
first_of_and true b h = refl
first_of_and false b h = h

pub second_of_and : (a b : Bool) → (a && b) ≡ true → b ≡ true
second_of_and true b h = h
second_of_and false b h = absurd cc

run_fits : (o : Option ℕ) (class input out place : ℕ) → fits_run o class input out place ≡ true → class_in o class ≤ input
run_fits None class input out place h = absurd cc
run_fits (Some run) class input out place h = leb-true run input (first_of_and _ _ h)

-- a run that counts is no larger than the input range
pub counted_fits : (m : Option (ℕ × Bool)) (n : Sizes) (left pa : ℕ) → counted_by m n left pa ≡ true → run_class n.granule left ≤ n.input
counted_fits None n left pa h = absurd cc
counted_fits (Some m) n left pa h = run_fits (run_at n.granule left) (class_of n.granule left) n.input m.0 pa (second_of_and m.1 _ h)

-- the class of a word lies between those of an entry and a run
pub class_by_least : (m : Option (ℕ × Bool)) (n : Sizes) (left pa : ℕ) → IsGranule n.granule → class_of n.granule left ≤ class_by m n left pa
class_by_least m n left pa h = let w =
    run_within n.granule left h in rw (class_by_is m n left pa)
    (elim (counted_by m n left pa) as (λ b. class_of n.granule left ≤ cond b (run_class n.granule left) (class_of n.granule left)) [
      | true ↦ w.0
      | false ↦ omega arith
    ])

pub class_by_most : (m : Option (ℕ × Bool)) (n : Sizes) (left pa : ℕ) → IsGranule n.granule → class_by m n left pa ≤ run_class n.granule left
class_by_most m n left pa h = let w =
    run_within n.granule left h in rw (class_by_is m n left pa)
    (elim (counted_by m n left pa) as (λ b. cond b (run_class n.granule left) (class_of n.granule left) ≤ run_class n.granule left) [
      | true ↦ omega arith
      | false ↦ w.0
    ])

-- no word covers more than the input range
pub class_by_fits : (m : Option (ℕ × Bool)) (n : Sizes) (left pa : ℕ) → class_of n.granule left ≤ n.input → class_by m n left pa ≤ n.input
class_by_fits m n left pa h = rw (class_by_is m n left pa) (elim (counted_by m n left pa) as (λ b. counted_by m n left pa ≡ b →
    cond b (run_class n.granule left) (class_of n.granule left) ≤ n.input) [ true ↦ (λ e. counted_fits m n left pa e) | false ↦ (λ e. h) ] refl)

-- a table begins with whole runs, where the level has runs within the input range
abbrev pub IsAligned : (sizes : Sizes) (left table : ℕ) → Type 0
IsAligned n left table = run_class n.granule left ≤ n.input → table % line_of n.granule left ≡ 0

pub line_within : (g left : ℕ) → IsGranule g → 3 + run_bits g left ≤ 12
line_within g left h = let w = run_within g left h in grind (arith, nat_tests)

by_line : (g left p : ℕ) → p / line_of g left ≡ p / 2 ^ (3 + run_bits g left)
by_line g left p = line_bytes p (run_bits g left)

-- What a word asks of two places that it is to serve: one line, where it counts as a run, and else one place.
pub record Alike (sizes : Sizes) (left pa : ℕ) (mapping : Option (ℕ × Bool)) (p p' : ℕ) : Type 0 where
  pub line : counted_by mapping sizes left pa ≡ true → p' / line_of sizes.granule left ≡ p / line_of sizes.granule left
  pub same : counted_by mapping sizes left pa ≡ false → p' ≡ p

-- what keeps equal places equal, and places of one line in one line, keeps this
pub alike_through : (n : Sizes) (left pa : ℕ) (m : Option (ℕ × Bool)) (p p' q q' : ℕ) → (p' ≡ p → q' ≡ q) →
    (p' / line_of n.granule left ≡ p / line_of n.granule left → q' / line_of n.granule left ≡ q / line_of n.granule left) → Alike n left pa m p p' →
    Alike n left pa m q q'
alike_through n left pa m p p' q q' e l a = record { line = λ t. l (a.line t); same = λ t. e (a.same t) }

-- places that a word serves lie in one page of 4 KB
pub alike_page : (n : Sizes) (left pa : ℕ) (m : Option (ℕ × Bool)) (p p' : ℕ) → IsGranule n.granule → Alike n left pa m p p'
    → p' / 2 ^ 12 ≡ p / 2 ^ 12
alike_page n left pa m p p' h a =
    elim (counted_by m n left pa) as (λ b. (b ≡ true → p' / line_of n.granule left ≡ p / line_of n.granule left) → (b ≡ false → p' ≡ p) →
    p' / 2 ^ 12 ≡ p / 2 ^ 12) [
      | true ↦ (λ s t. coarser p' p (3 + run_bits n.granule left) 12 (line_within n.granule left h) (sym (by_line n.granule left p') ∙ s refl
          ∙ by_line n.granule left p))
      | false ↦ (λ s t. ap (λ z. z / 2 ^ 12) (t refl))
    ] a.line a.same

-- a line of places goes where a page of them goes
pub line_along : (g left : ℕ) (f : ℕ → ℕ) (p p' : ℕ) → IsGranule g → ((j : ℕ) → j ≤ 12 → p' / 2 ^ j ≡ p / 2 ^ j
    → f p' / 2 ^ j ≡ f p / 2 ^ j) →
    p' / line_of g left ≡ p / line_of g left → f p' / line_of g left ≡ f p / line_of g left
line_along g left f p p' h k e = by_line g left (f p') ∙ k (3 + run_bits g left) (line_within g left h) (sym (by_line g left p') ∙ e ∙ by_line g left p)
    ∙ sym (by_line g left (f p))

-- the places of two addresses that a word's region holds
pub alike_places : (n : Sizes) (left table pa : ℕ) (m : Option (ℕ × Bool)) (x y k : ℕ) → IsGranule n.granule → IsAligned n left table →
    k ≤ class_by m n left pa → x / 2 ^ k ≡ y / 2 ^ k → Alike n left pa m (place_of n left table x) (place_of n left table y)
unfolding place_of
alike_places n left table pa m x y k h a l s =
    let w = run_within n.granule left h in
    let e : class_of n.granule left + run_bits n.granule left ≡ run_class n.granule left = omega (arith, w.0) in
    let c : class_by m n left pa ≡ cond (counted_by m n left pa) (run_class n.granule left) (class_of n.granule left) = class_by_is m n left pa in
    record {
      line = λ t. (let u : k ≤ run_class n.granule left = rw (c, t) at l in
          let v : x / 2 ^ (class_of n.granule left + run_bits n.granule left) ≡ y / 2 ^ (class_of n.granule left + run_bits n.granule left) =
          rw e (coarser x y k (run_class n.granule left) u s) in
          one_line x y (top_of n.granule n.input n.start left) (class_of n.granule left) (run_bits n.granule left) table (a (counted_fits m n left pa t)) v);
      same = λ t. (let u : k ≤ class_of n.granule left = rw (c, t) at l in
          ap (λ z. table + 8 * z) (sym (same_index x y (class_of n.granule left) (top_of n.granule n.input n.start left)
          (coarser x y k (class_of n.granule left) u s))));
    }

-- an item has the same region for two needs
abbrev pub SameRegion : (regime : Regime) (m n : Need) (item : Item) → Type 0
SameRegion r m n i = region_met r m i ≡ region_met r n i

-- the need of a word
abbrev pub word_at : (stage : Stage) (left place : ℕ) (s1ptw : Bool) (address table : ℕ) → Need
word_at s left p q x t = word record { stage = s; left = left; place = p; s1ptw = q; address = x; table = t }

-- An item serves two needs: where it fits one, it fits the other, and its region is the same for both.
pub record Serves (regime : Regime) (m n : Need) (item : Item) : Type 0 where
  pub fit : fits regime m item ≡ true → fits regime n item ≡ true
  pub region : SameRegion regime m n item

mate_tail : (b : Bool) (g left pa p p' : ℕ) → (b ≡ true → p' / line_of g left ≡ p / line_of g left) → (b ≡ false → p' ≡ p) →
    ((pa == p) || (b && is_one_run g left pa p)) ≡ true → ((pa == p') || (b && is_one_run g left pa p')) ≡ true
mate_tail true g left pa p p' l s h = let q : p' / line_of g left ≡ p / line_of g left = l refl in grind (arith, nat_tests)
mate_tail false g left pa p p' l s h = let q : p' ≡ p = s refl in rw q h

mate_alike : (n : Sizes) (left pa : ℕ) (m : Option (ℕ × Bool)) (p p' : ℕ) → Alike n left pa m p p'
    → ((pa == p) || serves_run m n left pa p) ≡ true →
    ((pa == p') || serves_run m n left pa p') ≡ true
mate_alike n left pa m p p' a h =
    let u : ((pa == p) || (counted_by m n left pa && is_one_run n.granule left pa p)) ≡ true = rw (serves_run_is m n left pa p) at h in
    rw (serves_run_is m n left pa p') (mate_tail (counted_by m n left pa) n.granule left pa p p' a.line a.same u)

and_last : (a b b' : Bool) → (b ≡ true → b' ≡ true) → (a && b) ≡ true → (a && b') ≡ true
and_last true b b' f h = f h
and_last false b b' f h = h

fits_alike : (r : Regime) (s : Stage) (left p p' : ℕ) (q : Bool) (x y t t' : ℕ) (i : Item)
    → Alike (sizes_of r s) left i.pa (mapping_of r s left i.value) p p' →
    fits r (word_at s left p q x t) i ≡ true → fits r (word_at s left p' q y t') i ≡ true
unfolding fits
fits_alike r s left p p' q x y t t' i a h =
    and_last (is_word i.what && stage_eq i.stage s && level_eq i.level (level_of left)) _ _
    (mate_alike (sizes_of r s) left i.pa (mapping_of r s left i.value) p p' a) h

same_region : (r : Regime) (s : Stage) (left p p' : ℕ) (q : Bool) (x y t t' k : ℕ) (i : Item) →
    k ≤ class_by (mapping_of r s left i.value) (sizes_of r s) left i.pa → x / 2 ^ k ≡ y / 2 ^ k →
    SameRegion r (word_at s left p q x t) (word_at s left p' q y t') i
same_region r s left p p' q x y t t' k i l h =
    let f : ℕ → Option Region = λ n. Some record { class = class_by (mapping_of r s left i.value) (sizes_of r s) left i.pa; start = n } in
    ap f (coarser x y k (class_by (mapping_of r s left i.value) (sizes_of r s) left i.pa) l h)

pub serves_alike : (r : Regime) (s : Stage) (left p p' : ℕ) (q : Bool) (x y t t' k : ℕ) (i : Item) →
    Alike (sizes_of r s) left i.pa (mapping_of r s left i.value) p p' → k ≤ class_by (mapping_of r s left i.value) (sizes_of r s) left i.pa →
    x / 2 ^ k ≡ y / 2 ^ k → Serves r (word_at s left p q x t) (word_at s left p' q y t') i
serves_alike r s left p p' q x y t t' k i a l h =
    record { fit = fits_alike r s left p p' q x y t t' i a; region = same_region r s left p p' q x y t t' k i l h }

-- the word of a need
abbrev pub one_word : (need : Need) → Ask Need Item (Result Item Fault)
one_word n = ask n (λ i. done (Ok i))

-- it takes one item, which is the word
pub one_last : (r : Regime) (n : Need) (items : List Item) (u : Ask Need Item (Result Item Fault)) (i : Item) → Takes (fits r) (one_word n) items u →
    LastIs items i → u ≡ done (Ok i)
one_last r n [] u i h e = absurd e
one_last r n (j ∷ []) u i h e = h.1 ∙ ap (λ z. done (Ok z)) e
one_last r n (j ∷ (k ∷ items)) u i h e = absurd h.1

pub one_taken : (r : Regime) (n : Need) (items : List Item) (i : Item) → Takes (fits r) (one_word n) items (done (Ok i)) → (items ≡ i ∷ [])
    × (fits r n i ≡ true)
one_taken r n [] i h = absurd cc
one_taken r n (j ∷ []) i h = let z : done (Ok i) ≡ done (Ok j) = h.1 in let e : j ≡ i = cc in (ap (λ k. k ∷ []) e, rw e at h.0)
one_taken r n (j ∷ (k ∷ items)) i h = absurd h.1

-- the word of two places that it serves alike
pub word_flat : (r : Regime) (s : Stage) (left p p' : ℕ) (q : Bool) (x y t t' k : ℕ) (items : List Item) (i : Item) →
    Alike (sizes_of r s) left i.pa (mapping_of r s left i.value) p p' → k ≤ class_by (mapping_of r s left i.value) (sizes_of r s) left i.pa →
    x / 2 ^ k ≡ y / 2 ^ k → Takes (fits r) (one_word (word_at s left p q x t)) items (done (Ok i)) →
    InStep (fits r) (SameRegion r) (one_word (word_at s left p q x t)) (one_word (word_at s left p' q y t')) items (done (Ok i)) (done (Ok i))
word_flat r s left p p' q x y t t' k items i a l e h =
    let o = one_taken r (word_at s left p q x t) items i h in
    let v = serves_alike r s left p p' q x y t t' k i a l e in
    rw o.0 (o.1, v.fit o.1, v.region, (refl, refl))
