-- What a row of a run promises is what replay and replay2 need: no other answer comes.
use Rattle.std.proofs.Common.{◌≡◌, ℕ, zero, suc, ◌&&◌, ◌||◌, Bool, true, false, List, [], ◌∷◌, ◌++◌}
use Rattle.std.proofs.Common.{length, refl, sym, ap, ◌∙◌, subst, append-nil, arith, inl, inr, Option}
use Rattle.std.specs.Prelude.{◌⊎◌, ◌+◌, negsuc}
use Rattle.std.proofs.lemmas.Bool.{both_ways}
use Rattle.std.proofs.lemmas.Int.{ints}
use Rattle.geometry.specs.Tables.{most_left, level_of, left_below}
use Rattle.sysregs.specs.declared.regs.Config.{Config}
use Rattle.sysregs.specs.declared.regs.Side.{Side}
use Rattle.sysregs.specs.Sides.{side_of}
use Rattle.fault_codes.specs.declared.fault.Stage.{Stage}
use Rattle.fault_codes.specs.declared.fault.Stage.TheVariants.{S1, S2}
use Rattle.fault_codes.specs.declared.fault.Class.TheVariants.{Translation}
use Rattle.descriptors.specs.declared.kinds.Kind1.{Kind1}
use Rattle.descriptors.specs.declared.kinds.Kind1.TheVariants.{Invalid, Table, Leaf}
use Rattle.descriptors.specs.Meaning.{means1_of}
use Rattle.trails.specs.declared.item.Item.{Item}
use Rattle.trails.specs.declared.outcome.Access.{Access}
use Rattle.trails.specs.declared.outcome.Outcome.{Outcome}
use Rattle.tlbi_ops.specs.Covers.{is_stage1}
use Rattle.walk_spec.specs.declared.leaf.Leaf2.{Leaf2}
use Rattle.walk_spec.specs.Ask.{Ask, done, ask, Stands, needs, ends, on}
use Rattle.walk_spec.specs.Needs.{Regime, regime_of, Need, stage1_base, stage2_base, word, WordNeed, fits, stage_eq, is_base}
use Rattle.walk_spec.specs.Steps.{End, stops, reaches}
use Rattle.walk_spec.specs.Stage2.{fault2, is_refused2}
use Rattle.walk_spec.specs.Stage1.{asked2, stands2}
use Rattle.walk_spec.specs.BothStages.{Landing, walk, is_refused1, outcome_of}
use Rattle.walk_spec.proofs.Standing.{on_ends_append}
use Rattle.stage2_walk.specs.declared.replayed.Replay2.{Replay2}
use Rattle.stage2_walk.specs.declared.replayed.Replay2.TheVariants.{Ended as Ended2, More as More2, Other as Other2}
use Rattle.stage2_walk.specs.Replayed.{IsReplayed2}
use Rattle.stage2_walk.specs.declared.walk.From2.{From2}
use Rattle.translate.specs.declared.replayed.Replay.{Replay}
use Rattle.translate.specs.declared.replayed.Replay.TheVariants.{Ended, More, Other}
use Rattle.translate.specs.Standing.{is_table as is_table_kind, is_top, EndsAtTop}
use Rattle.translate.specs.Replayed.{stands_whole, EndsOn, NeedsMore, IsReplayed}
use Rattle.machine_spec.specs.Marks.{Mark, mark, marks, is_first, is_table, part1, part_of}
use Rattle.machine_laws.specs.Standing.{IsOn}
use Rattle.machine_laws.proofs.Trees.{is_need1, needs_base, chain, Plan, fin, own, via, flat}
use Rattle.machine_laws.proofs.Facts.{IsLeafRow1, IsTableRow1, IsLeafRow2, IsTableRow2, regime_for}
use Rattle.machine_laws.proofs.Stands.{on_ends, on_needs, marks_nil}
use Rattle.machine_laws.proofs.MarksOf.{FitsWord, fits_word_parts}
use Rattle.machine_laws.proofs.Judging.{judged_is}

-- A COMBINED ROW

-- its trail ends for each access that it may serve
pub leaf1_ends : (P : Mark → Option ℕ → Type 0) (c : Config) (r : Rattle.tagged_tlb.specs.declared.row.Row.Row) (trail : List Item) (a : Access)
    → c.m ≡ true → is_refused1 c a ≡ false → IsLeafRow1 P c r trail a → (len : ℕ) × (o : Outcome) × EndsOn c a trail len o
leaf1_ends P c r trail a on_ ok l =
    let j = judged_is c a trail l.landing on_ ok l.on in
    (length j.front, outcome_of j.end, (j.end, j.front, j.rest, j.is, refl, on_ends (regime_for c a) (walk c true a) j.end j.front j.on, refl))

ends_not_needs : (s : Stands Need Item (End Landing)) (e : End Landing) (rest : List Item) (n : Need) → s ≡ ends e rest → s ≡ needs n → ⊥
ends_not_needs s e rest n h k = absurd cc

-- so replay answers that it ended
pub leaf1_answer : (c : Config) (a : Access) (trail : List Item) (len0 : ℕ) (o0 : Outcome) → EndsOn c a trail len0 o0 → (answer : Replay)
    → IsReplayed c a trail answer → (len : ℕ) × (o : Outcome) × (answer ≡ Ended len o)
leaf1_answer c a trail len0 o0 d (Ended len o) h = (len, o, refl)
leaf1_answer c a trail len0 o0 d (More from) h =
    let whole : stands_whole c a trail ≡ ends d.0 d.2 = ap (stands_whole c a) d.3
    ∙ on_ends_append (fits (regime_of c (side_of a.va))) (walk c true a) d.1 d.2 d.0 [] d.5 in
    absurd (ends_not_needs (stands_whole c a trail) d.0 d.2 h.0.0.0 whole h.0.0.1)
leaf1_answer c a trail len0 o0 d Other h = absurd (h.0 len0 o0 d)

-- CHAINS OF STAGE 2

accepted_on : (r : Regime) (b : Bool) (e : End Leaf2) (t : Ask Need Item (End Leaf2)) (items : List Item) (s : Stands Need Item (End Leaf2)) → b ≡ false
    → on (fits r) t items ≡ s → on (fits r) (Rattle.std.proofs.Common.cond b (done e) t) items ≡ s
accepted_on r true e t items s h k = absurd (both_ways true h refl)
accepted_on r false e t items s h k = k

module _ (P : Mark → Option ℕ → Type 0) (c : Config) (s : Side) (x : ℕ) (trail : List Item) (ok : is_refused2 c x ≡ false) where
  abbrev early : End Leaf2
  early = stops (fault2 (asked2 (regime_of c s) false x) Translation most_left)

  pub leaf2_ends : (class : ℕ) → IsLeafRow2 P (regime_of c s) false trail x class → (l : Leaf2) × (stands2 c s false x trail ≡ ends (reaches l) [])
  leaf2_ends class l = (
    l.leaf,
    accepted_on (regime_of c s) (is_refused2 c x) early (chain (regime_of c s) false x) trail _ ok
        (on_ends (regime_of c s) (chain (regime_of c s) false x) (reaches l.leaf) trail l.on),
  )

  word_only : (n : Need) → is_need1 n ≡ false → needs_base n ≡ false → (w : WordNeed) × (n ≡ word w)
  word_only stage1_base f b = absurd cc
  word_only (stage2_base y) f b = absurd cc
  word_only (word w) f b = (w, refl)

  pub table2_needs : IsTableRow2 P (regime_of c s) false trail x → (w : WordNeed) × (stands2 c s false x trail ≡ needs (word w))
  table2_needs t =
      let w = word_only t.need t.words.0 t.words.1 in
      let h : on (fits (regime_of c s)) (chain (regime_of c s) false x) trail
      ≡ needs (word w.0) = on_needs (regime_of c s) (chain (regime_of c s) false x) t.need t.go trail t.on ∙ ap (λ n. needs n) w.1 in
      (w.0, accepted_on (regime_of c s) (is_refused2 c x) early (chain (regime_of c s) false x) trail _ ok h)

pub leaf2_answer : (l0 : Leaf2) (st : Stands Need Item (End Leaf2)) → st ≡ ends (reaches l0) [] → (answer : Replay2) → IsReplayed2 answer st
    → (l : Leaf2) × (answer ≡ Ended2 l)
leaf2_answer l0 st h (Ended2 l) k = (l, refl)
leaf2_answer l0 st h (More2 from) k = (let q = k.1 in absurd cc)
leaf2_answer l0 st h Other2 k = absurd (k.0 l0 h)

pub table2_answer : (w : WordNeed) (st : Stands Need Item (End Leaf2)) → st ≡ needs (word w) → (answer : Replay2) → IsReplayed2 answer st
    → (from : From2) × (answer ≡ More2 from)
table2_answer w st h (Ended2 l) k = absurd cc
table2_answer w st h (More2 from) k = (from, refl)
table2_answer w st h Other2 k = absurd (k.1 w h)

-- A TABLE OF STAGE 1

-- a level tells how many are left below it
pub left_all : (left : ℕ) → left_below (level_of left) ≡ left
left_all zero = refl
left_all (suc zero) = refl
left_all (suc (suc zero)) = refl
left_all (suc (suc (suc zero))) = refl
left_all (suc (suc (suc (suc n)))) =
    let e : level_of (suc (suc (suc (suc n)))) ≡ negsuc n = omega (arith, ints) in
    let m : most_left + 1 + n ≡ suc (suc (suc (suc n))) = omega arith in
    ap left_below e ∙ m

-- the last of the marks is that of the last item, for a need that it fits
pub record LastMark (r : Regime) (trail : List Item) (m : Mark) : Type 0 where
  pub before : List Item
  pub item : Item
  pub need : Need
  pub is : trail ≡ before ++ item ∷ []
  pub mark_is : m ≡ mark r need item
  pub fit : fits r need item ≡ true

none_last : (front : List Mark) (m : Mark) → [] ≡ front ++ m ∷ [] → ⊥
none_last [] m e = absurd cc
none_last (x ∷ front) m e = absurd cc

tail_is : (xs ys : List Mark) (x y : Mark) → ◌≡◌ {A = List Mark} (x ∷ xs) (y ∷ ys) → xs ≡ ys
tail_is xs ys x y e = cc

head_is : (xs ys : List Mark) (x y : Mark) → ◌≡◌ {A = List Mark} (x ∷ xs) (y ∷ ys) → x ≡ y
head_is xs ys x y e = cc

module _ {A : Type 0} (r : Regime) (u : Ask Need Item A) where
  more_one : (t : Ask Need Item A) (j : Item) (trail : List Item) → IsOn r t (j ∷ trail) u → marks r t (j ∷ trail) ≡ [] → ⊥
  more_one (done b) j trail h e = h
  more_one (ask n k) j trail h e = absurd cc

  last_mark : (t : Ask Need Item A) (trail : List Item) (front : List Mark) (m : Mark) → IsOn r t trail u → marks r t trail ≡ front ++ m ∷ []
      → LastMark r trail m
  last_mark (done a) [] front m h e = absurd (none_last front m e)
  last_mark (ask n k) [] front m h e = absurd (none_last front m e)
  last_mark (done a) (i ∷ trail) front m h e = absurd h
  last_mark (ask n k) (i ∷ []) [] m h e = record {
    before = [];
    item = i;
    need = n;
    is = refl;
    mark_is = sym
        (head_is (marks r (k i) []) [] (mark r n i) m e);
    fit = h.0;
  }
  last_mark (ask n k) (i ∷ []) (x ∷ front) m h e = absurd (none_last front m (sym (marks_nil r (k i))
      ∙ tail_is (marks r (k i) []) (front ++ m ∷ []) (mark r n i) x e))
  last_mark (ask n k) (i ∷ j ∷ trail) [] m h e = absurd (more_one (k i) j trail h.1 (tail_is (marks r (k i) (j ∷ trail)) [] (mark r n i) m e))
  last_mark (ask n k) (i ∷ j ∷ trail) (x ∷ front) m h e =
      let d = last_mark (k i) (j ∷ trail) front m h.1 (tail_is (marks r (k i) (j ∷ trail)) (front ++ m ∷ []) (mark r n i) x e) in
      record { before = i ∷ d.before; item = d.item; need = d.need; is = ap (λ l. i ∷ l) d.is; mark_is = d.mark_is; fit = d.fit }

table_kind : (r : Regime) (k : Kind1) → is_table (part1 r k) ≡ true → is_table_kind k ≡ true
table_kind r Invalid h = h
table_kind r (Table address bits) h = refl
table_kind r (Leaf out attr_index bits sh af global contiguous) h = h

top_by : (a b d : Bool) → a ≡ true → d ≡ true → (a && (b || d)) ≡ true
top_by true true d h k = refl
top_by true false d h k = k
top_by false b d h k = absurd cc

stage_same : (s : Stage) → is_stage1 s ≡ true → s ≡ S1
stage_same S1 h = refl
stage_same S2 h = absurd cc

top_of_word : (c : Config) (s : Side) (w : WordNeed) (i : Item) → w.stage ≡ S1 → FitsWord w i
    → is_table (part_of (regime_of c s) w.stage w.left i.value) ≡ true → is_top c s i ≡ true
top_of_word c s w i e f h =
    let k : is_table (part1 (regime_of c s) (means1_of c s w.left i.value))
    ≡ true = subst (λ z. is_table (part_of (regime_of c s) z w.left i.value) ≡ true) e h in
    let l : left_below i.level ≡ w.left = ap left_below f.level ∙ left_all w.left in
    let d : is_table_kind (means1_of c s (left_below i.level) i.value) ≡ true = ap (λ n. is_table_kind (means1_of c s n i.value)) l
    ∙ table_kind (regime_of c s) (means1_of c s w.left i.value) k in
    top_by (stage_eq i.stage S1) (is_base i.what) (is_table_kind (means1_of c s (left_below i.level) i.value)) (ap (λ z. stage_eq z S1) (f.stage ∙ e)) d

top_of : (c : Config) (s : Side) (n : Need) (i : Item) → fits (regime_of c s) n i ≡ true → is_first (mark (regime_of c s) n i) ≡ true
    → (mark (regime_of c s) n i).base ≡ false → is_table (mark (regime_of c s) n i).part ≡ true → is_top c s i ≡ true
unfolding mark
top_of c s stage1_base i f one b t = absurd cc
top_of c s (stage2_base x) i f one b t = absurd cc
top_of c s (word w) i f one b t = top_of_word c s w i (stage_same w.stage one) (fits_word_parts (regime_of c s) w i f) t

module _ (P : Mark → Option ℕ → Type 0) (c : Config) (trail : List Item) (a : Access) (t : IsTableRow1 P c trail a) where
  abbrev rg : Regime
  rg = regime_for c a

  -- where its last word is a table (the facts say so far that it is no leaf)
  pub table1_top : is_table t.last.part ≡ true → EndsAtTop c (side_of a.va) trail
  table1_top h =
      let d = last_mark rg (flat rg t.plan) (walk c true a) trail t.front t.last t.on t.is in (
        d.before,
        d.item,
        d.is,
        top_of c (side_of a.va) d.need d.item d.fit (sym (ap is_first d.mark_is) ∙ t.first) (sym (ap (λ m. m.base) d.mark_is)
            ∙ t.word) (sym (ap (λ m. is_table m.part) d.mark_is) ∙ h),
      )

  table_by : (p : Plan) → IsOn rg (walk c true a) trail (flat rg p) → EndsAtTop c (side_of a.va) trail
      → ◌⊎◌ ((len : ℕ) × (o : Outcome) × EndsOn c a trail len o) (NeedsMore c a trail)
  table_by (fin e) h top = inl (length trail, outcome_of e, (e, trail, [], sym (append-nil trail), refl, on_ends rg (walk c true a) e trail h, refl))
  table_by (own n k) h top = inr ((n, on_needs rg (walk c true a) n (λ i. flat rg (k i)) trail h), top)
  table_by (via p x next k) h top = inr ((stage2_base x, on_needs rg (walk c true a) (stage2_base x) _ trail h), top)

  -- a table's trail ends, or needs more behind a table
  pub table1_serves : is_table t.last.part ≡ true → ◌⊎◌ ((len : ℕ) × (o : Outcome) × EndsOn c a trail len o) (NeedsMore c a trail)
  table1_serves h = table_by t.plan t.on (table1_top h)
