-- A row of stage 2 serves each IPA of its region, under either side and mark.
use Rattle.std.proofs.Common.{◌≡◌, ℕ, zero, suc, ◌/◌, ◌^◌, Bool, true, false, cond, not, ◌&&◌, ◌||◌, List}
use Rattle.std.proofs.Common.{[], ◌∷◌, ◌++◌, inr, refl, sym, ap, ◌∙◌, subst, arith, eqb}
use Rattle.std.proofs.lemmas.Bool.{eqb-true}
use Rattle.geometry.specs.Tables.{most_left, has_block}
use Rattle.bitwords.specs.Fields.{bit}
use Rattle.sysregs.specs.declared.regs.Config.{Config}
use Rattle.sysregs.specs.declared.regs.Side.{Side}
use Rattle.sysregs.specs.Registers.{granule_of}
use Rattle.fault_codes.specs.declared.fault.Stage.{Stage}
use Rattle.fault_codes.specs.declared.fault.Stage.TheVariants.{S2}
use Rattle.fault_codes.specs.declared.fault.Class.TheVariants.{Translation, AddressSize}
use Rattle.descriptors.specs.declared.kinds.Kind2.{Kind2}
use Rattle.descriptors.specs.declared.kinds.Kind2.TheVariants.{Invalid as Invalid2, Table as Table2, Leaf as LeafOf2}
use Rattle.descriptors.specs.Meaning.{means2_of, kind2_of}
use Rattle.trails.specs.declared.item.Item.{Item}
use Rattle.table_reads.specs.declared.lead.Lead.{Lead}
use Rattle.table_reads.specs.declared.lead.Lead.TheVariants.{Down, Reached, Stopped}
use Rattle.table_reads.specs.Places.{is_too_large}
use Rattle.walk_spec.specs.declared.leaf.Leaf2.{Leaf2}
use Rattle.walk_spec.specs.Ask.{Ask, done, ask}
use Rattle.walk_spec.specs.declared.region.Region.{Region}
use Rattle.walk_spec.specs.Needs.{Regime, regime_of, Need, stage1_base, stage2_base, word, WordNeed, fits, mapping_of, mapping2, class_by, sizes_of}
use Rattle.walk_spec.specs.Steps.{End, stops, reaches, step_then}
use Rattle.walk_spec.specs.Stage2.{Asked2, fault2, leaf2_of, step2, walk2_from, walk2_behind, is_refused2, walk2}
use Rattle.walk_spec.specs.Stage1.{asked2}
use Rattle.walk_laws.specs.Moved.{moved2}
use Rattle.walk_laws.proofs.Stepping.{Takes, InStep, LastIs, Asks, last_here}
use Rattle.walk_laws.proofs.Places.{SameRegion}
use Rattle.walk_laws.proofs.Sound.{range2}
use Rattle.walk_laws.proofs.Shifts.{of_fields}
use Rattle.walk_laws.proofs.Levels.{beneath}
use Rattle.walk_laws.proofs.Stage2.{down2, walk2_levels, class2, behind2, Stepped2, stepped2, reached2}
use Rattle.walk_laws.proofs.Tables2.{level_of_one, fit_level}
use Rattle.machine_spec.specs.Marks.{Part, nothing, table, leaf_of_stage2, Mark, mark, marks, part_of, part2}
use Rattle.tagged_tlb.specs.Rows.{holds}
use Rattle.machine_laws.specs.Standing.{IsOn}
use Rattle.machine_laws.proofs.Trees.{chain, IsWords}
use Rattle.machine_laws.proofs.Laws.{ChainLeaf, ChainTable}
use Rattle.machine_laws.proofs.Stands.{words_on, marks_nil}
use Rattle.machine_laws.proofs.Sounds.{words_behind}
use Rattle.machine_laws.proofs.MarksOf.{fits_word_parts, takes_on, step_on_other, step_marks}
use Rattle.machine_laws.proofs.Sides.{Twin, TwinOn, twin_on, twin_chain}

-- THE LAST MARK

-- the need and the item of the last mark
pub record LastMet (r : Regime) (P : Need → Type 0) (xs : List Item) (m : Mark) : Type 0 where
  pub need : Need
  pub item : Item
  pub last : LastIs xs item
  pub fit : fits r need item ≡ true
  pub is : m ≡ mark r need item
  pub told : P need

pub last_tail : {A : Type 0} (r : Regime) (t u : Ask Need Item A) (n m : Mark) (y : Item) (ys : List Item) → IsOn r t (y ∷ ys) u
    → LastIs (n ∷ marks r t (y ∷ ys)) m → LastIs (marks r t (y ∷ ys)) m
last_tail r (done a) u n m y ys h l = absurd h
last_tail r (ask o k) u n m y ys h l = l

pub last_met : {A : Type 0} (r : Regime) (P : Need → Type 0) (t u : Ask Need Item A) (xs : List Item) (m : Mark) → Asks P t → IsOn r t xs u
    → LastIs (marks r t xs) m → LastMet r P xs m
last_met r P t u [] m p h l = absurd (rw (marks_nil r t) at l)
last_met r P (done a) u (x ∷ xs) m p h l = absurd h
last_met r P (ask n k) u (x ∷ []) m p h l =
    let e : mark r n x ≡ m = subst (λ ms. LastIs (mark r n x ∷ ms) m) (marks_nil r (k x)) l in
    record { need = n; item = x; last = refl; fit = h.0; is = sym e; told = p.0 }
last_met r P (ask n k) u (x ∷ (y ∷ ys)) m p h l =
    let d = last_met r P (k x) u (y ∷ ys) m (p.1 x) h.1 (last_tail r (k x) u (mark r n x) m y ys h.1 l) in
    record { need = d.need; item = d.item; last = d.last; fit = d.fit; is = d.is; told = d.told }

-- the mark of a word of a stage with so many levels left, that was read for an address
abbrev pub mark_full : Regime → Stage → (left address : ℕ) → Item → Mark
mark_full r s left x i = record {
  stage = s;
  base = false;
  part = part_of r s left i.value;
  region = record {
    class = class_by (mapping_of r s left i.value) (sizes_of r s) left i.pa;
    start = x / 2 ^ class_by (mapping_of r s left i.value) (sizes_of r s) left i.pa;
  };
  granule = (sizes_of r s).granule;
  item = i;
}

pub mark_is_full : (r : Regime) (w : WordNeed) (i : Item) → mark r (word w) i ≡ mark_full r w.stage w.left w.address i
unfolding mark
mark_is_full r w i = refl

pub mark_at_full : (r : Regime) (w : WordNeed) (i j : Item) (s : Stage) (left x : ℕ) → w.stage ≡ s → w.left ≡ left → w.address ≡ x → i ≡ j
    → mark r (word w) i ≡ mark_full r s left x j
mark_at_full r w i j s left x e l a h =
    mark_is_full r w i ∙ ap (λ z. mark_full r z w.left w.address i) e ∙ ap (λ z. mark_full r s z w.address i) l ∙ ap (λ z. mark_full r s left z i) a
    ∙ ap (mark_full r s left x) h

pub mark_base1_part : (r : Regime) (i : Item) → (mark r stage1_base i).part ≡ nothing
unfolding mark
mark_base1_part r i = refl

pub mark_base2_part : (r : Regime) (x : ℕ) (i : Item) → (mark r (stage2_base x) i).part ≡ nothing
unfolding mark
mark_base2_part r x i = refl

-- WHAT A CHAIN ASKS

abbrev pub IsAt : ℕ → Need → Type 0
IsAt x stage1_base = ⊥
IsAt x (stage2_base y) = Unit {0}
IsAt x (word w) = (w.stage ≡ S2) × (w.address ≡ x)

asks_step : (x : ℕ) (s : Lead Leaf2 ℕ) (below : ℕ → Ask Need Item (End Leaf2)) → ((t : ℕ) → Asks (IsAt x) (below t))
    → Asks (IsAt x) (step_then below s)
asks_step x (Down t) below h = h t
asks_step x (Reached l) below h = tt
asks_step x (Stopped f) below h = tt

module _ (q : Asked2) where
  asks_from : (left t : ℕ) → Asks (IsAt q.ipa) (walk2_from q left t)
  asks_from zero t = ((refl, refl), λ i. asks_step q.ipa (step2 q 0 i.pa i.value) (λ _. done (stops (fault2 q Translation 0))) (λ t. tt))
  asks_from (suc left) t = ((refl, refl), λ i. asks_step q.ipa (step2 q (suc left) i.pa i.value) (walk2_from q left) (asks_from left))

  asks_by : (b : Bool) (base : ℕ) → Asks (IsAt q.ipa) (cond b (done (stops (fault2 q AddressSize most_left))) (walk2_from q q.sizes.start base))
  asks_by true base = tt
  asks_by false base = asks_from q.sizes.start base

-- words of stage 2 for the IPA
pub asks_chain : (r : Regime) (p : Bool) (x : ℕ) → Asks (IsAt x) (chain r p x)
asks_chain r p x = (tt, λ i. asks_by (asked2 r p x) (is_too_large r.stage2 i.value) i.value)

pub walk2_is : (r : Regime) (p : Bool) (x : ℕ) → is_refused2 r.config x ≡ false → walk2 (asked2 r p x) ≡ chain r p x
walk2_is r p x h = rw h refl

-- WHAT A WORD THAT MAY BE CACHED LEADS TO

module _ (r : Regime) (left pa value : ℕ) where
  abbrev Leads : Asked2 → Kind2 → Type 0
  Leads q kind = (l : Leaf2) × (step2 q left pa value ≡ Reached l) × (l.class ≡ class_by (mapping2 kind) r.stage2 left pa)

  leaf_leads : (p : Bool) (x : ℕ) (out mem_attr xn sh : ℕ) (read write af dbm contiguous big on : Bool) → let kind : Kind2 =
      LeafOf2 out mem_attr read write xn sh af dbm contiguous in
      means2_of r.config left value ≡ kind → is_too_large r.stage2 out ≡ big → (af || r.config.ha2) ≡ on
      → leaf_of_stage2 (not big && on) ≡ leaf_of_stage2 true
      → Leads (asked2 r p x) kind
  unfolding step2
  leaf_leads p x out mem_attr xn sh read write af dbm contiguous true on e b o h = absurd cc
  leaf_leads p x out mem_attr xn sh read write af dbm contiguous false false e b o h = absurd cc
  leaf_leads p x out mem_attr xn sh read write af dbm contiguous false true e b o h = (
    leaf2_of (asked2 r p x) left pa record { out = out; mem_attr = mem_attr; xn = xn; sh = sh; read = read; write = write; dbm = dbm; contiguous = contiguous },
    rw (e, b, o) refl,
    refl,
  )

  leads_by : (p : Bool) (x : ℕ) (kind : Kind2) → means2_of r.config left value ≡ kind → part2 r kind ≡ leaf_of_stage2 true
      → Leads (asked2 r p x) kind
  leads_by p x Invalid2 e h = absurd cc
  leads_by p x (Table2 next) e h = absurd cc
  leads_by p x (LeafOf2 out mem_attr read write xn sh af dbm contiguous) e h =
      leaf_leads p x out mem_attr xn sh read write af dbm contiguous (is_too_large r.stage2 out) (af || r.config.ha2) e refl refl h

  -- a leaf
  pub leaf_leads2 : (p : Bool) (x : ℕ) → part_of r S2 left value ≡ leaf_of_stage2 true
      → (l : Leaf2) × (step2 (asked2 r p x) left pa value ≡ Reached l) × (l.class ≡ class_by (mapping_of r S2 left value) r.stage2 left pa)
  leaf_leads2 p x h = leads_by p x (means2_of r.config left value) refl h

  table_leads : (next : ℕ) (big : Bool) → means2_of r.config left value ≡ Table2 next → is_too_large r.stage2 next ≡ big
      → table (not big) ≡ table true
      → (p : Bool) (x : ℕ) → step2 (asked2 r p x) left pa value ≡ Down next
  unfolding step2
  table_leads next true e b h p x = absurd cc
  table_leads next false e b h p x = rw (e, b) refl

  abbrev TableLeads : Type 0
  TableLeads = (next : ℕ) × (means2_of r.config left value ≡ Table2 next) × ((p : Bool) (x : ℕ) → step2 (asked2 r p x) left pa value ≡ Down next)

  table_by : (kind : Kind2) → means2_of r.config left value ≡ kind → part2 r kind ≡ table true → TableLeads
  table_by Invalid2 e h = absurd cc
  table_by (Table2 next) e h = (next, e, table_leads next (is_too_large r.stage2 next) e refl h)
  table_by (LeafOf2 out mem_attr read write xn sh af dbm contiguous) e h = absurd cc

  -- a table
  pub table_leads2 : part_of r S2 left value ≡ table true → TableLeads
  table_leads2 h = table_by (means2_of r.config left value) refl h

no_table_where : {S : Type 0} (k : S → Kind2) (none pointer mapping : S) (b0 b1 b2 b3 : Bool) (next : ℕ) → b2 ≡ true
    → k (cond b0 (cond b1 (cond b2 mapping pointer) (cond b3 mapping none)) none) ≡ Table2 next → k none ≡ Invalid2
    → (k mapping ≡ Table2 next → ⊥) → ⊥
no_table_where k none pointer mapping false b1 b2 b3 next q e n m = absurd cc
no_table_where k none pointer mapping true true true b3 next q e n m = m e
no_table_where k none pointer mapping true true false b3 next q e n m = absurd cc
no_table_where k none pointer mapping true false b2 true next q e n m = m e
no_table_where k none pointer mapping true false b2 false next q e n m = absurd cc

no_table_by : (c : Config) (left w next : ℕ) → eqb left 0 ≡ true → means2_of c left w ≡ Table2 next → ⊥
unfolding means2_of
no_table_by c left w next z h =
    no_table_where (kind2_of (granule_of c.tg2) left w) _ _ _ (bit w 0) (bit w 1) (eqb left 0) (has_block (granule_of c.tg2) left) next z h refl (λ k. cc)

-- the last level has no tables
pub no_table2 : (c : Config) (w next : ℕ) → means2_of c 0 w ≡ Table2 next → ⊥
no_table2 c w next h = no_table_by c 0 w next refl h

-- THE REGION

-- a chain whose last mark is a word that is no invalid one
record WordLast (r : Regime) (p : Bool) (x y : ℕ) (trail : List Item) (u : Ask Need Item (End Leaf2)) (m : Mark) : Type 0 where
  at : Stepped2 r p x y trail u
  is : m ≡ mark_full r S2 at.left x at.item

-- the numbers of an address's region
pub holds_same : (g : Region) (x y : ℕ) → g.start ≡ x / 2 ^ g.class → holds g y ≡ true → x / 2 ^ g.class ≡ y / 2 ^ g.class
holds_same g x y e h = sym (eqb-true (y / 2 ^ g.class) g.start h ∙ e)

module _ (c : Config) (s : Side) (p : Bool) (x y : ℕ) (ok : is_refused2 c x ≡ false) where
  abbrev R : Regime
  R = regime_of c s

  chain_takes : (trail : List Item) (u : Ask Need Item (End Leaf2)) → IsOn R (chain R p x) trail u → Takes (fits R) (walk2 (asked2 R p x)) trail u
  chain_takes trail u h = subst (λ t. Takes (fits R) t trail u) (sym (walk2_is R p x ok)) (takes_on R (chain R p x) u trail h)

  module _ (trail : List Item) (u : Ask Need Item (End Leaf2)) (m : Mark) (h : IsOn R (chain R p x) trail u) (real : m.part ≡ nothing → ⊥) where
    word_last_by : (n : Need) (i : Item) → LastIs trail i → fits R n i ≡ true → m ≡ mark R n i → IsAt x n → WordLast R p x y trail u m
    word_last_by stage1_base i l f e t = absurd t
    word_last_by (stage2_base z) i l f e t = absurd (real (ap (λ n. n.part) e ∙ mark_base2_part R z i))
    word_last_by (word w) i l f e t =
        let fw = fits_word_parts R w i f in
        let st = stepped2 R p x y (of_fields c s) trail u (chain_takes trail u h) (inr (i, l, (tt, fw.what))) in
        let q : i ≡ st.item = st.is_last i l fw.what in
        let n : w.left ≡ st.left =
        level_of_one w.left st.left (sym fw.level ∙ ap (λ z. z.level) q ∙ fit_level R S2 st.left st.fit.0 p x st.fit.1 st.item st.fit.2) in
        record { at = st; is = e ∙ mark_at_full R w i st.item S2 st.left x t.0 n t.1 q }

    word_last : (pre : List Mark) → marks R (chain R p x) trail ≡ pre ++ m ∷ [] → WordLast R p x y trail u m
    word_last pre e =
        let d = last_met R (IsAt x) (chain R p x) u trail m (asks_chain R p x) h (subst (λ ms. LastIs ms m) (sym e) (last_here pre m)) in
        word_last_by d.need d.item d.last d.fit d.is d.told

    -- the IPA of the region isn't refused, and its chain meets the same
    module _ (w : WordLast R p x y trail u m) (hold : holds m.region y ≡ true) where
      same_at : x / 2 ^ class2 R w.at.left w.at.item ≡ y / 2 ^ class2 R w.at.left w.at.item
      same_at = holds_same (mark_full R S2 w.at.left x w.at.item).region x y refl (subst (λ (z : Mark). holds z.region y ≡ true) w.is hold)

      accepted : is_refused2 c y ≡ false
      accepted = range2 R x y (class2 R w.at.left w.at.item) (of_fields c s) w.at.most same_at ok

      other_chain : (v : Ask Need Item (End Leaf2)) → InStep (fits R) (SameRegion R) (walk2 (asked2 R p x)) (walk2 (asked2 R p y)) trail u v
          → IsOn R (chain R p y) trail v × (marks R (chain R p x) trail ≡ marks R (chain R p y) trail)
      other_chain v i =
          let ey : walk2 (asked2 R p y) ≡ chain R p y = walk2_is R p y accepted in
          let ex : walk2 (asked2 R p x) ≡ chain R p x = walk2_is R p x ok in (
            subst (λ t. IsOn R t trail v) ey (step_on_other R (walk2 (asked2 R p x)) u (walk2 (asked2 R p y)) v trail i),
            ap (λ t. marks R t trail) (sym ex) ∙ step_marks R (walk2 (asked2 R p x)) u (walk2 (asked2 R p y)) v trail i ∙ ap (λ t. marks R t trail) ey,
          )

leaf_twin : (r r' : Regime) (l : Leaf2) (u : Ask Need Item (End Leaf2)) → Twin r r' (done (reaches l)) u → u ≡ done (reaches l)
leaf_twin r r' l (done (reaches m)) h = ap (λ (z : Leaf2). done (reaches z)) h
leaf_twin r r' l (done (stops f)) h = absurd h
leaf_twin r r' l (ask n k) h = absurd h

pub part_real : (p : Part) → p ≡ leaf_of_stage2 true → p ≡ nothing → ⊥
part_real p e h = let q : leaf_of_stage2 true ≡ nothing = sym e ∙ h in cc

pub table_real : (p : Part) → p ≡ table true → p ≡ nothing → ⊥
table_real p e h = let q : table true ≡ nothing = sym e ∙ h in cc

leaf_found : (r r' : Regime) (q : Bool) (y : ℕ) (trail : List Item) (ms : List Mark) (class : ℕ) (l : Leaf2) (t : Ask Need Item (End Leaf2))
    → TwinOn r r' t (chain r' q y) (done (reaches l)) trail → l.class ≡ class → marks r t trail ≡ ms
    → ChainLeaf r' q trail ms class y
leaf_found r r' q y trail ms class l t w c e =
    record { leaf_at = l; on = subst (IsOn r' (chain r' q y) trail) (leaf_twin r r' l w.left w.twin) w.on; class_is = c; same = w.same ∙ e }

-- a leaf of stage 2 serves each IPA of its region
pub chain_leaf_is : (c : Config) (s t : Side) (p q : Bool) (x y : ℕ) (trail : List Item) (u : Ask Need Item (End Leaf2)) (pre : List Mark) (m : Mark) →
    is_refused2 c x ≡ false → IsOn (regime_of c s) (chain (regime_of c s) p x) trail u
    → marks (regime_of c s) (chain (regime_of c s) p x) trail ≡ pre ++ m ∷ [] →
    m.part ≡ leaf_of_stage2 true → holds m.region y ≡ true → ChainLeaf (regime_of c t) q trail (pre ++ m ∷ []) m.region.class y
chain_leaf_is c s t p q x y trail u pre m ok h e part hold =
    let r : Regime = regime_of c s in
    let r' : Regime = regime_of c t in
    let w = word_last c s p x y ok trail u m h (part_real m.part part) pre e in
    let d = leaf_leads2 r w.at.left w.at.item.pa w.at.item.value p x (sym (ap (λ (z : Mark). z.part) w.is) ∙ part) in
    let end : u ≡ done (reaches d.0) = w.at.left_as ∙ ap (step_then (beneath (down2 r p x) w.at.left)) d.1 in
    let rc = reached2 r p x y (of_fields c s) trail d.0 (subst (Takes (fits r) (walk2 (asked2 r p x)) trail) end (chain_takes c s p x y ok trail u h)) in
    let same : x / 2 ^ d.0.class ≡ y / 2 ^ d.0.class =
    subst (λ k. x / 2 ^ k ≡ y / 2 ^ k) (sym d.2) (same_at c s p x y ok trail u m h (part_real m.part part) w hold) in
    let i : InStep (fits r) (SameRegion r) (walk2 (asked2 r p x)) (walk2 (asked2 r p y)) trail u (done (reaches (moved2 d.0 y))) =
    subst (λ z. InStep (fits r) (SameRegion r) (walk2 (asked2 r p x)) (walk2 (asked2 r p y)) trail z (done (reaches (moved2 d.0 y)))) (sym end)
    (rc.shift same) in
    let o = other_chain c s p x y ok trail u m h (part_real m.part part) w hold (done (reaches (moved2 d.0 y))) i in
    let tw = twin_on r r' (chain r p y) (chain r' q y) (done (reaches (moved2 d.0 y))) trail (twin_chain c s t p q y) o.0 in
    leaf_found r r' q y trail (pre ++ m ∷ []) m.region.class (moved2 d.0 y) (chain r p y) tw (d.2 ∙ sym (ap (λ (z : Mark). z.region.class) w.is))
    (sym o.1 ∙ e)

-- BEHIND A TABLE

from_asks_word : (q : Asked2) (left n : ℕ) → (need : Need) × (go : Item → Ask Need Item (End Leaf2)) × (walk2_from q left n ≡ ask need go)
from_asks_word q zero n = (_, _, refl)
from_asks_word q (suc left) n = (_, _, refl)

beneath_asks : (r : Regime) (p : Bool) (x left n : ℕ) → (left ≡ 0 → ⊥)
    → (need : Need) × (go : Item → Ask Need Item (End Leaf2)) × (beneath (down2 r p x) left n ≡ ask need go)
beneath_asks r p x zero n h = absurd (h refl)
beneath_asks r p x (suc left) n h = let d = from_asks_word (asked2 r p x) left n in (d.0, d.1, sym (walk2_levels r p x left n) ∙ d.2)

abbrev Asking : Regime → Bool → ℕ → List Item → Ask Need Item (End Leaf2) → Type 0
Asking r q y trail u = (need : Need) × (go : Item → Ask Need Item (End Leaf2)) × IsWords (ask need go) × (u ≡ ask need go)

ask_twin : (r r' : Regime) (n : Need) (k : Item → Ask Need Item (End Leaf2)) (u : Ask Need Item (End Leaf2)) → Twin r r' (ask n k) u
    → (need : Need) × (go : Item → Ask Need Item (End Leaf2)) × (u ≡ ask need go)
ask_twin r r' n k (done e) h = absurd h
ask_twin r r' n k (ask m l) h = (m, l, refl)

chain_words : (r : Regime) (p : Bool) (x : ℕ) (i : Item) (trail : List Item) (u : Ask Need Item (End Leaf2)) → IsOn r (chain r p x) (i ∷ trail) u
    → IsWords u
chain_words r p x i trail u h = words_on r (walk2_behind (asked2 r p x) i.value) u trail (words_behind (asked2 r p x) i.value) h.1

chain_table_by : (r r' : Regime) (q : Bool) (y : ℕ) (trail : List Item) (ms : List Mark) (i : Item) (n : Need) (k : Item → Ask Need Item (End Leaf2))
    (t : Ask Need Item (End Leaf2)) → LastIs trail i
    → TwinOn r r' t (chain r' q y) (ask n k) trail → marks r t trail ≡ ms → ChainTable r' q trail ms y
chain_table_by r r' q y [] ms i n k t l w e = absurd l
chain_table_by r r' q y (x ∷ trail) ms i n k t l w e =
    let d = ask_twin r r' n k w.left w.twin in
    record {
      need = d.0;
      go = d.1;
      words = subst IsWords d.2 (chain_words r' q y x trail w.left w.on);
      on = subst (IsOn r' (chain r' q y) (x ∷ trail)) d.2 w.on;
      same = w.same ∙ e;
    }

not_zero : (c : Config) (left value next : ℕ) → means2_of c left value ≡ Table2 next → left ≡ 0 → ⊥
not_zero c left value next h e = no_table2 c value next (subst (λ k. means2_of c k value ≡ Table2 next) e h)

step_to : (r : Regime) (p : Bool) (x y : ℕ) (trail : List Item) (u v w : Ask Need Item (End Leaf2)) → v ≡ w
    → InStep (fits r) (SameRegion r) (walk2 (asked2 r p x)) (walk2 (asked2 r p y)) trail u v
    → InStep (fits r) (SameRegion r) (walk2 (asked2 r p x)) (walk2 (asked2 r p y)) trail u w
step_to r p x y trail u v w e h = subst (InStep (fits r) (SameRegion r) (walk2 (asked2 r p x)) (walk2 (asked2 r p y)) trail u) e h

table_end : (r : Regime) (p : Bool) (x y left : ℕ) (i : Item) (next : ℕ) (n : Need) (k : Item → Ask Need Item (End Leaf2))
    → step2 (asked2 r p y) left i.pa i.value ≡ Down next → beneath (down2 r p y) left next ≡ ask n k → behind2 r p x y y left i ≡ ask n k
table_end r p x y left i next n k h e = ap (step_then (beneath (down2 r p y) left)) h ∙ e

-- a table of stage 2 serves each IPA of its region
pub chain_table_is : (c : Config) (s t : Side) (p q : Bool) (x y : ℕ) (trail : List Item) (u : Ask Need Item (End Leaf2)) (pre : List Mark) (m : Mark) →
    is_refused2 c x ≡ false → IsOn (regime_of c s) (chain (regime_of c s) p x) trail u
    → marks (regime_of c s) (chain (regime_of c s) p x) trail ≡ pre ++ m ∷ [] →
    m.part ≡ table true → holds m.region y ≡ true → ChainTable (regime_of c t) q trail (pre ++ m ∷ []) y
chain_table_is c s t p q x y trail u pre m ok h e part hold =
    let r : Regime = regime_of c s in
    let r' : Regime = regime_of c t in
    let z = last_met r (IsAt x) (chain r p x) u trail m (asks_chain r p x) h (subst (λ ms. LastIs ms m) (sym e) (last_here pre m)) in
    let w = word_last c s p x y ok trail u m h (table_real m.part part) pre e in
    let d = table_leads2 r w.at.left w.at.item.pa w.at.item.value (sym (ap (λ (z : Mark). z.part) w.is) ∙ part) in
    let below = beneath_asks r p y w.at.left d.0 (not_zero c w.at.left w.at.item.value d.0 d.1) in
    let end : behind2 r p x y y w.at.left w.at.item ≡ ask below.0 below.1 = table_end r p x y w.at.left w.at.item d.0 below.0 below.1 (d.2 p y) below.2 in
    let same = same_at c s p x y ok trail u m h (table_real m.part part) w hold in
    let i : InStep (fits r) (SameRegion r) (walk2 (asked2 r p x)) (walk2 (asked2 r p y)) trail u (ask below.0 below.1) =
    step_to r p x y trail u (behind2 r p x y y w.at.left w.at.item) (ask below.0 below.1) end (w.at.shift (class2 r w.at.left w.at.item) (omega arith) same) in
    let o = other_chain c s p x y ok trail u m h (table_real m.part part) w hold (ask below.0 below.1) i in
    let tw = twin_on r r' (chain r p y) (chain r' q y) (ask below.0 below.1) trail (twin_chain c s t p q y) o.0 in
    chain_table_by r r' q y trail (pre ++ m ∷ []) z.item below.0 below.1 (chain r p y) z.last tw (sym o.1 ∙ e)
