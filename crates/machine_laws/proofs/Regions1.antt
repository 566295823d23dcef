-- A row of stage 1 serves each access of its region: a trail up to a table of stage 1.
use Rattle.std.proofs.Common.{◌≡◌, ℕ, zero, suc, ◌/◌, ◌^◌, Bool, true, false, cond, not, List, [], ◌∷◌}
use Rattle.std.proofs.Common.{◌++◌, inl, inr, refl, sym, ap, ◌∙◌, subst, arith, eqb, append-nil}
use Rattle.std.specs.Prelude.{Result, Ok, Err}
use Rattle.std.proofs.lemmas.Bool.{both_ways}
use Rattle.geometry.specs.Tables.{class_of, level_of, has_block}
use Rattle.bitwords.specs.Fields.{bit}
use Rattle.sysregs.specs.declared.regs.Config.{Config}
use Rattle.sysregs.specs.declared.regs.Side.{Side}
use Rattle.sysregs.specs.Registers.{granule_of}
use Rattle.sysregs.specs.Sides.{side_of, tg_of, hpd_of}
use Rattle.permissions.specs.declared.bits.TableBits.{TableBits}
use Rattle.permissions.specs.Rights.{joined as joined_bits}
use Rattle.fault_codes.specs.declared.fault.Fault.{Fault}
use Rattle.fault_codes.specs.declared.fault.Stage.TheVariants.{S1}
use Rattle.descriptors.specs.declared.kinds.Kind1.{Kind1}
use Rattle.descriptors.specs.declared.kinds.Kind1.TheVariants.{Invalid, Table as TableOf1, Leaf as LeafOf1}
use Rattle.descriptors.specs.Meaning.{means1_of, kind1_of}
use Rattle.trails.specs.declared.item.Item.{Item}
use Rattle.trails.specs.declared.outcome.Access.{Access}
use Rattle.table_reads.specs.declared.lead.Lead.{Lead}
use Rattle.table_reads.specs.declared.lead.Lead.TheVariants.{Down, Reached, Stopped}
use Rattle.table_reads.specs.Places.{is_too_large}
use Rattle.tlbi_ops.specs.Covers.{is_stage1}
use Rattle.walk_spec.specs.declared.entry.Table1.{Table1}
use Rattle.walk_spec.specs.declared.entry.Entry1.{Entry1}
use Rattle.walk_spec.specs.declared.leaf.Leaf1.{Leaf1}
use Rattle.walk_spec.specs.declared.leaf.Leaf2.{Leaf2}
use Rattle.walk_spec.specs.Ask.{Ask, done, ask, after, on}
use Rattle.walk_spec.specs.declared.region.Region.{Region}
use Rattle.walk_spec.specs.Needs.{Regime, regime_of, Need, stage1_base, stage2_base, word, WordNeed, fits}
use Rattle.walk_spec.specs.Steps.{End, stops, reaches, step_then}
use Rattle.walk_spec.specs.Stage2.{is_refused2}
use Rattle.walk_spec.specs.Stage1.{Asked, untagged, entry1, step1, walk1_from, is_readable}
use Rattle.walk_spec.specs.BothStages.{Landing, is_refused1, walk_by, walk}
use Rattle.walk_laws.specs.Shift.{IsOpen}
use Rattle.walk_laws.proofs.Stepping.{LastIs, last_here, last_back, takes_after}
use Rattle.walk_laws.proofs.Shifts.{of_fields, same_side}
use Rattle.walk_laws.proofs.Stage1.{under}
use Rattle.walk_laws.proofs.Tables1.{Opens, is_open, tables1_in_step}
use Rattle.machine_spec.specs.Marks.{table, Mark, mark, marks, is_first, part_of, part1}
use Rattle.tagged_tlb.specs.Rows.{holds}
use Rattle.machine_laws.specs.Standing.{IsOn}
use Rattle.machine_laws.proofs.Trees.{chain, Plan, fin, own, via, joined, flat, rest_by, IsSound, AllSecond}
use Rattle.machine_laws.proofs.Facts.{regime_for}
use Rattle.machine_laws.proofs.Laws.{FirstTable}
use Rattle.machine_laws.proofs.Stands.{marks_append, joined_is, via_on, via_marks, second_marks, marks_nil}
use Rattle.machine_laws.proofs.PlanOf.{word_need, read_next, word_behind, entry_plan, plan_of, output_plan, out_of, from_plan}
use Rattle.machine_laws.proofs.PlanOf.{root_table, behind_plan, off_end, whole_plan, plan_for, plan_is_walk}
use Rattle.machine_laws.proofs.Sounds.{sound_plan, chain_second}
use Rattle.machine_laws.proofs.MarksOf.{FitsWord, fits_word_parts, takes_on, on_takes, on_stands, step_on_other, step_marks}
use Rattle.machine_laws.proofs.Regions2.{mark_full, mark_at_full, mark_base1_part, mark_base2_part, last_tail, table_real, holds_same}

-- TABLES OF STAGE 1

no_table_where : {S : Type 0} (k : S → Kind1) (none pointer mapping : S) (b0 b1 b2 b3 : Bool) (next : ℕ) (bits : TableBits) → b2 ≡ true
    → k (cond b0 (cond b1 (cond b2 mapping pointer) (cond b3 mapping none)) none) ≡ TableOf1 next bits
    → k none ≡ Invalid → (k mapping ≡ TableOf1 next bits → ⊥) → ⊥
no_table_where k none pointer mapping false b1 b2 b3 next bits q e n m = absurd cc
no_table_where k none pointer mapping true true true b3 next bits q e n m = m e
no_table_where k none pointer mapping true true false b3 next bits q e n m = absurd cc
no_table_where k none pointer mapping true false b2 true next bits q e n m = m e
no_table_where k none pointer mapping true false b2 false next bits q e n m = absurd cc

no_table_by : (c : Config) (s : Side) (left w next : ℕ) (bits : TableBits) → eqb left 0 ≡ true → means1_of c s left w ≡ TableOf1 next bits → ⊥
unfolding means1_of
no_table_by c s left w next bits z h =
    no_table_where (kind1_of (granule_of (tg_of c s)) (hpd_of c s) left w) _ _ _ (bit w 0) (bit w 1) (eqb left 0) (has_block (granule_of (tg_of c s)) left)
    next bits z h refl (λ k. cc)

-- the last level has no tables
pub no_table1 : (c : Config) (s : Side) (w next : ℕ) (bits : TableBits) → means1_of c s 0 w ≡ TableOf1 next bits → ⊥
no_table1 c s w next bits h = no_table_by c s 0 w next bits refl h

module _ (r : Regime) (left value : ℕ) where
  abbrev pub TableLeads1 : Type 0
  TableLeads1 = (next : ℕ) × (bits : TableBits) × (means1_of r.config r.side left value ≡ TableOf1 next bits)
      × ((j : Bool) (a : Access) (t : Table1) (pa : ℕ)
      → step1 (under r j a) (entry1 (under r j a) left t) pa value ≡ Down record { address = next; bits = joined_bits t.bits bits })

  table_leads : (next : ℕ) (bits : TableBits) (big : Bool) → means1_of r.config r.side left value ≡ TableOf1 next bits
      → is_too_large r.stage1 next ≡ big
      → table (not big) ≡ table true
      → (j : Bool) (a : Access) (t : Table1) (pa : ℕ)
      → step1 (under r j a) (entry1 (under r j a) left t) pa value ≡ Down record { address = next; bits = joined_bits t.bits bits }
  unfolding step1
  table_leads next bits true e b h j a t pa = absurd cc
  table_leads next bits false e b h j a t pa = rw (e, b) refl

  table_by : (kind : Kind1) → means1_of r.config r.side left value ≡ kind → part1 r kind ≡ table true → TableLeads1
  table_by Invalid e h = absurd cc
  table_by (TableOf1 next bits) e h = (next, bits, e, table_leads next bits (is_too_large r.stage1 next) e refl h)
  table_by (LeafOf1 out attr_index bits sh af global contiguous) e h = absurd cc

  -- a table of stage 1 that may be cached leads down
  pub table_leads1 : part_of r S1 left value ≡ table true → TableLeads1
  table_leads1 h = table_by (means1_of r.config r.side left value) refl h

-- WHAT A PLAN TELLS OF ITS WORDS

module _ (r : Regime) (x : ℕ) where
  -- a word of stage 1 is for the address x, and behind a table the walk is open
  abbrev pub Tells : Need → (Item → Plan) → Type 0
  Tells stage1_base k = Unit {0}
  Tells (stage2_base y) k = Unit {0}
  Tells (word w) k = (w.stage ≡ S1) × (w.address ≡ x) × ((i : Item) → part_of r S1 w.left i.value ≡ table true → Opens (flat r (k i)))

  abbrev pub TellsNext : Result Need (End Landing) → (Item → Plan) → Type 0
  TellsNext (Ok n) k = Tells n k
  TellsNext (Err e) k = Unit {0}

  abbrev pub TellsThroughout : Plan → Type 0
  TellsThroughout (fin e) = Unit {0}
  TellsThroughout (own n k) = Tells n k × ((i : Item) → TellsThroughout (k i))
  TellsThroughout (via p y next k) = ((e : End Leaf2) → TellsNext (next e) k) × ((i : Item) → TellsThroughout (k i))

  tells_read : (b : Bool) (e : Entry1) (l : Leaf2) (k : Item → Plan) → ((p : ℕ) → Tells (word_need e p) k) → TellsNext (read_next b e l) k
  tells_read true e l k h = h l.pa
  tells_read false e l k h = tt

  tells_next : (e : Entry1) (d : End Leaf2) (k : Item → Plan) → ((p : ℕ) → Tells (word_need e p) k) → TellsNext (word_behind r.config e d) k
  tells_next e (stops f) k h = tt
  tells_next e (reaches l) k h = tells_read (is_readable r.config l) e l k h

  tells_entry : (b d : Bool) (e : Entry1) (k : Item → Plan) → ((p : ℕ) → Tells (word_need e p) k) → ((i : Item) → TellsThroughout (k i))
      → TellsThroughout (entry_plan r b d e (λ f. fin (stops f)) k)
  tells_entry true true e k h s = tt
  tells_entry true false e k h s = ((λ d. tells_next e d k h), s)
  tells_entry false d e k h s = (h e.place, s)

opens_entry : (r : Regime) (b d : Bool) (e : Entry1) (k : Item → Plan) → Opens (flat r (entry_plan r b d e (λ f. fin (stops f)) k))
opens_entry r true true e k = (refl, refl)
opens_entry r true false e k = tt
opens_entry r false d e k = tt

module _ (r : Regime) (j : Bool) (a : Access) where
  abbrev Q : Asked
  Q = under r j a

  tells_output : (b d : Bool) (l : Leaf1) → TellsThroughout r (untagged a.va) (output_plan Q b d l)
  tells_output true true l = tt
  tells_output true false l = ((λ e. tt), (λ i. tt))
  tells_output false d l = tt

  tells_out : (e : End Leaf1) → TellsThroughout r (untagged a.va) (out_of Q e)
  tells_out (stops f) = tt
  tells_out (reaches l) = tells_output r.config.vm (is_refused2 r.config l.out) l

  opens_from : (left : ℕ) (t : Table1) → Opens (flat r (from_plan Q left t))
  opens_from zero t = opens_entry r r.config.vm (is_refused2 r.config (entry1 Q 0 t).place) (entry1 Q 0 t) _
  opens_from (suc left) t = opens_entry r r.config.vm (is_refused2 r.config (entry1 Q (suc left) t).place) (entry1 Q (suc left) t) _

  abbrev Onward : (Table1 → Ask Entry1 Item (End Leaf1)) → ℕ → Table1 → Item → Plan
  Onward below left t i = plan_of r (out_of Q) (step_then below (step1 Q (entry1 Q left t) i.pa i.value))

  tells_step : (below : Table1 → Ask Entry1 Item (End Leaf1)) → ((t : Table1) → TellsThroughout r (untagged a.va) (plan_of r (out_of Q) (below t)))
      → (s : Lead Leaf1 Table1) → TellsThroughout r (untagged a.va) (plan_of r (out_of Q) (step_then below s))
  tells_step below h (Down t) = h t
  tells_step below h (Reached l) = tells_out (reaches l)
  tells_step below h (Stopped f) = tt

  opens_zero : (t : Table1) (i : Item) (below : Table1 → Ask Entry1 Item (End Leaf1)) → part_of r S1 0 i.value ≡ table true
      → Opens (flat r (Onward below 0 t i))
  opens_zero t i below h = let d = table_leads1 r 0 i.value h in absurd (no_table1 r.config r.side i.value d.0 d.1 d.2)

  opens_suc : (left : ℕ) (t : Table1) (i : Item) → part_of r S1 (suc left) i.value ≡ table true
      → Opens (flat r (Onward (walk1_from Q left) (suc left) t i))
  opens_suc left t i h =
      let d = table_leads1 r (suc left) i.value h in
      rw (d.3 j a t i.pa) (opens_from left record { address = d.0; bits = joined_bits t.bits d.1 })

  tells_from : (left : ℕ) (t : Table1) → TellsThroughout r (untagged a.va) (from_plan Q left t)
  tells_from zero t =
      tells_entry r (untagged a.va) r.config.vm (is_refused2 r.config (entry1 Q 0 t).place) (entry1 Q 0 t) (Onward _ 0 t)
      (λ p. (refl, refl, λ i h. opens_zero t i _ h))
      (λ i. tells_step _ (λ t. tt) (step1 Q (entry1 Q 0 t) i.pa i.value))
  tells_from (suc left) t =
      tells_entry r (untagged a.va) r.config.vm (is_refused2 r.config (entry1 Q (suc left) t).place) (entry1 Q (suc left) t)
      (Onward (walk1_from Q left) (suc left) t) (λ p. (refl, refl, λ i h. opens_suc left t i h))
      (λ i. tells_step (walk1_from Q left) (tells_from left) (step1 Q (entry1 Q (suc left) t) i.pa i.value))

  tells_behind : (b : Bool) (base : ℕ) → TellsThroughout r (untagged a.va) (behind_plan Q b base)
  tells_behind true base = tt
  tells_behind false base = tells_from r.stage1.start (root_table base)

  tells_whole : (b d : Bool) → TellsThroughout r (untagged a.va) (whole_plan Q b d)
  tells_whole true true = tt
  tells_whole true false = (tt, λ i. tells_behind (is_too_large r.stage1 i.value) i.value)
  tells_whole false d = tells_out (off_end Q)

pub tells_plan : (c : Config) (j : Bool) (a : Access) → TellsThroughout (regime_for c a) (untagged a.va) (plan_for c j a)
tells_plan c j a = tells_whole (regime_for c a) j a c.m (is_refused1 c a)

-- THE LAST MARK IS OF STAGE 1

second_last : (ms : List Mark) (m : Mark) → AllSecond ms → LastIs ms m → is_first m ≡ true → ⊥
second_last [] m s l f = l
second_last (n ∷ []) m s l f = both_ways (is_first m) (sym (ap (λ (z : Mark). is_first z) l) ∙ s.0) f
second_last (n ∷ (o ∷ ms)) m s l f = second_last (o ∷ ms) m s.1 l f

last_fwd : {X : Type 0} (front : List X) (y : X) (ys : List X) (l : X) → LastIs (y ∷ ys) l → LastIs (front ++ y ∷ ys) l
last_fwd [] y ys l h = h
last_fwd (f ∷ []) y ys l h = h
last_fwd (f ∷ (g ∷ front)) y ys l h = last_fwd (g ∷ front) y ys l h

module _ (r : Regime) (x : ℕ) (u : Ask Need Item (End Landing)) (m : Mark) (first : is_first m ≡ true) where
  -- the question of stage 1 that took the last item, and the plan behind it
  pub record FirstLast (items : List Item) : Type 0 where
    pub need : Need
    pub item : Item
    pub go : Item → Plan
    pub last : LastIs items item
    pub fit : fits r need item ≡ true
    pub is : m ≡ mark r need item
    pub left : u ≡ flat r (go item)
    pub sound : IsSound r (go item)
    pub told : Tells r x need go

  abbrev Finds : Plan → Type 0
  Finds p = (items : List Item) → IsOn r (flat r p) items u → LastIs (marks r (flat r p) items) m → FirstLast items

  own_last : (n : Need) (k : Item → Plan) → Tells r x n k → ((i : Item) → IsSound r (k i)) → ((i : Item) → Finds (k i)) → Finds (own n k)
  own_last n k t s rec [] h l = absurd l
  own_last n k t s rec (y ∷ []) h l =
      let e : mark r n y ≡ m = subst (λ ms. LastIs (mark r n y ∷ ms) m) (marks_nil r (flat r (k y))) l in
      record { need = n; item = y; go = k; last = refl; fit = h.0; is = sym e; left = h.1; sound = s y; told = t }
  own_last n k t s rec (y ∷ (z ∷ zs)) h l =
      let d = rec y (z ∷ zs) h.1 (last_tail r (flat r (k y)) u (mark r n y) m z zs h.1 l) in
      record { need = d.need; item = d.item; go = d.go; last = d.last; fit = d.fit; is = d.is; left = d.left; sound = d.sound; told = d.told }

  further : (front : List Item) (y : Item) (ys : List Item) → FirstLast (y ∷ ys) → FirstLast (front ++ y ∷ ys)
  further front y ys d =
      record {
        need = d.need;
        item = d.item;
        go = d.go;
        last = last_fwd front y ys d.item d.last;
        fit = d.fit;
        is = d.is;
        left = d.left;
        sound = d.sound;
        told = d.told;
      }

  rest_last : (g : Result Need (End Landing)) (k : Item → Plan) → TellsNext r x g k → ((i : Item) → IsSound r (k i)) → ((i : Item) → Finds (k i))
      → (front rest : List Item) (pre : List Mark) → AllSecond pre
      → IsOn r (flat r (rest_by g k)) rest u → LastIs (pre ++ marks r (flat r (rest_by g k)) rest) m → FirstLast (front ++ rest)
  rest_last (Err e) k t s rec front [] pre a h l = absurd (second_last pre m a (subst (λ ms. LastIs ms m) (append-nil pre) l) first)
  rest_last (Err e) k t s rec front (y ∷ ys) pre a h l = absurd h
  rest_last (Ok n) k t s rec front [] pre a h l = absurd (second_last pre m a (subst (λ ms. LastIs ms m) (append-nil pre) l) first)
  rest_last (Ok n) k t s rec front (y ∷ ys) pre a h l =
      further front y ys (own_last n k t s rec (y ∷ ys) h (last_back pre (mark r n y) (marks r (flat r (k y)) ys) m l))

  abbrev Next : (End Leaf2 → Result Need (End Landing)) → (Item → Plan) → End Leaf2 → Ask Need Item (End Landing)
  Next next k e = joined (next e) (λ i. flat r (k i))

  chain_marks : (p : Bool) (y : ℕ) (items : List Item) → AllSecond (marks r (chain r p y) items)
  chain_marks p y items = second_marks r (chain r p y) items (chain_second r p y)

  via_in : (p : Bool) (y : ℕ) (next : End Leaf2 → Result Need (End Landing)) (k : Item → Plan) (items : List Item) (v : Ask Need Item (End Leaf2))
      → IsOn r (chain r p y) items v
      → LastIs (marks r (flat r (via p y next k)) items) m → ⊥
  via_in p y next k items v h l =
      second_last (marks r (chain r p y) items) m (chain_marks p y items) (subst (λ ms. LastIs ms m) (via_marks r p y next k items v h) l) first

  via_out : (p : Bool) (y : ℕ) (next : End Leaf2 → Result Need (End Landing)) (k : Item → Plan) → ((e : End Leaf2) → TellsNext r x (next e) k)
      → ((i : Item) → IsSound r (k i)) → ((i : Item) → Finds (k i))
      → (front rest : List Item) (d : End Leaf2) → IsOn r (chain r p y) front (done d) → IsOn r (Next next k d) rest u
      → LastIs (marks r (flat r (via p y next k)) (front ++ rest)) m → FirstLast (front ++ rest)
  via_out p y next k t s rec front rest d on more l =
      let w : Ask Need Item (End Landing) = flat r (rest_by (next d) k) in
      let e : marks r (flat r (via p y next k)) (front ++ rest) ≡ marks r (chain r p y) front ++ marks r w rest =
      marks_append r (flat r (via p y next k)) w front rest (via_on r p y next k front d on)
      ∙ ap (λ v. v ++ marks r w rest) (via_marks r p y next k front (done d) on) in
      rest_last (next d) k (t d) s rec front rest (marks r (chain r p y) front) (chain_marks p y front)
      (subst (λ v. IsOn r v rest u) (joined_is r (next d) k) more) (subst (λ ms. LastIs ms m) e l)

  via_last : (p : Bool) (y : ℕ) (next : End Leaf2 → Result Need (End Landing)) (k : Item → Plan) → ((e : End Leaf2) → TellsNext r x (next e) k)
      → ((i : Item) → IsSound r (k i)) → ((i : Item) → Finds (k i)) → Finds (via p y next k)
  via_last p y next k t s rec items h l =
      elim (takes_after (fits r) (chain r p y) (Next next k) items u (takes_on r (flat r (via p y next k)) u items h)) as (λ _. FirstLast items) [
        | inl w ↦ absurd (via_in p y next k items (ask w.0 w.1) (on_takes r (chain r p y) (ask w.0 w.1) items w.2) l)
        | inr w ↦
            subst FirstLast (sym w.3)
            (via_out p y next k t s rec w.1 w.2 w.0 (on_takes r (chain r p y) (done w.0) w.1 w.4) (on_takes r (Next next k w.0) u w.2 w.5)
            (subst (λ v. LastIs (marks r (flat r (via p y next k)) v) m) w.3 l))
      ]

  -- what is left behind a last item of stage 1 is a plan
  pub first_last : (p : Plan) → IsSound r p → TellsThroughout r x p → Finds p
  first_last (fin e) s t [] h l = absurd l
  first_last (fin e) s t (y ∷ ys) h l = absurd h
  first_last (own n k) s t items h l = own_last n k t.0 s.2 (λ i. first_last (k i) (s.2 i) (t.1 i)) items h l
  first_last (via p y next k) s t items h l = via_last p y next k t.0 s.3 (λ i. first_last (k i) (s.3 i) (t.1 i)) items h l

-- of a walk
pub walk_last : (c : Config) (j : Bool) (a : Access) (trail : List Item) (u : Ask Need Item (End Landing)) (m : Mark)
    → IsOn (regime_for c a) (walk c j a) trail u → LastIs (marks (regime_for c a) (walk c j a) trail) m
    → (first : is_first m ≡ true) → FirstLast (regime_for c a) (untagged a.va) u m first trail
walk_last c j a trail u m h l first =
    let r : Regime = regime_for c a in
    let e : walk c j a ≡ flat r (plan_for c j a) = sym (plan_is_walk c j a) in
    first_last r (untagged a.va) u m first (plan_for c j a) (sound_plan c j a) (tells_plan c j a) trail (subst (λ t. IsOn r t trail u) e h)
    (subst (λ t. LastIs (marks r t trail) m) e l)

-- A TABLE OF STAGE 1

-- what a word of stage 1 tells of itself by its mark
record TableLast (r : Regime) (x : ℕ) (u : Ask Need Item (End Landing)) (trail : List Item) (m : Mark) : Type 0 where
  left : ℕ
  item : Item
  next : ℕ
  bits : TableBits
  last : LastIs trail item
  fit : (w : WordNeed) × FitsWord w item × (w.stage ≡ S1) × (w.left ≡ left)
  means : means1_of r.config r.side left item.value ≡ TableOf1 next bits
  region_is : m.region ≡ record { class = class_of r.stage1.granule left; start = x / 2 ^ class_of r.stage1.granule left }
  opens : Opens u

table_last_by : (r : Regime) (x : ℕ) (u : Ask Need Item (End Landing)) (trail : List Item) (m : Mark) (n : Need) (k : Item → Plan) (i : Item)
    → m.part ≡ table true → LastIs trail i → fits r n i ≡ true → m ≡ mark r n i → u ≡ flat r (k i)
    → Tells r x n k → TableLast r x u trail m
table_last_by r x u trail m stage1_base k i part l f e d t = absurd (table_real m.part part (ap (λ n. n.part) e ∙ mark_base1_part r i))
table_last_by r x u trail m (stage2_base y) k i part l f e d t = absurd (table_real m.part part (ap (λ n. n.part) e ∙ mark_base2_part r y i))
table_last_by r x u trail m (word w) k i part l f e d t =
    let full : m ≡ mark_full r S1 w.left x i = e ∙ mark_at_full r w i i S1 w.left x t.0 refl t.1 refl in
    let p : part_of r S1 w.left i.value ≡ table true = sym (ap (λ (z : Mark). z.part) full) ∙ part in
    let g = table_leads1 r w.left i.value p in
    record {
      left = w.left;
      item = i;
      next = g.0;
      bits = g.1;
      last = l;
      fit = (w, fits_word_parts r w i f, t.0, refl);
      means = g.2;
      region_is = ap (λ (z : Mark). z.region) full ∙ rw g.2 refl;
      opens = subst Opens (sym d) (t.2 i p);
    }

open_stage : (r : Regime) (u : Ask Need Item (End Landing)) (p : Plan) → Opens u → u ≡ flat r p → (f : Fault) → p ≡ fin (stops f)
    → is_stage1 f.stage ≡ false
open_stage r u p o e f h = let s : Opens (flat r (fin (stops f))) = subst (λ (v : Plan). Opens (flat r v)) h (subst Opens e o) in ap is_stage1 s.0

-- what stands on a walk under another side
abbrev StandsBy : (c : Config) (b : Access) (trail : List Item) (ms : List Mark) (v : Ask Need Item (End Landing)) → Side → Type 0
StandsBy c b trail ms v s =
    IsOn (regime_of c s) (walk_by (under (regime_of c s) true b)) trail v × (marks (regime_of c s) (walk_by (under (regime_of c s) true b)) trail ≡ ms)

first_table_by : (c : Config) (b : Access) (trail : List Item) (v : Ask Need Item (End Landing)) (pre : List Mark) (m : Mark) → is_first m ≡ true
    → Opens v
    → StandsBy c b trail (pre ++ m ∷ []) v (side_of b.va) → FirstTable c trail (pre ++ m ∷ []) b
first_table_by c b trail v pre m first o h =
    let d = walk_last c true b trail v m h.0 (subst (λ ms. LastIs ms m) (sym h.1) (last_here pre m)) first in
    record {
      plan = d.go d.item;
      on = subst (IsOn (regime_for c b) (walk c true b) trail) d.left h.0;
      sound = d.sound;
      late = open_stage (regime_for c b) v (d.go d.item) o d.left;
      same = h.1;
    }

-- a table of stage 1 serves each access of its region that is not refused
pub first_table_is : (c : Config) (a b : Access) (trail : List Item) (u : Ask Need Item (End Landing)) (pre : List Mark) (m : Mark) →
    c.m ≡ true → is_refused1 c b ≡ false → IsOn (regime_for c a) (walk c true a) trail u
    → marks (regime_for c a) (walk c true a) trail ≡ pre ++ m ∷ [] →
    is_first m ≡ true → m.part ≡ table true → holds m.region (untagged b.va) ≡ true → FirstTable c trail (pre ++ m ∷ []) b
first_table_is c a b trail u pre m on ok h e first part hold =
    let r : Regime = regime_for c a in
    let d = walk_last c true a trail u m h (subst (λ ms. LastIs ms m) (sym e) (last_here pre m)) first in
    let t = table_last_by r (untagged a.va) u trail m d.need d.go d.item part d.last d.fit d.is d.left d.told in
    let fw = t.fit.1 in
    let opened : IsOpen (Rattle.walk_spec.specs.Ask.on (fits r) (walk_by (under r true a)) trail) =
    subst IsOpen (sym (on_stands r (walk c true a) u trail h)) (is_open (fits r) u t.opens) in
    let k : ℕ = class_of r.stage1.granule t.left in
    let same : untagged a.va / 2 ^ k ≡ untagged b.va / 2 ^ k =
    holds_same record { class = k; start = untagged a.va / 2 ^ k } (untagged a.va) (untagged b.va) refl
    (subst (λ (g : Region). holds g (untagged b.va) ≡ true) t.region_is hold) in
    let w = tables1_in_step r true a b trail t.item t.left t.next t.bits (of_fields c (side_of a.va)) refl t.last (fw.stage ∙ t.fit.2) fw.what
    (fw.level ∙ ap level_of t.fit.3) t.means opened in
    let most = w.most in
    let st = w.shift same ok in
    let sides : side_of a.va ≡ side_of b.va = same_side a.va b.va k (omega (arith, most)) same in
    let on_b : IsOn r (walk_by (under r true b)) trail st.1 = step_on_other r (walk_by (under r true a)) st.0 (walk_by (under r true b)) st.1 trail st.2 in
    let ms : marks r (walk_by (under r true b)) trail ≡ pre ++ m ∷ [] =
    sym (step_marks r (walk_by (under r true a)) st.0 (walk_by (under r true b)) st.1 trail st.2) ∙ e in
    first_table_by c b trail st.1 pre m first st.4 (subst (StandsBy c b trail (pre ++ m ∷ []) st.1) sides (on_b, ms))
