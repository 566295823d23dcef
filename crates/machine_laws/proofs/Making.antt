-- Every row that is made of a word has its fact behind the step.
use Rattle.std.proofs.Common.{◌≡◌, ℕ, zero, suc, ◌≤◌, ◌/◌, ◌^◌, Bool, true, false, cond, List, [], ◌∷◌, ◌++◌, length}
use Rattle.std.proofs.Common.{◌⊎◌, inl, inr, refl, sym, ap, ◌∙◌, subst, append_assoc, Option, Some, None, arith}
use Rattle.std.specs.Prelude.{Result, Ok, Err}
use Rattle.std.proofs.lemmas.List.{length-append, take_all}
use Rattle.std.proofs.lemmas.Bool.{eqb-true, both_ways}
use Rattle.sysregs.specs.declared.regs.Regs.{Regs}
use Rattle.sysregs.specs.declared.regs.Side.{Side}
use Rattle.sysregs.specs.declared.regs.Config.{Config}
use Rattle.sysregs.specs.Registers.{config_of, asid_of, vmid_of}
use Rattle.sysregs.specs.Sides.{side_of}
use Rattle.fault_codes.specs.declared.fault.Stage.{Stage}
use Rattle.fault_codes.specs.declared.fault.Stage.TheVariants.{S1, S2}
use Rattle.fault_codes.specs.declared.fault.Class.TheVariants.{Translation, AddressSize, Permission}
use Rattle.geometry.specs.Tables.{class_of, most_left}
use Rattle.permissions.specs.Rights.{no_bits}
use Rattle.descriptors.specs.declared.kinds.Kind1.{Kind1}
use Rattle.descriptors.specs.declared.kinds.Kind1.TheVariants.{Invalid, Table, Leaf}
use Rattle.descriptors.specs.Meaning.{means1_of}
use Rattle.table_reads.specs.declared.lead.Lead.{Lead}
use Rattle.table_reads.specs.declared.lead.Lead.TheVariants.{Down, Reached, Stopped}
use Rattle.table_reads.specs.Places.{is_too_large}
use Rattle.trails.specs.declared.item.Item.{Item}
use Rattle.trails.specs.declared.outcome.Access.{Access}
use Rattle.trails.specs.declared.step.Step.{Step}
use Rattle.tlbi_ops.specs.declared.inval.Inval.{Inval}
use Rattle.tlbi_ops.specs.Covers.{is_stage1}
use Rattle.tagged_tlb.specs.declared.row.Key.{Key}
use Rattle.walk_spec.specs.declared.entry.Table1.{Table1}
use Rattle.walk_spec.specs.declared.entry.Entry1.{Entry1}
use Rattle.walk_spec.specs.declared.leaf.Leaf1.{Leaf1}
use Rattle.walk_spec.specs.declared.leaf.Leaf2.{Leaf2}
use Rattle.walk_spec.specs.Ask.{Ask, done, ask, after, go_on, finer}
use Rattle.walk_spec.specs.Needs.{Regime, Need, stage1_base, stage2_base, word, fits, sizes_of, mapping1, mapping_of, class_by, region_of}
use Rattle.walk_spec.specs.Steps.{End, stops, reaches, step_then}
use Rattle.walk_spec.specs.Stage2.{is_refused2, walk2_behind, walk2}
use Rattle.walk_spec.specs.Stage1.{Asked, asked2, untagged, fault1, step1, entry1, walk1_from, read1, is_readable, read1_by, word_of, stage1_from}
use Rattle.walk_spec.specs.BothStages.{Landing, landed, judged2, stage2_behind, is_refused1, stage1_behind, stage1_on, stage1_off, stage1, walk_by, asked, walk}
use Rattle.walk_laws.proofs.Stepping.{Asks}
use Rattle.walk_laws.proofs.Places.{class_up}
use Rattle.walk_laws.proofs.Stage1.{IsStage2, asks_stage2}
use Rattle.walk_laws.proofs.Sound.{sound1}
use Rattle.walk_laws.proofs.Shifts.{of_fields, same_side}
use Rattle.tagged_tlb.specs.declared.row.Kind.{Kind}
use Rattle.tagged_tlb.specs.declared.row.Kind.TheVariants.{Table1 as table1, Leaf2 as leaf2, Table2 as table2}
use Rattle.machine_spec.specs.Moments.{regs_after}
use Rattle.machine_spec.specs.Marks.{Part, nothing, table, leaf_of_stage1, leaf_of_stage2, part1, part_of, Mark}
use Rattle.machine_spec.specs.Marks.{mark, marks, is_first, is_leaf, is_table, has_asid, tag_by}
use Rattle.machine_spec.specs.Uses.{AllUsed}
use Rattle.machine_spec.specs.Kept.{View, now, regs_when, IsHeld, IsKeptItem}
use Rattle.tagged_tlb.specs.declared.row.Row.{Row}
use Rattle.machine_spec.specs.Made.{Maker, key_of, key_for, made_in, row_of, only_if, rows_by, is_read_now, chain_with, rows_of}
use Rattle.machine_laws.specs.Standing.{IsOn}
use Rattle.machine_laws.proofs.Trees.{is_need1, needs_base, chain, Plan, fin, own, via, joined, flat, IsSound, IsWords, AllSecond}
use Rattle.machine_laws.proofs.Facts.{In, sided, regime_for, IsStored, IsRow}
use Rattle.machine_laws.proofs.Laws.{Laws}
use Rattle.machine_laws.proofs.Lists.{In-append}
use Rattle.machine_laws.proofs.Stands.{on_append, marks_append, mark_first, mark_base, mark_item, words_second, second_marks, marks_nil}
use Rattle.machine_laws.proofs.Fine.{Good, config_at, here, longer, issued_now}
use Rattle.machine_laws.proofs.Fronts.{front_first, front_second, used_drop}
use Rattle.machine_laws.proofs.Longer.{regs_now, OfBoth, both_second, both_same, held_on, kept_on, none_since}

-- MARKS

-- a table or a leaf is a word
pub table_word : (r : Regime) (n : Need) (i : Item) (b : Bool) → (mark r n i).part ≡ table b → (mark r n i).base ≡ false
unfolding mark
table_word r stage1_base i b h = absurd cc
table_word r (stage2_base x) i b h = absurd cc
table_word r (word w) i b h = refl

leaf_word : (r : Regime) (n : Need) (i : Item) (b : Bool) → (mark r n i).part ≡ leaf_of_stage2 b → (mark r n i).base ≡ false
unfolding mark
leaf_word r stage1_base i b h = absurd cc
leaf_word r (stage2_base x) i b h = absurd cc
leaf_word r (word w) i b h = refl

second_asid : (m : Mark) → is_first m ≡ false → has_asid m ≡ true → {P : Type 0} → P
second_asid m f h = absurd (both_ways (has_asid m) (rw f refl) h)

-- ONE HALF OF THE ADDRESSES

-- a question of stage 1 is for this address, with no more than so many levels left
abbrev IsFor : ℕ → ℕ → Need → Type 0
IsFor k x stage1_base = Unit {0}
IsFor k x (stage2_base y) = Unit {0}
IsFor k x (word w) = is_stage1 w.stage ≡ true → (w.left ≤ k) × (w.address ≡ x)

for_second : (k x : ℕ) (n : Need) → IsStage2 n → IsFor k x n
for_second k x stage1_base h = absurd h
for_second k x (stage2_base y) h = tt
for_second k x (word w) h = λ f. absurd (both_ways (is_stage1 w.stage) (ap is_stage1 h) f)

module _ (P : Need → Type 0) where
  asks_after : {A B : Type 0} (t : Ask Need Item A) (f : A → Ask Need Item B) → Asks P t → ((e : A) → Asks P (f e)) → Asks P (after t f)
  asks_after (done e) f h g = g e
  asks_after (ask n k) f h g = (h.0, λ i. asks_after (k i) f (h.1 i) g)

  asks_map : {A : Type 0} (Q : Need → Type 0) → ((n : Need) → Q n → P n) → (t : Ask Need Item A) → Asks Q t → Asks P t
  asks_map Q f (done e) h = tt
  asks_map Q f (ask n k) h = (f n h.0, λ i. asks_map Q f (k i) (h.1 i))

  asks_if : {A : Type 0} (b : Bool) (t u : Ask Need Item A) → Asks P t → Asks P u → Asks P (cond b t u)
  asks_if true t u h g = h
  asks_if false t u h g = g

  asks_go : {X A : Type 0} (stop : X → A) (next : Item → Ask Need Item A) (found : Result Item X) → ((i : Item) → Asks P (next i))
      → Asks P (go_on stop next found)
  asks_go stop next (Ok i) h = h i
  asks_go stop next (Err x) h = tt

-- the walk of an access asks stage 1 for its own address, from the start level down
module _ (q : Asked) where
  abbrev For : Need → Type 0
  For = IsFor q.regime.stage1.start (untagged q.access.va)

  for_walk2 : (p : Bool) (x : ℕ) → Asks For (walk2 (asked2 q.regime p x))
  for_walk2 p x = asks_map For IsStage2 (for_second q.regime.stage1.start (untagged q.access.va)) (walk2 (asked2 q.regime p x)) (asks_stage2 q.regime p x)

  for_read : (left : ℕ) (t : Table1) (place : ℕ) → left ≤ q.regime.stage1.start → Asks For (read1 (entry1 q left t) place)
  for_read left t place l = (λ f. (l, refl), λ i. tt)

  for_read_by : (left : ℕ) (t : Table1) (e : End Leaf2) → left ≤ q.regime.stage1.start → Asks For (read1_by q.regime.config (entry1 q left t) e)
  for_read_by left t (stops f) l = tt
  for_read_by left t (reaches m) l =
      asks_if For (is_readable q.regime.config m) (read1 (entry1 q left t) m.pa)
      (done (Err record { stage = S2; level = m.level; class = Permission; s1ptw = true })) (for_read left t m.pa l) tt

  for_word : (left : ℕ) (t : Table1) → left ≤ q.regime.stage1.start → Asks For (word_of q.regime (entry1 q left t))
  for_word left t l =
      let e = entry1 q left t in
      asks_if For q.regime.config.vm (after (walk2 (asked2 q.regime true e.place)) (read1_by q.regime.config e)) (read1 e e.place)
      (asks_after For (walk2 (asked2 q.regime true e.place)) (read1_by q.regime.config e) (for_walk2 true e.place) (λ d. for_read_by left t d l))
      (for_read left t e.place l)

  for_step : (below : Table1 → Ask Entry1 Item (End Leaf1)) (s : Lead Leaf1 Table1)
      → ((t : Table1) → Asks For (finer stops (word_of q.regime) (below t))) → Asks For (finer stops (word_of q.regime) (step_then below s))
  for_step below (Down t) h = h t
  for_step below (Reached l) h = tt
  for_step below (Stopped f) h = tt

  for_from : (left : ℕ) (t : Table1) → left ≤ q.regime.stage1.start → Asks For (stage1_from q left t)
  for_from zero t l =
      let below : Table1 → Ask Entry1 Item (End Leaf1) = λ t. done (stops (fault1 Translation 0)) in
      asks_after For (word_of q.regime (entry1 q 0 t))
      (go_on stops (λ i. finer stops (word_of q.regime) (step_then below (step1 q (entry1 q 0 t) i.pa i.value)))) (for_word 0 t l)
      (λ d. asks_go For stops (λ i. finer stops (word_of q.regime) (step_then below (step1 q (entry1 q 0 t) i.pa i.value))) d
      (λ i. for_step below (step1 q (entry1 q 0 t) i.pa i.value) (λ t. tt)))
  for_from (suc left) t l =
      asks_after For (word_of q.regime (entry1 q (suc left) t))
      (go_on stops (λ i. finer stops (word_of q.regime) (step_then (walk1_from q left) (step1 q (entry1 q (suc left) t) i.pa i.value))))
      (for_word (suc left) t l)
      (λ d. asks_go For stops (λ i. finer stops (word_of q.regime) (step_then (walk1_from q left) (step1 q (entry1 q (suc left) t) i.pa i.value))) d
      (λ i. for_step (walk1_from q left) (step1 q (entry1 q (suc left) t) i.pa i.value) (λ t. for_from left t (omega (arith, l)))))

  for_behind : (base : ℕ) → Asks For (stage1_behind q base)
  for_behind base =
      asks_if For (is_too_large q.regime.stage1 base) (done (stops (fault1 AddressSize most_left)))
      (stage1_from q q.regime.stage1.start record { address = base; bits = no_bits })
      tt (for_from q.regime.stage1.start record { address = base; bits = no_bits } (omega arith))

  for_stage1 : Asks For (stage1 q)
  for_stage1 =
      asks_if For q.regime.config.m (stage1_on q) (stage1_off q)
      (asks_if For (is_refused1 q.regime.config q.access) (done (stops (fault1 Translation most_left))) (ask stage1_base (λ i. stage1_behind q i.value)) tt
      (tt, λ i. for_behind i.value)) tt

  for_output : (e : End Leaf1) → Asks For (stage2_behind q e)
  for_output (stops f) = tt
  for_output (reaches l) =
      asks_if For q.regime.config.vm (after (walk2 (asked2 q.regime false l.out)) (λ e. done (judged2 q.judged q.access l e))) (done (reaches (landed l)))
      (asks_after For (walk2 (asked2 q.regime false l.out)) (λ e. done (judged2 q.judged q.access l e)) (for_walk2 false l.out) (λ e. tt)) tt

  for_walk : Asks For (walk_by q)
  for_walk = asks_after For (stage1 q) (stage2_behind q) for_stage1 for_output

-- a table of stage 1 has a small region around the address
abbrev IsNearTable : Regime → ℕ → Mark → Type 0
IsNearTable r x m =
    is_first m ≡ true → (b : Bool) → m.part ≡ table b → (m.region.class ≤ class_of r.stage1.granule r.stage1.start)
    × (m.region.start ≡ x / 2 ^ m.region.class)

table_class : (r : Regime) (kind : Kind1) (left pa : ℕ) (b : Bool) → part1 r kind ≡ table b → left ≤ r.stage1.start
    → class_by (mapping1 kind) r.stage1 left pa ≤ class_of r.stage1.granule r.stage1.start
table_class r Invalid left pa b h l = absurd cc
table_class r (Table address bits) left pa b h l = class_up r.stage1.granule left r.stage1.start l
table_class r (Leaf out attr_index bits sh af global contiguous) left pa b h l = absurd cc

near_word : (r : Regime) (st : Stage) (left value pa : ℕ) (b : Bool) → is_stage1 st ≡ true → part_of r st left value ≡ table b
    → left ≤ r.stage1.start
    → class_by (mapping_of r st left value) (sizes_of r st) left pa ≤ class_of r.stage1.granule r.stage1.start
near_word r S1 left value pa b f h l = table_class r (means1_of r.config r.side left value) left pa b h l
near_word r S2 left value pa b f h l = absurd cc

near_mark : (r : Regime) (x : ℕ) (n : Need) (i : Item) → IsFor r.stage1.start x n → IsNearTable r x (mark r n i)
unfolding mark
near_mark r x stage1_base i h = λ f b e. absurd cc
near_mark r x (stage2_base y) i h = λ f b e. absurd cc
near_mark r x (word w) i h = λ f b e. (near_word r w.stage w.left i.value i.pa b f e (h f).0, ap (λ z. z / 2 ^ (region_of r w i).class) (h f).1)

abbrev AllNear : Regime → ℕ → List Mark → Type 0
AllNear r x [] = Unit {0}
AllNear r x (m ∷ ms) = IsNearTable r x m × AllNear r x ms

near_marks : {A : Type 0} (r : Regime) (x : ℕ) (t : Ask Need Item A) (items : List Item) → Asks (IsFor r.stage1.start x) t → AllNear r x (marks r t items)
near_marks r x (done e) items h = tt
near_marks r x (ask n k) [] h = tt
near_marks r x (ask n k) (i ∷ items) h = (near_mark r x n i h.0, near_marks r x (k i) items (h.1 i))

near_last : (r : Regime) (x : ℕ) (pre : List Mark) (m : Mark) → AllNear r x (pre ++ m ∷ []) → IsNearTable r x m
near_last r x [] m h = h.0
near_last r x (y ∷ pre) m h = near_last r x pre m h.1

-- the last mark of a walk's trail, where it is a table of stage 1
near_table : (c : Config) (a : Access) (trail : List Item) (pre : List Mark) (m : Mark) → marks (regime_for c a) (walk c true a) trail ≡ pre ++ m ∷ []
    → IsNearTable (regime_for c a) (untagged a.va) m
near_table c a trail pre m e =
    near_last (regime_for c a) (untagged a.va) pre m
    (subst (AllNear (regime_for c a) (untagged a.va)) e (near_marks (regime_for c a) (untagged a.va) (walk c true a) trail (for_walk (asked c true a))))

-- so two accesses that meet the same table are of one half
table_side : (c : Config) (a b : Access) (trail : List Item) (pre : List Mark) (m : Mark) → is_refused1 c b ≡ false
    → marks (regime_for c a) (walk c true a) trail ≡ pre ++ m ∷ []
    → marks (regime_for c b) (walk c true b) trail ≡ pre ++ m ∷ [] → is_first m ≡ true → m.part ≡ table true → side_of b.va ≡ side_of a.va
table_side c a b trail pre m ref is same first part =
    let p = near_table c a trail pre m is first true part in
    let q = near_table c b trail pre m same first true part in
    let s = sound1 (regime_for c b) b (of_fields c (side_of b.va)) refl ref in
    let i = s.input in
    let e = s.entries in
    let l = q.0 in
    same_side b.va a.va m.region.class (omega (arith, l, e, i)) (sym q.1 ∙ p.1)

-- THE ROWS OF ONE WORD

one_of : (r x : Row) → In r (x ∷ []) → r ≡ x
one_of r x (inl e) = e
one_of r x (inr h) = absurd h

only_case : (b : Bool) (x r : Row) → In r (only_if b x) → (b ≡ true) × (r ≡ x)
only_case true x r h = (refl, one_of r x h)
only_case false x r h = absurd h

abbrev IsOneOf : Maker → Mark → List Item → List Item → Stage → Part → Row → Type 0
IsOneOf k m whole part st p r =
    ((st ≡ S1) × (p ≡ table true) × (r ≡ row_of k m table1 whole))
    ⊎ (((st ≡ S2) × (p ≡ table true) × (r ≡ row_of k m table2 part)) ⊎ ((st ≡ S2) × (p ≡ leaf_of_stage2 true)
    × (r ≡ row_of k m leaf2 part)))

row_cases : (k : Maker) (m : Mark) (whole part : List Item) (st : Stage) (p : Part) (r : Row) → In r (rows_by k m whole part st p)
    → IsOneOf k m whole part st p r
row_cases k m whole part S1 nothing r h = absurd h
row_cases k m whole part S1 (table b) r h = let o = only_case b (row_of k m table1 whole) r h in inl (refl, ap table o.0, o.1)
row_cases k m whole part S1 (leaf_of_stage1 g) r h = absurd h
row_cases k m whole part S1 (leaf_of_stage2 b) r h = absurd h
row_cases k m whole part S2 nothing r h = absurd h
row_cases k m whole part S2 (table b) r h = let o = only_case b (row_of k m table2 part) r h in inr (inl (refl, ap table o.0, o.1))
row_cases k m whole part S2 (leaf_of_stage1 g) r h = absurd h
row_cases k m whole part S2 (leaf_of_stage2 b) r h = let o = only_case b (row_of k m leaf2 part) r h in inr (inr (refl, ap leaf_of_stage2 o.0, o.1))

-- of an item, where it was read now
abbrev pub row_at : Maker → Mark → List Item → List Item → List Row
row_at k m whole part = cond (is_read_now k m) (rows_by k m whole part m.stage m.part) []

at_case : (b : Bool) (rs : List Row) (r : Row) → In r (cond b rs []) → (b ≡ true) × In r rs
at_case true rs r h = (refl, h)
at_case false rs r h = absurd h

pub at_cases : (k : Maker) (m : Mark) (whole part : List Item) (r : Row) → In r (row_at k m whole part)
    → (m.item.moment ≡ k.step) × IsOneOf k m whole part m.stage m.part r
at_cases k m whole part r h =
    let o = at_case (is_read_now k m) (rows_by k m whole part m.stage m.part) r h in
    (eqb-true m.item.moment k.step o.0, row_cases k m whole part m.stage m.part r o.1)

module _ (laws : Laws) (v : View) (s : Step) (none : (i : Inval) → issued_now v s.event ≡ Some i → ⊥) (inbox : List Inval) where
  abbrev regs : Regs
  regs = regs_after v.core v.log

  abbrev maker : Maker
  maker = record { regs = regs; step = now v }

  abbrev Then : Side → Row → Mark → Option ℕ → Type 0
  Then t r = IsStored (sided (longer v s) t) inbox r

  abbrev HeldNow : Mark → Type 0
  HeldNow m = IsHeld v (config_at v) (vmid_of regs) m

  when_now : regs_when v (now v) ≡ regs
  when_now = ap (regs_after v.core) (take_all (length v.log) v.log (omega arith))

  pub held_at : (above : Option ℕ) (pre : List Mark) (m : Mark) (ms : List Mark) → AllUsed (Good v) above (pre ++ m ∷ ms) → HeldNow m
  held_at above pre m ms h = subst (λ g. IsHeld v (config_of g) (vmid_of g) m) when_now (used_drop (Good v) above pre (m ∷ ms) h).1.0.0.held

  -- an item whose use has been
  pub closed : (t : Side) (r : Row) → r.key.config ≡ config_at v → r.key.vmid ≡ vmid_of regs → (m : Mark) (u : ℕ) → OfBoth v.side t m
      → Good v m (Some u)
      → Then t r m (Some u)
  closed t r ec ev m u both h =
      let f : IsKeptItem v (config_at v) (vmid_of regs) m u = subst (λ g. IsKeptItem v (config_of g) (vmid_of g) m u) when_now h.0 in
      let q = kept_on v s t (config_at v) (vmid_of regs) m u both h.1 f in (
        subst (λ x. IsKeptItem (sided (longer v s) t) x r.key.vmid m u) (sym ec)
            (subst (λ x. IsKeptItem (sided (longer v s) t) (config_at v) x m u) (sym ev) q),
        simp length-append (omega (arith, h.1)),
      )

  -- an item that was read now, and whose use is to come
  pub last : (t : Side) (r : Row) → r.key.config ≡ config_at v → r.key.vmid ≡ vmid_of regs → (m : Mark) → OfBoth v.side t m
      → m.item.moment ≡ now v
      → m.base ≡ false → tag_by regs m ≡ r.tag
      → (has_asid m ≡ true → (asid_of regs ≡ r.key.asid) × (r.global ≡ false)) → HeldNow m → Then t r m None
  last t r ec ev m both at b tag asid held =
      let e = regs_now v.log s v.core m.item.moment at in
      let h = held_on v s t (config_at v) (vmid_of regs) m both (omega (arith, at)) held in
      record {
        before = simp length-append (omega (arith, at));
        held = subst (λ x. IsHeld (sided (longer v s) t) x r.key.vmid m) (sym ec) (subst (λ x. IsHeld (sided (longer v s) t) (config_at v) x m) (sym ev) h);
        word = b;
        tag_is = ap (λ g. tag_by g m) e ∙ tag;
        pending = λ k i past is reach cov. absurd (none_since v s t none k i (omega (arith, past, at)) is);
        asid = λ n. (ap asid_of e ∙ (asid n).0, (asid n).1);
      }

  -- ONE ROW

  abbrev key2 : Key
  key2 = record (key_of regs) { asid = 0 }

  abbrev row_with : Key → Mark → Kind → List Item → Row
  row_with key m kind trail = record { kind = kind; key = key; global = false; region = m.region; made = made_in (now v) 0; tag = tag_by regs m; trail = trail }

  module _ (a : Access) (side : v.side ≡ side_of a.va) where
    abbrev R : Regime
    R = regime_for (config_at v) a

    table1_row : (tr : List Item) (u : Ask Need Item (End Landing)) (ws : List Mark) (m : Mark) (rest : List Mark) → IsOn R (here v a) tr u
        → marks R (here v a) tr ≡ ws ++ m ∷ []
        → m.item.moment ≡ now v → is_first m ≡ true → m.part ≡ table true → m.base ≡ false → HeldNow m
        → AllUsed (Good v) None (ws ++ m ∷ rest)
        → IsRow (longer v s) inbox (row_with (key_of regs) m table1 tr)
    table1_row tr u ws m rest on is at first part base held used =
        let r : Row = row_with (key_of regs) m table1 tr in (
          refl,
          λ b may.
              let t = laws.first_table (config_at v) a b tr u ws m may.on may.accepted on is first part may.held in
              let e : side_of b.va ≡ v.side = table_side (config_at v) a b tr ws m may.accepted is t.same first part ∙ sym side in
              record {
                plan = t.plan;
                on = t.on;
                sound = t.sound;
                late = t.late;
                front = ws;
                last = m;
                is = t.same;
                first = first;
                word = base;
                to_table = ap is_table part;
                stored =
                    front_first (Good v) (Then (side_of b.va) r) (λ x u. closed (side_of b.va) r refl refl x u (both_same v.side (side_of b.va) x e)) None ws
                    m rest first
                    (last (side_of b.va) r refl refl m (both_same v.side (side_of b.va) m e) at base refl (λ n. (refl, refl)) held) used;
              },
        )

    module _ (p : Bool) (x : ℕ) (ref : is_refused2 (config_at v) x ≡ false) (part : List Item) (u : Ask Need Item (End Leaf2)) (pm : List Mark) (m : Mark)
        (rest : List Mark) (above : Option ℕ)
        (on : IsOn R (chain R p x) part u) (is : marks R (chain R p x) part ≡ pm ++ m ∷ []) (sec : AllSecond pm)
        (at : m.item.moment ≡ now v) (first : is_first m ≡ false) (base : m.base ≡ false) (held : HeldNow m)
        (used : AllUsed (Good v) above (pm ++ m ∷ rest))
      where
        stored2 : (kind : Kind) (t : Side) → AllUsed (Then t (row_with key2 m kind part)) None (pm ++ m ∷ [])
        stored2 kind t =
            let r : Row = row_with key2 m kind part in
            front_second (Good v) (Then t r) (λ x u f. closed t r refl refl x u (both_second v.side t x f)) above pm m rest sec first
            (last t r refl refl m (both_second v.side t m first) at base refl (λ n. second_asid m first n) held) used

        leaf2_row : m.part ≡ leaf_of_stage2 true → IsRow (longer v s) inbox (row_with key2 m leaf2 part)
        leaf2_row lf = (
          refl,
          refl,
          λ t q y holds.
              let l = laws.chain_leaf (config_at v) (side_of a.va) t p q x y part u pm m ref on is lf holds in
              record {
                leaf = l.leaf_at;
                on = l.on;
                class_is = l.class_is;
                stored = subst (AllUsed (Then t (row_with key2 m leaf2 part)) None) (sym l.same) (stored2 leaf2 t);
              },
        )

        table2_row : m.part ≡ table true → IsRow (longer v s) inbox (row_with key2 m table2 part)
        table2_row tab = (
          refl,
          refl,
          λ t q y holds.
              let l = laws.chain_table (config_at v) (side_of a.va) t p q x y part u pm m ref on is tab holds in
              record {
                need = l.need;
                go = l.go;
                words = l.words;
                on = l.on;
                stored = subst (AllUsed (Then t (row_with key2 m table2 part)) None) (sym l.same) (stored2 table2 t);
              },
        )

    -- THE ROWS OF A TRAIL

    abbrev All : List Row → Type 0
    All rs = (r : Row) → In r rs → IsRow (longer v s) inbox r

    all_append : (xs ys : List Row) → All xs → All ys → All (xs ++ ys)
    all_append xs ys f g r h = elim (In-append xs ys r h) [ inl m ↦ f r m | inr m ↦ g r m ]

    abbrev Walk : Type 0
    Walk = Ask Need Item (End Landing)

    abbrev Uses1 : List Item → Walk → List Item → Type 0
    Uses1 whole t xs = AllUsed (Good v) None (marks R (here v a) whole ++ marks R t xs)

    -- one more item of the whole trail
    uses_on : (whole : List Item) (n : Need) (k : Item → Walk) (y : Item) (ys : List Item) → IsOn R (here v a) whole (ask n k)
        → Uses1 whole (ask n k) (y ∷ ys) → Uses1 (whole ++ y ∷ []) (k y) ys
    uses_on whole n k y ys on h =
        let e = ap (λ x. x ++ marks R (k y) ys) (marks_append R (here v a) (ask n k) whole (y ∷ []) on)
        ∙ append_assoc (marks R (here v a) whole) (mark R n y ∷ marks R (k y) []) (marks R (k y) ys)
        ∙ ap (λ x. marks R (here v a) whole ++ mark R n y ∷ (x ++ marks R (k y) ys)) (marks_nil R (k y)) in
        subst (AllUsed (Good v) None) (sym e) h

    stage_first : (m : Mark) (b : Bool) (st : Stage) → m.stage ≡ st → is_first m ≡ b → is_stage1 st ≡ b
    stage_first m b st e f = sym (ap is_stage1 e) ∙ f

    first_item : (whole part : List Item) (n : Need) (k : Item → Walk) (y : Item) (ys : List Item) → is_need1 n ≡ true
        → IsOn R (here v a) whole (ask n k)
        → fits R n y ≡ true → Uses1 whole (ask n k) (y ∷ ys)
        → All (row_at maker (mark R n y) (whole ++ y ∷ []) part)
    first_item whole part n k y ys need1 on fit used r h =
        let m : Mark = mark R n y in
        let c = at_cases maker m (whole ++ y ∷ []) part r h in
        let f : is_first m ≡ true = mark_first R n y ∙ need1 in
        let is : marks R (here v a) (whole ++ y ∷ []) ≡ marks R (here v a) whole ++ m ∷ [] =
        marks_append R (here v a) (ask n k) whole (y ∷ []) on ∙ ap (λ x. marks R (here v a) whole ++ m ∷ x) (marks_nil R (k y)) in
        elim c.1 [
          | inl p ↦
              subst (IsRow (longer v s) inbox) (sym (p.2 ∙ ap (λ x. row_with x m table1 (whole ++ y ∷ [])) (ap (key_for regs) p.0)))
              (table1_row (whole ++ y ∷ []) (k y) (marks R (here v a) whole) m (marks R (k y) ys)
              (on_append R (here v a) (ask n k) (k y) whole (y ∷ []) on (fit, refl)) is
              c.0 f p.1 (table_word R n y true p.1) (held_at None (marks R (here v a) whole) m (marks R (k y) ys) used) used)
          | inr p ↦
              elim p [
                | inl e ↦ absurd (both_ways false refl (stage_first m true S2 e.0 f))
                | inr e ↦
                    absurd (both_ways false refl (stage_first m true S2 e.0 f))
              ]
        ]

    chain_second : (p : Bool) (x : ℕ) (part : List Item) → AllSecond (marks R (chain R p x) part)
    chain_second p x part = second_marks R (chain R p x) part (refl, λ i. words_second (walk2_behind (asked2 R p x) i.value) (laws.behind_words R p x i.value))

    second_item : (p : Bool) (x : ℕ) → is_refused2 (config_at v) x ≡ false
        → (whole part : List Item) (n : Need) (k : Item → Ask Need Item (End Leaf2)) (y : Item) (rest : List Mark) (above : Option ℕ)
        → is_need1 n ≡ false → IsOn R (chain R p x) part (ask n k) → fits R n y ≡ true
        → AllUsed (Good v) above (marks R (chain R p x) part ++ mark R n y ∷ rest)
        → All (row_at maker (mark R n y) whole (part ++ y ∷ []))
    second_item p x ref whole part n k y rest above need1 on fit used r h =
        let m : Mark = mark R n y in
        let pm : List Mark = marks R (chain R p x) part in
        let c = at_cases maker m whole (part ++ y ∷ []) r h in
        let f : is_first m ≡ false = mark_first R n y ∙ need1 in
        let on2 : IsOn R (chain R p x) (part ++ y ∷ []) (k y) = on_append R (chain R p x) (ask n k) (k y) part (y ∷ []) on (fit, refl) in
        let is : marks R (chain R p x) (part ++ y ∷ []) ≡ pm ++ m ∷ [] =
        marks_append R (chain R p x) (ask n k) part (y ∷ []) on ∙ ap (λ z. pm ++ m ∷ z) (marks_nil R (k y)) in
        let held : HeldNow m = held_at above pm m rest used in
        elim c.1 [
          | inl e ↦ absurd (both_ways true (stage_first m false S1 e.0 f) refl)
          | inr q ↦ elim q [
            | inl e ↦ subst (IsRow (longer v s) inbox) (sym (e.2 ∙ ap (λ z. row_with z m table2 (part ++ y ∷ [])) (ap (key_for regs) e.0)))
                (table2_row p x ref (part ++ y ∷ []) (k y) pm m rest above on2 is (chain_second p x part) c.0 f (table_word R n y true e.1) held used e.1)
            | inr e ↦ subst (IsRow (longer v s) inbox) (sym (e.2 ∙ ap (λ z. row_with z m leaf2 (part ++ y ∷ [])) (ap (key_for regs) e.0)))
                (leaf2_row p x ref (part ++ y ∷ []) (k y) pm m rest above on2 is (chain_second p x part) c.0 f (leaf_word R n y true e.1) held used e.1)
          ]
        ]

    abbrev with_by : Bool → Bool → List Item → Item → List Item
    with_by first base part i = cond first [] (cond base (i ∷ []) (part ++ i ∷ []))

    with_is : (n : Need) (y : Item) (first base : Bool) (part : List Item) → is_need1 n ≡ first → needs_base n ≡ base
        → chain_with part (mark R n y) ≡ with_by first base part y
    with_is n y first base part f b =
        ap (λ z. with_by z (mark R n y).base part (mark R n y).item) (mark_first R n y ∙ f)
        ∙ ap (λ z. with_by first z part (mark R n y).item) (mark_base R n y ∙ b) ∙ ap (with_by first base part) (mark_item R n y)

    -- the rows of a list that begins with this item
    rows_more : (n : Need) (y : Item) (first base : Bool) (whole part : List Item) (rest : List Mark) → is_need1 n ≡ first → needs_base n ≡ base
        → All (row_at maker (mark R n y) (whole ++ y ∷ []) (with_by first base part y))
        → All (rows_of maker (whole ++ y ∷ []) (with_by first base part y) rest) → All (rows_of maker whole part (mark R n y ∷ rest))
    rows_more n y first base whole part rest f b one more =
        let m : Mark = mark R n y in
        subst (λ i. All (row_at maker m (whole ++ i ∷ []) (chain_with part m) ++ rows_of maker (whole ++ i ∷ []) (chain_with part m) rest))
        (sym (mark_item R n y))
        (subst (λ q. All (row_at maker m (whole ++ y ∷ []) q ++ rows_of maker (whole ++ y ∷ []) q rest)) (sym (with_is n y first base part f b))
        (all_append (row_at maker m (whole ++ y ∷ []) (with_by first base part y)) (rows_of maker (whole ++ y ∷ [])
        (with_by first base part y) rest) one more))

    module _ (p : Bool) (x : ℕ) (ref : is_refused2 (config_at v) x ≡ false) (go : End Leaf2 → Walk) (w : Walk)
        (later : (e : End Leaf2) (whole part xs : List Item) → IsOn R (here v a) whole (go e) → IsOn R (go e) xs w → Uses1 whole (go e) xs
        → All (rows_of maker whole part (marks R (go e) xs))) where
      rows_chain : (u : Ask Need Item (End Leaf2)) (whole part xs : List Item) (above : Option ℕ) → IsWords u → IsOn R (chain R p x) part u
          → IsOn R (here v a) whole (after u go) → IsOn R (after u go) xs w
          → Uses1 whole (after u go) xs → AllUsed (Good v) above (marks R (chain R p x) part ++ marks R (after u go) xs)
          → All (rows_of maker whole part (marks R (after u go) xs))
      rows_chain (done e) whole part xs above words q on h u1 u2 = later e whole part xs on h u1
      rows_chain (ask n k) whole part [] above words q on h u1 u2 = λ r i. absurd i
      rows_chain (ask n k) whole part (y ∷ ys) above words q on h u1 u2 =
          let pm : List Mark = marks R (chain R p x) part in
          let rest : List Mark = marks R (after (k y) go) ys in
          let eq : marks R (chain R p x) (part ++ y ∷ []) ++ rest ≡ pm ++ mark R n y ∷ rest =
          ap (λ z. z ++ rest) (marks_append R (chain R p x) (ask n k) part (y ∷ []) q ∙ ap (λ z. pm ++ mark R n y ∷ z) (marks_nil R (k y)))
          ∙ append_assoc pm (mark R n y ∷ []) rest in
          rows_more n y false false whole part rest words.0 words.1
          (second_item p x ref (whole ++ y ∷ []) part n k y rest above words.0 q h.0 u2)
          (rows_chain (k y) (whole ++ y ∷ []) (part ++ y ∷ []) ys above (words.2 y) (on_append R (chain R p x) (ask n k)
          (k y) part (y ∷ []) q (h.0, refl))
          (on_append R (here v a) (after (ask n k) go) (after (k y) go) whole (y ∷ []) on (h.0, refl)) h.1 (uses_on whole n (λ i. after (k i) go) y ys on u1)
          (subst (AllUsed (Good v) above) (sym eq) u2))

    -- a base gives no row
    none_at : (whole part : List Item) (n : Need) (y : Item) → needs_base n ≡ true → All (row_at maker (mark R n y) whole part)
    none_at whole part n y b r h =
        let c = at_cases maker (mark R n y) whole part r h in
        let not_base : (mark R n y).base ≡ false → IsRow (longer v s) inbox r = λ e. absurd (both_ways (mark R n y).base e (mark_base R n y ∙ b)) in
        elim c.1 [
          | inl e ↦ not_base (table_word R n y true e.1)
          | inr q ↦ elim q [ inl e ↦ not_base (table_word R n y true e.1) | inr e ↦ not_base (leaf_word R n y true e.1) ]
        ]

    abbrev RowsOf : Plan → Type 0
    RowsOf p =
        (whole part xs : List Item) (w : Walk) → IsOn R (here v a) whole (flat R p) → IsOn R (flat R p) xs w → Uses1 whole (flat R p) xs
        → All (rows_of maker whole part (marks R (flat R p) xs))

    own_item : (whole part : List Item) (n : Need) (k : Item → Walk) (y : Item) (ys : List Item) (b : Bool) → is_need1 n ≡ true → needs_base n ≡ b
        → IsOn R (here v a) whole (ask n k) → fits R n y ≡ true
        → Uses1 whole (ask n k) (y ∷ ys) → All (row_at maker (mark R n y) (whole ++ y ∷ []) (with_by true b part y))
    own_item whole part n k y ys b need1 base on fit used = first_item whole [] n k y ys need1 on fit used

    rows_own : (n : Need) (k : Item → Plan) → is_need1 n ≡ true → ((i : Item) → RowsOf (k i)) → RowsOf (own n k)
    rows_own n k need1 rec whole part [] w on h u = λ r i. absurd i
    rows_own n k need1 rec whole part (y ∷ ys) w on h u =
        rows_more n y true (needs_base n) whole part (marks R (flat R (k y)) ys) need1 refl
        (own_item whole part n (λ i. flat R (k i)) y ys (needs_base n) need1 refl on h.0 u)
        (rec y (whole ++ y ∷ []) [] ys w (on_append R (here v a) (flat R (own n k)) (flat R (k y)) whole (y ∷ []) on (h.0, refl)) h.1
        (uses_on whole n (λ i. flat R (k i)) y ys on u))

    rows_rest : (q : Result Need (End Landing)) (k : Item → Plan) → ((n : Need) → q ≡ Ok n → is_need1 n ≡ true) → ((i : Item) → RowsOf (k i))
        → (whole part xs : List Item) (w : Walk)
        → IsOn R (here v a) whole (joined q (λ i. flat R (k i))) → IsOn R (joined q (λ i. flat R (k i))) xs w
        → Uses1 whole (joined q (λ i. flat R (k i))) xs
        → All (rows_of maker whole part (marks R (joined q (λ i. flat R (k i))) xs))
    rows_rest (Err e) k okay rec whole part xs w on h u = λ r i. absurd i
    rows_rest (Ok n) k okay rec whole part xs w on h u = rows_own n k (okay n refl) rec whole part xs w on h u

    rows_plan : (p : Plan) → IsSound R p → RowsOf p
    rows_plan (fin e) sound whole part xs w on h u = λ r i. absurd i
    rows_plan (own n k) sound whole part xs w on h u = rows_own n k sound.0 (λ i. rows_plan (k i) (sound.2 i)) whole part xs w on h u
    rows_plan (via p x next k) sound whole part [] w on h u = λ r i. absurd i
    rows_plan (via p x next k) sound whole part (y ∷ ys) w on h u =
        let okay : (e : End Leaf2) (n : Need) → next e ≡ Ok n → (is_need1 n ≡ true) × (needs_base n ≡ false) = assumption sound in
        let more : (i : Item) → IsSound R (k i) = assumption sound in
        let go : End Leaf2 → Walk = λ e. joined (next e) (λ i. flat R (k i)) in
        let begun : Item → Ask Need Item (End Leaf2) = λ i. walk2_behind (asked2 R p x) i.value in
        let m : Mark = mark R (stage2_base x) y in
        let rest : List Mark = marks R (after (begun y) go) ys in
        let d = used_drop (Good v) None (marks R (here v a) whole) (m ∷ rest) u in
        let eq : marks R (chain R p x) (y ∷ []) ++ rest ≡ m ∷ rest = ap (λ z. m ∷ (z ++ rest)) (marks_nil R (begun y)) in
        rows_more (stage2_base x) y false true whole part rest refl refl
        (none_at (whole ++ y ∷ []) (y ∷ []) (stage2_base x) y refl)
        (rows_chain p x sound.0 go w (λ e w2 p2 x2 on2 h2 u2. rows_rest (next e) k (λ n q. (okay e n q).0)
        (λ i. rows_plan (k i) (more i)) w2 p2 x2 w on2 h2 u2)
        (begun y) (whole ++ y ∷ []) (y ∷ []) ys d.0 (laws.behind_words R p x y.value) (h.0, refl)
        (on_append R (here v a) (flat R (via p x next k)) (after (begun y) go) whole (y ∷ []) on (h.0, refl)) h.1
        (uses_on whole (stage2_base x) (λ i. after (begun i) go) y ys on u) (subst (AllUsed (Good v) d.0) (sym eq) d.1))

    -- the rows of all words of a walk
    pub rows_of_words : (trail : List Item) (u : Walk) → IsOn R (here v a) trail u → AllUsed (Good v) None (marks R (here v a) trail) → (r : Row)
        → In r (rows_of maker [] [] (marks R (here v a) trail)) → IsRow (longer v s) inbox r
    rows_of_words trail u on used =
        let p : Plan = laws.plan (config_at v) true a in
        let e : flat R p ≡ here v a = laws.plan_is (config_at v) true a in
        let go : IsOn R (flat R p) trail u → AllUsed (Good v) None (marks R (flat R p) trail) → All (rows_of maker [] [] (marks R (flat R p) trail)) =
        λ on2 used2.
        rows_plan p (laws.sound (config_at v) true a) [] [] trail u e on2
        (subst (λ z. AllUsed (Good v) None (z ++ marks R (flat R p) trail)) (sym (marks_nil R (here v a))) used2) in
        subst (λ t. IsOn R t trail u → AllUsed (Good v) None (marks R t trail) → All (rows_of maker [] [] (marks R t trail))) e go on used
