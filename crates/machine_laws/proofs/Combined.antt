-- The row of a stage 1 leaf with the stage 2 of its output has its fact behind the step, and is the one of its kind.
use Rattle.std.proofs.Common.{◌≡◌, ℕ, ◌+◌, ◌/◌, ◌^◌, Bool, true, false, not, ◌&&◌, ◌||◌, cond, List, []}
use Rattle.std.proofs.Common.{◌∷◌, ◌++◌, inl, inr, refl, sym, ap, ◌∙◌, subst, Option, Some, None, arith}
use Rattle.std.specs.Option.{option_or}
use Rattle.std.proofs.lemmas.Bool.{eqb-true, and_parts}
use Rattle.std.proofs.lemmas.Option.{same_Some}
use Rattle.sysregs.specs.declared.regs.Regs.{Regs}
use Rattle.sysregs.specs.declared.regs.Config.{Config}
use Rattle.sysregs.specs.Registers.{vmid_of}
use Rattle.sysregs.specs.Sides.{side_of}
use Rattle.fault_codes.specs.declared.fault.Stage.{Stage}
use Rattle.fault_codes.specs.declared.fault.Stage.TheVariants.{S1, S2}
use Rattle.trails.specs.declared.item.Item.{Item}
use Rattle.trails.specs.declared.outcome.Access.{Access}
use Rattle.trails.specs.declared.step.Step.{Step}
use Rattle.tlbi_ops.specs.declared.inval.Inval.{Inval}
use Rattle.tlbi_ops.specs.Covers.{is_stage1}
use Rattle.tagged_tlb.specs.declared.row.Key.{Key}
use Rattle.tagged_tlb.specs.declared.row.Made.{Made}
use Rattle.walk_spec.specs.Ask.{Ask, done, ask, Fed, ended, lacks}
use Rattle.walk_spec.specs.Needs.{Regime, Need, stage1_base, stage2_base, word, fits}
use Rattle.walk_spec.specs.Steps.{End, stops, reaches}
use Rattle.walk_spec.specs.Stage1.{untagged}
use Rattle.walk_spec.specs.BothStages.{Landing, walk}
use Rattle.walk_laws.proofs.Stepping.{takes_ends}
use Rattle.walk_laws.proofs.Landings.{walk_in_step}
use Rattle.walk_laws.proofs.Shifts.{of_fields, same_side}
use Rattle.tagged_tlb.specs.declared.row.Kind.{Kind}
use Rattle.tagged_tlb.specs.declared.row.Kind.TheVariants.{Leaf1, Table1, Leaf2, Table2}
use Rattle.machine_spec.specs.Moments.{regs_after}
use Rattle.machine_spec.specs.Marks.{Part, nothing, table, leaf_of_stage1, leaf_of_stage2, Mark, mark, marks, is_first}
use Rattle.machine_spec.specs.Marks.{is_table, is_leaf, is_global, is_leaf1, has_asid, tag_by}
use Rattle.machine_spec.specs.Uses.{AllUsed}
use Rattle.machine_spec.specs.Kept.{View, now, IsHeld}
use Rattle.tagged_tlb.specs.declared.row.Row.{Row}
use Rattle.machine_spec.specs.Made.{Maker, key_of, key_for, made_in, is_read_now, last_first, rows_of, leaf_row}
use Rattle.machine_spec.specs.Made.{leaf_rows, combined_rows, numbered, rows_made, chain_with}
use Rattle.machine_laws.specs.Standing.{IsOn}
use Rattle.machine_laws.proofs.Trees.{AllSecond}
use Rattle.machine_laws.proofs.Facts.{In, sided, regime_for, IsStored, IsRow}
use Rattle.machine_laws.proofs.Laws.{FirstLeaf, Laws}
use Rattle.machine_laws.proofs.Stands.{on_ends}
use Rattle.machine_laws.proofs.Fine.{Good, config_at, here, longer, issued_now}
use Rattle.machine_laws.proofs.Fronts.{whole_leaf}
use Rattle.machine_laws.proofs.Longer.{both_same}
use Rattle.machine_laws.proofs.Lists.{In-append, none_some}
use Rattle.machine_laws.proofs.Making.{row_at, at_cases, held_at, closed, last}

-- MARKS

-- the last item of stage 1, and those behind it
record LastFirst (ms : List Mark) (m : Mark) : Type 0 where
  pre : List Mark
  out : List Mark
  is : ms ≡ pre ++ m ∷ out
  second : AllSecond out

no_first : (x : Mark) (ms : List Mark) (o : Option Mark) (b : Bool) → last_first ms ≡ o → is_first x ≡ b → option_or o (cond b (Some x) None) ≡ None
    → (last_first ms ≡ None → AllSecond ms) → (is_first x ≡ false) × AllSecond ms
no_first x ms (Some y) b e f h rec = absurd cc
no_first x ms None true e f h rec = absurd cc
no_first x ms None false e f h rec = (f, rec e)

all_second : (ms : List Mark) → last_first ms ≡ None → AllSecond ms
all_second [] h = tt
all_second (x ∷ ms) h = no_first x ms (last_first ms) (is_first x) refl refl h (all_second ms)

lift : (x : Mark) (ms : List Mark) (m : Mark) (o : Option Mark) (b : Bool) → last_first ms ≡ o → is_first x ≡ b
    → option_or o (cond b (Some x) None) ≡ Some m
    → (last_first ms ≡ Some m → LastFirst ms m) → LastFirst (x ∷ ms) m
lift x ms m (Some y) b e f h rec = let r = rec (e ∙ h) in record { pre = x ∷ r.pre; out = r.out; is = ap (λ v. x ∷ v) r.is; second = r.second }
lift x ms m None true e f h rec = record { pre = []; out = ms; is = ap (λ (v : Mark). v ∷ ms) (same_Some x m h); second = all_second ms e }
lift x ms m None false e f h rec = none_some m h

split_last : (ms : List Mark) (m : Mark) → last_first ms ≡ Some m → LastFirst ms m
split_last [] m h = none_some m h
split_last (x ∷ ms) m h = lift x ms m (last_first ms) (is_first x) refl refl h (split_last ms m)

-- leaves are words
abbrev LeavesAreWords : List Mark → Type 0
LeavesAreWords [] = Unit {0}
LeavesAreWords (m ∷ ms) = (is_leaf m.part ≡ true → m.base ≡ false) × LeavesAreWords ms

leaf_base : (r : Regime) (n : Need) (i : Item) → is_leaf (mark r n i).part ≡ true → (mark r n i).base ≡ false
unfolding mark
leaf_base r stage1_base i h = absurd cc
leaf_base r (stage2_base x) i h = absurd cc
leaf_base r (word w) i h = refl

leaves_words : {B : Type 0} (r : Regime) (t : Ask Need Item B) (xs : List Item) → LeavesAreWords (marks r t xs)
leaves_words r (done b) xs = tt
leaves_words r (ask n k) [] = tt
leaves_words r (ask n k) (x ∷ xs) = (leaf_base r n x, leaves_words r (k x) xs)

word_at : (pre : List Mark) (m : Mark) (out : List Mark) → LeavesAreWords (pre ++ m ∷ out) → is_leaf m.part ≡ true → m.base ≡ false
word_at [] m out h l = h.0 l
word_at (x ∷ pre) m out h l = word_at pre m out h.1 l

stage_one : (st : Stage) → is_stage1 st ≡ true → st ≡ S1
stage_one S1 h = refl
stage_one S2 h = absurd cc

-- a leaf that an ASID belongs to isn't global
leaf_case : (p : Part) (first : Bool) → is_leaf p ≡ true → (first && (is_table p || (is_leaf p && not (is_global p)))) ≡ true → is_global p ≡ false
leaf_case nothing first l h = absurd cc
leaf_case (table b) first l h = absurd cc
leaf_case (leaf_of_stage1 true) true l h = absurd cc
leaf_case (leaf_of_stage1 true) false l h = absurd cc
leaf_case (leaf_of_stage1 false) first l h = refl
leaf_case (leaf_of_stage2 b) first l h = refl

own_leaf : (m : Mark) → is_leaf m.part ≡ true → has_asid m ≡ true → is_global m.part ≡ false
own_leaf m l h = leaf_case m.part (is_first m) l h

-- an access of the piece of a landing is of its half of the addresses
leaf_side : (c : Config) (a b : Access) (trail : List Item) (l : Landing) (ms : List Mark) → c.m ≡ true → FirstLeaf c trail ms l.class b
    → untagged b.va / 2 ^ l.class ≡ untagged a.va / 2 ^ l.class → side_of b.va ≡ side_of a.va
leaf_side c a b trail l ms m t near =
    let r : Regime = regime_for c b in
    let d = walk_in_step r (of_fields c (side_of b.va)) b b m refl trail t.landing
    (takes_ends (fits r) (walk c false b) trail (reaches t.landing) (on_ends r (walk c false b) (reaches t.landing) trail t.on)) in
    let n = d.most in
    let e = t.class_is in
    same_side b.va a.va l.class (omega (arith, n, e)) near

-- THE ROW

module _ (laws : Laws) (v : View) (s : Step) (none : (i : Inval) → issued_now v s.event ≡ Some i → ⊥) (inbox : List Inval) (a : Access)
    (side : v.side ≡ side_of a.va) where
  abbrev regs : Regs
  regs = regs_after v.core v.log

  abbrev maker : Maker
  maker = record { regs = regs; step = now v }

  abbrev R : Regime
  R = regime_for (config_at v) a

  abbrev row_with : Key → ℕ → Mark → List Item → Row
  row_with key class m trail = record {
    kind = Leaf1;
    key = key;
    global = is_global m.part;
    region = record { class = class; start = untagged a.va / 2 ^ class };
    made = made_in (now v) 0;
    tag = tag_by regs m;
    trail = trail;
  }

  abbrev AllGood : List Item → Type 0
  AllGood trail = AllUsed (Good v) None (marks R (here v a) trail)

  leaf1_row : (trail : List Item) (l : Landing) (m : Mark) → IsOn R (here v a) trail (done (reaches l)) → AllGood trail
      → last_first (marks R (here v a) trail) ≡ Some m
      → m.item.moment ≡ now v → is_first m ≡ true → is_leaf m.part ≡ true → IsRow (longer v s) inbox (row_with (key_of regs) l.class m trail)
  leaf1_row trail l m on used is at first lf = λ b may.
      let r : Row = row_with (key_of regs) l.class m trail in
      let d = split_last (marks R (here v a) trail) m is in
      let used2 : AllUsed (Good v) None (d.pre ++ m ∷ d.out) = subst (AllUsed (Good v) None) d.is used in
      let held : IsHeld v (config_at v) (vmid_of regs) m = held_at laws v s none inbox None d.pre m d.out used2 in
      let base : m.base ≡ false = word_at d.pre m d.out (subst LeavesAreWords d.is (leaves_words R (here v a) trail)) lf in
      let near = eqb-true (untagged b.va / 2 ^ l.class) (untagged a.va / 2 ^ l.class) may.held in
      let t = laws.first_leaf (config_at v) a b trail l may.on may.accepted on near in
      let e : side_of b.va ≡ v.side = leaf_side (config_at v) a b trail l (marks R (here v a) trail) may.on t near ∙ sym side in
      let stored : AllUsed (IsStored (sided (longer v s) (side_of b.va)) inbox r) None (d.pre ++ m ∷ d.out) =
      whole_leaf (Good v) (IsStored (sided (longer v s) (side_of b.va)) inbox r)
      (λ x u. closed laws v s none inbox (side_of b.va) r refl refl x u (both_same v.side (side_of b.va) x e)) None d.pre m d.out first lf d.second
      (last laws v s none inbox (side_of b.va) r refl refl m (both_same v.side (side_of b.va) m e) at base refl (λ n. (refl, own_leaf m lf n)) held) used2 in
      record {
        landing = t.landing;
        on = t.on;
        class_is = t.class_is;
        global_is = λ n h. ap (λ (z : Mark). is_global z.part) (same_Some n m (sym h ∙ ap last_first t.same ∙ is));
        stored = subst (AllUsed (IsStored (sided (longer v s) (side_of b.va)) inbox r) None) (sym (t.same ∙ d.is)) stored;
      }

  abbrev All : List Row → Type 0
  All rs = (r : Row) → In r rs → IsRow (longer v s) inbox r

  leaf_if : (trail : List Item) (l : Landing) (m : Mark) (b : Bool) → (is_leaf1 m && is_read_now maker m) ≡ b
      → IsOn R (here v a) trail (done (reaches l)) → AllGood trail → last_first (marks R (here v a) trail) ≡ Some m
      → All (cond b (leaf_row maker l.class (untagged a.va) m trail ∷ []) [])
  leaf_if trail l m false e on used is = λ r i. absurd i
  leaf_if trail l m true e on used is = λ r i.
      let p = and_parts (is_leaf1 m) (is_read_now maker m) e in
      let q = and_parts (is_first m) (is_leaf m.part) p.0 in
      elim i [
        | inl eq ↦ subst (IsRow (longer v s) inbox) (sym (eq ∙ ap (λ z. row_with z l.class m trail) (ap (key_for regs) (stage_one m.stage q.0))))
            (leaf1_row trail l m on used is (eqb-true m.item.moment (now v) p.1) q.0 q.1)
        | inr h ↦ absurd h
      ]

  leaf_by : (trail : List Item) (l : Landing) (o : Option Mark) → last_first (marks R (here v a) trail) ≡ o → IsOn R (here v a) trail (done (reaches l))
      → AllGood trail → All (leaf_rows maker l.class (untagged a.va) trail o)
  leaf_by trail l None e on used = λ r i. absurd i
  leaf_by trail l (Some m) e on used = leaf_if trail l m (is_leaf1 m && is_read_now maker m) refl on used e

  -- the combined row of a walk
  pub combined_row : (trail : List Item) (e : End Landing) → IsOn R (here v a) trail (done e) → AllGood trail → (r : Row)
      → In r (combined_rows maker (untagged a.va) trail (marks R (here v a) trail) (ended e)) → IsRow (longer v s) inbox r
  combined_row trail (stops f) on used = λ r i. absurd i
  combined_row trail (reaches l) on used = leaf_by trail l (last_first (marks R (here v a) trail)) refl on used

-- A COMBINED ROW THAT IS MADE IS THE ONE OF ITS TRAIL

abbrev pub end_class : Fed Need (End Landing) → ℕ
end_class (ended (stops f)) = 0
end_class (ended (reaches l)) = l.class
end_class (lacks n) = 0

-- all but its number is told by the maker, the class of the landing, the address and the marks
pub record IsMade1 (k : Maker) (class x : ℕ) (ms : List Mark) (r : Row) : Type 0 where
  pub mark_of : Mark
  pub last_is : last_first ms ≡ Some mark_of
  pub read : mark_of.item.moment ≡ k.step
  pub key_is : r.key ≡ key_of k.regs
  pub region_is : r.region ≡ record { class = class; start = x / 2 ^ class }
  pub global_is : r.global ≡ is_global mark_of.part

leaf_made : (k : Maker) (class x : ℕ) (trail : List Item) (ms : List Mark) (m : Mark) (b : Bool) (r : Row) → last_first ms ≡ Some m
    → (is_leaf1 m && is_read_now k m) ≡ b
    → In r (cond b (leaf_row k class x m trail ∷ []) []) → IsMade1 k class x ms r
leaf_made k class x trail ms m false r e q h = absurd h
leaf_made k class x trail ms m true r e q (inl h) =
    let p = and_parts (is_leaf1 m) (is_read_now k m) q in
    record {
      mark_of = m;
      last_is = e;
      read = eqb-true m.item.moment k.step p.1;
      key_is = ap (λ (z : Row). z.key) h ∙ ap (key_for k.regs) (stage_one m.stage (and_parts (is_first m) (is_leaf m.part) p.0).0);
      region_is = ap (λ (z : Row). z.region) h;
      global_is = ap (λ (z : Row). z.global) h;
    }
leaf_made k class x trail ms m true r e q (inr h) = absurd h

leaves_made : (k : Maker) (class x : ℕ) (trail : List Item) (ms : List Mark) (o : Option Mark) (r : Row) → last_first ms ≡ o
    → In r (leaf_rows k class x trail o) → IsMade1 k class x ms r
leaves_made k class x trail ms None r e h = absurd h
leaves_made k class x trail ms (Some m) r e h = leaf_made k class x trail ms m (is_leaf1 m && is_read_now k m) r e refl h

combined_made : (k : Maker) (x : ℕ) (trail : List Item) (ms : List Mark) (end : Fed Need (End Landing)) (r : Row) → In r (combined_rows k x trail ms end)
    → IsMade1 k (end_class end) x ms r
combined_made k x trail ms (ended (stops f)) r h = absurd h
combined_made k x trail ms (ended (reaches l)) r h = leaves_made k l.class x trail ms (last_first ms) r refl h
combined_made k x trail ms (lacks n) r h = absurd h

kind_of : (r s : Row) (k : Kind) → r ≡ s → s.kind ≡ k → r.kind ≡ k
kind_of r s k e h = ap (λ (z : Row). z.kind) e ∙ h

is_table1 : {P : Type 0} → Table1 ≡ Leaf1 → P
is_table1 h = absurd cc

is_leaf2 : {P : Type 0} → Leaf2 ≡ Leaf1 → P
is_leaf2 h = absurd cc

is_table2 : {P : Type 0} → Table2 ≡ Leaf1 → P
is_table2 h = absurd cc

not_combined : (k : Maker) (whole part : List Item) (ms : List Mark) (r : Row) → In r (rows_of k whole part ms) → r.kind ≡ Leaf1 → ⊥
not_combined k whole part [] r h e = absurd h
not_combined k whole part (m ∷ ms) r h e =
    elim (In-append (row_at k m (whole ++ m.item ∷ []) (chain_with part m)) (rows_of k (whole ++ m.item ∷ []) (chain_with part m) ms) r h) [
      | inl i ↦ elim (at_cases k m (whole ++ m.item ∷ []) (chain_with part m) r i).1 [
        | inl q ↦ is_table1 (sym (ap (λ (z : Row). z.kind) q.2) ∙ e)
        | inr p ↦ elim p [ inl q ↦ is_table2 (sym (ap (λ (z : Row). z.kind) q.2) ∙ e) | inr q ↦ is_leaf2 (sym (ap (λ (z : Row). z.kind) q.2) ∙ e) ]
      ]
      | inr i ↦ not_combined k (whole ++ m.item ∷ []) (chain_with part m) ms r i e
    ]

-- a row as it was made, but for its number
abbrev pub renumbered : Row → Made → Row
renumbered r d = record r { made = d }

pub numbered_cases : (n : ℕ) (rows : List Row) (r : Row) → In r (numbered n rows) → (z : Row) × In z rows × ((d : Made) × (r ≡ renumbered z d))
numbered_cases n [] r h = absurd h
numbered_cases n (z ∷ rows) r (inl e) = (z, inl refl, (made_in z.made.step n, e))
numbered_cases n (z ∷ rows) r (inr i) = let c = numbered_cases (n + 1) rows r i in (c.0, inr c.1, c.2)

pub made_one : (k : Maker) (x : ℕ) (trail : List Item) (ms : List Mark) (end : Fed Need (End Landing)) (r : Row) → In r (rows_made k x trail ms end)
    → r.kind ≡ Leaf1 → IsMade1 k (end_class end) x ms r
made_one k x trail ms end r h e =
    let c = numbered_cases 0 (rows_of k [] [] ms ++ combined_rows k x trail ms end) r h in
    let z : Row = c.0 in
    elim (In-append (rows_of k [] [] ms) (combined_rows k x trail ms end) z c.1) [
      | inl i ↦ absurd (not_combined k [] [] ms z i (sym (ap (λ (q : Row). q.kind) c.2.1) ∙ e))
      | inr i ↦
          let d = combined_made k x trail ms end z i in
          subst (IsMade1 k (end_class end) x ms) (sym c.2.1)
          (record { mark_of = d.mark_of; last_is = d.last_is; read = d.read; key_is = d.key_is; region_is = d.region_is; global_is = d.global_is })
    ]
