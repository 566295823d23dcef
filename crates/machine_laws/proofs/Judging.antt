-- What judging makes of a trail that leads to a translation: nothing, or it cuts the trail behind the leaf of stage 1.
use Rattle.std.proofs.Common.{◌≡◌, ℕ, zero, suc, Bool, true, false, cond, not, List, [], ◌∷◌, ◌++◌}
use Rattle.std.proofs.Common.{inl, inr, refl, sym, ap, ◌∙◌, subst, append_assoc, append-nil}
use Rattle.std.specs.Prelude.{Result, Err}
use Rattle.std.proofs.lemmas.Bool.{both_ways}
use Rattle.sysregs.specs.declared.regs.Config.{Config}
use Rattle.permissions.specs.Rights.{is_uxn, is_allowed1, joined as joined_bits}
use Rattle.fault_codes.specs.declared.fault.Class.TheVariants.{Translation, Permission}
use Rattle.fault_codes.specs.declared.fault.Fault.{Fault}
use Rattle.trails.specs.declared.item.Item.{Item}
use Rattle.trails.specs.declared.outcome.Access.{Access}
use Rattle.table_reads.specs.Places.{is_too_large}
use Rattle.table_reads.specs.declared.lead.Lead.{Lead}
use Rattle.table_reads.specs.declared.lead.Lead.TheVariants.{Reached, Stopped}
use Rattle.walk_spec.specs.declared.entry.Table1.{Table1}
use Rattle.walk_spec.specs.declared.entry.Entry1.{Entry1}
use Rattle.walk_spec.specs.declared.leaf.Leaf1.{Leaf1}
use Rattle.walk_spec.specs.declared.leaf.Leaf2.{Leaf2}
use Rattle.walk_spec.specs.Ask.{Ask, done, ask, after}
use Rattle.walk_spec.specs.Needs.{Regime, Need, stage1_base}
use Rattle.walk_spec.specs.Steps.{End, stops, reaches, step_then}
use Rattle.walk_spec.specs.Stage2.{is_refused2}
use Rattle.walk_spec.specs.Stage1.{Asked, fault1, entry1, step1, walk1_from, leaf1_of, is_readable}
use Rattle.walk_spec.specs.BothStages.{Landing, landed, judged2, is_refused1, walk}
use Rattle.walk_laws.proofs.Stage1.{under, Turn1, table, leaf, fault, turn1}
use Rattle.machine_spec.specs.Marks.{Mark, mark, marks, is_first}
use Rattle.machine_spec.specs.Allowed.{is_of_word}
use Rattle.machine_laws.specs.Standing.{IsOn}
use Rattle.machine_laws.proofs.Trees.{chain, Plan, fin, own, via, joined, flat, rest_by}
use Rattle.machine_laws.proofs.Facts.{regime_for}
use Rattle.machine_laws.proofs.Laws.{IsCut, Judged}
use Rattle.machine_laws.proofs.Stands.{on_append, marks_append, on_after, marks_after, Split, on_split, joined_is}
use Rattle.machine_laws.proofs.Stands.{via_on, via_marks, mark_first, mark_base, second_marks}
use Rattle.machine_laws.proofs.PlanOf.{word_need, early2, read_fault, read_next, word_behind, entry_plan, plan_of, output_plan, out_of}
use Rattle.machine_laws.proofs.PlanOf.{from_plan, root_table, behind_plan, whole_plan, plan_for, plan_is_walk}
use Rattle.machine_laws.proofs.Sounds.{gives_word, judged_gives, out_second}

record CutAt (r : Regime) (t u : Ask Need Item (End Landing)) (xs : List Item) : Type 0 where
  front : List Item
  rest : List Item
  is : xs ≡ front ++ rest
  end : End Landing
  on : IsOn r u front (done end)
  fine : (f : Fault) → end ≡ stops f → is_of_word f.class ≡ false
  cut : IsCut (marks r t xs) (marks r u front)

-- behind an item
record CutBehind (r : Regime) (m : Mark) (t u : Ask Need Item (End Landing)) (xs : List Item) : Type 0 where
  front : List Item
  rest : List Item
  is : xs ≡ front ++ rest
  end : End Landing
  on : IsOn r u front (done end)
  fine : (f : Fault) → end ≡ stops f → is_of_word f.class ≡ false
  cut : IsCut (m ∷ marks r t xs) (m ∷ marks r u front)

cut_more : (pm ms cut : List Mark) → IsCut ms cut → IsCut (pm ++ ms) (pm ++ cut)
cut_more pm ms cut (inl e) = inl (ap (λ v. pm ++ v) e)
cut_more pm ms cut (inr k) =
    inr (
      pm ++ k.0,
      k.1,
      k.2,
      k.3,
      k.4,
      k.5,
      ap (λ v. pm ++ v) k.6 ∙ sym (append_assoc pm k.0 (k.1 ∷ k.2)),
      ap (λ v. pm ++ v) k.7 ∙ sym (append_assoc pm k.0 (k.1 ∷ [])),
    )

module _ (r : Regime) (a : Access) (l : Landing) where
  abbrev There : Ask Need Item (End Landing)
  There = done (reaches l)

  cut_same : (t : Ask Need Item (End Landing)) (xs : List Item) → IsOn r t xs There → CutAt r t t xs
  cut_same t xs h = record { front = xs; rest = []; is = rw append-nil refl; end = reaches l; on = h; fine = λ f e. absurd cc; cut = inl refl }

  behind : (m : Mark) (t u : Ask Need Item (End Landing)) (xs : List Item) → CutAt r t u xs → CutBehind r m t u xs
  behind m t u xs c =
      record {
        front = c.front;
        rest = c.rest;
        is = c.is;
        end = c.end;
        on = c.on;
        fine = c.fine;
        cut = cut_more (m ∷ []) (marks r t xs) (marks r u c.front) c.cut;
      }

  abbrev without : Asked
  without = under r false a

  abbrev with : Asked
  with = under r true a

  -- STAGE 2 OF THE OUTPUT

  abbrev Out : Asked → Leaf1 → End Leaf2 → Ask Need Item (End Landing)
  Out q k e = joined (Err (judged2 q.judged q.access k e)) (λ i. flat r (fin (reaches (landed k))))

  out_end : (k : Leaf1) (front rest : List Item) (d : End Leaf2) → IsOn r (chain r false k.out) front (done d) → IsOn r (Out without k d) rest There
      → CutAt r (after (chain r false k.out) (Out without k)) (after (chain r false k.out) (Out with k)) (front ++ rest)
  out_end k front (x ∷ rest) d on more = absurd more
  out_end k front [] (stops f) on more = absurd cc
  out_end k front [] (reaches m) on more =
      record {
        front = front;
        rest = [];
        is = refl;
        end = judged2 true a k (reaches m);
        on = on_after r (chain r false k.out) (done (reaches m)) (Out with k) front on;
        fine = λ f e. sym (ap (λ z. gives_word (Err z)) e) ∙ judged_gives with k m;
        cut = inl (ap (marks r (after (chain r false k.out) (Out without k))) (append-nil front)
            ∙ marks_after r (chain r false k.out) (done (reaches m)) (Out without k) front on
            ∙ sym (marks_after r (chain r false k.out) (done (reaches m)) (Out with k) front on));
      }

  output_cut : (b d : Bool) (k : Leaf1) (xs : List Item) → IsOn r (flat r (output_plan without b d k)) xs There
      → CutAt r (flat r (output_plan without b d k)) (flat r (output_plan with b d k)) xs
  output_cut true true k xs h = cut_same (flat r (output_plan without true true k)) xs h
  output_cut true false k xs h =
      let d = on_split r (chain r false k.out) (Out without k) xs (reaches l) h in
      subst (CutAt r (flat r (output_plan without true false k)) (flat r (output_plan with true false k))) (sym d.is)
      (out_end k d.front d.rest d.end d.on_front d.more)
  output_cut false d k xs h = cut_same (flat r (output_plan without false d k)) xs h

  -- THE LEAF OF STAGE 1

  abbrev verdict : ℕ → Leaf1 → Bool → Lead Leaf1 Table1
  verdict left k refused = cond refused (Stopped (fault1 Permission left)) (Reached k)

  abbrev Below : Type 0
  Below = Table1 → Ask Entry1 Item (End Leaf1)

  abbrev Leaf : Asked → Below → ℕ → Leaf1 → Bool → Plan
  Leaf q below left k refused = plan_of r (out_of q) (step_then below (verdict left k refused))

  leaf_cut : (bf bt : Below) (m : Mark) (left : ℕ) (k : Leaf1) (b : Bool) (xs : List Item) → is_first m ≡ true → m.base ≡ false
      → IsOn r (flat r (Leaf without bf left k false)) xs There
      → CutBehind r m (flat r (Leaf without bf left k false)) (flat r (Leaf with bt left k b)) xs
  leaf_cut bf bt m left k true xs f w h =
      record {
        front = [];
        rest = xs;
        is = refl;
        end = stops (fault1 Permission left);
        on = refl;
        fine = λ g e. sym (ap (λ z. gives_word (Err z)) e);
        cut = inr (
          [],
          m,
          marks r (flat r (out_of without (reaches k))) xs,
          f,
          w,
          second_marks r (flat r (out_of without (reaches k))) xs (out_second without (reaches k)),
          refl,
          refl,
        );
      }
  leaf_cut bf bt m left k false xs f w h =
      behind m (flat r (out_of without (reaches k))) (flat r (out_of with (reaches k))) xs (output_cut r.config.vm (is_refused2 r.config k.out) k xs h)

  -- WORDS AND LEVELS OF STAGE 1

  -- what follows on a word
  abbrev Onward : Asked → Below → ℕ → Table1 → Item → Plan
  Onward q below left t i = plan_of r (out_of q) (step_then below (step1 q (entry1 q left t) i.pa i.value))

  abbrev BelowCut : Below → Below → Type 0
  BelowCut bf bt =
      (t : Table1) (xs : List Item) → IsOn r (flat r (plan_of r (out_of without) (bf t))) xs There
      → CutAt r (flat r (plan_of r (out_of without) (bf t))) (flat r (plan_of r (out_of with) (bt t))) xs

  turn_cut : (bf bt : Below) → BelowCut bf bt → (m : Mark) (left : ℕ) (t : Table1) (i : Item) (xs : List Item) → is_first m ≡ true
      → m.base ≡ false
      → Turn1 r left i
      → IsOn r (flat r (Onward without bf left t i)) xs There → CutBehind r m (flat r (Onward without bf left t i)) (flat r (Onward with bt left t i)) xs
  turn_cut bf bt rec m left t i xs f w (table next bits al d) h =
      let n : Table1 = record { address = next; bits = joined_bits t.bits bits } in
      rw (d false a t, d true a t)
      (behind m (flat r (plan_of r (out_of without) (bf n))) (flat r (plan_of r (out_of with) (bt n))) xs (rec n xs (rw (d false a t) at h)))
  turn_cut bf bt rec m left t i xs f w (leaf v e d) h =
      let k : Leaf1 = leaf1_of r (entry1 without left t) i.pa v in
      let b : Bool = not (is_allowed1 k.perms (is_uxn v.bits t.bits) a.el a.kind a.pan r.config.epan) in
      rw (d false a t, d true a t) (leaf_cut bf bt m left k b xs f w (rw (d false a t) at h))
  turn_cut bf bt rec m left t i xs f w (fault k d) h =
      let u : Ask Need Item (End Landing) = done (stops (fault1 k left)) in
      rw (d false a t, d true a t) (behind m u u xs (cut_same u xs (rw (d false a t) at h)))

  abbrev KCut : (Item → Plan) → (Item → Plan) → Type 0
  KCut kf kt =
      (m : Mark) (i : Item) (xs : List Item) → is_first m ≡ true → m.base ≡ false → IsOn r (flat r (kf i)) xs There
      → CutBehind r m (flat r (kf i)) (flat r (kt i)) xs

  own_cut : (n : Need) (kf kt : Item → Plan)
      → ((i : Item) (xs : List Item) → IsOn r (flat r (kf i)) xs There → CutBehind r (mark r n i) (flat r (kf i)) (flat r (kt i)) xs)
      → (xs : List Item) → IsOn r (flat r (own n kf)) xs There → CutAt r (flat r (own n kf)) (flat r (own n kt)) xs
  own_cut n kf kt rec [] h = absurd cc
  own_cut n kf kt rec (y ∷ ys) h =
      let c = rec y ys h.1 in
      record { front = y ∷ c.front; rest = c.rest; is = ap (λ v. y ∷ v) c.is; end = c.end; on = (h.0, c.on); fine = c.fine; cut = c.cut }

  word_cut : (e : Entry1) (p : ℕ) (kf kt : Item → Plan) → KCut kf kt → (xs : List Item) → IsOn r (flat r (own (word_need e p) kf)) xs There
      → CutAt r (flat r (own (word_need e p) kf)) (flat r (own (word_need e p) kt)) xs
  word_cut e p kf kt rec xs h =
      own_cut (word_need e p) kf kt (λ i ys k. rec (mark r (word_need e p) i) i ys (mark_first r (word_need e p) i) (mark_base r (word_need e p) i) k) xs h

  read_cut : (b : Bool) (e : Entry1) (m : Leaf2) (kf kt : Item → Plan) → KCut kf kt → (xs : List Item)
      → IsOn r (flat r (rest_by (read_next b e m) kf)) xs There
      → CutAt r (flat r (rest_by (read_next b e m) kf)) (flat r (rest_by (read_next b e m) kt)) xs
  read_cut true e m kf kt rec xs h = word_cut e m.pa kf kt rec xs h
  read_cut false e m kf kt rec xs h = cut_same (done (stops (read_fault m))) xs h

  rest_cut : (e : Entry1) (d : End Leaf2) (kf kt : Item → Plan) → KCut kf kt → (xs : List Item)
      → IsOn r (flat r (rest_by (word_behind r.config e d) kf)) xs There
      → CutAt r (flat r (rest_by (word_behind r.config e d) kf)) (flat r (rest_by (word_behind r.config e d) kt)) xs
  rest_cut e (stops f) kf kt rec xs h = cut_same (done (stops f)) xs h
  rest_cut e (reaches m) kf kt rec xs h = read_cut (is_readable r.config m) e m kf kt rec xs h

  via_cut : (e : Entry1) (kf kt : Item → Plan) → KCut kf kt → let v = λ (k : Item → Plan). flat r (via true e.place (word_behind r.config e) k) in
      (xs : List Item) → IsOn r (v kf) xs There → CutAt r (v kf) (v kt) xs
  via_cut e kf kt rec xs h =
      let next : End Leaf2 → Result Need (End Landing) = word_behind r.config e in
      let ch : Ask Need Item (End Leaf2) = chain r true e.place in
      let d : Split r ch (λ e. joined (next e) (λ i. flat r (kf i))) xs (reaches l) =
      on_split r ch (λ e. joined (next e) (λ i. flat r (kf i))) xs (reaches l) h in
      let tu : Ask Need Item (End Landing) = flat r (via true e.place next kf) in
      let tj : Ask Need Item (End Landing) = flat r (via true e.place next kt) in
      let uu : Ask Need Item (End Landing) = flat r (rest_by (next d.end) kf) in
      let uj : Ask Need Item (End Landing) = flat r (rest_by (next d.end) kt) in
      let more : IsOn r uu d.rest There = subst (λ v. IsOn r v d.rest There) (joined_is r (next d.end) kf) d.more in
      let c : CutAt r uu uj d.rest = rest_cut e d.end kf kt rec d.rest more in
      let onf : IsOn r tu d.front uu = via_on r true e.place next kf d.front d.end d.on_front in
      let ont : IsOn r tj d.front uj = via_on r true e.place next kt d.front d.end d.on_front in
      let mf : marks r tu d.front ≡ marks r ch d.front = via_marks r true e.place next kf d.front (done d.end) d.on_front in
      let mt : marks r tj d.front ≡ marks r ch d.front = via_marks r true e.place next kt d.front (done d.end) d.on_front in
      let ef : marks r tu xs ≡ marks r ch d.front ++ marks r uu d.rest =
      ap (marks r tu) d.is ∙ marks_append r tu uu d.front d.rest onf ∙ ap (λ v. v ++ marks r uu d.rest) mf in
      let et : marks r tj (d.front ++ c.front) ≡ marks r ch d.front ++ marks r uj c.front =
      marks_append r tj uj d.front c.front ont ∙ ap (λ v. v ++ marks r uj c.front) mt in
      record {
        front = d.front ++ c.front;
        rest = c.rest;
        is = d.is ∙ ap (λ v. d.front ++ v) c.is ∙ sym (append_assoc d.front c.front c.rest);
        end = c.end;
        on = on_append r tj uj (done c.end) d.front c.front ont c.on;
        fine = c.fine;
        cut = subst (λ v. IsCut v (marks r tj (d.front ++ c.front))) (sym ef)
            (subst (IsCut (marks r ch d.front ++ marks r uu d.rest)) (sym et) (cut_more (marks r ch d.front) (marks r uu d.rest) (marks r uj c.front) c.cut));
      }

  entry_cut : (b d : Bool) (e : Entry1) (kf kt : Item → Plan) → KCut kf kt → let v =
      λ (k : Item → Plan). flat r (entry_plan r b d e (λ f. fin (stops f)) k) in (xs : List Item) → IsOn r (v kf) xs There → CutAt r (v kf) (v kt) xs
  entry_cut true true e kf kt rec xs h = cut_same (done (stops (early2 r true e.place))) xs h
  entry_cut true false e kf kt rec xs h = via_cut e kf kt rec xs h
  entry_cut false d e kf kt rec xs h = word_cut e e.place kf kt rec xs h

  abbrev last_below : Below
  last_below t = done (stops (fault1 Translation 0))

  level_cut : (bf bt : Below) → BelowCut bf bt → (left : ℕ) (t : Table1) (xs : List Item)
      → let v =
      λ (q : Asked) (b : Below). flat r (plan_of r (out_of q) (ask (entry1 q left t) (λ i. step_then b (step1 q (entry1 q left t) i.pa i.value)))) in
      IsOn r (v without bf) xs There → CutAt r (v without bf) (v with bt) xs
  level_cut bf bt rec left t xs h =
      let e : Entry1 = entry1 without left t in
      entry_cut r.config.vm (is_refused2 r.config e.place) e (λ i. Onward without bf left t i) (λ i. Onward with bt left t i)
      (λ m i ys f w g. turn_cut bf bt rec m left t i ys f w (turn1 r left i) g) xs h

  from_cut : (left : ℕ) (t : Table1) (xs : List Item) → IsOn r (flat r (from_plan without left t)) xs There
      → CutAt r (flat r (from_plan without left t)) (flat r (from_plan with left t)) xs
  from_cut zero t xs h = level_cut last_below last_below (λ t ys g. cut_same (done (stops (fault1 Translation 0))) ys g) 0 t xs h
  from_cut (suc left) t xs h = level_cut (walk1_from without left) (walk1_from with left) (λ t ys g. from_cut left t ys g) (suc left) t xs h

  behind_cut : (b : Bool) (base : ℕ) (xs : List Item) → IsOn r (flat r (behind_plan without b base)) xs There
      → CutAt r (flat r (behind_plan without b base)) (flat r (behind_plan with b base)) xs
  behind_cut true base xs h = cut_same (flat r (behind_plan without true base)) xs h
  behind_cut false base xs h = from_cut r.stage1.start (root_table base) xs h

  whole_cut : (b d : Bool) (xs : List Item) → b ≡ true → d ≡ false → IsOn r (flat r (whole_plan without b d)) xs There
      → CutAt r (flat r (whole_plan without b d)) (flat r (whole_plan with b d)) xs
  whole_cut true false xs e f h =
      own_cut stage1_base (λ i. behind_plan without (is_too_large r.stage1 i.value) i.value) (λ i. behind_plan with (is_too_large r.stage1 i.value) i.value)
      (λ i ys g.
      behind (mark r stage1_base i) (flat r (behind_plan without (is_too_large r.stage1 i.value) i.value))
      (flat r (behind_plan with (is_too_large r.stage1 i.value) i.value)) ys (behind_cut (is_too_large r.stage1 i.value) i.value ys g)) xs h
  whole_cut true true xs e f h = absurd (both_ways true f refl)
  whole_cut false d xs e f h = absurd (both_ways false refl e)

-- judging leaves the trail, or cuts it
pub judged_is : (c : Config) (a : Access) (trail : List Item) (l : Landing) → c.m ≡ true → is_refused1 c a ≡ false
    → IsOn (regime_for c a) (walk c false a) trail (done (reaches l)) → Judged c trail a
judged_is c a trail l on ok h =
    let r : Regime = regime_for c a in
    let e = plan_is_walk c false a in
    let w = plan_is_walk c true a in
    let k = whole_cut r a l c.m (is_refused1 c a) trail on ok (subst (λ t. IsOn r t trail (done (reaches l))) (sym e) h) in
    let k2 : CutAt r (walk c false a) (walk c true a) trail =
    subst (λ t. CutAt r t (walk c true a) trail) e (subst (λ t. CutAt r (flat r (plan_for c false a)) t trail) w k) in
    record { front = k2.front; rest = k2.rest; is = k2.is; end = k2.end; on = k2.on; fine = k2.fine; cut = k2.cut }
