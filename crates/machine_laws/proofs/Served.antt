-- Every access is served well: the answer is right, and what the rows that are made need is at hand.
use Rattle.std.proofs.Common.{◌≡◌, ℕ, ◌<◌, Bool, true, false, cond, List, [], ◌∷◌, ◌++◌, inl, inr}
use Rattle.std.proofs.Common.{refl, sym, ap, ◌∙◌, subst, append_assoc, Option, Some, None, arith}
use Rattle.std.specs.Option.{option_or}
use Rattle.std.specs.Prelude.{◌&&◌, not, filter}
use Rattle.std.proofs.lemmas.Bool.{both_ways, cases_Bool}
use Rattle.std.proofs.lemmas.Option.{same_Some}
use Rattle.sysregs.specs.declared.regs.Config.{Config}
use Rattle.sysregs.specs.Registers.{config_of, asid_of}
use Rattle.sysregs.specs.Sides.{side_of}
use Rattle.fault_codes.specs.declared.fault.Fault.{Fault}
use Rattle.fault_codes.specs.declared.fault.Stage.TheVariants.{S1, S2}
use Rattle.trails.specs.declared.item.Item.{Item}
use Rattle.trails.specs.declared.outcome.Access.{Access}
use Rattle.tlbi_ops.specs.Covers.{is_stage1}
use Rattle.walk_spec.specs.declared.leaf.Leaf2.{Leaf2}
use Rattle.walk_spec.specs.Ask.{Ask, done, ask, ended, lacks, ends, needs, on}
use Rattle.walk_spec.specs.Needs.{Regime, regime_of, Need, stage1_base, stage2_base, word, WordNeed, fits}
use Rattle.walk_spec.specs.Steps.{End, stops, reaches}
use Rattle.walk_spec.specs.Stage2.{is_refused2, fault2, Asked2}
use Rattle.walk_spec.specs.Stage1.{asked2, stands2, untagged}
use Rattle.walk_spec.specs.BothStages.{Landing, walk, is_refused1, outcome_of}
use Rattle.walk_spec.specs.Fresh.{fed_outcome}
use Rattle.walk_laws.specs.Shift.{stands}
use Rattle.tagged_tlb.specs.declared.row.Kind.{Kind}
use Rattle.tagged_tlb.specs.declared.row.Kind.TheVariants.{Leaf1 as leaf1, Table1 as table1}
use Rattle.machine_spec.specs.Moments.{regs_after, memory_after}
use Rattle.machine_spec.specs.Marks.{Mark, Part, nothing, table, leaf_of_stage1, leaf_of_stage2, mark, marks, is_first, is_leaf, is_table}
use Rattle.machine_spec.specs.Uses.{use_of, above_of, AllUsed, LastIs}
use Rattle.machine_spec.specs.Kept.{View, now, regs_when, IsKeptNow, IsNowBase, IsKept}
use Rattle.machine_spec.specs.Allowed.{is_of_word, IsNowOf, FaultIsRead, last_entry, last_entry1, Case, IsEnded}
use Rattle.machine_spec.specs.Allowed.{IsLacking, IsTwice, IsForked, Reaches, IsConflict, IsRight}
use Rattle.tagged_tlb.specs.declared.row.Row.{Row}
use Rattle.tagged_tlb.specs.Rows.{holds, matches1, is_older, inserted, by_making, matching, deepest}
use Rattle.machine_spec.specs.Made.{key_of, last_first}
use Rattle.machine_spec.specs.Served.{Supplied, supply, Halt, came, clash, Reply, pushed, halted, serve, taken, credited, begun1, combined, served}
use Rattle.machine_spec.specs.Machine.{Core}
use Rattle.machine_laws.specs.Standing.{IsOn}
use Rattle.machine_laws.proofs.Trees.{chain, Plan, fin, flat, IsWord, AllSecond}
use Rattle.machine_laws.proofs.Facts.{In, sided, regime_for, IsStored, MayServe, IsLeafRow1, IsTableRow1, IsRowBy, IsApart, AllApart, Facts}
use Rattle.machine_laws.proofs.Laws.{Laws, Judged, IsCut}
use Rattle.machine_laws.proofs.Lists.{In-filter, none_some}
use Rattle.machine_laws.proofs.Stands.{on_ends, on_needs, marks_append, marks_nil, flat_fin}
use Rattle.machine_laws.proofs.Uses.{used_map, table_append, cut_used, last_more}
use Rattle.machine_laws.proofs.Fine.{Good, LastOk, Kept1, place_of, config_at, here, FineOf, FineBy, Begins}
use Rattle.machine_laws.proofs.Fine.{PlansAreFine, RightBy, UsedBy, IsAlone, ServedOk, ServesWell}
use Rattle.machine_laws.proofs.Own.{served_live}
use Rattle.machine_laws.proofs.Found.{In-matching, In-deepest, apart_matching, Match, matched1, region_same}
use Rattle.machine_laws.proofs.Begins.{regs_now, last_word_base, Same, stored_good, begins, base_now}
use Rattle.machine_laws.proofs.Serve.{fits_base2, fresh_good, opened, prepend, serve_queue, Pre, fine_after}

-- NO ROW MATCHES

inserted_if : (r s : Row) (rs ns : List Row) (b : Bool) → cond b (r ∷ s ∷ rs) (s ∷ ns) ≡ [] → ⊥
inserted_if r s rs ns true h = cc
inserted_if r s rs ns false h = cc

inserted_some : (r : Row) (rs : List Row) → inserted r rs ≡ [] → ⊥
inserted_some r [] h = cc
inserted_some r (s ∷ rs) h = inserted_if r s rs (inserted r rs) (is_older r.made s.made) h

making_none : (rs : List Row) → by_making rs ≡ [] → rs ≡ []
making_none [] h = refl
making_none (r ∷ rs) h = absurd (inserted_some r (by_making rs) h)

none_matches : (test : Row → Bool) (rows : List Row) (x : Row) → matching test rows ≡ [] → In x rows → test x ≡ false
none_matches test rows x e i =
    elim (cases_Bool (test x)) [ inl t ↦ absurd (subst (In x) (making_none (filter test rows) e) (In-filter test rows x i t)) | inr q ↦ q ]

-- MARKS OF EARLIER MOMENTS

abbrev AllOld : ℕ → List Mark → Type 0
AllOld k [] = Unit {0}
AllOld k (m ∷ ms) = (m.item.moment < k) × AllOld k ms

old_cut : (k : ℕ) (pre : List Mark) (m : Mark) (ms : List Mark) → AllOld k (pre ++ m ∷ ms) → AllOld k (pre ++ m ∷ [])
old_cut k [] m ms h = (h.0, tt)
old_cut k (x ∷ pre) m ms h = (h.0, old_cut k pre m ms h.1)

old_of : (k : ℕ) (ms cut : List Mark) → IsCut ms cut → AllOld k ms → AllOld k cut
old_of k ms cut (inl e) h = subst (AllOld k) e h
old_of k ms cut (inr c) h = subst (AllOld k) (sym c.7) (old_cut k c.0 c.1 c.2 (subst (AllOld k) c.6 h))

old_case : (k : ℕ) (x : Mark) (ms : List Mark) (m : Mark) (o : Option Mark) (b : Bool) → last_first ms ≡ o
    → option_or o (cond b (Some x) None) ≡ Some m →
    AllOld k (x ∷ ms) → (last_first ms ≡ Some m → m.item.moment < k) → m.item.moment < k
old_case k x ms m (Some y) b e f h rec = rec (e ∙ f)
old_case k x ms m None true e f h rec = subst (λ (n : Mark). n.item.moment < k) (same_Some x m f) h.0
old_case k x ms m None false e f h rec = none_some m f

old_last : (k : ℕ) (ms : List Mark) (m : Mark) → AllOld k ms → last_first ms ≡ Some m → m.item.moment < k
old_last k [] m h e = none_some m e
old_last k (x ∷ ms) m h e = old_case k x ms m (last_first ms) (is_first x) refl e h (old_last k ms m h.1)

-- there is no item of stage 1 among items of stage 2
second_case : (x : Mark) (ms : List Mark) (m : Mark) (o : Option Mark) (b : Bool) → last_first ms ≡ o → b ≡ false
    → option_or o (cond b (Some x) None) ≡ Some m →
    (last_first ms ≡ Some m → ⊥) → ⊥
second_case x ms m (Some y) b e n f rec = rec (e ∙ f)
second_case x ms m None true e n f rec = both_ways true n refl
second_case x ms m None false e n f rec = none_some m f

second_none : (ms : List Mark) (m : Mark) → AllSecond ms → last_first ms ≡ Some m → ⊥
second_none [] m h e = none_some m e
second_none (x ∷ ms) m h e = second_case x ms m (last_first ms) (is_first x) refl h.0 e (second_none ms m h.1)

-- TAKING A ROW'S TRAIL

taken_nil : (items : List Item) (e : End Landing) → taken items (done e) ≡ halted (came (ended e))
taken_nil [] e = refl
taken_nil (i ∷ items) e = refl

taken_front : (r : Regime) (t : Ask Need Item (End Landing)) (e : End Landing) (front rest : List Item) → IsOn r t front (done e) →
    taken (front ++ rest) t ≡ record { items = front; halt = came (ended e); by = [] }
taken_front r t e [] rest h = subst (λ w. taken rest w ≡ record { items = []; halt = came (ended e); by = [] }) h (taken_nil rest e)
taken_front r (done b) e (x ∷ front) rest h = absurd h
taken_front r (ask n k) e (x ∷ front) rest h = ap (pushed x []) (taken_front r (k x) e front rest h.1)

-- chains that stand alone are chains of stage 2
chain_if : (q : Asked2) (b : Bool) (t : Ask Need Item (End Leaf2)) (e : End Leaf2) → b ≡ false → cond b (done e) t ≡ t
chain_if q true t e h = absurd (both_ways true h refl)
chain_if q false t e h = refl

stands_chain : (c : Config) (s : Rattle.sysregs.specs.declared.regs.Side.Side) (p : Bool) (x : ℕ) (items : List Item) (l : Leaf2)
    → is_refused2 c x ≡ false →
    IsOn (regime_of c s) (chain (regime_of c s) p x) items (done (reaches l)) → stands2 c s p x items ≡ ends (reaches l) []
stands_chain c s p x items l ok h =
    ap (λ t. on (fits (regime_of c s)) t items)
    (chain_if (asked2 (regime_of c s) p x) (is_refused2 c x) (chain (regime_of c s) p x)
    (stops (fault2 (asked2 (regime_of c s) p x) Rattle.fault_codes.specs.declared.fault.Class.TheVariants.Translation
    Rattle.geometry.specs.Tables.most_left)) ok)
    ∙ on_ends (regime_of c s) (chain (regime_of c s) p x) (reaches l) items h

-- the stage of an item that is of a fault's stage
stage_of : (s t : Rattle.fault_codes.specs.declared.fault.Stage.Stage) → is_stage1 t ≡ false → Rattle.walk_spec.specs.Needs.stage_eq s t ≡ true
    → is_stage1 s ≡ false
stage_of S1 S1 h e = h
stage_of S1 S2 h e = absurd cc
stage_of S2 S1 h e = refl
stage_of S2 S2 h e = refl

table_no_leaf : (p : Part) → is_table p ≡ true → is_leaf p ≡ false
table_no_leaf nothing h = refl
table_no_leaf (table cached) h = refl
table_no_leaf (leaf_of_stage1 global) h = absurd cc
table_no_leaf (leaf_of_stage2 cached) h = absurd cc

-- behind a table's word, the last base is that of what follows
table_base : (k : ℕ) (front : List Mark) (m : Mark) (ms : List Mark) → IsWord m → LastIs (IsNowBase k) ms → LastIs (IsNowBase k) (front ++ m ∷ ms)
table_base k front m [] h t = last_more (IsNowBase k) front m [] (λ b. absurd (both_ways m.base h b))
table_base k front m (n ∷ ms) h t = last_more (IsNowBase k) front m (n ∷ ms) t

module _ (laws : Laws) (plans : PlansAreFine) (v : View) (w : Core) (a : Access) (side : v.side ≡ side_of a.va) (f : Facts v w) where
  abbrev rg : Regime
  rg = regime_for (config_at v) a

  abbrev now_marks : List Item → List Mark
  now_marks items = marks rg (here v a) items

  -- the items are kept, as of now
  abbrev KeptHere : List Item → Type 0
  KeptHere items = AllUsed (Good v) None (now_marks items) × LastIs (IsNowBase (now v)) (now_marks items)

  abbrev case_here : Case
  case_here = record { view = v; access = a }

  -- what holds under the register fields behind the log holds under those of now
  at_now : (P : Config → Type 0) → P (config_at v) → P (config_of (regs_when v (now v)))
  at_now P h = subst P (sym (ap config_of (regs_now v))) h

  kept_of : (judged : Bool) (items : List Item) → AllUsed (Good v) None (marks rg (walk (config_at v) judged a) items) →
      LastIs (IsNowBase (now v)) (marks rg (walk (config_at v) judged a) items) → Rattle.machine_spec.specs.Allowed.Keeps case_here judged items
  kept_of judged items used last =
      at_now (λ c. IsKept v (marks (regime_of c (side_of a.va)) (walk c judged a) items))
      (record { items = used_map (Good v) (IsKeptNow v) (λ m o h. h.0) None (marks rg (walk (config_at v) judged a) items) used; last_base = last })

  fault_read : (e : End Landing) (items : List Item) → LastOk (now v) e (now_marks items) →
      FaultIsRead (now v) (Rattle.machine_spec.specs.Allowed.marks_now case_here true items) (outcome_of e)
  fault_read (stops g) items h =
      at_now (λ c. is_of_word g.class ≡ true → LastIs (IsNowOf g.stage (now v)) (marks (regime_of c (side_of a.va)) (walk c true a) items)) h
  fault_read (reaches l) items h = tt

  ended_of : (e : End Landing) (items : List Item) → IsOn rg (here v a) items (done e) → KeptHere items → LastOk (now v) e (now_marks items)
      → IsEnded case_here items None (outcome_of e)
  ended_of e items stands kept last = record {
    end = e;
    walk_ends = at_now (λ c. on (fits (regime_of c (side_of a.va))) (walk c true a) items ≡ ends e []) (on_ends rg (here v a) e items stands);
    is = refl;
    kept = kept_of true items kept.0 kept.1;
    read = fault_read e items last;
    alone = refl;
  }

  right_ended : (e : End Landing) (items : List Item) → IsEnded case_here items None (outcome_of e) → IsRight case_here items None (outcome_of e)
  right_ended (stops g) items h = h
  right_ended (reaches l) items h = h

  lacking_of : (n : WordNeed) (k : Item → Ask Need Item (End Landing)) (items : List Item) → IsOn rg (here v a) items (ask (word n) k)
      → KeptHere items →
      memory_after v.header v.log n.place ≡ None → IsLacking case_here items None (fed_outcome (lacks (word n)))
  lacking_of n k items stands kept none = record {
    need = n;
    walk_needs = at_now (λ c. on (fits (regime_of c (side_of a.va))) (walk c true a) items ≡ needs (word n))
        (on_needs rg (here v a) (word n) k items stands);
    is = refl;
    lacking = none;
    kept = kept_of true items kept.0 kept.1;
    alone = refl;
  }

  reaches_of : (p : Bool) (x : ℕ) (items : List Item) (l : Leaf2) → is_refused2 (config_at v) x ≡ false
      → IsOn rg (chain rg p x) items (done (reaches l))
      → Reaches case_here x items
  reaches_of p x items l ok h =
      (p, l, at_now (λ c. stands2 c (side_of a.va) p x items ≡ ends (reaches l) []) (stands_chain (config_at v) (side_of a.va) p x items l ok h))

  -- what was served, by its tree
  abbrev IsBoth : List Item → Halt → Type 0
  IsBoth items halt =
      (by : List Row) → RightBy v a (record { items = items; halt = halt; by = by }) halt × UsedBy v a (record { items = items; halt = halt; by = by }) halt

  both_of : (items : List Item) (halt : Halt) → FineOf KeptHere v rg (here v a) items halt → IsBoth items halt
  both_of items (came (ended e)) h by = (right_ended e items (ended_of e items h.0 h.1 h.2), record { on = h.0; used = h.1.0 })
  both_of items (came (lacks n)) h by = (
    subst (λ z. IsRight case_here items None (fed_outcome (lacks z))) (sym h.2)
        (lacking_of h.0 h.1 items (subst (λ z. IsOn rg (here v a) items (ask z h.1)) h.2 h.3) h.4 h.5),
    (h.1, record { on = h.3; used = h.4.0 }),
  )
  both_of items (clash one two) h by = (
    record {
      other = items ++ two;
      both = refl;
      how = inr (record {
        front = items;
        ipa = h.0;
        one = one;
        two = two;
        first_is = refl;
        second_is = refl;
        walk_needs =
            at_now (λ c. on (fits (regime_of c (side_of a.va))) (walk c true a) items ≡ needs (stage2_base h.0))
            (on_needs rg (here v a) (stage2_base h.0) h.1 items h.2);
        reaches_one = reaches_of h.3.0 h.0 one h.3.1 h.8 h.3.2;
        reaches_two = reaches_of h.4.0 h.0 two h.4.1 h.8 h.4.2;
        differ = h.5;
        kept_first = kept_of true (items ++ one) h.6.0 h.6.1;
        kept_second = kept_of true (items ++ two) h.7.0 h.7.1;
      });
    },
    tt,
  )

  -- THE REGISTER'S BASE OF STAGE 2

  fresh2 : (x : ℕ) → (fits rg (stage2_base x) (base_now v w f laws a side) ≡ true) × Good v (mark rg (stage2_base x) (base_now v w f laws a side)) None
  unfolding mark
  fresh2 x = (
    fits_base2 (regs_after v.core v.log) (side_of a.va) x (now v),
    fresh_good v (mark rg (stage2_base x) (base_now v w f laws a side))
        (record { now_is = refl; base = λ b. refl; word = λ b. absurd (both_ways true b refl) }),
  )

  chains : (p : Bool) (x : ℕ) → Begins v rg p x (supply (place_of v w.cache.rows) a (stage2_base x))
  chains p x = begins v w f laws a side fresh2 p x

  abbrev sup : Need → Supplied
  sup = supply (place_of v w.cache.rows) a

  fine_plan : (p : Plan) → Rattle.machine_laws.proofs.Trees.IsSound rg p
      → FineBy v rg None (flat rg p) (serve sup [] (flat rg p)).items (serve sup [] (flat rg p)).halt
  fine_plan p sound = plans v w.cache.rows a side chains p sound None tt

  weaker : (t : Ask Need Item (End Landing)) (items : List Item) (halt : Halt) → ((more : List Item) → Kept1 v rg None t more → KeptHere more) →
      FineOf (Kept1 v rg None t) v rg t items halt → FineOf KeptHere v rg t items halt
  weaker t items (came (ended e)) k h = (h.0, k items h.1, h.2)
  weaker t items (came (lacks n)) k h = (h.0, h.1, h.2, h.3, k items h.4, h.5)
  weaker t items (clash one two) k h = (h.0, h.1, h.2, h.3, h.4, h.5, k (items ++ one) h.6, k (items ++ two) h.7, h.8)

  -- WITHOUT A ROW OF STAGE 1

  from_nothing : FineOf KeptHere v rg (here v a) (serve sup [] (here v a)).items (serve sup [] (here v a)).halt
  from_nothing =
      let e : flat rg (laws.plan (config_at v) true a) ≡ here v a = laws.plan_is (config_at v) true a in
      weaker (here v a) (serve sup [] (here v a)).items (serve sup [] (here v a)).halt (λ more k. (k.used, k.last_base))
      (subst (λ t. FineBy v rg None t (serve sup [] t).items (serve sup [] t).halt) e
      (fine_plan (laws.plan (config_at v) true a) (laws.sound (config_at v) true a)))

  -- BY THE ROW OF A STAGE 1 TABLE

  may_serve : (r : Row) → Same v w f r → holds r.region (untagged a.va) ≡ true → (config_at v).m ≡ true → is_refused1 (config_at v) a ≡ false
      → MayServe r a
  may_serve r s h m n = record { held = h; on = ap (λ (c : Config). c.m) s.config_same ∙ m; accepted = ap (λ c. is_refused1 c a) s.config_same ∙ n }

  good_all : (r : Row) → Same v w f r → (r.global ≡ false → r.key.asid ≡ asid_of (regs_after v.core v.log)) → (ms : List Mark) →
      AllUsed (IsStored (sided v (side_of a.va)) w.inbox r) None ms → AllUsed (Good v) None ms
  good_all r s asid ms h =
      used_map (IsStored v w.inbox r) (Good v) (λ m o q. stored_good v w f r s m o (λ n e. asid e) q) None ms
      (subst (λ u. AllUsed (IsStored u w.inbox r) None ms) (ap (sided v) (sym side)) h)

  table_good : (r : Row) → Same v w f r → (r.global ≡ false → r.key.asid ≡ asid_of (regs_after v.core v.log)) →
      IsTableRow1 (IsStored (sided v (side_of a.va)) w.inbox r) r.key.config r.trail a → IsTableRow1 (Good v) (config_at v) r.trail a
  table_good r s asid t = subst (λ c. IsTableRow1 (Good v) c r.trail a) s.config_same (record {
    plan = t.plan;
    on = t.on;
    sound = t.sound;
    late = t.late;
    front = t.front;
    last = t.last;
    is = t.is;
    first = t.first;
    word = t.word;
    to_table = t.to_table;
    stored = good_all r s asid (t.front ++ t.last ∷ []) t.stored;
  })

  not_second : (m : Mark) (g : Fault) → is_first m ≡ true → is_stage1 g.stage ≡ false → IsNowOf g.stage (now v) m
  not_second m g h n e = absurd (both_ways (is_first m) (stage_of m.stage g.stage n e) h)

  table_last : (trail : List Item) (t : IsTableRow1 (Good v) (config_at v) trail a) (e : End Landing) → t.plan ≡ fin e
      → LastOk (now v) e (t.front ++ t.last ∷ [])
  table_last trail t (reaches l) e = last_more IsWord t.front t.last [] t.word
  table_last trail t (stops g) e = λ q. last_more (IsNowOf g.stage (now v)) t.front t.last [] (not_second t.last g t.first (t.late g e))

  abbrev serve_here : List Item → Reply
  serve_here items = serve sup items (here v a)

  from_table : (trail : List Item) → IsTableRow1 (Good v) (config_at v) trail a
      → FineOf KeptHere v rg (here v a) (serve_here trail).items (serve_here trail).halt
  from_table trail t =
      let rest : Reply = serve sup [] (flat rg t.plan) in
      let e : serve_here trail ≡ prepend trail rest = serve_queue rg sup trail (here v a) (flat rg t.plan) t.on in
      let eq =
      λ (items : List Item). marks_append rg (here v a) (flat rg t.plan) trail items t.on ∙ ap (λ ms. ms ++ marks rg (flat rg t.plan) items) t.is
      ∙ append_assoc t.front (t.last ∷ []) (marks rg (flat rg t.plan) items) in
      let p : Pre v rg KeptHere (Kept1 v rg None (flat rg t.plan)) (here v a) (flat rg t.plan) trail = record {
        on = t.on;
        kept = λ items h. (
          subst (AllUsed (Good v) None) (sym (eq items))
              (table_append (Good v) (now v) (opened v) None t.front t.last (marks rg (flat rg t.plan) items) t.first
              (table_no_leaf t.last.part t.to_table) h.next t.stored h.used),
          subst (LastIs (IsNowBase (now v))) (sym (eq items)) (table_base (now v) t.front t.last (marks rg (flat rg t.plan) items) t.word h.last_base),
        );
        last = λ g q. subst (LastOk (now v) g) (sym t.is) (table_last trail t g (flat_fin rg t.plan g q));
      } in
      subst (λ z. FineOf KeptHere v rg (here v a) z.items z.halt) (sym e)
      (fine_after v rg KeptHere (Kept1 v rg None (flat rg t.plan)) (here v a) (flat rg t.plan) trail rest.items rest.halt p (fine_plan t.plan t.sound))

  as_kind : (kind : Kind) (r : Row) → r.kind ≡ kind → In r w.cache.rows → IsRowBy (λ s. IsStored (sided v s) w.inbox r) r kind
  as_kind kind r e i = subst (IsRowBy (λ s. IsStored (sided v s) w.inbox r) r) e (f.rows r i)

  same_of : (kind : Kind) (r : Row) → Match kind (key_of (regs_after v.core v.log)) (untagged a.va) r → Same v w f r
  same_of kind r m = record { config_same = m.config; vmid_same = m.vmid }

  from_tables : (config_at v).m ≡ true → is_refused1 (config_at v) a ≡ false → (o : Option Row) →
      deepest (matches1 table1 (key_of (regs_after v.core v.log)) (untagged a.va)) w.cache.rows ≡ o →
      FineOf KeptHere v rg (here v a) (begun1 o serve_here).items (begun1 o serve_here).halt
  from_tables on ok None e = from_nothing
  from_tables on ok (Some r) e =
      let m = In-deepest (matches1 table1 (key_of (regs_after v.core v.log)) (untagged a.va)) w.cache.rows r e in
      let t = matched1 table1 (key_of (regs_after v.core v.log)) (untagged a.va) r m.1 in
      let s = same_of table1 r t.0 in
      from_table r.trail (table_good r s t.1 ((as_kind table1 r t.0.kind_is m.0).1 a (may_serve r s t.0.held on ok)))

  -- BY COMBINED ROWS

  abbrev leaves : List Row
  leaves = matching (matches1 leaf1 (key_of (regs_after v.core v.log)) (untagged a.va)) w.cache.rows

  abbrev LeafHere : Row → Type 0
  LeafHere r = IsLeafRow1 (IsStored (sided v (side_of a.va)) w.inbox r) (config_at v) r r.trail a

  leaf_here : (config_at v).m ≡ true → is_refused1 (config_at v) a ≡ false → (r : Row) → In r leaves →
      Same v w f r × (r.global ≡ false → r.key.asid ≡ asid_of (regs_after v.core v.log)) × LeafHere r
  leaf_here on ok r i =
      let m = In-matching (matches1 leaf1 (key_of (regs_after v.core v.log)) (untagged a.va)) w.cache.rows r i in
      let t = matched1 leaf1 (key_of (regs_after v.core v.log)) (untagged a.va) r m.1 in
      let s = same_of leaf1 r t.0 in (
        s,
        t.1,
        subst (λ c. IsLeafRow1 (IsStored (sided v (side_of a.va)) w.inbox r) c r r.trail a) s.config_same
            (as_kind leaf1 r t.0.kind_is m.0 a (may_serve r s t.0.held on ok)),
      )

  cut_good : (ms cut : List Mark) → IsCut ms cut → AllUsed (Good v) None ms → AllUsed (Good v) None cut
  cut_good ms cut (inl e) h = subst (AllUsed (Good v) None) e h
  cut_good ms cut (inr c) h = subst (AllUsed (Good v) None) (sym c.7) (cut_used (Good v) None c.0 c.1 c.2 c.3 c.5 (subst (AllUsed (Good v) None) c.6 h))

  cut_word : (ms cut : List Mark) → IsCut ms cut → LastIs IsWord ms → LastIs IsWord cut
  cut_word ms cut (inl e) h = subst (LastIs IsWord) e h
  cut_word ms cut (inr c) h = subst (LastIs IsWord) (sym c.7) (last_more IsWord c.0 c.1 [] c.4)

  fine_ok : (e : End Landing) (ms : List Mark) → ((g : Fault) → e ≡ stops g → is_of_word g.class ≡ false) → LastIs IsWord ms → LastOk (now v) e ms
  fine_ok (stops g) ms h last = λ q. absurd (both_ways (is_of_word g.class) (h g refl) q)
  fine_ok (reaches l) ms h last = last

  module _ (enabled : (config_at v).m ≡ true) (ok : is_refused1 (config_at v) a ≡ false) where
    abbrev judged_at : (r : Row) → LeafHere r → Judged (config_at v) r.trail a
    judged_at r t = laws.judged (config_at v) a r.trail t.landing enabled ok t.on

    reply_is : (r : Row) (t : LeafHere r)
        → taken r.trail (here v a) ≡ record { items = (judged_at r t).front; halt = came (ended (judged_at r t).end); by = [] }
    reply_is r t =
        let j = judged_at r t in
        ap (λ items. taken items (here v a)) j.is ∙ taken_front rg (here v a) j.end j.front j.rest j.on

    front_fine : (r : Row) → In r leaves → (t : LeafHere r) → FineOf KeptHere v rg (here v a) (judged_at r t).front (came (ended (judged_at r t).end))
    front_fine r i t =
        let j = judged_at r t in
        let h = leaf_here enabled ok r i in
        let used = good_all r h.0 h.1 (marks rg (walk (config_at v) false a) r.trail) t.stored in
        let word =
        cut_word (marks rg (walk (config_at v) false a) r.trail) (now_marks j.front) j.cut
        (laws.mapped_last (config_at v) false a r.trail t.landing t.on) in (
          j.on,
          (cut_good (marks rg (walk (config_at v) false a) r.trail) (now_marks j.front) j.cut used, last_word_base (now v) (now_marks j.front) word),
          fine_ok j.end (now_marks j.front) j.fine word,
        )

    old_one : (r : Row) (m : Mark) (o : Option ℕ) → IsStored v w.inbox r m o → m.item.moment < now v
    old_one r m None h = h.before
    old_one r m (Some u) h = omega (arith, h.0.past, h.1)

    old_all : (r : Row) (above : Option ℕ) (ms : List Mark) → AllUsed (IsStored v w.inbox r) above ms → AllOld (now v) ms
    old_all r above [] h = tt
    old_all r above (m ∷ ms) h = (old_one r m (use_of above m ms) h.0, old_all r (above_of above m) ms h.1)

    old_front : (r : Row) (t : LeafHere r) → AllOld (now v) (now_marks (judged_at r t).front)
    old_front r t =
        let j = judged_at r t in
        let h = subst (λ u. AllUsed (IsStored u w.inbox r) None (marks rg (walk (config_at v) false a) r.trail)) (ap (sided v) (sym side)) t.stored in
        old_of (now v) (marks rg (walk (config_at v) false a) r.trail) (now_marks j.front) j.cut
        (old_all r None (marks rg (walk (config_at v) false a) r.trail) h)

    -- two rows that match differ in their last items
    leaves_differ : (r s : Row) → IsApart r s → In r leaves → In s leaves → last_entry1 r.trail ≡ last_entry1 s.trail
        → last_entry r.trail ≡ last_entry s.trail → ⊥
    leaves_differ r s apart ir is ef el =
        let key = key_of (regs_after v.core v.log) in
        let x = untagged a.va in
        let pr = matched1 leaf1 key x r (In-matching (matches1 leaf1 key x) w.cache.rows r ir).1 in
        let ps = matched1 leaf1 key x s (In-matching (matches1 leaf1 key x) w.cache.rows s is).1 in
        let tr = (leaf_here enabled ok r ir).2 in
        let ts = (leaf_here enabled ok s is).2 in
        let nr = laws.has_first (config_at v) a r.trail tr.landing enabled ok tr.on in
        let ns = laws.has_first (config_at v) a s.trail ts.landing enabled ok ts.on in
        let k = laws.keys (config_at v) a r.trail s.trail tr.landing ts.landing nr.0 ns.0 enabled ok tr.on ts.on nr.1 ns.1 ef el in
        let class : r.region.class ≡ s.region.class = sym tr.class_is ∙ k.0 ∙ ts.class_is in
        let gl : r.global ≡ s.global = sym (tr.global_is nr.0 nr.1) ∙ k.1 ∙ ts.global_is ns.0 ns.1 in
        let d = apart.1 pr.0.kind_is ps.0.kind_is (pr.0.config ∙ sym ps.0.config) (pr.0.vmid ∙ sym ps.0.vmid) (region_same r s x pr.0.held ps.0.held class)
        gl in
        d.1 (pr.1 d.0 ∙ sym (ps.1 (sym gl ∙ d.0)))

    lands_now : (r : Row) → In r leaves → (l : Landing) × Rattle.machine_spec.specs.Allowed.Ends case_here false r.trail (reaches l)
    lands_now r i =
        let t = (leaf_here enabled ok r i).2 in (
          t.landing,
          at_now (λ c. on (fits (regime_of c (side_of a.va))) (walk c false a) r.trail ≡ ends (reaches t.landing) [])
              (on_ends rg (walk (config_at v) false a) (reaches t.landing) r.trail t.on),
        )

    kept_whole : (r : Row) → In r leaves → Rattle.machine_spec.specs.Allowed.Keeps case_here false r.trail
    kept_whole r i =
        let h = leaf_here enabled ok r i in
        kept_of false r.trail (good_all r h.0 h.1 (marks rg (walk (config_at v) false a) r.trail) h.2.stored)
        (last_word_base (now v) (marks rg (walk (config_at v) false a) r.trail) (laws.mapped_last (config_at v) false a r.trail h.2.landing h.2.on))

    twice_right : (r s : Row) → IsApart r s → In r leaves → In s leaves → (by : List Row)
        → RightBy v a (record { items = []; halt = clash r.trail s.trail; by = by }) (clash r.trail s.trail)
    twice_right r s apart ir is by = record {
      other = s.trail;
      both = refl;
      how = inl (record {
        on = at_now (λ c. c.m ≡ true) enabled;
        lands_first = lands_now r ir;
        lands_second = lands_now s is;
        differ = leaves_differ r s apart ir is;
        kept_first = kept_whole r ir;
        kept_second = kept_whole s is;
      });
    }

    -- what holds of a reply but for its rows that served
    abbrev OkBy : Reply → Type 0
    OkBy z = RightBy v a z z.halt × UsedBy v a z z.halt × IsAlone v w.cache.rows a z

    old_alone : (items : List Item) (halt : Halt) (by : List Row) → AllOld (now v) (now_marks items)
        → IsAlone v w.cache.rows a (record { items = items; halt = halt; by = by })
    old_alone items halt by old m e k x i = let lt = old_last (now v) (now_marks items) m old e in absurd (omega (arith, lt, k))

    one_ok : (r : Row) → In r leaves → OkBy (credited r (taken r.trail (here v a)))
    one_ok r i =
        let t = (leaf_here enabled ok r i).2 in
        let j = judged_at r t in
        let b = both_of j.front (came (ended j.end)) (front_fine r i t) (r ∷ []) in
        subst (λ z. OkBy (credited r z)) (sym (reply_is r t)) (b.0, b.1, old_alone j.front (came (ended j.end)) (r ∷ []) (old_front r t))

    nil_alone : (halt : Halt) (by : List Row) → IsAlone v w.cache.rows a (record { items = []; halt = halt; by = by })
    nil_alone halt by m e k x i = none_some m (subst (λ ms. last_first ms ≡ Some m) (marks_nil rg (here v a)) e)

    by_leaves : (rs : List Row) → leaves ≡ rs →
        OkBy (combined rs (deepest (matches1 table1 (key_of (regs_after v.core v.log)) (untagged a.va)) w.cache.rows) sup (here v a))
    by_leaves [] e =
        let o = deepest (matches1 table1 (key_of (regs_after v.core v.log)) (untagged a.va)) w.cache.rows in
        let z : Reply = begun1 o serve_here in
        let b = both_of z.items z.halt (from_tables enabled ok o refl) z.by in
        (b.0, b.1, λ m q k x i. none_matches (matches1 leaf1 (key_of (regs_after v.core v.log)) (untagged a.va)) w.cache.rows x e i)
    by_leaves (r ∷ []) e = one_ok r (subst (In r) (sym e) (inl refl))
    by_leaves (r ∷ s ∷ more) e =
        let apart : AllApart (r ∷ s ∷ more) =
        subst AllApart e (apart_matching (matches1 leaf1 (key_of (regs_after v.core v.log)) (untagged a.va)) w.cache.rows f.apart) in (
          twice_right r s (apart.0 s (inl refl)) (subst (In r) (sym e) (inl refl)) (subst (In s) (sym e) (inr (inl refl))) [],
          tt,
          nil_alone (clash r.trail s.trail) [],
        )

  -- WITHOUT STAGE 1, OR REFUSED BY IT

  plain_ok : ((config_at v).m ≡ true → is_refused1 (config_at v) a ≡ true) → let z = serve_here [] in
      RightBy v a z z.halt × UsedBy v a z z.halt × IsAlone v w.cache.rows a z
  plain_ok off =
      let z = serve_here [] in
      let b = both_of z.items z.halt from_nothing z.by in
      (b.0, b.1, λ m e k x i. absurd (second_none (now_marks z.items) m (laws.no_stage1 (config_at v) a z.items off) e))

  -- ALL CASES

  abbrev by_rows : Reply
  by_rows = combined leaves (deepest (matches1 table1 (key_of (regs_after v.core v.log)) (untagged a.va)) w.cache.rows) sup (here v a)

  served_if : (m refused : Bool) → (config_at v).m ≡ m → is_refused1 (config_at v) a ≡ refused
      → let z = cond (m && not refused) by_rows (serve_here []) in
      RightBy v a z z.halt × UsedBy v a z z.halt × IsAlone v w.cache.rows a z
  served_if true false e g = by_leaves e g leaves refl
  served_if true true e g = plain_ok (λ q. g)
  served_if false refused e g = plain_ok (λ q. absurd (both_ways (config_at v).m e q))

  -- the rows that served are live
  pub served_ok : ServedOk v w.cache.rows a (served (place_of v w.cache.rows) a)
  served_ok =
      let b = served_if (config_at v).m (is_refused1 (config_at v) a) refl refl in
      record {
        right = b.0;
        used = b.1;
        alone = b.2;
        live = served_live (place_of v w.cache.rows) a;
      }

pub serves_well : Laws → PlansAreFine → ServesWell
serves_well laws plans v w a side f = served_ok laws plans v w a side f
