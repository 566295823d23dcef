-- Every plan that is served is fine: its items stand on its tree and are kept, however the service stops.
use Rattle.std.proofs.Common.{◌≡◌, ℕ, Bool, true, false, List, [], ◌∷◌, ◌++◌, ◌⊎◌, inl, inr, refl}
use Rattle.std.proofs.Common.{sym, ap, ◌∙◌, subst, append_assoc, append-nil, Option, Some, None}
use Rattle.std.specs.Prelude.{Result, Ok, Err, option_map}
use Rattle.std.proofs.lemmas.Bool.{both_ways}
use Rattle.sysregs.specs.Sides.{side_of}
use Rattle.fault_codes.specs.declared.fault.Fault.{Fault}
use Rattle.fault_codes.specs.declared.fault.Stage.{Stage}
use Rattle.fault_codes.specs.declared.fault.Stage.TheVariants.{S1}
use Rattle.table_reads.specs.Numbers.{sizes1}
use Rattle.table_reads.specs.Items.{base_item}
use Rattle.trails.specs.declared.item.Item.{Item}
use Rattle.trails.specs.declared.outcome.Access.{Access}
use Rattle.walk_spec.specs.declared.leaf.Leaf2.{Leaf2}
use Rattle.walk_spec.specs.Ask.{Ask, done, ask, after, lacks}
use Rattle.walk_spec.specs.Needs.{Regime, Need, stage1_base, stage2_base, word, WordNeed, fits, needed_item}
use Rattle.walk_spec.specs.Steps.{End, stops, reaches}
use Rattle.walk_spec.specs.Stage2.{walk2_behind}
use Rattle.walk_spec.specs.Stage1.{asked2}
use Rattle.walk_spec.specs.BothStages.{Landing}
use Rattle.walk_spec.specs.Fresh.{start_base1}
use Rattle.machine_spec.specs.Moments.{memory_after, regs_after}
use Rattle.machine_spec.specs.Marks.{Mark, mark, marks}
use Rattle.machine_spec.specs.Uses.{next_first, above_of, AllUsed, LastIs}
use Rattle.machine_spec.specs.Kept.{View, now, IsNowBase}
use Rattle.machine_spec.specs.Allowed.{is_of_word, IsNowOf}
use Rattle.tagged_tlb.specs.declared.row.Row.{Row}
use Rattle.machine_spec.specs.Served.{Supplied, gives, halts, clash, supplied_by, supply, came, Reply, pushed, goes_on, serve}
use Rattle.machine_laws.specs.Standing.{IsOn}
use Rattle.machine_laws.proofs.Trees.{is_need1, needs_base, chain, Plan, fin, own, via, joined, flat, rest_by, IsSound, IsSecond, IsWords, AllSecond}
use Rattle.machine_laws.proofs.Facts.{regime_for}
use Rattle.machine_laws.proofs.Laws.{Laws}
use Rattle.machine_laws.proofs.Stands.{on_append, marks_append, on_after, marks_nil, joined_is, via_marks}
use Rattle.machine_laws.proofs.Stands.{mark_first, mark_item, second_marks, words_second, nil_right}
use Rattle.machine_laws.proofs.Uses.{none_of, chain_append, last_append, last_more}
use Rattle.machine_laws.proofs.Fine.{Good, IsNow, LastOk, Kept1, place_of, config_at, FineBy, Start, Begins, PlansAreFine}
use Rattle.machine_laws.proofs.Begins.{chain_second}
use Rattle.machine_laws.proofs.Serve.{fits_base1, fits_needed, opened, IsFresh, AllFresh, fresh_next, fresh_used, fresh_last}
use Rattle.machine_laws.proofs.Serve.{prepend, serve_queue, last_ok_none, fine_after, pre_own, pre_via, above_now}

-- WHAT IS READ NOW

-- a word that memory has now
fresh_word : (v : View) (r : Regime) (w : WordNeed) (value : ℕ) → memory_after v.header v.log w.place ≡ Some value →
    IsFresh v (mark r (word w) (needed_item (now v) w value))
unfolding mark
fresh_word v r w value h = record { now_is = refl; base = λ b. absurd (both_ways false refl b); word = λ b. h }

-- the base of stage 1 that the registers give now
abbrev first_base : View → Access → Item
first_base v a = base_item (now v) S1 (sizes1 (config_at v) (side_of a.va)) (start_base1 (regs_after v.core v.log) (side_of a.va))

fresh_base1 : (v : View) (r : Regime) (a : Access) → v.side ≡ side_of a.va → IsFresh v (mark r stage1_base (first_base v a))
unfolding mark
fresh_base1 v r a side = record { now_is = refl; base = λ b. ap (start_base1 (regs_after v.core v.log)) side; word = λ b. absurd (both_ways true b refl) }

module _ (laws : Laws) (v : View) (rows : List Row) (a : Access) where
  abbrev rg : Regime
  rg = regime_for (config_at v) a

  abbrev sup : Need → Supplied
  sup = supply (place_of v rows) a

  abbrev Fine : Option ℕ → Ask Need Item (End Landing) → Reply → Type 0
  Fine above t r = FineBy v rg above t r.items r.halt

  -- WITHIN A CHAIN

  -- the chain goes on to its end, or a word is absent
  abbrev Goes : (End Leaf2 → Ask Need Item (End Landing)) → List Item → Ask Need Item (End Leaf2) → Reply → Type 0
  Goes f is left r = (e : End Leaf2) × (left ≡ done e) × (r ≡ prepend is (serve sup [] (f e)))

  abbrev Lacks : List Item → Ask Need Item (End Leaf2) → Reply → Type 0
  Lacks is left r =
      (w : WordNeed) × (k : Item → Ask Need Item (End Leaf2)) × (left ≡ ask (word w) k) × (memory_after v.header v.log w.place ≡ None)
      × (r ≡ record { items = is; halt = came (lacks (word w)); by = [] })

  record Ran (t : Ask Need Item (End Leaf2)) (f : End Leaf2 → Ask Need Item (End Landing)) (r : Reply) : Type 0 where
    items : List Item
    left : Ask Need Item (End Leaf2)
    on : IsOn rg t items left
    fresh : AllFresh v (marks rg t items)
    how : Goes f items left r ⊎ Lacks items left r

  more : (i : Item) (is : List Item) (f : End Leaf2 → Ask Need Item (End Landing)) (left : Ask Need Item (End Leaf2)) (r : Reply) →
      Goes f is left r ⊎ Lacks is left r → Goes f (i ∷ is) left (pushed i [] r) ⊎ Lacks (i ∷ is) left (pushed i [] r)
  more i is f left r (inl h) = inl (h.0, h.1, ap (pushed i []) h.2)
  more i is f left r (inr h) = inr (h.0, h.1, h.2, h.3, ap (pushed i []) h.4)

  ran_word : (w : WordNeed) (k : Item → Ask Need Item (End Leaf2)) (f : End Leaf2 → Ask Need Item (End Landing)) →
      ((i : Item) → Ran (k i) f (serve sup [] (after (k i) f))) → (o : Option ℕ) → memory_after v.header v.log w.place ≡ o →
      Ran (ask (word w) k) f (goes_on (supplied_by (word w) (option_map (needed_item (now v) w) o)) (λ i rest. serve sup rest (after (k i) f)))
  ran_word w k f rec None is = record { items = []; left = ask (word w) k; on = refl; fresh = tt; how = inr (w, k, refl, is, refl) }
  ran_word w k f rec (Some value) is =
      let i : Item = needed_item (now v) w value in
      let r = rec i in
      record {
        items = i ∷ r.items;
        left = r.left;
        on = (fits_needed rg w (now v) value, r.on);
        fresh = (fresh_word v rg w value is, r.fresh);
        how = more i r.items f r.left (serve sup [] (after (k i) f)) r.how;
      }

  ran : (t : Ask Need Item (End Leaf2)) (f : End Leaf2 → Ask Need Item (End Landing)) → IsWords t → Ran t f (serve sup [] (after t f))
  ran (done e) f h = record { items = []; left = done e; on = refl; fresh = tt; how = inl (e, refl, refl) }
  ran (ask stage1_base k) f h = absurd (both_ways true h.1 refl)
  ran (ask (stage2_base x) k) f h = absurd (both_ways true h.1 refl)
  ran (ask (word w) k) f h = ran_word w k f (λ i. ran (k i) f (h.2 i)) (memory_after v.header v.log w.place) refl

  -- A WHOLE CHAIN

  -- a chain whose later items are fresh: its uses
  used_all : (p : Bool) (x : ℕ) (q is : List Item) (left : Ask Need Item (End Leaf2)) → AllSecond (marks rg (chain rg p x) q) →
      IsOn rg (chain rg p x) q left → IsWords left → AllUsed (Good v) None (marks rg (chain rg p x) q) → AllFresh v (marks rg left is) →
      AllUsed (Good v) None (marks rg (chain rg p x) (q ++ is))
  used_all p x q is left second on w used f =
      let s : AllSecond (marks rg left is) = second_marks rg left is (words_second left w) in
      subst (AllUsed (Good v) None) (sym (marks_append rg (chain rg p x) left q is on))
      (chain_append (Good v) (now v) (opened v) None (marks rg (chain rg p x) q) (marks rg left is) second (fresh_next v None (marks rg left is) tt f) used
      (fresh_used v None (marks rg left is) tt s f))

  -- and what its last item meets
  last_all : (P : Mark → Type 0) → ((m : Mark) → m.item.moment ≡ now v → P m) → (p : Bool) (x : ℕ) (q is : List Item)
      (left : Ask Need Item (End Leaf2)) → IsOn rg (chain rg p x) q left → LastIs P (marks rg (chain rg p x) q) → AllFresh v (marks rg left is) →
      LastIs P (marks rg (chain rg p x) (q ++ is))
  last_all P g p x q is left on h f =
      subst (LastIs P) (sym (marks_append rg (chain rg p x) left q is on))
      (last_append P (marks rg (chain rg p x) q) (marks rg left is) h (fresh_last v P g (marks rg left is) f))

  -- a chain that is its base alone, read now
  base_alone : (s : Stage) (p : Bool) (x : ℕ) (i : Item) (q : List Item) → q ≡ [] → i.moment ≡ now v →
      LastIs (IsNowOf s (now v)) (marks rg (chain rg p x) (i ∷ q))
  base_alone s p x i q e h =
      let m : Mark = mark rg (stage2_base x) i in
      let at : m.item.moment ≡ now v = ap (λ (i : Item). i.moment) (mark_item rg (stage2_base x) i) ∙ h in
      subst (λ q. LastIs (IsNowOf s (now v)) (marks rg (chain rg p x) (i ∷ q))) (sym e)
      (subst (λ ms. LastIs (IsNowOf s (now v)) (m ∷ ms)) (sym (marks_nil rg (walk2_behind (asked2 rg p x) i.value))) (λ w. at))

  -- a list that ends in what was read now
  fresh_more : (P : Mark → Type 0) → ((m : Mark) → m.item.moment ≡ now v → P m) → (pre : List Mark) (m : Mark) (ms : List Mark) →
      AllFresh v (m ∷ ms) → LastIs P (pre ++ m ∷ ms)
  fresh_more P g pre m ms f = last_more P pre m ms (fresh_last v P g (m ∷ ms) f)

  -- a chain that stops: its last item was read now
  last_stop : (s : Stage) (p : Bool) (x : ℕ) (i : Item) (q is : List Item) (left : Ask Need Item (End Leaf2)) (f : Fault) →
      IsOn rg (chain rg p x) (i ∷ q) left → (left ≡ done (stops f) → (q ≡ []) × (i.moment ≡ now v)) →
      IsOn rg left is (done (stops f)) → AllFresh v (marks rg left is) → LastIs (IsNowOf s (now v)) (marks rg (chain rg p x) ((i ∷ q) ++ is))
  last_stop s p x i q [] left f on goes h fresh =
      let g = goes (sym h) in
      base_alone s p x i (q ++ []) (append-nil q ∙ g.0) g.1
  last_stop s p x i q (y ∷ is) (done e) f on goes h fresh = absurd h
  last_stop s p x i q (y ∷ is) (ask n k) f on goes h fresh =
      subst (LastIs (IsNowOf s (now v))) (sym (marks_append rg (chain rg p x) (ask n k) (i ∷ q) (y ∷ is) on))
      (fresh_more (IsNowOf s (now v)) (λ m e w. e) (marks rg (chain rg p x) (i ∷ q)) (mark rg n y) (marks rg (k y) is) fresh)

  -- A CHAIN, AND WHAT FOLLOWS IT

  module _ (p : Bool) (x : ℕ) (next : End Leaf2 → Result Need (End Landing)) (k : Item → Plan)
      (above : Option ℕ) (up : IsNow (now v) above) (sound : IsSound rg (via p x next k))
      (rec : (e : End Leaf2) → Fine above (flat rg (rest_by (next e) k)) (serve sup [] (flat rg (rest_by (next e) k)))) where
    abbrev go_on : End Leaf2 → Ask Need Item (End Landing)
    go_on e = joined (next e) (λ i. flat rg (k i))

    abbrev tree : Ask Need Item (End Landing)
    tree = flat rg (via p x next k)

    abbrev ms_of : List Item → List Mark
    ms_of items = marks rg (chain rg p x) items

    -- how the last item of the chain is where the walk ends behind it
    last_end : (i : Item) (q is : List Item) (b : Start v rg p x i q) (e : End Leaf2) → IsOn rg b.left is (done e) → AllFresh v (marks rg b.left is) →
        (o : End Landing) → next e ≡ Err o → LastOk (now v) o (ms_of ((i ∷ q) ++ is))
    last_end i q is b (reaches l) on f (reaches o) eq =
        laws.chain_word rg p x i (q ++ is) l (on_append rg (chain rg p x) b.left (done (reaches l)) (i ∷ q) is b.on on)
    last_end i q is b (reaches l) on f (stops g) eq = λ w. absurd (both_ways (is_of_word g.class) (sound.1 l g eq) w)
    last_end i q is b (stops g) on f (reaches o) eq = absurd (sound.4 g o eq)
    last_end i q is b (stops g) on f (stops h) eq = λ w. last_stop h.stage p x i q is b.left g b.on (b.goes g) on f

    -- items of the chain alone are kept
    kept_chain : (cs : List Item) (u : Ask Need Item (End Leaf2)) → IsOn rg (chain rg p x) cs u → AllUsed (Good v) None (ms_of cs) →
        LastIs (IsNowBase (now v)) (ms_of cs) → Kept1 v rg above tree cs
    kept_chain cs u on used base =
        let s : AllSecond (ms_of cs) = chain_second laws rg p x cs in
        let e : marks rg tree cs ≡ ms_of cs = via_marks rg p x next k cs u on in
        let all : AllUsed (Good v) above (ms_of cs ++ []) = chain_append (Good v) (now v) (opened v) above (ms_of cs) [] s up used tt in
        record {
          used = subst (AllUsed (Good v) above) (nil_right (ms_of cs) ∙ sym e) all;
          next = subst (λ ms. IsNow (now v) (next_first ms)) (sym e) (subst (IsNow (now v)) (sym (none_of (ms_of cs) s)) tt);
          last_base = subst (LastIs (IsNowBase (now v))) (sym e) base;
        }

    module _ (i : Item) (q is : List Item) (b : Start v rg p x i q) (left : Ask Need Item (End Leaf2)) (on : IsOn rg b.left is left)
        (fresh : AllFresh v (marks rg b.left is)) where
      whole_used : AllUsed (Good v) None (ms_of ((i ∷ q) ++ is))
      whole_used = used_all p x (i ∷ q) is b.left (chain_second laws rg p x (i ∷ q)) b.on b.words b.used fresh

      whole_base : LastIs (IsNowBase (now v)) (ms_of ((i ∷ q) ++ is))
      whole_base = last_all (IsNowBase (now v)) (λ m e w. e) p x (i ∷ q) is b.left b.on b.last_base fresh

      whole_on : IsOn rg (chain rg p x) ((i ∷ q) ++ is) left
      whole_on = on_append rg (chain rg p x) b.left left (i ∷ q) is b.on on

    -- the chain came to an end
    went_on : (i : Item) (q is : List Item) (b : Start v rg p x i q) (e : End Leaf2) → IsOn rg b.left is (done e) → AllFresh v (marks rg b.left is) →
        Fine above tree (prepend (i ∷ q) (prepend is (serve sup [] (go_on e))))
    went_on i q is b e on f =
        let cs : List Item = (i ∷ q) ++ is in
        let rest : Ask Need Item (End Landing) = flat rg (rest_by (next e) k) in
        let r : Reply = serve sup [] (go_on e) in
        let second : IsSecond (chain rg p x) = (refl, λ i. words_second (walk2_behind (asked2 rg p x) i.value) (laws.behind_words rg p x i.value)) in
        let pre = pre_via v rg above p x next k cs e second (λ n eq. (sound.2 e n eq).0) up
        (whole_on i q is b (done e) on f) (whole_used i q is b (done e) on f) (whole_base i q is b (done e) on f) (last_end i q is b e on f) in
        let g : Fine above rest r = subst (λ t. Fine above rest (serve sup [] t)) (sym (joined_is rg (next e) k)) (rec e) in
        let all : FineBy v rg above tree (cs ++ r.items) r.halt =
        fine_after v rg (Kept1 v rg above tree) (Kept1 v rg above rest) tree rest cs r.items r.halt pre g in
        subst (λ items. FineBy v rg above tree items r.halt) (append_assoc (i ∷ q) is r.items) all

    -- a word of the chain is absent
    went_out : (i : Item) (q is : List Item) (b : Start v rg p x i q) (w : WordNeed) (go : Item → Ask Need Item (End Leaf2)) →
        IsOn rg b.left is (ask (word w) go) → AllFresh v (marks rg b.left is) → memory_after v.header v.log w.place ≡ None →
        Fine above tree (prepend (i ∷ q) (record { items = is; halt = came (lacks (word w)); by = [] }))
    went_out i q is b w go on f lost =
        let cs : List Item = (i ∷ q) ++ is in
        let at : IsOn rg (chain rg p x) cs (ask (word w) go) = whole_on i q is b (ask (word w) go) on f in (
          w,
          (λ i. after (go i) go_on),
          refl,
          on_after rg (chain rg p x) (ask (word w) go) go_on cs at,
          kept_chain cs (ask (word w) go) at (whole_used i q is b (ask (word w) go) on f) (whole_base i q is b (ask (word w) go) on f),
          lost,
        )

    went_how : (i : Item) (q is : List Item) (b : Start v rg p x i q) (left : Ask Need Item (End Leaf2)) → IsOn rg b.left is left →
        AllFresh v (marks rg b.left is) → (r : Reply) → Goes go_on is left r ⊎ Lacks is left r → Fine above tree (prepend (i ∷ q) r)
    went_how i q is b left on f r (inl h) =
        let e = h.0 in
        subst (λ r. Fine above tree (prepend (i ∷ q) r)) (sym h.2) (went_on i q is b e (subst (IsOn rg b.left is) h.1 on) f)
    went_how i q is b left on f r (inr h) =
        subst (λ r. Fine above tree (prepend (i ∷ q) r)) (sym h.4) (went_out i q is b h.0 h.1 (subst (IsOn rg b.left is) h.2 on) f h.3)

    -- a chain that begins well, and what follows it
    by_start : (s : Supplied) → Begins v rg p x s →
        Fine above tree (goes_on s (λ i rest. serve sup rest (after (walk2_behind (asked2 rg p x) i.value) go_on)))
    by_start (halts (came e)) b = absurd b
    by_start (halts (clash one two)) b = (
      x,
      (λ i. after (walk2_behind (asked2 rg p x) i.value) go_on),
      refl,
      (p, b.0.leaf, b.0.on),
      (p, b.1.leaf, b.1.on),
      b.2,
      kept_chain one (done (reaches b.0.leaf)) b.0.on b.0.used b.0.last_base,
      kept_chain two (done (reaches b.1.leaf)) b.1.on b.1.used b.1.last_base,
      sound.0,
    )
    by_start (gives i q by) b =
        let behind : Ask Need Item (End Leaf2) = walk2_behind (asked2 rg p x) i.value in
        let r = ran b.left go_on b.words in
        let e : serve sup q (after behind go_on) ≡ prepend q (serve sup [] (after b.left go_on)) =
        serve_queue rg sup q (after behind go_on) (after b.left go_on) (on_after rg behind b.left go_on q b.on.1) in
        subst (λ r. Fine above tree (pushed i by r)) (sym e) (went_how i q r.items b r.left r.on r.fresh (serve sup [] (after b.left go_on)) r.how)

  -- THE WHOLE PLAN

  module _ (side : v.side ≡ side_of a.va) (begins : (p : Bool) (x : ℕ) → Begins v rg p x (sup (stage2_base x))) where
    -- what a plan is served is fine, below what was read now
    abbrev IsFine : Plan → Type 0
    IsFine p = (above : Option ℕ) → IsNow (now v) above → Fine above (flat rg p) (serve sup [] (flat rg p))

    fine_fin : (e : End Landing) → IsFine (fin e)
    fine_fin e above up = (refl, record { used = tt; next = tt; last_base = tt }, last_ok_none (now v) e)

    -- a question of stage 1 that is answered now
    fine_item : (above : Option ℕ) (n : Need) (k : Item → Plan) (i : Item) → IsSound rg (own n k) → fits rg n i ≡ true → IsFresh v (mark rg n i) →
        IsFine (k i) → Fine above (flat rg (own n k)) (pushed i [] (serve sup [] (flat rg (k i))))
    fine_item above n k i sound fit f rec =
        let m : Mark = mark rg n i in
        let u : Option ℕ = above_of above m in
        let r : Reply = serve sup [] (flat rg (k i)) in
        fine_after v rg (Kept1 v rg above (flat rg (own n k))) (Kept1 v rg u (flat rg (k i)))
        (flat rg (own n k)) (flat rg (k i)) (i ∷ []) r.items r.halt
        (pre_own v rg above n k i sound fit f) (rec u (above_now v rg above m (mark_first rg n i ∙ sound.0) f.now_is))

    fine_word : (above : Option ℕ) (w : WordNeed) (k : Item → Plan) → IsSound rg (own (word w) k) → ((i : Item) → IsFine (k i)) →
        (o : Option ℕ) → memory_after v.header v.log w.place ≡ o →
        Fine above (flat rg (own (word w) k))
        (goes_on (supplied_by (word w) (option_map (needed_item (now v) w) o)) (λ i rest. serve sup rest (flat rg (k i))))
    fine_word above w k sound rec None is = (w, (λ i. flat rg (k i)), refl, refl, record { used = tt; next = tt; last_base = tt }, is)
    fine_word above w k sound rec (Some value) is =
        let i : Item = needed_item (now v) w value in
        fine_item above (word w) k i sound (fits_needed rg w (now v) value) (fresh_word v rg w value is) (rec i)

    fine_own : (n : Need) (k : Item → Plan) → IsSound rg (own n k) → ((i : Item) → IsFine (k i)) → IsFine (own n k)
    fine_own stage1_base k sound rec above up =
        let i : Item = first_base v a in
        fine_item above stage1_base k i sound (fits_base1 (regs_after v.core v.log) (side_of a.va) (now v)) (fresh_base1 v rg a side) (rec i)
    fine_own (stage2_base x) k sound rec above up = absurd (both_ways false refl sound.0)
    fine_own (word w) k sound rec above up = fine_word above w k sound rec (memory_after v.header v.log w.place) refl

    -- what follows a chain is no base
    rest_sound : (n : Need) (k : Item → Plan) → (is_need1 n ≡ true) × (needs_base n ≡ false) → ((i : Item) → IsSound rg (k i))
        → IsSound rg (own n k)
    rest_sound n k h sound = (h.0, (λ b. absurd (both_ways (needs_base n) h.1 b)), sound)

    fine_rest : (o : Result Need (End Landing)) (k : Item → Plan) → ((n : Need) → o ≡ Ok n → (is_need1 n ≡ true) × (needs_base n ≡ false)) →
        ((i : Item) → IsSound rg (k i)) → ((i : Item) → IsFine (k i)) → IsFine (rest_by o k)
    fine_rest (Err e) k one sound rec = fine_fin e
    fine_rest (Ok n) k one sound rec = fine_own n k (rest_sound n k (one n refl) sound) rec

    fine_plan : (p : Plan) → IsSound rg p → IsFine p
    fine_plan (fin e) sound = fine_fin e
    fine_plan (own n k) sound = fine_own n k sound (λ i. fine_plan (k i) (sound.2 i))
    fine_plan (via p x next k) sound = λ above up.
        by_start p x next k above up sound
        (λ e. fine_rest (next e) k (λ n eq. sound.2 e n eq) sound.3 (λ i. fine_plan (k i) (sound.3 i)) above up)
        (sup (stage2_base x)) (begins p x)

-- every plan that is served is fine, where every chain begins well
pub plans_are_fine : Laws → PlansAreFine
plans_are_fine laws v rows a side begins p sound above up = fine_plan laws v rows a side begins p sound above up
