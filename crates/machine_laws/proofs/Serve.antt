-- What memory and registers give fits what is needed and is kept; and what is served behind items that are kept is kept with them.
use Rattle.std.proofs.Common.{◌≡◌, ℕ, ◌*◌, ◌/◌, ◌%◌, ◌^◌, ◌<◌, ◌≤◌, Bool, true, false, List, [], ◌∷◌, ◌++◌}
use Rattle.std.proofs.Common.{length, take, refl, sym, ap, ◌∙◌, subst, append_assoc, append-nil, Option, Some, None, arith}
use Rattle.std.specs.Prelude.{ℤ, pos, negsuc, Result, Ok, Err}
use Rattle.std.proofs.lemmas.List.{take_all}
use Rattle.std.proofs.lemmas.Bool.{eq-eqb, lt-ltb}
use Rattle.std.proofs.Math.Nat.{div-mul-le_self, mul-mod_right}
use Rattle.geometry.specs.Tables.{table_size, level_of}
use Rattle.sysregs.specs.declared.regs.Regs.{Regs}
use Rattle.sysregs.specs.declared.regs.Side.{Side}
use Rattle.sysregs.specs.declared.regs.Side.TheVariants.{Low, High}
use Rattle.sysregs.specs.Registers.{config_of, vmid_of, asid_of, granule_of, ttbr_base, vttbr_base}
use Rattle.sysregs.proofs.Granules.{base_below}
use Rattle.fault_codes.specs.declared.fault.Stage.{Stage}
use Rattle.fault_codes.specs.declared.fault.Stage.TheVariants.{S1, S2}
use Rattle.table_reads.specs.declared.sizes.Sizes.{Sizes}
use Rattle.table_reads.specs.Numbers.{sizes1, sizes2}
use Rattle.table_reads.specs.Places.{aligned_base}
use Rattle.table_reads.specs.Items.{base_item}
use Rattle.trails.specs.declared.item.Item.{Item}
use Rattle.walk_spec.specs.Ask.{Ask, done, ask}
use Rattle.walk_spec.specs.Needs.{Regime, regime_of, Need, stage1_base, stage2_base, word, WordNeed, stage_eq}
use Rattle.walk_spec.specs.Needs.{level_eq, fits, fits_base as fits_base_by, needed_item}
use Rattle.walk_spec.specs.Fresh.{start_base1, start_base2}
use Rattle.machine_spec.specs.Moments.{regs_after, memory_after}
use Rattle.machine_spec.specs.Marks.{Mark, mark}
use Rattle.machine_spec.specs.Kept.{View, now, regs_when, base_by}
use Rattle.walk_spec.specs.Ask.{ended, lacks}
use Rattle.walk_spec.specs.Steps.{End, stops, reaches}
use Rattle.walk_spec.specs.BothStages.{Landing}
use Rattle.walk_spec.specs.declared.leaf.Leaf2.{Leaf2}
use Rattle.machine_spec.specs.Marks.{marks, is_first, is_leaf}
use Rattle.machine_spec.specs.Uses.{next_first, next_second, above_of, AllUsed, LastIs}
use Rattle.machine_spec.specs.Kept.{IsNowBase}
use Rattle.machine_spec.specs.Allowed.{IsNowOf}
use Rattle.machine_spec.specs.Served.{Supplied, Halt, came, clash, Reply, pushed, serve}
use Rattle.machine_laws.specs.Standing.{IsOn}
use Rattle.machine_laws.proofs.Trees.{is_need1, needs_base, chain, Plan, fin, own, via, flat, rest_by, IsSound, IsSecond, AllSecond, IsWord}
use Rattle.machine_laws.proofs.Fine.{Good, IsNow, LastOk, Kept1, FineOf}
use Rattle.machine_laws.proofs.Stands.{on_append, marks_append, via_on, via_marks, mark_first, mark_base, second_marks, flat_fin}
use Rattle.machine_laws.proofs.Uses.{use_first, use_second, above_first, above_second, above_leaf, first_none}
use Rattle.machine_laws.proofs.Uses.{open_at, chain_append, first_here, last_more, last_append}
use Rattle.machine_laws.proofs.Logs.{inval-within}

-- WHAT IS GIVEN FITS

stage_self : (s : Stage) → stage_eq s s ≡ true
stage_self S1 = refl
stage_self S2 = refl

level_self : (l : ℤ) → level_eq l l ≡ true
level_self (pos n) = eq-eqb n n refl
level_self (negsuc n) = eq-eqb n n refl

multiple : (b s : ℕ) → b / s * s % s ≡ 0
multiple b s =
    let e : b / s * s ≡ s * (b / s) = omega arith in
    ap (λ z. z % s) e ∙ mul-mod_right s (b / s)

aligned_below : (n : Sizes) (b : ℕ) → b < 2 ^ 52 → aligned_base n b < 2 ^ 52
aligned_below n b h =
    let s : aligned_base n b ≤ b = div-mul-le_self b (table_size n.granule n.input n.start) in
    omega (arith, s, h)

-- an aligned base is one of its stage
fits_aligned : (n : Sizes) (s : Stage) (k b : ℕ) → b < 2 ^ 52 → fits_base_by n s (base_item k s n (aligned_base n b)) ≡ true
fits_aligned n s k b h =
    rw (
      stage_self s,
      level_self (level_of n.start),
      eq-eqb (aligned_base n b) (aligned_base n b) refl,
      eq-eqb (aligned_base n b % table_size n.granule n.input n.start) 0 (multiple b (table_size n.granule n.input n.start)),
      lt-ltb (aligned_base n b) (2 ^ 52) (aligned_below n b h),
    ) refl

ttbr_below : (regs : Regs) (s : Side) → ttbr_base regs s < 2 ^ 52
ttbr_below regs Low = base_below (granule_of (config_of regs).tg0) (config_of regs).ips regs.ttbr0_el1
ttbr_below regs High = base_below (granule_of (config_of regs).tg1) (config_of regs).ips regs.ttbr1_el1

pub fits_base1 : (regs : Regs) (s : Side) (k : ℕ)
    → fits (regime_of (config_of regs) s) stage1_base (base_item k S1 (sizes1 (config_of regs) s) (start_base1 regs s)) ≡ true
unfolding fits
fits_base1 regs s k = fits_aligned (sizes1 (config_of regs) s) S1 k (ttbr_base regs s) (ttbr_below regs s)

pub fits_base2 : (regs : Regs) (s : Side) (x k : ℕ)
    → fits (regime_of (config_of regs) s) (stage2_base x) (base_item k S2 (sizes2 (config_of regs)) (start_base2 regs)) ≡ true
unfolding fits
fits_base2 regs s x k =
    fits_aligned (sizes2 (config_of regs)) S2 k (vttbr_base regs) (base_below (granule_of (config_of regs).tg2) (config_of regs).ps regs.vttbr_el2)

pub fits_needed : (r : Regime) (w : WordNeed) (k value : ℕ) → fits r (word w) (needed_item k w value) ≡ true
unfolding fits
fits_needed r w k value = rw (stage_self w.stage, level_self (level_of w.left), eq-eqb w.place w.place refl) refl

-- WHAT IS READ NOW IS KEPT

module _ (v : View) where
  pub opened : (m : Mark) (u : ℕ) → u ≡ now v → Good v m None → Good v m (Some u)
  opened m u e h = subst (λ k. Good v m (Some k)) (sym e) h

  whole : take (now v) v.log ≡ v.log
  whole = take_all (length v.log) v.log (omega arith)

  pub regs_now : (k : ℕ) → k ≡ now v → regs_when v k ≡ regs_after v.core v.log
  regs_now k e = ap (λ n. regs_after v.core (take n v.log)) e ∙ ap (regs_after v.core) whole

  -- an item that was read now
  pub record IsFresh (m : Mark) : Type 0 where
    pub now_is : m.item.moment ≡ now v
    pub base : m.base ≡ true → base_by (regs_after v.core v.log) v.side m.stage ≡ m.item.value
    pub word : m.base ≡ false → memory_after v.header v.log m.item.pa ≡ Some m.item.value

  pub fresh_good : (m : Mark) → IsFresh m → Good v m None
  fresh_good m f =
      let e : regs_when v m.item.moment ≡ regs_after v.core v.log = regs_now m.item.moment f.now_is in
      let t : take m.item.moment v.log ≡ v.log = ap (λ n. take n v.log) f.now_is ∙ whole in (
        record {
          past = omega (arith, f.now_is);
          held = record {
            config_was = ap (λ n. config_of (regs_when v n)) f.now_is;
            vmid_was = ap (λ n. vmid_of (regs_when v n)) f.now_is;
            base = λ b. ap (λ g. base_by g v.side m.stage) e ∙ f.base b;
            word = λ b. ap (λ l. memory_after v.header l m.item.pa) t ∙ f.word b;
          };
          at_base = λ b. f.now_is;
          asid = λ h. ap (λ n. asid_of (regs_when v n)) f.now_is;
          live = λ w k i past at reach cov is. let lt = inval-within v.log k i at in omega (arith, lt, past, f.now_is);
        },
        omega arith,
      )

  abbrev pub AllFresh : List Mark → Type 0
  AllFresh [] = Unit {0}
  AllFresh (m ∷ ms) = IsFresh m × AllFresh ms

  pub fresh_next : (above : Option ℕ) (ms : List Mark) → IsNow (now v) above → AllFresh ms → IsNow (now v) (next_second above ms)
  fresh_next above [] h f = h
  fresh_next above (m ∷ ms) h f = f.0.now_is

  pub fresh_used : (above : Option ℕ) (ms : List Mark) → IsNow (now v) above → AllSecond ms → AllFresh ms → AllUsed (Good v) above ms
  fresh_used above [] h s f = tt
  fresh_used above (m ∷ ms) h s f = (
    subst (Good v m) (sym (use_second above m ms s.0))
        (open_at (Good v) (now v) opened m (next_second above ms) (fresh_next above ms h f.1) (fresh_good m f.0)),
    subst (λ o. AllUsed (Good v) o ms) (sym (above_second above m s.0)) (fresh_used above ms h s.1 f.1),
  )

  -- the last of them was read now
  pub fresh_last : (P : Mark → Type 0) → ((m : Mark) → m.item.moment ≡ now v → P m) → (ms : List Mark) → AllFresh ms → LastIs P ms
  fresh_last P g [] f = tt
  fresh_last P g (m ∷ []) f = g m f.0.now_is
  fresh_last P g (m ∷ n ∷ ms) f = fresh_last P g (n ∷ ms) f.1

-- WHAT IS SERVED BEHIND ITEMS THAT ARE TAKEN ALREADY

abbrev pub prepend : List Item → Reply → Reply
prepend items reply = record { items = items ++ reply.items; halt = reply.halt; by = reply.by }

pub serve_queue : (r : Regime) (sup : Need → Supplied) (q : List Item) (t u : Ask Need Item (End Landing)) → IsOn r t q u
    → serve sup q t ≡ prepend q (serve sup [] u)
serve_queue r sup [] t u e = ap (serve sup []) (sym e)
serve_queue r sup (i ∷ q) (done e) u h = absurd h
serve_queue r sup (i ∷ q) (ask n k) u h = ap (pushed i []) (serve_queue r sup q (k i) u h.1)

pub last_ok_more : (k : ℕ) (e : End Landing) (pre : List Mark) (m : Mark) (ms : List Mark) → LastOk k e (m ∷ ms) → LastOk k e (pre ++ m ∷ ms)
last_ok_more k (reaches l) pre m ms h = last_more IsWord pre m ms h
last_ok_more k (stops f) pre m ms h = λ w. last_more (IsNowOf f.stage k) pre m ms (h w)

pub last_ok_none : (k : ℕ) (e : End Landing) → LastOk k e []
last_ok_none k (reaches l) = tt
last_ok_none k (stops f) = λ w. tt

-- a single item that was read now
pub last_one : (k : ℕ) (e : End Landing) (m : Mark) → m.item.moment ≡ k → ((l : Landing) → e ≡ reaches l → m.base ≡ false)
    → LastOk k e (m ∷ [])
last_one k (reaches l) m h b = b l refl
last_one k (stops f) m h b = λ w s. h

module _ (v : View) (r : Regime) where
  -- items stand on a tree and leave another, and are kept with those that follow them
  pub record Pre (K L : List Item → Type 0) (t u : Ask Need Item (End Landing)) (pre : List Item) : Type 0 where
    pub on : IsOn r t pre u
    pub kept : (items : List Item) → L items → K (pre ++ items)
    pub last : (e : End Landing) → u ≡ done e → LastOk (now v) e (marks r t pre)

  last_after : (t u : Ask Need Item (End Landing)) (pre items : List Item) (e : End Landing) → IsOn r t pre u → IsOn r u items (done e) →
      ((e : End Landing) → u ≡ done e → LastOk (now v) e (marks r t pre)) → LastOk (now v) e (marks r u items)
      → LastOk (now v) e (marks r t (pre ++ items))
  last_after t u pre [] e on h here there = rw append-nil (here e (sym h))
  last_after t (done b) pre (i ∷ items) e on h here there = absurd h
  last_after t (ask n k) pre (i ∷ items) e on h here there =
      rw (marks_append r t (ask n k) pre (i ∷ items) on) (last_ok_more (now v) e (marks r t pre) (mark r n i) (marks r (k i) items) there)

  pub fine_after : (K L : List Item → Type 0) (t u : Ask Need Item (End Landing)) (pre items : List Item) (halt : Halt) → Pre K L t u pre →
      FineOf L v r u items halt → FineOf K v r t (pre ++ items) halt
  fine_after K L t u pre items (came (ended e)) p f =
      (on_append r t u (done e) pre items p.on f.0, p.kept items f.1, last_after t u pre items e p.on f.0 p.last f.2)
  fine_after K L t u pre items (came (lacks n)) p f = (f.0, f.1, f.2, on_append r t u (ask n f.1) pre items p.on f.3, p.kept items f.4, f.5)
  fine_after K L t u pre items (clash one two) p f = (
    f.0,
    f.1,
    on_append r t u (ask (stage2_base f.0) f.1) pre items p.on f.2,
    f.3,
    f.4,
    f.5,
    subst K (sym (append_assoc pre items one)) (p.kept (items ++ one) f.6),
    subst K (sym (append_assoc pre items two)) (p.kept (items ++ two) f.7),
    f.8,
  )

  -- the item of a question of stage 1, read now
  pub above_now : (above : Option ℕ) (m : Mark) → is_first m ≡ true → m.item.moment ≡ now v → IsNow (now v) (above_of above m)
  above_now above m f e = above_case (is_leaf m.part) refl where
    above_case : (b : Bool) → is_leaf m.part ≡ b → IsNow (now v) (above_of above m)
    above_case true l = subst (IsNow (now v)) (sym (above_leaf above m f l)) e
    above_case false l = subst (IsNow (now v)) (sym (above_first above m f l)) tt

  first_now : (m : Mark) (ms : List Mark) → is_first m ≡ true → m.item.moment ≡ now v → IsNow (now v) (next_first (m ∷ ms))
  first_now m ms f e = subst (IsNow (now v)) (sym (first_here m ms f)) e

  no_base : (n : Need) (k : Item → Plan) (i : Item) → IsSound r (own n k) → (l : Landing) (b : Bool) → needs_base n ≡ b → k i ≡ fin (reaches l)
      → b ≡ false
  no_base n k i sound l true e h = absurd (sound.1 e i l h)
  no_base n k i sound l false e h = refl

  -- a question of stage 1 that is answered now
  pub pre_own : (above : Option ℕ) (n : Need) (k : Item → Plan) (i : Item) → IsSound r (own n k) → fits r n i ≡ true → IsFresh v (mark r n i) →
      Pre (Kept1 v r above (flat r (own n k))) (Kept1 v r (above_of above (mark r n i)) (flat r (k i))) (flat r (own n k)) (flat r (k i)) (i ∷ [])
  pre_own above n k i sound fit f =
      let m : Mark = mark r n i in
      let one : is_first m ≡ true = mark_first r n i ∙ sound.0 in
      record {
        on = (fit, refl);
        kept = λ items h. record {
          used = (
            subst (Good v m) (sym (use_first above m (marks r (flat r (k i)) items) one))
                (open_at (Good v) (now v) (opened v) m (next_first (marks r (flat r (k i)) items)) h.next (fresh_good v m f)),
            h.used,
          );
          next = first_now m (marks r (flat r (k i)) items) one f.now_is;
          last_base = last_append (IsNowBase (now v)) (m ∷ []) (marks r (flat r (k i)) items) (λ b. f.now_is) h.last_base;
        };
        last = λ e h. subst (λ t. LastOk (now v) e (m ∷ marks r t [])) (sym h)
            (last_one (now v) e m f.now_is
            (λ l is. mark_base r n i ∙ no_base n k i sound l (needs_base n) refl (flat_fin r (k i) (reaches l) (h ∙ ap (λ e. done e) is))));
      }

  err_of : (o : Result Need (End Landing)) (k : Item → Plan) (e : End Landing) → flat r (rest_by o k) ≡ done e → o ≡ Err e
  err_of (Err a) k e h = cc
  err_of (Ok n) k e h = absurd cc

  -- behind a chain comes a question of stage 1 that is answered now, or the end
  rest_now : (above : Option ℕ) (o : Result Need (End Landing)) (k : Item → Plan) (items : List Item) → IsNow (now v) above
      → ((n : Need) → o ≡ Ok n → is_need1 n ≡ true) →
      Kept1 v r above (flat r (rest_by o k)) items → IsNow (now v) (next_second above (marks r (flat r (rest_by o k)) items))
  rest_now above (Err e) k [] a one h = a
  rest_now above (Err e) k (i ∷ items) a one h = a
  rest_now above (Ok n) k [] a one h = a
  rest_now above (Ok n) k (i ∷ items) a one h =
      subst (IsNow (now v)) (first_here (mark r n i) (marks r (flat r (k i)) items) (mark_first r n i ∙ one n refl)) h.next

  -- a chain of stage 2 that is kept
  pub pre_via : (above : Option ℕ) (p : Bool) (x : ℕ) (next : End Leaf2 → Result Need (End Landing)) (k : Item → Plan) (cs : List Item)
      (e : End Leaf2) →
      IsSecond (chain r p x) → ((n : Need) → next e ≡ Ok n → is_need1 n ≡ true) → IsNow (now v) above → IsOn r (chain r p x) cs (done e) →
      AllUsed (Good v) None (marks r (chain r p x) cs) → LastIs (IsNowBase (now v)) (marks r (chain r p x) cs) →
      ((o : End Landing) → next e ≡ Err o → LastOk (now v) o (marks r (chain r p x) cs)) →
      Pre (Kept1 v r above (flat r (via p x next k))) (Kept1 v r above (flat r (rest_by (next e) k))) (flat r (via p x next k)) (flat r (rest_by (next e) k)) cs
  pre_via above p x next k cs e second one a on used base last = record {
    on = via_on r p x next k cs e on;
    kept = λ items h.
        let rest : List Mark = marks r (flat r (rest_by (next e) k)) items in
        let ms : marks r (flat r (via p x next k)) (cs ++ items) ≡ marks r (chain r p x) cs ++ rest =
        marks_append r (flat r (via p x next k)) (flat r (rest_by (next e) k)) cs items (via_on r p x next k cs e on)
        ∙ ap (λ l. l ++ rest) (via_marks r p x next k cs (done e) on) in
        let s : AllSecond (marks r (chain r p x) cs) = second_marks r (chain r p x) cs second in
        record {
          used = subst (AllUsed (Good v) above) (sym ms)
              (chain_append (Good v) (now v) (opened v) above (marks r (chain r p x) cs) rest s (rest_now above (next e) k items a one h) used h.used);
          next = subst (λ l. IsNow (now v) (next_first l)) (sym ms) (subst (IsNow (now v)) (sym (first_none (marks r (chain r p x) cs) rest s)) h.next);
          last_base = subst (LastIs (IsNowBase (now v))) (sym ms) (last_append (IsNowBase (now v)) (marks r (chain r p x) cs) rest base h.last_base);
        };
    last = λ o h. subst (LastOk (now v) o) (sym (via_marks r p x next k cs (done e) on)) (last o (err_of (next e) k o h));
  }
