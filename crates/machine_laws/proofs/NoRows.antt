-- Without rows each access is the fresh walk of its moment.
use Rattle.std.proofs.Common.{◌≡◌, ℕ, ◌-◌, ◌<◌, ◌++◌, length, take, Bool, true, false, not, cond, List, []}
use Rattle.std.proofs.Common.{◌∷◌, refl, inl, inr, sym, ap, ◌∙◌, subst, Option, Some, None, arith}
use Rattle.std.specs.Prelude.{◌&&◌, ◌==◌, nat_lt, fold, filter, slice_get, option_map}
use Rattle.std.specs.List.{list_any}
use Rattle.std.proofs.lemmas.Bool.{cases_Bool, eq-eqb, ltb-true}
use Rattle.std.proofs.lemmas.List.{get_or-replicate}
use Rattle.std.proofs.lemmas.List.Elements.{All-pop}
use Rattle.std.proofs.lemmas.Option.{same_Some}
use Rattle.sysregs.specs.declared.regs.Regs.{Regs}
use Rattle.sysregs.specs.declared.regs.Side.{Side}
use Rattle.sysregs.specs.Registers.{config_of, asid_of, vmid_of}
use Rattle.sysregs.specs.Sides.{side_of}
use Rattle.trails.specs.declared.item.Item.{Item}
use Rattle.trails.specs.declared.outcome.Access.{Access}
use Rattle.trails.specs.declared.event.Event.{Event}
use Rattle.trails.specs.declared.event.Event.TheVariants.{Store, Msr, Settle, Isb, Tlbi, Dsb, Deliver, Access as AccessOf, Prefetch}
use Rattle.trails.specs.declared.step.Answer.{Answer}
use Rattle.trails.specs.declared.step.Step.{Step}
use Rattle.table_reads.specs.Memory.{Memory}
use Rattle.trace_lang.specs.declared.header.Size.TheVariants.{NoRows}
use Rattle.tlbi_ops.specs.declared.inval.Inval.{Inval}
use Rattle.tlbi_ops.specs.Operands.{reaches_core}
use Rattle.walk_spec.specs.Ask.{Ask, done, ask, lacks, fed_items, fed_end, with_answer}
use Rattle.walk_spec.specs.Needs.{Need, stage1_base, stage2_base, word, WordNeed, needed_item}
use Rattle.walk_spec.specs.Steps.{End}
use Rattle.walk_spec.specs.BothStages.{Landing, is_refused1, walk}
use Rattle.walk_spec.specs.Fresh.{start_base1, start_base2, given, fresh_items, fresh_outcome}
use Rattle.tagged_tlb.specs.Shapes.{keeps_rows}
use Rattle.machine_spec.specs.Header.{Header}
use Rattle.machine_spec.specs.Invalidations.{issued_by, completes}
use Rattle.machine_spec.specs.Kept.{View}
use Rattle.machine_spec.specs.Allowed.{is_earlier, has_word, is_changed}
use Rattle.tagged_tlb.specs.declared.row.Row.{Row}
use Rattle.tagged_tlb.specs.Sets.{Cache, added, touched, filled}
use Rattle.machine_spec.specs.Served.{Supplied, supplied_by, Place, supply, came, Reply, pushed, goes_on, serve, served}
use Rattle.machine_spec.specs.Machine.{Core, World, no_core, killed, delivered_by, delivered, most_held, posted, mailed, mailed_by}
use Rattle.machine_spec.specs.Machine.{Visited, Visit, is_old, is_stale, made_by, visited_by, visited, visit_of, core_numbered, regs_in, accessed, acted, moved}
use Rattle.machine_spec.specs.Machine.{opened, after_event, world_after, answer_in, answer_to, step_of, run_of}
use Rattle.trace_lang.specs.Traces.{core_of}
use Rattle.machine_laws.specs.Headline.{AreOfCores, IsFreshNow, IsFreshFor, RunsWithoutRowsAreFresh}
use Rattle.machine_laws.proofs.Facts.{view_of, AllFacts}
use Rattle.machine_laws.proofs.Fine.{place_of, ServesWell, MakesWell}
use Rattle.machine_laws.proofs.Lists.{from_end, none_some}
use Rattle.machine_laws.proofs.Logs.{each_more}
use Rattle.machine_laws.proofs.Events.{each_at, place_is}
use Rattle.machine_laws.proofs.Theorem.{world_on, run_on, facts_of_run}

-- WHAT IS SERVED

-- what a walk is fed
abbrev pub fed_reply : (Need → Option Item) → Ask Need Item (End Landing) → Reply
fed_reply give t = record { items = fed_items give t; halt = came (fed_end give t); by = [] }

goes_fed : (give : Need → Option Item) (n : Need) (k : Item → Ask Need Item (End Landing)) (o : Option Item) (next : Item → List Item → Reply)
    → ((i : Item) → next i [] ≡ fed_reply give (k i))
    → goes_on (supplied_by n o) next
    ≡ record { items = with_answer o [] (λ i. i ∷ fed_items give (k i)); halt = came (with_answer o (lacks n) (λ i. fed_end give (k i))); by = [] }
goes_fed give n k None next h = refl
goes_fed give n k (Some i) next h = ap (pushed i []) (h i)

-- a walk that is supplied by what is given alone is fed
serve_fed : (sup : Need → Supplied) (give : Need → Option Item) → ((n : Need) → sup n ≡ supplied_by n (give n)) → (t : Ask Need Item (End Landing))
    → serve sup [] t ≡ fed_reply give t
serve_fed sup give h (done e) = refl
serve_fed sup give h (ask n k) =
    ap (λ s. goes_on s (λ i rest. serve sup rest (k i))) (h n)
    ∙ goes_fed give n k (give n) (λ i rest. serve sup rest (k i)) (λ i. serve_fed sup give h (k i))

-- what an access meets where there are no rows
abbrev pub bare : Regs → Memory → ℕ → Place
bare regs m k = record { regs = regs; memory = m; rows = []; step = k }

abbrev pub given_at : Place → Access → Need → Option Item
given_at p a n = given p.regs (side_of a.va) p.memory p.step n

abbrev pub fed_at : Place → Access → Reply
fed_at p a = fed_reply (given_at p a) (walk (config_of p.regs) true a)

-- no row supplies anything
supply_bare : (regs : Regs) (m : Memory) (k : ℕ) (a : Access) (n : Need) → supply (bare regs m k) a n ≡ supplied_by n (given_at (bare regs m k) a n)
supply_bare regs m k a stage1_base = refl
supply_bare regs m k a (stage2_base x) = refl
supply_bare regs m k a (word w) = refl

either_way : {X : Type 0} (b : Bool) (x y : X) → x ≡ y → cond b x x ≡ y
either_way true x y h = h
either_way false x y h = h

served_bare : (regs : Regs) (m : Memory) (k : ℕ) (a : Access) → served (bare regs m k) a ≡ fed_at (bare regs m k) a
served_bare regs m k a =
    let t = walk (config_of regs) true a in
    either_way ((config_of regs).m && not (is_refused1 (config_of regs) a)) (serve (supply (bare regs m k) a) [] t) (fed_at (bare regs m k) a)
    (serve_fed (supply (bare regs m k) a) (given_at (bare regs m k) a) (supply_bare regs m k a) t)

-- WHAT IS GIVEN IS OF NOW

none_fed_at : {A : Type 0} (test : Item → Bool) (give : Need → Option Item) (k : Item → Ask Need Item A) (o : Option Item)
    → ((i : Item) → o ≡ Some i → test i ≡ false) → ((i : Item) → list_any test (fed_items give (k i)) ≡ false)
    → list_any test (with_answer o [] (λ i. i ∷ fed_items give (k i))) ≡ false
none_fed_at test give k None h r = refl
none_fed_at test give k (Some i) h r = rw (h i refl) (r i)

-- a test that nothing given passes is passed by no item of a fed walk
none_fed : {A : Type 0} (test : Item → Bool) (give : Need → Option Item) → ((n : Need) (i : Item) → give n ≡ Some i → test i ≡ false)
    → (t : Ask Need Item A) → list_any test (fed_items give t) ≡ false
none_fed test give h (done a) = refl
none_fed test give h (ask n k) = none_fed_at test give k (give n) (h n) (λ i. none_fed test give h (k i))

mapped_from : {X Y : Type 0} (f : X → Y) (o : Option X) (y : Y) → option_map f o ≡ Some y → (x : X) × (o ≡ Some x) × (f x ≡ y)
mapped_from f None y h = absurd cc
mapped_from f (Some x) y h = (x, refl, same_Some (f x) y h)

not_below : (k : ℕ) → nat_lt k k ≡ false
not_below k = elim (cases_Bool (nat_lt k k)) [ inl t ↦ (let lt = ltb-true k k t in absurd (omega (arith, lt))) | inr f ↦ f ]

module _ (regs : Regs) (s : Side) (m : Memory) (k : ℕ) where
  -- what is given has this moment
  given_now : (n : Need) (i : Item) → given regs s m k n ≡ Some i → is_earlier k i ≡ false
  given_now stage1_base i h = subst (λ (j : Item). is_earlier k j ≡ false) (same_Some _ i h) (not_below k)
  given_now (stage2_base x) i h = subst (λ (j : Item). is_earlier k j ≡ false) (same_Some _ i h) (not_below k)
  given_now (word w) i h = let g = mapped_from (needed_item k w) (m w.place) i h in subst (λ (j : Item). is_earlier k j ≡ false) g.2 (not_below k)

  word_same : (w : WordNeed) (v : ℕ) → m w.place ≡ Some v → is_changed regs s m (needed_item k w v) ≡ false
  word_same w v e = ap (λ o. not (has_word o v)) e ∙ ap not (eq-eqb v v refl)

  -- and differs from now in nothing
  given_same : (n : Need) (i : Item) → given regs s m k n ≡ Some i → is_changed regs s m i ≡ false
  given_same stage1_base i h = subst (λ (j : Item). is_changed regs s m j ≡ false) (same_Some _ i h)
      (ap not (eq-eqb (start_base1 regs s) (start_base1 regs s) refl))
  given_same (stage2_base x) i h = subst (λ (j : Item). is_changed regs s m j ≡ false) (same_Some _ i h)
      (ap not (eq-eqb (start_base2 regs) (start_base2 regs) refl))
  given_same (word w) i h =
      let g = mapped_from (needed_item k w) (m w.place) i h in
      subst (λ (j : Item). is_changed regs s m j ≡ false) g.2 (word_same w g.0 g.1)

-- AN ACCESS

-- the answer of the fresh walk
abbrev pub fresh_answer : Place → Access → Answer
fresh_answer p a = record {
  asid = asid_of p.regs;
  vmid = vmid_of p.regs;
  outcome = fresh_outcome p.memory p.regs a p.step;
  first = fresh_items p.memory p.regs a p.step;
  second = None;
  old = false;
  stale = false;
  evicted = 0;
}

nothing_filled : (h : Header) (c : ℕ) (l : Cache) (served made : List Row) → h.size ≡ NoRows → filled h c l served made ≡ l
nothing_filled h c l served made e = ap (λ z. cond (keeps_rows z) (fold (added h c) (record l { rows = touched h.policy l.rows served }) made) l) e

abbrev visited_with : Place → Access → Bool → Bool → ℕ → Cache → Visited
visited_with p a old stale evicted l = record { answer = record (fresh_answer p a) { old = old; stale = stale; evicted = evicted }; cache = l }

visited_bare : (h : Header) (c : ℕ) (regs : Regs) (m : Memory) (k : ℕ) (l : Cache) (a : Access) → h.size ≡ NoRows →
    visited record { header = h; number = c; place = bare regs m k; cache = l } a ≡ record { answer = fresh_answer (bare regs m k) a; cache = l }
visited_bare h c regs m k l a e =
    let p : Place = bare regs m k in
    let s : Visit = record { header = h; number = c; place = p; cache = l } in
    let t = walk (config_of regs) true a in
    let give = given_at p a in
    let r : Reply = fed_at p a in
    let same : l.evictions - l.evictions ≡ 0 = omega arith in
    ap (λ (q : Reply). visited_by s a q q.halt) (served_bare regs m k a)
    ∙ ap (λ (x : Cache). visited_with p a (is_old p r.items) (is_stale p a r.items) (x.evictions - l.evictions) x)
    (nothing_filled h c l [] (made_by p a r (came (fed_end give t))) e)
    ∙ ap (λ n. visited_with p a (is_old p r.items) (is_stale p a r.items) n l) same
    ∙ ap (λ b. visited_with p a b (is_stale p a r.items) 0 l) (none_fed (is_earlier k) give (given_now regs (side_of a.va) m k) t)
    ∙ ap (λ b. visited_with p a false b 0 l) (none_fed (is_changed regs (side_of a.va) m) give (given_same regs (side_of a.va) m k) t)

-- An access over no rows, where none are kept, has the answer of the fresh walk of its moment, and leaves the rows as they were.
pub visited_fresh : (s : Visit) (a : Access) → s.header.size ≡ NoRows → s.place.rows ≡ [] →
    visited s a ≡ record { answer = fresh_answer s.place a; cache = s.cache }
visited_fresh s a e none =
    ap (λ (rows : List Row). visited (record s { place = record (s.place) { rows = rows } }) a) none
    ∙ visited_bare s.header s.number s.place.regs s.place.memory s.place.step s.cache a e

-- EVENTS

abbrev no_rows : Cache
no_rows = record { rows = []; evictions = 0 }

-- a core whose cache is as at first
abbrev IsBare : Core → Type 0
IsBare v = v.cache ≡ no_rows

bare_if : (b : Bool) (x y : Core) → IsBare x → IsBare y → IsBare (cond b x y)
bare_if true x y h k = h
bare_if false x y h k = k

bare_delivered : (v : Core) (inbox : List Inval) → IsBare v → IsBare (delivered_by v inbox)
bare_delivered v [] h = h
bare_delivered v (i ∷ later) h = ap (λ l. killed l i) h

bare_mailed : (c : ℕ) (v : Core) (o : Option Inval) → IsBare v → IsBare (mailed_by c v o)
bare_mailed c v None h = h
bare_mailed c v (Some i) h =
    bare_if (reaches_core i c) (mailed v i) v
    (bare_if (nat_lt (length v.inbox) most_held) (posted v i) (posted (delivered v) i) h (bare_delivered v v.inbox h)) h

bare_killed : (is : List Inval) (l : Cache) → l ≡ no_rows → fold killed l is ≡ no_rows
bare_killed [] l h = h
bare_killed (i ∷ is) l h = bare_killed is (killed l i) (ap (λ x. killed x i) h)

module _ (h : Header) (w : World) (none : h.size ≡ NoRows) (c : ℕ) (v : Core) (bare_before : IsBare v) where
  bare_accessed : (a : Access) → IsBare (accessed h w c v a)
  bare_accessed a = ap (λ (x : Visited). x.cache) (visited_fresh (visit_of h w c v) a none (ap (λ (l : Cache). l.rows) bare_before)) ∙ bare_before

  -- no event makes a row or evicts one
  bare_moved : (e : Event) → IsBare (moved h w e c v)
  unfolding acted
  bare_moved (Store core pa value) = bare_before
  bare_moved (Msr core reg value) = bare_before
  bare_moved (Settle core) = bare_before
  bare_moved (Isb core) = bare_before
  bare_moved (Tlbi core from op shared operand) = bare_mailed c v (issued_by (regs_in w) w.step (Tlbi core from op shared operand)) bare_before
  bare_moved (Dsb core kind) = bare_killed (filter (completes (Dsb core kind)) v.inbox) v.cache bare_before
  bare_moved (Deliver core) = bare_if (core == c) (delivered v) v (bare_delivered v v.inbox bare_before) bare_before
  bare_moved (AccessOf core access) = bare_if (core == c) (accessed h w c v access) v (bare_accessed access) bare_before
  bare_moved (Prefetch core access) = bare_if (core == c) (accessed h w c v access) v (bare_accessed access) bare_before

-- RUNS

module _ (h : Header) (log : List Step) (w : World) (all : AllFacts h log w) (none : h.size ≡ NoRows) where
  answer_fresh : (c : ℕ) → c < h.cores → IsBare (core_numbered w c) → (a : Access) → IsFreshNow h log c a (answer_in h w c a)
  answer_fresh c lt b a =
      let v : View = view_of h log c (side_of a.va) in
      let x : Core = core_numbered w c in
      let is : answer_in h w c a ≡ fresh_answer (place_of v x.cache.rows) a =
      ap (λ (u : Visited). u.answer) (visited_fresh (visit_of h w c x) a none (ap (λ (l : Cache). l.rows) b))
      ∙ ap (λ p. fresh_answer p a) (place_is h log w all c (side_of a.va) lt) in
      subst (IsFreshNow h log c a) (sym is) record { outcome = refl; first = refl; second = refl; old = refl; stale = refl; evicted = refl }

  fresh_one : ((c : ℕ) → c < h.cores → IsBare (core_numbered w c)) → (e : Event) → core_of e < h.cores → IsFreshFor h log e (answer_to h w e)
  unfolding answer_to
  fresh_one b (Store core pa value) own = refl
  fresh_one b (Msr core reg value) own = refl
  fresh_one b (Settle core) own = refl
  fresh_one b (Isb core) own = refl
  fresh_one b (Tlbi core from op shared operand) own = refl
  fresh_one b (Dsb core kind) own = refl
  fresh_one b (Deliver core) own = refl
  fresh_one b (AccessOf core a) own = answer_fresh core own (b core own) a
  fresh_one b (Prefetch core a) own = answer_fresh core own (b core own) a

abbrev AllFresh : Header → List Step → Type 0
AllFresh h log = (k : ℕ) (s : Step) → slice_get log k ≡ Some s → IsFreshFor h (take k log) s.event s.answer

module _ (serves : ServesWell) (makes : MakesWell) (h : Header) (none : h.size ≡ NoRows) where
  -- the caches are as at first, and each access was the fresh walk of its moment
  abbrev IsFreshRun : List Event → Type 0
  IsFreshRun events = AreOfCores h events → ((c : ℕ) → c < h.cores → IsBare (core_numbered (world_after h events) c)) × AllFresh h (run_of h events)

  bare_first : (c : ℕ) → c < h.cores → IsBare (core_numbered (opened h) c)
  bare_first c lt = ap (λ (v : Core). v.cache) (get_or-replicate h.cores c no_core no_core lt)

  bare_next : (w : World) (e : Event) → length w.cores ≡ h.cores → ((c : ℕ) → c < h.cores → IsBare (core_numbered w c)) → (c : ℕ)
      → c < h.cores
      → IsBare (core_numbered (after_event h w e) c)
  bare_next w e count b c lt =
      ap (λ (v : Core). v.cache) (each_at (moved h w e) w.cores c no_core (omega (arith, count, lt))) ∙ bare_moved h w none c (core_numbered w c) (b c lt) e

  fresh_run : (events : List Event) → IsFreshRun events
  fresh_run events = from_end IsFreshRun more (λ own. (bare_first, λ k s at. none_some s at)) events
    where
      more : (es : List Event) (e : Event) → IsFreshRun es → IsFreshRun (es ++ e ∷ [])
      more es e before own =
          let parts = All-pop (λ d. core_of d < h.cores) (es ++ e ∷ []) es (Some e) refl own in
          let b = before parts.0 in
          let all : AllFacts h (run_of h es) (world_after h es) = facts_of_run serves makes h es parts.0 in
          rw (run_on h es e, world_on h es e) (
            bare_next (world_after h es) e all.count b.0,
            each_more (λ l t. IsFreshFor h l t.event t.answer) (run_of h es) (step_of h (world_after h es) e) b.1
                (fresh_one h (run_of h es) (world_after h es) all none b.0 e parts.1),
          )

-- where every run has the facts of the machine
pub fresh_without_rows : ServesWell → MakesWell → RunsWithoutRowsAreFresh
fresh_without_rows serves makes h events own none = (fresh_run serves makes h none events own).1
