-- Each event keeps the facts of each core.
use Rattle.std.proofs.Common.{◌≡◌, ℕ, zero, suc, ◌+◌, ◌<◌, Bool, true, false, not, cond, List, [], ◌∷◌}
use Rattle.std.proofs.Common.{◌++◌, length, inl, inr, refl, sym, ap, ◌∙◌, subst, Option, Some, arith}
use Rattle.std.specs.Prelude.{filter, fold, get_or, nat_lt, ◌==◌}
use Rattle.std.proofs.lemmas.List.{length-append}
use Rattle.std.proofs.lemmas.Bool.{cases_Bool, both_ways, not-true}
use Rattle.std.proofs.lemmas.Option.{same_Some}
use Rattle.sysregs.specs.declared.regs.Regs.{Regs}
use Rattle.sysregs.specs.declared.regs.Side.{Side}
use Rattle.sysregs.specs.Sides.{side_of}
use Rattle.trails.specs.declared.outcome.Access.{Access}
use Rattle.trails.specs.declared.event.Event.{Event}
use Rattle.trails.specs.declared.event.Event.TheVariants.{Store, Msr, Settle, Isb, Tlbi, Dsb, Deliver, Access as AccessOf, Prefetch}
use Rattle.trails.specs.declared.step.Step.{Step}
use Rattle.tlbi_ops.specs.declared.inval.Inval.{Inval}
use Rattle.tlbi_ops.specs.Operands.{inval_of, reaches_core}
use Rattle.tlbi_ops.specs.Covers.{covers}
use Rattle.machine_spec.specs.Header.{Header}
use Rattle.machine_spec.specs.Moments.{memory_after, Bank, bank_after, banked, regs_after, stored}
use Rattle.machine_spec.specs.Invalidations.{is_at_el1, issued_by, completes}
use Rattle.machine_spec.specs.Kept.{View, now}
use Rattle.tagged_tlb.specs.declared.row.Row.{Row}
use Rattle.tagged_tlb.specs.Sets.{Cache, filled}
use Rattle.machine_spec.specs.Served.{Place, Reply, Halt, came, clash, served}
use Rattle.machine_spec.specs.Machine.{Core, World, no_core, with_bank, with_cache, killed, delivered_by, delivered, most_held, posted, mailed, finished, Visit}
use Rattle.machine_spec.specs.Machine.{made_by, visited_by, visited, visit_of, core_numbered, regs_in, acted, moved, at_each, after_event, step_of}
use Rattle.trace_lang.specs.Traces.{core_of}
use Rattle.machine_laws.proofs.Facts.{In, sided, view_of, IsApart, AllApart, Facts, AllFacts}
use Rattle.machine_laws.proofs.Fine.{place_of, ServedOk, ServesWell, longer, issued_now, MadeOk, MakesWell}
use Rattle.machine_laws.proofs.Lists.{In-filter, In-from_filter, In-left, In-last, In-push_cases, none_some}
use Rattle.machine_laws.proofs.Logs.{bank-last, memory-last, issued_in}
use Rattle.machine_laws.proofs.Pairs.{pairs_filter}
use Rattle.machine_laws.proofs.Lasting.{Stays, moves}

-- WHAT AN INBOX LOSES

pub covered_not : (b : Bool) → not b ≡ true → b ≡ true → ⊥
covered_not b h k = both_ways b (not-true b h) k

-- a core with fewer messages and fewer rows, of which none is covered by a message that is gone
record Less (w x : Core) : Type 0 where
  letters : (i : Inval) → In i x.inbox → In i w.inbox
  rows : (r : Row) → In r x.cache.rows → In r w.cache.rows × Stays w.inbox x.inbox r
  apart : AllApart w.cache.rows → AllApart x.cache.rows

less_same : (w : Core) → Less w w
less_same w = record { letters = λ i h. h; rows = λ r h. (h, λ i m cov. m); apart = λ a. a }

-- the oldest message takes effect
less_by : (w : Core) (inbox : List Inval) → w.inbox ≡ inbox → Less w (delivered_by w inbox)
less_by w [] e = less_same w
less_by w (i ∷ later) e = record {
  letters = λ j h. subst (In j) (sym e) (inr h);
  rows = λ r h.
      let p = In-from_filter (λ (x : Row). not (covers i x.tag)) w.cache.rows r h in (
        p.0,
        λ j m cov.
            let m2 : In j (i ∷ later) = subst (In j) e m in
            elim m2 [ inl q ↦ absurd (covered_not (covers i r.tag) p.1 (subst (λ x. covers x r.tag ≡ true) q cov)) | inr q ↦ q ],
      );
  apart = pairs_filter IsApart (λ (x : Row). not (covers i x.tag)) w.cache.rows;
}

-- THE MESSAGES THAT A BARRIER COMPLETES

left_apart : (is : List Inval) (l : Cache) → AllApart l.rows → AllApart (fold killed l is).rows
left_apart [] l h = h
left_apart (j ∷ js) l h = left_apart js (killed l j) (pairs_filter IsApart (λ (x : Row). not (covers j x.tag)) l.rows h)

pub rows_left : (is : List Inval) (l : Cache) (r : Row) → In r (fold killed l is).rows → In r l.rows
    × ((i : Inval) → In i is → covers i r.tag ≡ true → ⊥)
rows_left [] l r h = (h, λ i m cov. m)
rows_left (j ∷ js) l r h =
    let p = rows_left js (killed l j) r h in
    let q = In-from_filter (λ (x : Row). not (covers j x.tag)) l.rows r p.0 in
    (q.0, λ i m cov. elim m [ inl e ↦ covered_not (covers j r.tag) q.1 (subst (λ x. covers x r.tag ≡ true) e cov) | inr k ↦ p.1 i k cov ])

stays_left : (inbox : List Inval) (e : Event) (r : Row) → ((i : Inval) → In i (filter (completes e) inbox) → covers i r.tag ≡ true → ⊥)
    → Stays inbox (filter (λ i. not (completes e i)) inbox) r
stays_left inbox e r no_cover i m cov = elim (cases_Bool (completes e i)) [
  | inl t ↦ absurd (no_cover i (In-filter (completes e) inbox i m t) cov)
  | inr t ↦ In-filter (λ i. not (completes e i)) inbox i m (ap not t)
]

-- A CORE AND ONE STEP

-- the side of a view doesn't count
pub sided_facts : (v : View) (t : Side) (w : Core) → Facts v w → Facts (sided v t) w
sided_facts v t w f = record { bank_is = f.bank_is; mail = f.mail; rows = f.rows; apart = f.apart }

-- where an access is done in a core
abbrev pub visit_at : View → Place → Cache → Visit
visit_at v p l = record { header = v.header; number = v.core; place = p; cache = l }

module _ (v : View) (s : Step) (w : Core) (f : Facts v w) (b : Bank) (re : b ≡ bank_after v.core (v.log ++ s ∷ [])) where
  -- nothing is issued, and nothing completed
  less_on : (x : Core) → Less w x → ((i : Inval) → completes s.event i ≡ false) → ((i : Inval) → issued_now v s.event ≡ Some i → ⊥)
      → Facts (longer v s) (with_bank x b)
  less_on x l quiet none = moves v s w (with_bank x b) f re
      (λ i h. inl (l.letters i h, quiet i))
      (λ i h reach. absurd (none i h))
      (λ r h. inl (l.rows r h))
      (l.apart f.apart)

  -- an invalidation is issued, and reaches the core
  posted_on : (x : Core) (i : Inval) → Less w x → ((j : Inval) → completes s.event j ≡ false) → issued_now v s.event ≡ Some i
      → Facts (longer v s) (with_bank (posted x i) b)
  posted_on x i l quiet is = moves v s w (with_bank (posted x i) b) f re
      (λ j h. elim (In-push_cases x.inbox i j h) [
        | inl m ↦ inl (l.letters j m, quiet j)
        | inr q ↦ inr (ap (λ (y : Inval). y.issued) q ∙ issued_in (λ c. regs_after c v.log) (now v) s.event i is)
      ])
      (λ j h reach. let q : i ≡ j = same_Some i j (sym is ∙ h) in subst (λ y. In y (x.inbox ++ i ∷ [])) q (In-last x.inbox i))
      (λ r h. let p = l.rows r h in inl (p.0, λ j m cov. In-left x.inbox (i ∷ []) j (p.1 j m cov)))
      (l.apart f.apart)

  mailed_on : (i : Inval) (room : Bool) → ((j : Inval) → completes s.event j ≡ false) → issued_now v s.event ≡ Some i
      → Facts (longer v s) (with_bank (cond room (posted w i) (posted (delivered w) i)) b)
  mailed_on i true quiet is = posted_on w i (less_same w) quiet is
  mailed_on i false quiet is = posted_on (delivered w) i (less_by w w.inbox refl) quiet is

  issued_on : (i : Inval) (reach : Bool) → reaches_core i v.core ≡ reach → ((j : Inval) → completes s.event j ≡ false)
      → issued_now v s.event ≡ Some i
      → Facts (longer v s) (with_bank (cond reach (mailed w i) w) b)
  issued_on i true e quiet is = mailed_on i (nat_lt (length w.inbox) most_held) quiet is
  issued_on i false e quiet is = moves v s w (with_bank w b) f re
      (λ j h. inl (h, quiet j))
      (λ j h reach. let q : i ≡ j = same_Some i j (sym is ∙ h) in
      absurd (both_ways (reaches_core i v.core) e (subst (λ y. reaches_core y v.core ≡ true) (sym q) reach)))
      (λ r h. inl (h, λ j m cov. m))
      f.apart

  -- a barrier
  finished_on : ((i : Inval) → issued_now v s.event ≡ Some i → ⊥) → Facts (longer v s) (with_bank (finished w s.event) b)
  finished_on none = moves v s w (with_bank (finished w s.event) b) f re
      (λ i h. let p = In-from_filter (λ (i : Inval). not (completes s.event i)) w.inbox i h in inl (p.0, not-true (completes s.event i) p.1))
      (λ i h reach. absurd (none i h))
      (λ r h. let p = rows_left (filter (completes s.event) w.inbox) w.cache r h in inl (p.0, stays_left w.inbox s.event r p.1))
      (left_apart (filter (completes s.event) w.inbox) w.cache f.apart)

  delivered_on : (own : Bool) → ((i : Inval) → completes s.event i ≡ false) → ((i : Inval) → issued_now v s.event ≡ Some i → ⊥)
      → Facts (longer v s) (with_bank (cond own (delivered w) w) b)
  delivered_on true quiet none = less_on (delivered w) (less_by w w.inbox refl) quiet none
  delivered_on false quiet none = less_on w (less_same w) quiet none

  -- rows that an access makes
  made_on : (l : Cache) → MadeOk v s w l → ((i : Inval) → completes s.event i ≡ false) → ((i : Inval) → issued_now v s.event ≡ Some i → ⊥)
      → Facts (longer v s) (with_bank (with_cache w l) b)
  made_on l m quiet none = moves v s w (with_bank (with_cache w l) b) f re
      (λ i h. inl (h, quiet i))
      (λ i h reach. absurd (none i h))
      (λ r h. elim (m.rows r h) [ inl old ↦ inl (old, λ i k cov. k) | inr new ↦ inr new ])
      m.apart

  visited_on : MakesWell → (a : Access) → v.side ≡ side_of a.va
      → ((i : Inval) → completes s.event i ≡ false) → ((i : Inval) → issued_now v s.event ≡ Some i → ⊥)
      → (r : Reply) → ServedOk v w.cache.rows a r → (t : Halt) → r.halt ≡ t
      → Facts (longer v s) (with_bank (with_cache w (visited_by (visit_at v (place_of v w.cache.rows) w.cache) a r t).cache) b)
  visited_on makes a side quiet none r ok (came end) e =
      made_on (filled v.header v.core w.cache r.by (made_by (place_of v w.cache.rows) a r (came end))) (makes v w a s r end side none f ok e) quiet none
  visited_on makes a side quiet none r ok (clash one two) e = less_on w (less_same w) quiet none

  accessed_on : ServesWell → MakesWell → (a : Access) → v.side ≡ side_of a.va
      → ((i : Inval) → completes s.event i ≡ false) → ((i : Inval) → issued_now v s.event ≡ Some i → ⊥)
      → Facts (longer v s) (with_bank (with_cache w (visited (visit_at v (place_of v w.cache.rows) w.cache) a).cache) b)
  accessed_on serves makes a side quiet none =
      let r : Reply = served (place_of v w.cache.rows) a in
      visited_on makes a side quiet none r (serves v w a side f) r.halt refl

-- an access by a core, whatever the side of the view
access_on : ServesWell → MakesWell → (v : View) (s : Step) (w : Core) → Facts v w → (b : Bank) → b ≡ bank_after v.core (v.log ++ s ∷ [])
    → (p : Place) → p ≡ place_of v w.cache.rows → (a : Access) (own : Bool)
    → ((i : Inval) → completes s.event i ≡ false) → ((i : Inval) → issued_now v s.event ≡ Some i → ⊥)
    → Facts (longer v s) (with_bank (cond own (with_cache w (visited (visit_at v p w.cache) a).cache) w) b)
access_on serves makes v s w f b re p e a true quiet none =
    let u : View = sided v (side_of a.va) in
    let x : Core = with_bank (with_cache w (visited (visit_at v (place_of v w.cache.rows) w.cache) a).cache) b in
    let g : Facts (longer u s) x = accessed_on u s w (sided_facts v (side_of a.va) w f) b re serves makes a refl quiet none in
    subst (λ (q : Place). Facts (longer v s) (with_bank (with_cache w (visited (visit_at v q w.cache) a).cache) b)) (sym e)
    (sided_facts (longer u s) v.side x g)
access_on serves makes v s w f b re p e a false quiet none = less_on v s w f b re w (less_same w) quiet none

-- A CORE OF THE MACHINE

-- a function of number and value at one place of a list
each_from : {X : Type 0} (f : ℕ → X → X) (n : ℕ) (xs : List X) (c : ℕ) (d : X) → c < length xs
    → get_or (at_each f n xs) c d ≡ f (n + c) (get_or xs c d)
each_from f n [] c d lt = absurd (omega arith)
each_from f n (x ∷ xs) zero d lt = ap (λ k. f k x) (omega arith)
each_from f n (x ∷ xs) (suc c) d lt = each_from f (n + 1) xs c d (omega arith) ∙ ap (λ k. f k (get_or xs c d)) (omega arith)

pub each_at : {X : Type 0} (f : ℕ → X → X) (xs : List X) (c : ℕ) (d : X) → c < length xs → get_or (at_each f 0 xs) c d ≡ f c (get_or xs c d)
each_at f xs c d lt = each_from f 0 xs c d lt ∙ ap (λ k. f k (get_or xs c d)) (omega arith)

pub each_length : {X : Type 0} (f : ℕ → X → X) (n : ℕ) (xs : List X) → length (at_each f n xs) ≡ length xs
each_length f n [] = refl
each_length f n (x ∷ xs) = ap suc (each_length f (n + 1) xs)

abbrev place_with : Regs → (ℕ → Option ℕ) → List Row → ℕ → Place
place_with regs memory rows step = record { regs = regs; memory = memory; rows = rows; step = step }

module _ (h : Header) (log : List Step) (w : World) (all : AllFacts h log w) where
  -- what a core meets is what the facts say
  pub place_is : (c : ℕ) (t : Side) → c < h.cores → (visit_of h w c (core_numbered w c)).place ≡ place_of (view_of h log c t)
      (core_numbered w c).cache.rows
  place_is c t lt =
      let rows : List Row = (core_numbered w c).cache.rows in
      ap (λ (b : Bank). place_with b.regs w.memory rows w.step) (all.each c t lt).bank_is
      ∙ ap (λ m. place_with (regs_after c log) m rows w.step) all.memory_is
      ∙ ap (λ k. place_with (regs_after c log) (memory_after h log) rows k) all.step_is

  bank_on : (c : ℕ) (t : Side) → c < h.cores → (s : Step) → banked c (core_numbered w c).bank s.event ≡ bank_after c (log ++ s ∷ [])
  bank_on c t lt s = ap (λ b. banked c b s.event) (all.each c t lt).bank_is ∙ sym (bank-last c log s)

  module _ (serves : ServesWell) (makes : MakesWell) (c : ℕ) (t : Side) (lt : c < h.cores) where
    advance : (e : Event) → core_of e < h.cores → Facts (longer (view_of h log c t) (step_of h w e)) (moved h w e c (core_numbered w c))
    unfolding acted completes issued_by
    advance (Store core pa value) own =
        let s : Step = step_of h w (Store core pa value) in
        let x : Core = core_numbered w c in
        less_on (view_of h log c t) s x (all.each c t lt) (banked c x.bank s.event) (bank_on c t lt s) x (less_same x) (λ i. refl) (λ i k. none_some i k)
    advance (Msr core reg value) own =
        let s : Step = step_of h w (Msr core reg value) in
        let x : Core = core_numbered w c in
        less_on (view_of h log c t) s x (all.each c t lt) (banked c x.bank s.event) (bank_on c t lt s) x (less_same x) (λ i. refl) (λ i k. none_some i k)
    advance (Settle core) own =
        let s : Step = step_of h w (Settle core) in
        let x : Core = core_numbered w c in
        less_on (view_of h log c t) s x (all.each c t lt) (banked c x.bank s.event) (bank_on c t lt s) x (less_same x) (λ i. refl) (λ i k. none_some i k)
    advance (Isb core) own =
        let s : Step = step_of h w (Isb core) in
        let x : Core = core_numbered w c in
        less_on (view_of h log c t) s x (all.each c t lt) (banked c x.bank s.event) (bank_on c t lt s) x (less_same x) (λ i. refl) (λ i k. none_some i k)
    advance (Tlbi core from op shared operand) own =
        let s : Step = step_of h w (Tlbi core from op shared operand) in
        let x : Core = core_numbered w c in
        let i : Inval = inval_of op shared (is_at_el1 from) operand (regs_in w core) core w.step in
        issued_on (view_of h log c t) s x (all.each c t lt) (banked c x.bank s.event) (bank_on c t lt s) i (reaches_core i c) refl (λ j. refl)
        (ap (λ (b : Bank). Some (inval_of op shared (is_at_el1 from) operand b.regs core (length log))) (sym (all.each core t own).bank_is)
        ∙ ap (λ k. Some (inval_of op shared (is_at_el1 from) operand (regs_in w core) core k)) (sym all.step_is))
    advance (Dsb core kind) own =
        let s : Step = step_of h w (Dsb core kind) in
        let x : Core = core_numbered w c in
        finished_on (view_of h log c t) s x (all.each c t lt) (banked c x.bank s.event) (bank_on c t lt s) (λ i k. none_some i k)
    advance (Deliver core) own =
        let s : Step = step_of h w (Deliver core) in
        let x : Core = core_numbered w c in
        delivered_on (view_of h log c t) s x (all.each c t lt) (banked c x.bank s.event) (bank_on c t lt s) (core == c) (λ i. refl) (λ i k. none_some i k)
    advance (AccessOf core a) own =
        let s : Step = step_of h w (AccessOf core a) in
        let x : Core = core_numbered w c in
        access_on serves makes (view_of h log c t) s x (all.each c t lt) (banked c x.bank s.event) (bank_on c t lt s)
        (visit_of h w c x).place (place_is c t lt) a (core == c) (λ i. refl) (λ i k. none_some i k)
    advance (Prefetch core a) own =
        let s : Step = step_of h w (Prefetch core a) in
        let x : Core = core_numbered w c in
        access_on serves makes (view_of h log c t) s x (all.each c t lt) (banked c x.bank s.event) (bank_on c t lt s)
        (visit_of h w c x).place (place_is c t lt) a (core == c) (λ i. refl) (λ i k. none_some i k)

    each_on : (e : Event) → core_of e < h.cores → Facts (view_of h (log ++ step_of h w e ∷ []) c t) (core_numbered (after_event h w e) c)
    each_on e own =
        subst (Facts (longer (view_of h log c t) (step_of h w e))) (sym (each_at (moved h w e) w.cores c no_core (omega (arith, all.count)))) (advance e own)

-- every event of a core of the machine keeps the facts
pub keeps : ServesWell → MakesWell → (h : Header) (log : List Step) (w : World) → AllFacts h log w → (e : Event) → core_of e < h.cores
    → AllFacts h (log ++ step_of h w e ∷ []) (after_event h w e)
keeps serves makes h log w all e own = record {
  step_is = simp length-append (omega (arith, all.step_is));
  memory_is = ap (λ m. stored m e) all.memory_is ∙ sym (memory-last h log (step_of h w e));
  count = each_length (moved h w e) 0 w.cores ∙ all.count;
  each = λ c t lt. each_on h log w all serves makes c t lt e own;
}
