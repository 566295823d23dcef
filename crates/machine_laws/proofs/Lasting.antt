-- Facts of a core in a longer log: one step of a core, whatever it does, keeps them.
use Rattle.std.proofs.Common.{◌≡◌, ℕ, ◌<◌, ◌≤◌, true, false, List, [], ◌∷◌, ◌++◌, length}
use Rattle.std.proofs.Common.{◌⊎◌, inl, inr, sym, ap, ◌∙◌, subst, Option, Some, None, arith}
use Rattle.std.proofs.lemmas.List.{length-append}
use Rattle.std.proofs.lemmas.Bool.{cases_lt, both_ways}
use Rattle.std.proofs.lemmas.Option.{same_Some}
use Rattle.sysregs.specs.declared.regs.Config.{Config}
use Rattle.sysregs.specs.declared.regs.Side.{Side}
use Rattle.sysregs.specs.Registers.{config_of, asid_of, vmid_of}
use Rattle.sysregs.specs.Sides.{side_of}
use Rattle.trails.specs.declared.event.Event.{Event}
use Rattle.trails.specs.declared.step.Step.{Step}
use Rattle.tlbi_ops.specs.declared.inval.Inval.{Inval}
use Rattle.tlbi_ops.specs.Operands.{reaches_core}
use Rattle.tlbi_ops.specs.Covers.{covers}
use Rattle.walk_spec.specs.Needs.{regime_of}
use Rattle.walk_spec.specs.BothStages.{walk}
use Rattle.tagged_tlb.specs.declared.row.Made.{Made}
use Rattle.tagged_tlb.specs.declared.row.Kind.{Kind}
use Rattle.tagged_tlb.specs.declared.row.Kind.TheVariants.{Leaf1, Table1, Leaf2, Table2}
use Rattle.machine_spec.specs.Moments.{bank_after}
use Rattle.machine_spec.specs.Invalidations.{event_at, inval_at, completes, IsComplete}
use Rattle.machine_spec.specs.Marks.{Mark, marks, tag_by}
use Rattle.machine_spec.specs.Kept.{View, now, regs_when, base_by, tag_of, IsHeld, IsKeptItem}
use Rattle.tagged_tlb.specs.declared.row.Row.{Row}
use Rattle.machine_spec.specs.Machine.{Core}
use Rattle.machine_laws.proofs.Trees.{chain}
use Rattle.machine_laws.proofs.Facts.{In, sided, regime_for, IsLast, IsStored, IsRowBy, IsRow, AllApart, Facts}
use Rattle.machine_laws.proofs.Fine.{longer, issued_now}
use Rattle.machine_laws.proofs.Logs.{event-old, event-last, inval-old, inval-last, inval-within, regs-old, memory-old, issued_at}
use Rattle.machine_laws.proofs.Uses.{used_map}

-- what a row promises holds of a weaker condition too, and doesn't look at its number
pub numbered_by : (P Q : Side → Mark → Option ℕ → Type 0) → ((s : Side) (m : Mark) (o : Option ℕ) → P s m o → Q s m o)
    → (r : Row) (d : Made) (k : Kind)
    → IsRowBy P r k → IsRowBy Q (record r { made = d }) k
numbered_by P Q f r d Leaf1 h = λ a s.
    let g = h a (record { held = s.held; on = s.on; accepted = s.accepted }) in
    record {
      landing = g.landing;
      on = g.on;
      class_is = g.class_is;
      global_is = g.global_is;
      stored =
          used_map (P (side_of a.va)) (Q (side_of a.va)) (f (side_of a.va)) None (marks (regime_for r.key.config a) (walk r.key.config false a) r.trail)
          g.stored;
    }
numbered_by P Q f r d Table1 h = (
  h.0,
  λ a s.
      let g = h.1 a (record { held = s.held; on = s.on; accepted = s.accepted }) in
      record {
        plan = g.plan;
        on = g.on;
        sound = g.sound;
        late = g.late;
        front = g.front;
        last = g.last;
        is = g.is;
        first = g.first;
        word = g.word;
        to_table = g.to_table;
        stored = used_map (P (side_of a.va)) (Q (side_of a.va)) (f (side_of a.va)) None (g.front ++ g.last ∷ []) g.stored;
      },
)
numbered_by P Q f r d Leaf2 h = (
  h.0,
  h.1,
  λ s p x i.
      let g = h.2 s p x i in
      record {
        leaf = g.leaf;
        on = g.on;
        class_is = g.class_is;
        stored = used_map (P s) (Q s) (f s) None (marks (regime_of r.key.config s) (chain (regime_of r.key.config s) p x) r.trail) g.stored;
      },
)
numbered_by P Q f r d Table2 h = (
  h.0,
  h.1,
  λ s p x i.
      let g = h.2 s p x i in
      record {
        need = g.need;
        go = g.go;
        words = g.words;
        on = g.on;
        stored = used_map (P s) (Q s) (f s) None (marks (regime_of r.key.config s) (chain (regime_of r.key.config s) p x) r.trail) g.stored;
      },
)

pub row_map : (P Q : Side → Mark → Option ℕ → Type 0) → ((s : Side) (m : Mark) (o : Option ℕ) → P s m o → Q s m o) → (r : Row) (k : Kind)
    → IsRowBy P r k
    → IsRowBy Q r k
row_map P Q f r k h = numbered_by P Q f r r.made k h

-- no message that covers a row is gone
abbrev pub Stays : List Inval → List Inval → Row → Type 0
Stays inbox next r = (i : Inval) → In i inbox → covers i r.tag ≡ true → In i next

pub at_last : (log : List Step) (s : Step) (k : ℕ) → length log ≤ k → k < length (log ++ s ∷ []) → k ≡ length log
at_last log s k h j = let j2 = simp length-append at j in omega arith

-- A VIEW AND ONE MORE STEP

module _ (v : View) (s : Step) where
  pub held_on : (cf : Config) (vm : ℕ) (m : Mark) → m.item.moment ≤ now v → IsHeld v cf vm m → IsHeld (longer v s) cf vm m
  held_on cf vm m h f =
      let e : regs_when (longer v s) m.item.moment ≡ regs_when v m.item.moment = regs-old v.log s v.core m.item.moment h in
      record {
        config_was = ap config_of e ∙ f.config_was;
        vmid_was = ap vmid_of e ∙ f.vmid_was;
        base = λ b. ap (λ g. base_by g v.side m.stage) e ∙ f.base b;
        word = λ b. ap (λ (w : ℕ → Option ℕ). w m.item.pa) (memory-old v.header v.log s m.item.moment h) ∙ f.word b;
      }

  pub complete_on : (use_ : ℕ) (i : Inval) → use_ ≤ now v → IsComplete (v.log ++ s ∷ []) use_ i → IsComplete v.log use_ i
  complete_on use_ i h d = record {
    step = d.step;
    event = d.event;
    later = d.later;
    earlier = d.earlier;
    ends = d.ends;
    is = sym (event-old v.log s d.step (omega (arith, d.earlier))) ∙ d.is;
  }

  pub tag_on : (m : Mark) → m.item.moment ≤ now v → tag_of (longer v s) m ≡ tag_of v m
  tag_on m h = ap (λ g. tag_by g m) (regs-old v.log s v.core m.item.moment h)

  -- an item that may be relied on up to its use may be so in a longer log
  pub kept_on : (cf : Config) (vm : ℕ) (m : Mark) (use_ : ℕ) → use_ ≤ now v → IsKeptItem v cf vm m use_ → IsKeptItem (longer v s) cf vm m use_
  kept_on cf vm m use_ h f = record {
    past = f.past;
    held = held_on cf vm m (omega (arith, f.past)) f.held;
    at_base = f.at_base;
    live = λ word k i after at reach cov done_.
        let e : i.issued ≡ k = issued_at (v.log ++ s ∷ []) k i at in
        let lt : k < length v.log = omega (arith, e, done_.later, done_.earlier) in
        f.live word k i after (sym (inval-old v.log s k lt) ∙ at) reach (subst (λ t. covers i t ≡ true) (tag_on m (omega (arith, f.past))) cov)
        (complete_on use_ i h done_);
    asid = λ n. ap asid_of (regs-old v.log s v.core m.item.moment (omega (arith, f.past))) ∙ f.asid n ∙ sym (ap asid_of (regs-old v.log s v.core use_ h));
  }

  pending_on : (inbox next : List Inval) (r : Row) (m : Mark) → Stays inbox next r
      → ((i : Inval) → issued_now v s.event ≡ Some i → reaches_core i v.core ≡ true → In i next)
      → IsLast v inbox r m
      → (k : ℕ) (i : Inval) → m.item.moment ≤ k → inval_at (v.log ++ s ∷ []) k ≡ Some i → reaches_core i v.core ≡ true
      → covers i r.tag ≡ true
      → (k < length v.log) ⊎ (length v.log ≤ k) → In i next
  pending_on inbox next r m old new f k i h j reach cov (inl lt) =
      old i (f.pending k i h (sym (inval-old v.log s k lt) ∙ j) reach cov) cov
  pending_on inbox next r m old new f k i h j reach cov (inr ge) =
      let e : k ≡ length v.log = at_last v.log s k ge (inval-within (v.log ++ s ∷ []) k i j) in
      let j2 : inval_at (v.log ++ s ∷ []) (length v.log) ≡ Some i = subst (λ n. inval_at (v.log ++ s ∷ []) n ≡ Some i) e j in
      new i (sym (inval-last v.log s) ∙ j2) reach

  -- an item of a row's trail stays so
  pub stored_on : (inbox next : List Inval) (r : Row) → Stays inbox next r
      → ((i : Inval) → issued_now v s.event ≡ Some i → reaches_core i v.core ≡ true → In i next)
      → (m : Mark) (o : Option ℕ) → IsStored v inbox r m o → IsStored (longer v s) next r m o
  stored_on inbox next r old new m None f =
      let b : m.item.moment ≤ length v.log = omega (arith, f.before) in
      record {
        before = simp length-append (omega (arith, f.before));
        held = held_on r.key.config r.key.vmid m b f.held;
        word = f.word;
        tag_is = tag_on m b ∙ f.tag_is;
        pending = λ k i h j reach cov. pending_on inbox next r m old new f k i h j reach cov (cases_lt k (length v.log));
        asid = λ n. (ap asid_of (regs-old v.log s v.core m.item.moment b) ∙ (f.asid n).0, (f.asid n).1);
      }
  stored_on inbox next r old new m (Some u) f = (kept_on r.key.config r.key.vmid m u (omega (arith, f.1)) f.0, simp length-append (omega (arith, f.1)))

-- a row of a core stays one
pub row_on : (v : View) (s : Step) (inbox next : List Inval) (r : Row) → Stays inbox next r
    → ((i : Inval) → issued_now v s.event ≡ Some i → reaches_core i v.core ≡ true → In i next)
    → IsRow v inbox r → IsRow (longer v s) next r
row_on v s inbox next r old new f =
    row_map (λ t. IsStored (sided v t) inbox r) (λ t. IsStored (sided (longer v s) t) next r) (λ t. stored_on (sided v t) s inbox next r old new) r r.kind f

module _ (v : View) (s : Step) where
  unfinished_on : (i : Inval) → (IsComplete v.log (now v) i → ⊥) → completes s.event i ≡ false
      → (d : ℕ) (e : Event) → i.issued < d → d < length (v.log ++ s ∷ []) → event_at (v.log ++ s ∷ []) d ≡ Some e → completes e i ≡ true
      → (d < length v.log) ⊎ (length v.log ≤ d) → ⊥
  unfinished_on i f isnt d e after lt at ends (inl h) =
      f (record { step = d; event = e; later = after; earlier = h; is = sym (event-old v.log s d h) ∙ at; ends = ends })
  unfinished_on i f isnt d e after lt at ends (inr ge) =
      let q : d ≡ length v.log = at_last v.log s d ge lt in
      let at2 : event_at (v.log ++ s ∷ []) (length v.log) ≡ Some e = subst (λ n. event_at (v.log ++ s ∷ []) n ≡ Some e) q at in
      let same : s.event ≡ e = same_Some s.event e (sym (event-last v.log s) ∙ at2) in
      both_ways (completes e i) (subst (λ w. completes w i ≡ false) same isnt) ends

  mail_case : (i : Inval)
      → ((i.issued < now v) × (IsComplete v.log (now v) i → ⊥) × (completes s.event i ≡ false)) ⊎ (i.issued ≡ now v)
      → (i.issued < now (longer v s)) × (IsComplete (v.log ++ s ∷ []) (now (longer v s)) i → ⊥)
  mail_case i (inl h) =
      (simp length-append (omega (arith, h.0)), λ d. unfinished_on i h.1 h.2 d.step d.event d.later d.earlier d.is d.ends (cases_lt d.step (length v.log)))
  mail_case i (inr e) = (simp length-append (omega arith), λ d. let lt = d.earlier in let lt2 = simp length-append at lt in omega (arith, d.later))

  -- One step of a core, whatever it does, keeps the facts: each message after it is an old one that the event doesn't
  -- complete, or was issued now; a new one that reaches the core is in its inbox; each row after it is an old one of which
  -- no covering message is gone, or has its fact in the longer log.
  pub moves : (w next : Core) → Facts v w
      → next.bank ≡ bank_after v.core (v.log ++ s ∷ [])
      → ((i : Inval) → In i next.inbox → (In i w.inbox × (completes s.event i ≡ false)) ⊎ (i.issued ≡ now v))
      → ((i : Inval) → issued_now v s.event ≡ Some i → reaches_core i v.core ≡ true → In i next.inbox)
      → ((r : Row) → In r next.cache.rows → (In r w.cache.rows × Stays w.inbox next.inbox r) ⊎ IsRow (longer v s) next.inbox r)
      → AllApart next.cache.rows
      → Facts (longer v s) next
  moves w next f re letters new rows apart = record {
    bank_is = re;
    mail = λ i h. mail_case i (elim (letters i h) [ inl p ↦ inl ((f.mail i p.0).0, (f.mail i p.0).1, p.1) | inr e ↦ inr e ]);
    rows = λ r h. elim (rows r h) [ inl p ↦ row_on v s w.inbox next.inbox r p.1 new (f.rows r p.0) | inr g ↦ g ];
    apart = apart;
  }
