-- Behind a broadcast VMALLS12E1 and the barrier of its issuer no core has a row of its VMID that was made before it.
use Rattle.std.proofs.Common.{◌≡◌, ℕ, ◌+◌, ◌<◌, ◌⊎◌, Bool, true, false, not, cond, List, [], ◌∷◌}
use Rattle.std.proofs.Common.{◌++◌, length, inl, inr, refl, sym, ap, ◌∙◌, subst, arith, Option, Some, None}
use Rattle.std.specs.Prelude.{filter, fold, nat_lt, All, ◌==◌, ◌&&◌}
use Rattle.std.proofs.lemmas.Bool.{both_ways, cases_Bool, eq-eqb}
use Rattle.std.proofs.lemmas.List.{length-replicate, get_or-replicate}
use Rattle.std.proofs.lemmas.List.Sums.{fold_push, fold-append}
use Rattle.sysregs.specs.declared.regs.Regs.{Regs}
use Rattle.sysregs.specs.declared.regs.Op.TheVariants.{Vmalls12e1}
use Rattle.sysregs.specs.Registers.{config_of, vmid_of}
use Rattle.sysregs.specs.Sides.{side_of}
use Rattle.fault_codes.specs.declared.fault.Stage.{Stage}
use Rattle.fault_codes.specs.declared.fault.Stage.TheVariants.{S1, S2}
use Rattle.trails.specs.declared.item.Item.{Item}
use Rattle.trails.specs.declared.outcome.Access.{Access}
use Rattle.trails.specs.declared.event.Event.{Event}
use Rattle.trails.specs.declared.event.Event.TheVariants.{Store, Msr, Settle, Isb, Tlbi, Dsb, Deliver, Access as AccessOf, Prefetch}
use Rattle.trails.specs.declared.event.Barrier.TheVariants.{Ish}
use Rattle.trails.specs.declared.event.Origin.TheVariants.{El2}
use Rattle.tlbi_ops.specs.declared.inval.Inval.{Inval}
use Rattle.tlbi_ops.specs.Operands.{inval_of, reaches_core}
use Rattle.tlbi_ops.specs.Covers.{covers}
use Rattle.walk_spec.specs.Ask.{Fed, ended, lacks}
use Rattle.walk_spec.specs.Needs.{Need, regime_of}
use Rattle.walk_spec.specs.Steps.{End, stops, reaches}
use Rattle.walk_spec.specs.Stage1.{untagged}
use Rattle.walk_spec.specs.BothStages.{Landing, walk}
use Rattle.tagged_tlb.specs.declared.row.Kind.{Kind}
use Rattle.tagged_tlb.specs.declared.row.Kind.TheVariants.{Table1, Leaf2, Table2}
use Rattle.machine_spec.specs.Header.{Header}
use Rattle.machine_spec.specs.Invalidations.{issued_by, completes}
use Rattle.machine_spec.specs.Marks.{Part, nothing, table, leaf_of_stage1, leaf_of_stage2, Mark, marks, is_leaf1}
use Rattle.tagged_tlb.specs.declared.row.Row.{Row}
use Rattle.machine_spec.specs.Made.{Maker, key_for, only_if, row_of, rows_by, is_read_now, chain_with, rows_of}
use Rattle.machine_spec.specs.Made.{last_first, leaf_row, leaf_rows, combined_rows, numbered, rows_made}
use Rattle.machine_spec.specs.Served.{Place, Reply, Halt, came, clash, served}
use Rattle.machine_spec.specs.Machine.{Core, World, no_core, delivered_by, delivered, most_held, posted, mailed, mailed_by, finished, Visit, made_by}
use Rattle.machine_spec.specs.Machine.{visited_by, visit_of, core_numbered, regs_in, accessed, acted, moved, after_event, opened, world_after}
use Rattle.machine_laws.specs.Rules.{NoRowOutlivesItsVmid}
use Rattle.machine_laws.proofs.Facts.{In}
use Rattle.machine_laws.proofs.Lists.{In-filter, In-from_filter, In-left, In-last, In-append}
use Rattle.machine_laws.proofs.Events.{each_at, each_length, covered_not, rows_left}
use Rattle.machine_laws.proofs.Sets.{In-filled}
use Rattle.machine_laws.proofs.Quiet.{barrier_empties_inboxes}
use Rattle.machine_laws.proofs.Own.{served_live, all_of_in, in_of_all}

-- THE ROWS THAT A STEP MAKES

-- a row that was made in a step, with the VMID of its key in what invalidations look at
pub record IsNew (step : ℕ) (r : Row) : Type 0 where
  pub vmid : r.tag.vmid ≡ r.key.vmid
  pub step_is : r.made.step ≡ step

key_vmid : (regs : Regs) (s : Stage) → vmid_of regs ≡ (key_for regs s).vmid
key_vmid regs S1 = refl
key_vmid regs S2 = refl

new_if : (b : Bool) (n : ℕ) (r x : Row) → IsNew n r → In x (only_if b r) → IsNew n x
new_if true n r x h (inl e) = subst (IsNew n) (sym e) h
new_if true n r x h (inr i) = absurd i
new_if false n r x h i = absurd i

module _ (k : Maker) where
  row_new : (m : Mark) (kind : Kind) (trail : List Item) → IsNew k.step (row_of k m kind trail)
  row_new m kind trail = record { vmid = key_vmid k.regs m.stage; step_is = refl }

  by_new : (m : Mark) (whole chain : List Item) (s : Stage) (part : Part) (x : Row) → In x (rows_by k m whole chain s part) → IsNew k.step x
  by_new m whole chain S1 nothing x i = absurd i
  by_new m whole chain S1 (table cached) x i = new_if cached k.step (row_of k m Table1 whole) x (row_new m Table1 whole) i
  by_new m whole chain S1 (leaf_of_stage1 global) x i = absurd i
  by_new m whole chain S1 (leaf_of_stage2 cached) x i = absurd i
  by_new m whole chain S2 nothing x i = absurd i
  by_new m whole chain S2 (table cached) x i = new_if cached k.step (row_of k m Table2 chain) x (row_new m Table2 chain) i
  by_new m whole chain S2 (leaf_of_stage1 global) x i = absurd i
  by_new m whole chain S2 (leaf_of_stage2 cached) x i = new_if cached k.step (row_of k m Leaf2 chain) x (row_new m Leaf2 chain) i

  read_new : (m : Mark) (whole chain : List Item) (b : Bool) (x : Row) → In x (cond b (rows_by k m whole chain m.stage m.part) []) → IsNew k.step x
  read_new m whole chain true x i = by_new m whole chain m.stage m.part x i
  read_new m whole chain false x i = absurd i

  pub rows_new : (ms : List Mark) (whole chain : List Item) (x : Row) → In x (rows_of k whole chain ms) → IsNew k.step x
  rows_new [] whole chain x i = absurd i
  rows_new (m ∷ ms) whole chain x i =
      let whole2 : List Item = whole ++ m.item ∷ [] in
      let chain2 : List Item = chain_with chain m in
      elim (In-append (cond (is_read_now k m) (rows_by k m whole2 chain2 m.stage m.part) []) (rows_of k whole2 chain2 ms) x i) [
        | inl j ↦ read_new m whole2 chain2 (is_read_now k m) x j
        | inr j ↦ rows_new ms whole2 chain2 x j
      ]

  leaf_new : (class address : ℕ) (trail : List Item) (last : Option Mark) (x : Row) → In x (leaf_rows k class address trail last) → IsNew k.step x
  leaf_new class address trail None x i = absurd i
  leaf_new class address trail (Some m) x i =
      new_if (is_leaf1 m && is_read_now k m) k.step (leaf_row k class address m trail) x (record { vmid = key_vmid k.regs m.stage; step_is = refl }) i

  pub combined_new : (address : ℕ) (trail : List Item) (ms : List Mark) (end : Fed Need (End Landing)) (x : Row)
      → In x (combined_rows k address trail ms end) → IsNew k.step x
  combined_new address trail ms (ended (stops f)) x i = absurd i
  combined_new address trail ms (ended (reaches l)) x i = leaf_new l.class address trail (last_first ms) x i
  combined_new address trail ms (lacks n) x i = absurd i

  numbered_new : (rs : List Row) (order : ℕ) → ((x : Row) → In x rs → IsNew k.step x) → (x : Row) → In x (numbered order rs) → IsNew k.step x
  numbered_new [] order h x i = absurd i
  numbered_new (r ∷ rs) order h x (inl e) =
      let n : IsNew k.step r = h r (inl refl) in subst (IsNew k.step) (sym e) (record { vmid = n.vmid; step_is = n.step_is })
  numbered_new (r ∷ rs) order h x (inr i) = numbered_new rs (order + 1) (λ y j. h y (inr j)) x i

  -- each row that a step makes is new
  pub made_new : (address : ℕ) (trail : List Item) (ms : List Mark) (end : Fed Need (End Landing)) (x : Row)
      → In x (rows_made k address trail ms end) → IsNew k.step x
  made_new address trail ms end x i =
      numbered_new (rows_of k [] [] ms ++ combined_rows k address trail ms end) 0
      (λ y j. elim (In-append (rows_of k [] [] ms) (combined_rows k address trail ms end) y j) [
        | inl a ↦ rows_new ms [] [] y a
        | inr b ↦ combined_new address trail ms end y b
      ])
      x i

reply_new : (p : Place) (a : Access) (r : Reply) (t : Halt) (x : Row) → In x (made_by p a r t) → IsNew p.step x
reply_new p a r (came end) x i =
    let c = config_of p.regs in
    made_new (record { regs = p.regs; step = p.step }) (untagged a.va) r.items
    (marks (regime_of c (side_of a.va)) (walk c true a) r.items) end x i
reply_new p a r (clash one two) x i = absurd i

-- each row behind an access was there, or is new
visited_rows : (s : Visit) (a : Access) (r : Reply) → ((x : Row) → In x r.by → In x s.cache.rows) → (t : Halt) (x : Row)
    → In x (visited_by s a r t).cache.rows → In x s.cache.rows ⊎ IsNew s.place.step x
visited_rows s a r live (came end) x i = elim (In-filled s.header s.number s.cache r.by (made_by s.place a r (came end)) x i) [
  | inl (inl j) ↦ inl j
  | inl (inr j) ↦ inl (live x j)
  | inr j ↦ inr (reply_new s.place a r (came end) x j)
]
visited_rows s a r live (clash one two) x i = inl i

-- A CORE AND ONE EVENT

-- a row of a core behind an event: it was there, and no message that covers it is gone, or it is new
abbrev Comes : ℕ → Core → Core → Row → Type 0
Comes n v u r = (In r v.cache.rows × ((i : Inval) → In i v.inbox → covers i r.tag ≡ true → In i u.inbox)) ⊎ IsNew n r

abbrev AllCome : ℕ → Core → Core → Type 0
AllCome n v u = (r : Row) → In r u.cache.rows → Comes n v u r

same_come : (n : ℕ) (v : Core) → AllCome n v v
same_come n v r i = inl (i, λ j m cov. m)

-- the oldest message takes effect
delivered_come : (n : ℕ) (v : Core) (inbox : List Inval) → v.inbox ≡ inbox → AllCome n v (delivered_by v inbox)
delivered_come n v [] e = same_come n v
delivered_come n v (i ∷ later) e = λ r h.
    let p = In-from_filter (λ (x : Row). not (covers i x.tag)) v.cache.rows r h in
    inl (
      p.0,
      λ j m cov.
          let m2 : In j (i ∷ later) = subst (In j) e m in
          elim m2 [ inl q ↦ absurd (covered_not (covers i r.tag) p.1 (subst (λ x. covers x r.tag ≡ true) q cov)) | inr q ↦ q ],
    )

posted_come : (n : ℕ) (v u : Core) (i : Inval) → AllCome n v u → AllCome n v (posted u i)
posted_come n v u i h r m = elim (h r m) [
  | inl old ↦ inl (old.0, λ j k cov. In-left u.inbox (i ∷ []) j (old.1 j k cov))
  | inr new ↦ inr new
]

mailed_come : (n : ℕ) (v : Core) (i : Inval) (room : Bool) → AllCome n v (cond room (posted v i) (posted (delivered v) i))
mailed_come n v i true = posted_come n v v i (same_come n v)
mailed_come n v i false = posted_come n v (delivered v) i (delivered_come n v v.inbox refl)

issued_if : (n : ℕ) (v : Core) (i : Inval) (reach : Bool) → AllCome n v (cond reach (mailed v i) v)
issued_if n v i true = mailed_come n v i (nat_lt (length v.inbox) most_held)
issued_if n v i false = same_come n v

issued_come : (n c : ℕ) (v : Core) (o : Option Inval) → AllCome n v (mailed_by c v o)
issued_come n c v None = same_come n v
issued_come n c v (Some i) = issued_if n v i (reaches_core i c)

-- a barrier
finished_come : (n : ℕ) (v : Core) (e : Event) → AllCome n v (finished v e)
finished_come n v e r h =
    let p = rows_left (filter (completes e) v.inbox) v.cache r h in
    inl (
      p.0,
      λ i m cov. elim (cases_Bool (completes e i)) [
        | inl t ↦ absurd (p.1 i (In-filter (completes e) v.inbox i m t) cov)
        | inr t ↦ In-filter (λ i. not (completes e i)) v.inbox i m (ap not t)
      ],
    )

delivered_if : (n : ℕ) (v : Core) (own : Bool) → AllCome n v (cond own (delivered v) v)
delivered_if n v true = delivered_come n v v.inbox refl
delivered_if n v false = same_come n v

accessed_if : (h : Header) (w : World) (c : ℕ) (v : Core) (a : Access) (own : Bool) → AllCome w.step v (cond own (accessed h w c v a) v)
accessed_if h w c v a true r i =
    let s : Visit = visit_of h w c v in
    let y : Reply = served s.place a in
    let live = served_live s.place a in
    elim (visited_rows s a y live y.halt r i) [
      | inl old ↦ inl (old, λ j m cov. m)
      | inr new ↦ inr new
    ]
accessed_if h w c v a false r i = same_come w.step v r i

-- each row of a core behind an event was there, and no message that covers it is gone, or it is new
pub event_come : (h : Header) (w : World) (e : Event) (c : ℕ) (v : Core) → AllCome w.step v (moved h w e c v)
unfolding acted
event_come h w (Store core pa value) c v r i = same_come w.step v r i
event_come h w (Msr core reg value) c v r i = same_come w.step v r i
event_come h w (Settle core) c v r i = same_come w.step v r i
event_come h w (Isb core) c v r i = same_come w.step v r i
event_come h w (Tlbi core from op shared operand) c v r i =
    issued_come w.step c v (issued_by (regs_in w) w.step (Tlbi core from op shared operand)) r i
event_come h w (Dsb core kind) c v r i = finished_come w.step v (Dsb core kind) r i
event_come h w (Deliver core) c v r i = delivered_if w.step v (core == c) r i
event_come h w (AccessOf core access) c v r i = accessed_if h w c v access (core == c) r i
event_come h w (Prefetch core access) c v r i = accessed_if h w c v access (core == c) r i

-- ONE INVALIDATION

-- the invalidation of a broadcast VMALLS12E1
abbrev whole : Regs → ℕ → ℕ → Inval
whole regs core step = inval_of Vmalls12e1 true false 0 regs core step

abbrev issue : ℕ → Event
issue core = Tlbi core El2 Vmalls12e1 true 0

-- it covers each row of its VMID
whole_covers : (regs : Regs) (core step : ℕ) (r : Row) → r.tag.vmid ≡ vmid_of regs → covers (whole regs core step) r.tag ≡ true
unfolding covers inval_of
whole_covers regs core step r e = ap (λ b. b && true) (eq-eqb (vmid_of regs) r.tag.vmid (sym e))

issuer_is : (regs : Regs) (core step : ℕ) → (core == (whole regs core step).issuer) ≡ true
unfolding inval_of
issuer_is regs core step = eq-eqb core core refl

In-mailed : (v : Core) (i : Inval) (room : Bool) → In i (cond room (posted v i) (posted (delivered v) i)).inbox
In-mailed v i true = In-last v.inbox i
In-mailed v i false = In-last (delivered v).inbox i

-- THE MACHINE

-- a machine with all its cores, each of whose rows has the VMID of its key in what invalidations look at
record IsTagged (h : Header) (w : World) : Type 0 where
  count : length w.cores ≡ h.cores
  tags : (c : ℕ) → c < h.cores → (r : Row) → In r (core_numbered w c).cache.rows → r.tag.vmid ≡ r.key.vmid

-- a machine behind a step that issued an invalidation: where a core still has a row of the VMID that was made before that
-- step, or in it, the invalidation is in its inbox
record IsBehind (h : Header) (w : World) (step vmid : ℕ) (i : Inval) : Type 0 where
  past : step < w.step
  rows : (c : ℕ) → c < h.cores → (r : Row) → In r (core_numbered w c).cache.rows → r.key.vmid ≡ vmid
      → In i (core_numbered w c).inbox ⊎ (step < r.made.step)

module _ (h : Header) where
  pub moved_at : (w : World) → length w.cores ≡ h.cores → (e : Event) (c : ℕ) → c < h.cores
      → core_numbered (after_event h w e) c ≡ moved h w e c (core_numbered w c)
  moved_at w count e c lt = each_at (moved h w e) w.cores c no_core (omega (arith, count))

  rows_come : (w : World) → length w.cores ≡ h.cores → (e : Event) (c : ℕ) → c < h.cores
      → AllCome w.step (core_numbered w c) (core_numbered (after_event h w e) c)
  rows_come w count e c lt = subst (λ (u : Core). AllCome w.step (core_numbered w c) u) (sym (moved_at w count e c lt))
      (event_come h w e c (core_numbered w c))

  tagged_on : (w : World) → IsTagged h w → (e : Event) → IsTagged h (after_event h w e)
  tagged_on w t e = record {
    count = each_length (moved h w e) 0 w.cores ∙ t.count;
    tags = λ c lt r i. elim (rows_come w t.count e c lt r i) [ inl old ↦ t.tags c lt r old.0 | inr new ↦ new.vmid ];
  }

  tagged_first : IsTagged h (opened h)
  tagged_first = record {
    count = length-replicate h.cores no_core;
    tags = λ c lt r i. absurd (subst (λ (v : Core). In r v.cache.rows) (get_or-replicate h.cores c no_core no_core lt) i);
  }

  -- each row of a run has the VMID of its key in what invalidations look at
  tagged_from : (es : List Event) (w : World) → IsTagged h w → IsTagged h (fold (after_event h) w es)
  tagged_from [] w t = t
  tagged_from (e ∷ es) w t = tagged_from es (after_event h w e) (tagged_on w t e)

  steps_from : (es : List Event) (w : World) → (fold (after_event h) w es).step ≡ w.step + length es
  steps_from [] w = omega arith
  steps_from (e ∷ es) w = omega (arith, steps_from es (after_event h w e))

  module _ (step vmid : ℕ) (i : Inval) (all : (r : Row) → r.tag.vmid ≡ vmid → covers i r.tag ≡ true) where
    behind_on : (w : World) → IsTagged h w → IsBehind h w step vmid i → (e : Event) → IsBehind h (after_event h w e) step vmid i
    behind_on w t b e = record {
      past = omega (arith, b.past);
      rows = λ c lt r m same. elim (rows_come w t.count e c lt r m) [
        | inl old ↦ elim (b.rows c lt r old.0 same) [
          | inl k ↦ inl (old.1 i k (all r (t.tags c lt r old.0 ∙ same)))
          | inr late ↦ inr late
        ]
        | inr new ↦ inr (omega (arith, new.step_is, b.past))
      ];
    }

    behind_from : (es : List Event) (w : World) → IsTagged h w → IsBehind h w step vmid i → IsBehind h (fold (after_event h) w es) step vmid i
    behind_from [] w t b = b
    behind_from (e ∷ es) w t b = behind_from es (after_event h w e) (tagged_on w t e) (behind_on w t b e)

  -- it comes to each core
  comes_in : (w : World) (core c : ℕ) (v : Core) → In (whole (regs_in w core) core w.step) (moved h w (issue core) c v).inbox
  unfolding acted issued_by inval_of
  comes_in w core c v = In-mailed v (whole (regs_in w core) core w.step) (nat_lt (length v.inbox) most_held)

  behind_issue : (w : World) → length w.cores ≡ h.cores → (core : ℕ)
      → IsBehind h (after_event h w (issue core)) w.step (vmid_of (regs_in w core)) (whole (regs_in w core) core w.step)
  behind_issue w count core = record {
    past = omega arith;
    rows = λ c lt r m same.
        let i : Inval = whole (regs_in w core) core w.step in
        inl (subst (λ (v : Core). In i v.inbox) (sym (moved_at w count (issue core) c lt)) (comes_in w core c (core_numbered w c)));
  }

  -- behind the barrier it is in no inbox
  gone : (w : World) → length w.cores ≡ h.cores → (regs : Regs) (core step c : ℕ) → c < h.cores
      → In (whole regs core step) (core_numbered (after_event h w (Dsb core Ish)) c).inbox → ⊥
  gone w count regs core step c lt m =
      let i : Inval = whole regs core step in
      let at : In i (moved h w (Dsb core Ish) c (core_numbered w c)).inbox = subst (λ (v : Core). In i v.inbox) (moved_at w count (Dsb core Ish) c lt) m in
      let empty = barrier_empties_inboxes h w core c (core_numbered w c) in
      both_ways (core == i.issuer)
      (in_of_all (λ (j : Inval). (core == j.issuer) ≡ false) (moved h w (Dsb core Ish) c (core_numbered w c)).inbox empty i at)
      (issuer_is regs core step)

  world_is : (before between : List Event) (core : ℕ) → world_after h (before ++ issue core ∷ (between ++ Dsb core Ish ∷ []))
      ≡ after_event h (fold (after_event h) (after_event h (world_after h before) (issue core)) between) (Dsb core Ish)
  world_is before between core =
      fold-append (after_event h) (opened h) before (issue core ∷ (between ++ Dsb core Ish ∷ []))
      ∙ fold_push (after_event h) (after_event h (world_after h before) (issue core)) between (Dsb core Ish)

  module _ (before between : List Event) (core c : ℕ) (lt : c < h.cores) where
    abbrev first : World
    first = world_after h before

    abbrev vmid_then : ℕ
    vmid_then = vmid_of (regs_in first core)

    late_rows : (w : World) → w ≡ fold (after_event h) (after_event h first (issue core)) between → (r : Row)
        → In r (core_numbered (after_event h w (Dsb core Ish)) c).cache.rows → r.key.vmid ≡ vmid_then → length before < r.made.step
    late_rows w e r m same =
        let i : Inval = whole (regs_in first core) core first.step in
        let cover = whole_covers (regs_in first core) core first.step in
        let t = tagged_from before (opened h) tagged_first in
        let t2 = tagged_on first t (issue core) in
        let t3 : IsTagged h w = subst (IsTagged h) (sym e) (tagged_from between (after_event h first (issue core)) t2) in
        let b3 : IsBehind h w first.step vmid_then i = subst (λ u. IsBehind h u first.step vmid_then i) (sym e)
        (behind_from first.step vmid_then i cover between (after_event h first (issue core)) t2 (behind_issue first t.count core)) in
        elim ((behind_on first.step vmid_then i cover w t3 b3 (Dsb core Ish)).rows c lt r m same) [
          | inl k ↦ absurd (gone w t3.count (regs_in first core) core first.step c lt k)
          | inr late ↦ omega (arith, late, steps_from before (opened h))
        ]

-- Behind a broadcast VMALLS12E1 and a later DSB ISH of its issuer no core has a row of its VMID that was made before it.
pub no_row_outlives_its_vmid : NoRowOutlivesItsVmid
no_row_outlives_its_vmid h before between core own c lt =
    let before_dsb : World = fold (after_event h) (after_event h (world_after h before) (issue core)) between in
    subst (λ (w : World). All (λ r. r.key.vmid ≡ vmid_of (regs_in (world_after h before) core) → length before < r.made.step)
    (core_numbered w c).cache.rows)
    (sym (world_is h before between core))
    (all_of_in (λ (r : Row). r.key.vmid ≡ vmid_of (regs_in (world_after h before) core) → length before < r.made.step)
    (core_numbered (after_event h before_dsb (Dsb core Ish)) c).cache.rows
    (λ r m same. late_rows h before between core c lt before_dsb refl r m same))
