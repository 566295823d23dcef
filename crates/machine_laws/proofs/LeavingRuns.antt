-- Over every run rows leave for a cause, and under lru they stand in the order of their last use.
use Rattle.std.proofs.Common.{◌≡◌, ℕ, ◌+◌, ◌<◌, Bool, true, false, cond, List, [], ◌∷◌, ◌++◌, length}
use Rattle.std.proofs.Common.{◌⊎◌, inl, inr, refl, sym, ap, ◌∙◌, subst, append_assoc, append-nil}
use Rattle.std.specs.Prelude.{◌==◌, fold, filter}
use Rattle.std.proofs.lemmas.List.{length-replicate, get_or-replicate}
use Rattle.sysregs.specs.Registers.{config_of}
use Rattle.sysregs.specs.Sides.{side_of}
use Rattle.trails.specs.declared.event.Event.{Event}
use Rattle.trails.specs.declared.event.Event.TheVariants.{Store, Msr, Settle, Isb, Tlbi, Dsb, Deliver, Access as AccessOf, Prefetch}
use Rattle.trails.specs.declared.outcome.Access.{Access}
use Rattle.tlbi_ops.specs.declared.inval.Inval.{Inval}
use Rattle.tlbi_ops.specs.Covers.{covers}
use Rattle.walk_spec.specs.Needs.{regime_of}
use Rattle.walk_spec.specs.Stage1.{untagged}
use Rattle.walk_spec.specs.BothStages.{walk}
use Rattle.tagged_tlb.specs.Shapes.{shape_of}
use Rattle.machine_spec.specs.Header.{Header}
use Rattle.machine_spec.specs.Invalidations.{issued_by, completes}
use Rattle.machine_spec.specs.Marks.{marks}
use Rattle.tagged_tlb.specs.declared.row.Row.{Row}
use Rattle.machine_spec.specs.Made.{Maker, rows_of, combined_rows}
use Rattle.tagged_tlb.specs.Sets.{Cache, same_set, filled}
use Rattle.machine_spec.specs.Served.{Reply, Halt, came, clash, served}
use Rattle.machine_spec.specs.Machine.{Core, World, no_core, killed, Visit, visited_by, visit_of, core_numbered, regs_in}
use Rattle.machine_spec.specs.Machine.{accessed, acted, moved, after_event, opened, world_after}
use Rattle.machine_laws.specs.Leaving.{In, Used, effective, IsRemoved, used_by, used_here, used_at, uses_from, uses_of}
use Rattle.machine_laws.specs.Leaving.{IsEvicted, RowsLeaveForACause, LruLosesTheLongestUnused}
use Rattle.machine_laws.proofs.Events.{each_length}
use Rattle.machine_laws.proofs.Gone.{IsNumbered, numbered_are, numbered_front, Ranks, AreRanked, IsRanked, filled_ranked, filled_next}
use Rattle.machine_laws.proofs.Gone.{filled_stays, thin_all, thin_next, all_keep, pushed_kills, deliver_kills}
use Rattle.machine_laws.proofs.Lists.{from_end, In-append}
use Rattle.machine_laws.proofs.Outlived.{rows_new, combined_new, moved_at}
use Rattle.machine_laws.proofs.Own.{served_live}
use Rattle.machine_laws.proofs.Pairs.{pairs_filter}
use Rattle.machine_laws.proofs.Quiet.{no_rows_made_changes_none}
use Rattle.machine_laws.proofs.Theorem.{world_on}

-- WHAT A STEP USES

module _ (h : Header) (w : World) (c : ℕ) where
  abbrev core_here : Core
  core_here = core_numbered w c

  abbrev visit_here : Visit
  visit_here = visit_of h w c core_here

  halt_numbered : (a : Access) (r : Reply) (t : Halt) → IsNumbered w.step 0 (used_by visit_here.place a r t).made
  halt_numbered a r (came end) =
      let k : Maker = record { regs = visit_here.place.regs; step = w.step } in
      let cfg = config_of visit_here.place.regs in
      let ms = marks (regime_of cfg (side_of a.va)) (walk cfg true a) r.items in
      numbered_are w.step (rows_of k [] [] ms ++ combined_rows k (untagged a.va) r.items ms end) 0
      (λ y j. elim (In-append (rows_of k [] [] ms) (combined_rows k (untagged a.va) r.items ms end) y j) [
        | inl i ↦ (rows_new k ms [] [] y i).step_is
        | inr i ↦ (combined_new k (untagged a.va) r.items ms end y i).step_is
      ])
  halt_numbered a r (clash one two) = tt

  halt_live : (a : Access) (r : Reply) (t : Halt) → ((x : Row) → In x r.by → In x core_here.cache.rows) → (x : Row)
      → In x (used_by visit_here.place a r t).served → In x core_here.cache.rows
  halt_live a r (came end) live x i = live x i
  halt_live a r (clash one two) live x i = absurd i

  halt_cache : (a : Access) (r : Reply) (t : Halt) → let u = used_by visit_here.place a r t in
      (visited_by visit_here a r t).cache ≡ filled h c core_here.cache u.served u.made
  halt_cache a r (came end) = refl
  halt_cache a r (clash one two) = sym (no_rows_made_changes_none h c core_here.cache).0

  -- the rows that are used: those that serve are there, and those that are made are new
  record IsOrderly (u : Used) : Type 0 where
    live : (x : Row) → In x u.served → In x core_here.cache.rows
    at : IsNumbered w.step 0 u.made

  none_orderly : IsOrderly (record { served = []; made = [] })
  none_orderly = record { live = λ x i. absurd i; at = tt }

  used_if : (a : Access) (own : Bool) → IsOrderly (cond own (used_here h w c a) (record { served = []; made = [] }))
  used_if a true =
      let r : Reply = served visit_here.place a in
      record {
        live = halt_live a r r.halt (served_live visit_here.place a);
        at = halt_numbered a r r.halt;
      }
  used_if a false = none_orderly

  orderly : (e : Event) → IsOrderly (used_at h w c e)
  orderly (Store core pa value) = none_orderly
  orderly (Msr core reg value) = none_orderly
  orderly (Settle core) = none_orderly
  orderly (Isb core) = none_orderly
  orderly (Tlbi core from op shared operand) = none_orderly
  orderly (Dsb core kind) = none_orderly
  orderly (Deliver core) = none_orderly
  orderly (AccessOf core a) = used_if a (core == c)
  orderly (Prefetch core a) = used_if a (core == c)

  -- AN EVENT

  module _ (u : List Row) (state : IsRanked h c w.step u core_here.cache.rows) where
    -- the rows behind a step, which used some and had some invalidations take effect
    record Goes (used : Used) (is : List Inval) (next : Cache) : Type 0 where
      ranked : IsRanked h c (w.step + 1) (u ++ (used.served ++ used.made)) next.rows
      stays : (x : Row) → In x core_here.cache.rows
          → In x next.rows ⊎ (((i : Inval) × In i is × (covers i x.tag ≡ true)) ⊎ IsEvicted h c core_here.cache used x)

    by_kills : (is : List Inval) (next : Cache) → next ≡ fold killed core_here.cache is → Goes (record { served = []; made = [] }) is next
    by_kills is next e = subst (Goes (record { served = []; made = [] }) is) (sym e) record {
      ranked = thin_next h c w.step u core_here.cache.rows (fold killed core_here.cache is).rows (thin_all h c is core_here.cache) state;
      stays = λ x i. elim (all_keep h c is core_here.cache x i) [ inl j ↦ inl j | inr k ↦ inr (inl k) ];
    }

    by_use : (used : Used) → IsOrderly used → (next : Cache) → next ≡ filled h c core_here.cache used.served used.made → Goes used [] next
    by_use used o next e = subst (Goes used []) (sym e) record {
      ranked = filled_next h c w.step u core_here.cache state used.served o.live used.made o.at;
      stays = λ x i. elim (filled_stays h c core_here.cache used w.step u state o.live x i) [ inl j ↦ inl j | inr k ↦ inr (inr k) ];
    }

    access_goes : (a : Access) (own : Bool)
        → Goes (cond own (used_here h w c a) (record { served = []; made = [] })) [] (cond own (accessed h w c core_here a) core_here).cache
    access_goes a true = let r : Reply = served visit_here.place a in by_use (used_here h w c a) (used_if a true) _ (halt_cache a r r.halt)
    access_goes a false = by_kills [] core_here.cache refl

    event_goes : (e : Event) → Goes (used_at h w c e) (effective w c core_here.inbox e) (moved h w e c core_here).cache
    unfolding acted
    event_goes (Store core pa value) = by_kills [] core_here.cache refl
    event_goes (Msr core reg value) = by_kills [] core_here.cache refl
    event_goes (Settle core) = by_kills [] core_here.cache refl
    event_goes (Isb core) = by_kills [] core_here.cache refl
    event_goes (Tlbi core from op shared operand) =
        by_kills _ _ (pushed_kills h c core_here (issued_by (regs_in w) w.step (Tlbi core from op shared operand)))
    event_goes (Dsb core kind) = by_kills (filter (completes (Dsb core kind)) core_here.inbox) _ refl
    event_goes (Deliver core) = by_kills _ _ (deliver_kills h c core_here (core == c))
    event_goes (AccessOf core a) = access_goes a (core == c)
    event_goes (Prefetch core a) = access_goes a (core == c)

-- A RUN

module _ (h : Header) (c : ℕ) where
  uses_more : (es : List Event) (w : World) (e : Event) → let u = used_at h (fold (after_event h) w es) c e in
      uses_from h w c (es ++ e ∷ []) ≡ uses_from h w c es ++ (u.served ++ u.made)
  uses_more [] w e = append-nil _
  uses_more (d ∷ es) w e =
      let now = used_at h w c d in
      ap (λ v. (now.served ++ now.made) ++ v) (uses_more es (after_event h w d) e) ∙ sym (append_assoc (now.served ++ now.made) _ _)

  -- behind a run the rows of a core are ranked
  abbrev pub IsRun : List Event → Type 0
  IsRun es =
      let w = world_after h es in
      (length w.cores ≡ h.cores) × IsRanked h c w.step (uses_of h c es) (core_numbered w c).cache.rows

  pub run_ranked : c < h.cores → (es : List Event) → IsRun es
  run_ranked lt es = from_end IsRun more first es
    where
      first : IsRun []
      first = (
        length-replicate h.cores no_core,
        subst (λ (v : Core). IsRanked h c 0 [] v.cache.rows) (sym (get_or-replicate h.cores c no_core no_core lt))
            record { below = λ x i. absurd i; ranked = tt; bare = λ off. refl },
      )

      more : (xs : List Event) (e : Event) → IsRun xs → IsRun (xs ++ e ∷ [])
      more xs e before =
          let w : World = world_after h xs in
          let goes = event_goes h w c (uses_of h c xs) before.1 e in
          let used : Used = used_at h w c e in
          let u : List Row = uses_of h c xs ++ (used.served ++ used.made) in
          rw (world_on h xs e) (
            each_length (moved h w e) 0 w.cores ∙ before.0,
            rw (uses_more xs (opened h) e) (subst (λ (v : Core). IsRanked h c (w.step + 1) u v.cache.rows) (sym (moved_at h w before.0 e c lt)) goes.ranked),
          )

pub rows_leave_for_a_cause : RowsLeaveForACause
rows_leave_for_a_cause h events e c lt r i =
    let w : World = world_after h events in
    let run = run_ranked h c lt events in
    let goes = event_goes h w c (uses_of h c events) run.1 e in
    subst (λ (v : Core). In r v.cache.rows ⊎ (IsRemoved w c (core_numbered w c).inbox e r ⊎ IsEvicted h c (core_numbered w c).cache (used_at h w c e) r))
    (sym (moved_at h w run.0 e c lt)) (goes.stays r i)

pub lru_loses_the_longest_unused : LruLosesTheLongestUnused
lru_loses_the_longest_unused h events e c lru lt earlier later new made first others is r i =
    let w : World = world_after h events in
    let run = run_ranked h c lt events in
    let used = used_at h w c e in
    let o = orderly h w c e in
    let l = (core_numbered w c).cache in
    let test = same_set (shape_of h.size new.kind) new in
    let u = uses_of h c events ++ (used.served ++ earlier) in
    let at = numbered_front w.step 0 earlier (new ∷ later) (subst (IsNumbered w.step 0) made o.at) in
    let all : AreRanked h c u (filled h c l used.served earlier).rows = filled_ranked h c w.step (uses_of h c events) l run.1 used.served o.live earlier at in
    let set : AreRanked h c u (first ∷ others) = subst (AreRanked h c u) is (pairs_filter (Ranks h c u) test (filled h c l used.served earlier).rows all) in
    (set.0 r i).1 lru
