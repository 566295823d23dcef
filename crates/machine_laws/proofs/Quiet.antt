-- What a step leaves as it was, and what a barrier empties.
use Rattle.std.proofs.Common.{◌≡◌, Bool, true, false, not, cond, List, [], ◌∷◌, refl, sym, ap}
use Rattle.std.specs.Prelude.{filter, All, ◌==◌, ◌&&◌, ◌||◌}
use Rattle.std.proofs.lemmas.List.Elements.{All-head, All-tail, filter_passes, All-weaker}
use Rattle.trails.specs.declared.event.Event.TheVariants.{Store, Msr, Settle, Isb, Tlbi, Dsb, Deliver, Access as AccessOf, Prefetch}
use Rattle.trails.specs.declared.event.Barrier.TheVariants.{Ish}
use Rattle.trace_lang.specs.declared.header.Policy.{Policy}
use Rattle.trace_lang.specs.declared.header.Policy.TheVariants.{Lru, Fifo, Random}
use Rattle.tlbi_ops.specs.declared.inval.Inval.{Inval}
use Rattle.tlbi_ops.specs.Covers.{covers}
use Rattle.tagged_tlb.specs.Shapes.{keeps_rows}
use Rattle.machine_spec.specs.Invalidations.{completes}
use Rattle.tagged_tlb.specs.declared.row.Row.{Row}
use Rattle.tagged_tlb.specs.Sets.{Cache, touched}
use Rattle.machine_spec.specs.Machine.{acted}
use Rattle.machine_laws.specs.Rules.{QuietEventsKeepRows, NoRowsMadeChangesNone, NothingCoveredChangesNothing, BarrierEmptiesInboxes}

-- WHAT STAYS AS IT WAS

pub quiet_events_keep_rows : QuietEventsKeepRows
unfolding acted
quiet_events_keep_rows h w (Store core pa value) q c v = (refl, refl)
quiet_events_keep_rows h w (Msr core reg value) q c v = (refl, refl)
quiet_events_keep_rows h w (Settle core) q c v = (refl, refl)
quiet_events_keep_rows h w (Isb core) q c v = (refl, refl)
quiet_events_keep_rows h w (Tlbi core from op shared operand) q c v = absurd q
quiet_events_keep_rows h w (Dsb core kind) q c v = absurd q
quiet_events_keep_rows h w (Deliver core) q c v = absurd q
quiet_events_keep_rows h w (AccessOf core access) q c v = absurd q
quiet_events_keep_rows h w (Prefetch core access) q c v = absurd q

-- rows move by a service under lru alone
pub none_touched : (policy : Policy) (rows : List Row) → touched policy rows [] ≡ rows
none_touched Lru rows = refl
none_touched Fifo rows = refl
none_touched (Random start) rows = refl

none_moved : (policy : Policy) → (policy ≡ Lru → ⊥) → (rows served : List Row) → touched policy rows served ≡ rows
none_moved Lru other rows served = absurd (other refl)
none_moved Fifo other rows served = refl
none_moved (Random start) other rows served = refl

with_rows : (l : Cache) (rows : List Row) → rows ≡ l.rows → (b : Bool) → cond b (record l { rows = rows }) l ≡ l
with_rows l rows e true = ap (λ (rs : List Row). record { rows = rs; evictions = l.evictions }) e
with_rows l rows e false = refl

pub no_rows_made_changes_none : NoRowsMadeChangesNone
no_rows_made_changes_none h c l = (
  with_rows l (touched h.policy l.rows []) (none_touched h.policy l.rows) (keeps_rows h.size),
  λ served other. with_rows l (touched h.policy l.rows served) (none_moved h.policy other l.rows served) (keeps_rows h.size),
)

-- a test that all pass leaves all
pub all_pass : {X : Type 0} (p : X → Bool) (xs : List X) → All (λ x. p x ≡ true) xs → filter p xs ≡ xs
all_pass p [] all = refl
all_pass p (x ∷ xs) all = rw (All-head (λ y. p y ≡ true) x xs all) (ap (λ ys. x ∷ ys) (all_pass p xs (All-tail (λ y. p y ≡ true) x xs all)))

pub nothing_covered_changes_nothing : NothingCoveredChangesNothing
nothing_covered_changes_nothing l i all =
    ap (λ (rs : List Row). record { rows = rs; evictions = l.evictions })
    (all_pass (λ (r : Row). not (covers i r.tag)) l.rows
    (All-weaker (λ (r : Row). covers i r.tag ≡ false) (λ (r : Row). not (covers i r.tag) ≡ true) (λ r e. ap not e) l.rows all))

-- WHAT A BARRIER EMPTIES

other_issuer : (a b : Bool) → not (a && (true || b)) ≡ true → a ≡ false
other_issuer true b h = sym h
other_issuer false b h = refl

pub barrier_empties_inboxes : BarrierEmptiesInboxes
unfolding acted completes
barrier_empties_inboxes h w core c v =
    All-weaker (λ (i : Inval). not (completes (Dsb core Ish) i) ≡ true) (λ (i : Inval). (core == i.issuer) ≡ false)
    (λ i e. other_issuer (core == i.issuer) (not i.broadcast) e)
    (filter (λ (i : Inval). not (completes (Dsb core Ish) i)) v.inbox)
    (filter_passes (λ (i : Inval). not (completes (Dsb core Ish) i)) v.inbox)
