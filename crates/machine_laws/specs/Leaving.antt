-- When rows leave, over whole runs, and which row a full set loses under lru (this project's own rules).
use Rattle.std.specs.Prelude.{◌≡◌, ◌⊎◌, ℕ, ◌<◌, true, false, not, ◌==◌, ◌&&◌}
use Rattle.std.specs.Prelude.{nat_lt, nat_le, if◌then◌else◌, List, [], ◌∷◌}
use Rattle.std.specs.Prelude.{◌++◌, length, slice_get, filter, take, Option, Some, None}
use Rattle.std.specs.List.{list_any}
use Rattle.trails.specs.declared.event.Event.{Event}
use Rattle.trails.specs.declared.event.Event.TheVariants.{Tlbi, Dsb, Deliver, Access as AccessOf, Prefetch}
use Rattle.trails.specs.declared.outcome.Access.{Access}
use Rattle.trace_lang.specs.declared.header.Policy.TheVariants.{Lru}
use Rattle.tlbi_ops.specs.declared.inval.Inval.{Inval}
use Rattle.tlbi_ops.specs.Operands.{reaches_core}
use Rattle.tlbi_ops.specs.Covers.{covers}
use Rattle.tagged_tlb.specs.Shapes.{shape_of}
use Rattle.machine_spec.specs.Header.{Header}
use Rattle.machine_spec.specs.Invalidations.{issued_by, completes}
use Rattle.tagged_tlb.specs.declared.row.Row.{Row}
pub use Rattle.tagged_tlb.specs.Stands.{In}
use Rattle.tagged_tlb.specs.Sets.{Cache, victim, same_set, same_key, is_row, filled}
use Rattle.machine_spec.specs.Served.{Place, Reply, Halt, came, clash, served}
use Rattle.machine_spec.specs.Machine.{World, most_held, made_by, visit_of, core_numbered, regs_in, after_event, opened, world_after}

-- INVALIDATIONS THAT TAKE EFFECT

-- the oldest of a full inbox, where another comes in
abbrev pub pushed_out : (number : ℕ) (inbox : List Inval) (issued : Option Inval) → List Inval
pushed_out c inbox None = []
pushed_out c inbox (Some i) = if reaches_core i c && not (nat_lt (length inbox) most_held) then take 1 inbox else []

-- the invalidations of a core's inbox that take effect by an event
abbrev pub effective : (world : World) (number : ℕ) (inbox : List Inval) (event : Event) → List Inval
effective w c inbox (Tlbi core from op shared operand) = pushed_out c inbox (issued_by (regs_in w) w.step (Tlbi core from op shared operand))
effective w c inbox (Dsb core kind) = filter (completes (Dsb core kind)) inbox
effective w c inbox (Deliver core) = if core == c then take 1 inbox else []
effective w c inbox _ = []

-- an invalidation takes effect that covers the row
abbrev pub IsRemoved : (world : World) (number : ℕ) (inbox : List Inval) (event : Event) (row : Row) → Type 0
IsRemoved w c inbox e r = (i : Inval) × In i (effective w c inbox e) × (covers i r.tag ≡ true)

-- ROWS THAT ARE USED

-- the rows that a step uses: those that served, and those that are made behind them
pub record Used : Type 0 where
  pub served : List Row
  pub made : List Row

abbrev pub none_used : Used
none_used = record { served = []; made = [] }

-- a conflict uses none
abbrev pub used_by : (place : Place) (access : Access) (reply : Reply) (halt : Halt) → Used
used_by p a r (came end) = record { served = r.by; made = made_by p a r (came end) }
used_by p a r (clash one two) = none_used

abbrev pub used_here : (header : Header) (world : World) (number : ℕ) (access : Access) → Used
used_here h w c a = let p = (visit_of h w c (core_numbered w c)).place in let r = served p a in used_by p a r r.halt

-- the rows that an event uses at a core
abbrev pub used_at : (header : Header) (world : World) (number : ℕ) (event : Event) → Used
used_at h w c (AccessOf core access) = if core == c then used_here h w c access else none_used
used_at h w c (Prefetch core access) = if core == c then used_here h w c access else none_used
used_at h w c _ = none_used

-- all uses of rows at a core by events from a machine on, in the order of time
abbrev pub uses_from : (header : Header) (world : World) (number : ℕ) (events : List Event) → List Row
uses_from h w c [] = []
uses_from h w c (e ∷ events) = let u = used_at h w c e in (u.served ++ u.made) ++ uses_from h (after_event h w e) c events

abbrev pub uses_of : (header : Header) (number : ℕ) (events : List Event) → List Row
uses_of h c events = uses_from h (opened h) c events

-- LAWS

-- the rows of a row's set, in the order of rank
abbrev pub rows_of_set : (header : Header) (row : Row) (cache : Cache) → List Row
rows_of_set h r l = filter (same_set (shape_of h.size r.kind) r) l.rows

-- A row that a full set loses: a step makes a new row that no live one would serve for, its set is full, and of the set's rows the
-- policy names this one.
pub record IsEvicted (h : Header) (c : ℕ) (before : Cache) (used : Used) (r : Row) : Type 0 where
  pub earlier : List Row
  pub new : Row
  pub later : List Row
  pub made : used.made ≡ earlier ++ new ∷ later
  pub wanted : list_any (same_key new) (filled h c before used.served earlier).rows ≡ false
  pub full : nat_le (shape_of h.size new.kind).ways (length (rows_of_set h new (filled h c before used.served earlier))) ≡ true
  pub named : let l = filled h c before used.served earlier in
      slice_get (rows_of_set h new l) (victim h.policy c l.evictions (shape_of h.size new.kind).ways) ≡ Some r

-- A row of a core stays over an event, or a covering invalidation takes effect, or a full set loses it to a new row of that set.
abbrev pub RowsLeaveForACause : Type 0
RowsLeaveForACause =
    (h : Header) (events : List Event) (e : Event) (c : ℕ) → c < h.cores → (r : Row) →
    let w = world_after h events in
    let v = core_numbered w c in
    In r v.cache.rows →
    In r (core_numbered (after_event h w e) c).cache.rows ⊎ (IsRemoved w c v.inbox e r ⊎ IsEvicted h c v.cache (used_at h w c e) r)

-- a row was used at a moment behind which another wasn't
pub record IsUsedSince (uses : List Row) (other row : Row) : Type 0 where
  pub before : List Row
  pub behind : List Row
  pub is : uses ≡ before ++ row ∷ behind
  pub not_since : list_any (is_row other) behind ≡ false

-- Under lru the first of a set, which it loses to a new row where it is full, was made or served longest ago: each other row of the
-- set was used since.
abbrev pub LruLosesTheLongestUnused : Type 0
LruLosesTheLongestUnused =
    (h : Header) (events : List Event) (e : Event) (c : ℕ) → h.policy ≡ Lru → c < h.cores →
    let w = world_after h events in
    let used = used_at h w c e in
    (earlier later : List Row) (new : Row) → used.made ≡ earlier ++ new ∷ later →
    (first : Row) (others : List Row) →
    rows_of_set h new (filled h c (core_numbered w c).cache used.served earlier) ≡ first ∷ others →
    (r : Row) → In r others → IsUsedSince (uses_of h c events ++ (used.served ++ earlier)) first r
