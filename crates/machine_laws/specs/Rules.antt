-- Laws of single rules of the machine, of the definitions alone: what a step leaves as it was, what an invalidation removes, which
-- rows serve, and which row leaves a full set. They are this project's own.
use Rattle.std.specs.Prelude.{◌≡◌, ℕ, ◌<◌, Bool, true, false, ◌==◌, nat_le, List, [], ◌∷◌, ◌++◌, length, filter, All}
use Rattle.std.specs.List.{remove}
use Rattle.sysregs.specs.declared.regs.Op.TheVariants.{Vmalls12e1}
use Rattle.sysregs.specs.Registers.{config_of, vmid_of}
use Rattle.trails.specs.declared.event.Event.{Event}
use Rattle.trails.specs.declared.event.Event.TheVariants.{Store, Msr, Settle, Isb, Tlbi, Dsb}
use Rattle.trails.specs.declared.event.Barrier.TheVariants.{Ish}
use Rattle.trails.specs.declared.event.Origin.TheVariants.{El2}
use Rattle.trails.specs.declared.outcome.Access.{Access}
use Rattle.trace_lang.specs.declared.header.Policy.TheVariants.{Lru}
use Rattle.tlbi_ops.specs.declared.inval.Inval.{Inval}
use Rattle.tlbi_ops.specs.Covers.{covers}
use Rattle.tagged_tlb.specs.Shapes.{Shape}
use Rattle.machine_spec.specs.Header.{Header}
use Rattle.tagged_tlb.specs.declared.row.Row.{Row}
use Rattle.tagged_tlb.specs.Sets.{Cache, victim, same_set, placed, filled}
use Rattle.machine_spec.specs.Served.{Place, served}
use Rattle.machine_spec.specs.Machine.{Core, World, killed, core_numbered, moved, regs_in, world_after}
use Rattle.machine_laws.specs.Headline.{AreOfCores}

-- an event that touches no inbox and no row
abbrev pub IsQuiet : (event : Event) → Type 0
IsQuiet (Store core pa value) = Unit {0}
IsQuiet (Msr core reg value) = Unit {0}
IsQuiet (Settle core) = Unit {0}
IsQuiet (Isb core) = Unit {0}
IsQuiet _ = ⊥

-- Stores, register writes and ISB leave the inbox and the rows of every core.
abbrev pub QuietEventsKeepRows : Type 0
QuietEventsKeepRows =
    (h : Header) (w : World) (e : Event) → IsQuiet e → (c : ℕ) (v : Core) →
    ((moved h w e c v).inbox ≡ v.inbox) × ((moved h w e c v).cache ≡ v.cache)

-- A step that serves by no row and makes none changes no row, and unless the policy is lru one that makes none doesn't either.
abbrev pub NoRowsMadeChangesNone : Type 0
NoRowsMadeChangesNone =
    (h : Header) (c : ℕ) (l : Cache) →
    (filled h c l [] [] ≡ l) × ((served : List Row) → (h.policy ≡ Lru → ⊥) → filled h c l served [] ≡ l)

-- An invalidation that covers no row changes nothing.
abbrev pub NothingCoveredChangesNothing : Type 0
NothingCoveredChangesNothing = (l : Cache) (i : Inval) → All (λ r. covers i r.tag ≡ false) l.rows → killed l i ≡ l

-- Behind DSB ISH no inbox has an invalidation of its core.
abbrev pub BarrierEmptiesInboxes : Type 0
BarrierEmptiesInboxes = (h : Header) (w : World) (core c : ℕ) (v : Core) → All (λ i. (core == i.issuer) ≡ false) (moved h w (Dsb core Ish) c v).inbox

-- Behind a broadcast VMALLS12E1 and a later DSB ISH of its issuer no core has a row of its VMID that was made before it.
abbrev pub NoRowOutlivesItsVmid : Type 0
NoRowOutlivesItsVmid =
    (h : Header) (before between : List Event) (core : ℕ) →
    let issue : Event = Tlbi core El2 Vmalls12e1 true 0 in
    let events = before ++ issue ∷ (between ++ Dsb core Ish ∷ []) in
    AreOfCores h events → (c : ℕ) → c < h.cores →
    All (λ r. r.key.vmid ≡ vmid_of (regs_in (world_after h before) core) → length before < r.made.step) (core_numbered (world_after h events) c).cache.rows

-- A row serves only under the register fields and the VMID under which it was made.
abbrev pub RowsServeTheirOwn : Type 0
RowsServeTheirOwn = (p : Place) (a : Access) → All (λ r. (r.key.config ≡ config_of p.regs) × (r.key.vmid ≡ vmid_of p.regs)) (served p a).by

-- A full set loses the row that the policy names and gets the new one, and a set that isn't full loses none.
pub record SetLoses (h : Header) (c : ℕ) (s : Shape) (l : Cache) (r : Row) : Type 0 where
  pub full : nat_le s.ways (length (filter (same_set s r) l.rows)) ≡ true →
      filter (same_set s r) (placed h c s l r).rows ≡ remove (filter (same_set s r) l.rows) (victim h.policy c l.evictions s.ways) ++ r ∷ []
  pub one : 0 < s.ways → victim h.policy c l.evictions s.ways < s.ways
  pub room : nat_le s.ways (length (filter (same_set s r) l.rows)) ≡ false → (placed h c s l r).rows ≡ l.rows ++ r ∷ []
  pub others : (test : Row → Bool) → ((x : Row) → test x ≡ true → same_set s r x ≡ false) →
      filter test (placed h c s l r).rows ≡ filter test l.rows

abbrev pub FullSetsLoseOne : Type 0
FullSetsLoseOne = (h : Header) (c : ℕ) (s : Shape) (l : Cache) (r : Row) → SetLoses h c s l r
