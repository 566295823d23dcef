-- What holds of each core behind each front of a run: its rows, its invalidations, its registers.
use Rattle.std.proofs.Common.{◌≡◌, ℕ, ◌<◌, ◌≤◌, Bool, true, false, List, [], ◌∷◌, ◌++◌, length, Option, Some, None}
use Rattle.sysregs.specs.declared.regs.Config.{Config}
use Rattle.sysregs.specs.declared.regs.Side.{Side}
use Rattle.sysregs.specs.Registers.{asid_of}
use Rattle.sysregs.specs.Sides.{side_of}
use Rattle.fault_codes.specs.declared.fault.Fault.{Fault}
use Rattle.trails.specs.declared.item.Item.{Item}
use Rattle.trails.specs.declared.outcome.Access.{Access}
use Rattle.trails.specs.declared.step.Step.{Step}
use Rattle.tlbi_ops.specs.declared.inval.Inval.{Inval}
use Rattle.tlbi_ops.specs.Operands.{reaches_core}
use Rattle.tlbi_ops.specs.Covers.{covers, is_stage1}
use Rattle.walk_spec.specs.declared.leaf.Leaf2.{Leaf2}
use Rattle.walk_spec.specs.Ask.{Ask, done, ask}
use Rattle.walk_spec.specs.Needs.{Regime, regime_of, Need}
use Rattle.walk_spec.specs.Steps.{End, stops, reaches}
use Rattle.walk_spec.specs.Stage1.{untagged}
use Rattle.walk_spec.specs.BothStages.{Landing, walk, is_refused1}
use Rattle.tagged_tlb.specs.declared.row.Kind.{Kind}
use Rattle.tagged_tlb.specs.declared.row.Kind.TheVariants.{Leaf1 as leaf1, Table1 as table1, Leaf2 as leaf2, Table2 as table2}
use Rattle.machine_spec.specs.Header.{Header}
use Rattle.machine_spec.specs.Moments.{memory_after, bank_after}
use Rattle.machine_spec.specs.Invalidations.{inval_at, IsComplete}
use Rattle.machine_spec.specs.Marks.{Mark, marks, is_first, is_table, is_global, has_asid}
use Rattle.machine_spec.specs.Uses.{AllUsed}
use Rattle.machine_spec.specs.Kept.{View, now, regs_when, tag_of, IsHeld, IsKeptItem}
use Rattle.tagged_tlb.specs.declared.row.Row.{Row}
use Rattle.tagged_tlb.specs.Rows.{holds}
use Rattle.machine_spec.specs.Made.{last_first}
use Rattle.machine_spec.specs.Machine.{Core, World, core_numbered}
pub use Rattle.machine_laws.specs.Leaving.{In}
pub use Rattle.machine_laws.specs.MayServe.{MayServe}
use Rattle.machine_laws.proofs.Pairs.{AllPairs}
use Rattle.machine_laws.specs.Standing.{IsOn}
use Rattle.machine_laws.proofs.Trees.{chain, Plan, fin, flat, IsSound, IsWords}

-- the view of a core, of an access of this side
abbrev pub sided : View → Side → View
sided v s = record v { side = s }

abbrev pub view_of : Header → List Step → ℕ → Side → View
view_of h log c s = record { header = h; log = log; core = c; side = s }

abbrev pub regime_for : Config → Access → Regime
regime_for c a = regime_of c (side_of a.va)

-- the last item of a row's trail, whose use is still to come: every invalidation that covers it and was issued since is
-- still in the inbox
pub record IsLast (v : View) (inbox : List Inval) (r : Row) (m : Mark) : Type 0 where
  pub before : m.item.moment < now v
  pub held : IsHeld v r.key.config r.key.vmid m
  pub word : m.base ≡ false
  pub tag_is : tag_of v m ≡ r.tag
  pub pending : (k : ℕ) (i : Inval) → m.item.moment ≤ k → inval_at v.log k ≡ Some i → reaches_core i v.core ≡ true → covers i r.tag ≡ true
      → In i inbox
  pub asid : has_asid m ≡ true → (asid_of (regs_when v m.item.moment) ≡ r.key.asid) × (r.global ≡ false)

-- an item of a row's trail, with its use where that has been
abbrev pub IsStored : View → List Inval → Row → Mark → Option ℕ → Type 0
IsStored v inbox r m None = IsLast v inbox r m
IsStored v inbox r m (Some u) = IsKeptItem v r.key.config r.key.vmid m u × (u < now v)

-- a trail that leads to a translation for an access, by rights or not
pub record IsLeafRow1 (P : Mark → Option ℕ → Type 0) (c : Config) (r : Row) (trail : List Item) (a : Access) : Type 0 where
  pub landing : Landing
  pub on : IsOn (regime_for c a) (walk c false a) trail (done (reaches landing))
  pub class_is : landing.class ≡ r.region.class
  pub global_is : (m : Mark) → last_first (marks (regime_for c a) (walk c false a) trail) ≡ Some m → is_global m.part ≡ r.global
  pub stored : AllUsed P None (marks (regime_for c a) (walk c false a) trail)

-- a trail that ends in a table of stage 1, behind which the walk goes on, or ends in a fault of stage 2
pub record IsTableRow1 (P : Mark → Option ℕ → Type 0) (c : Config) (trail : List Item) (a : Access) : Type 0 where
  pub plan : Plan
  pub on : IsOn (regime_for c a) (walk c true a) trail (flat (regime_for c a) plan)
  pub sound : IsSound (regime_for c a) plan
  pub late : (f : Fault) → plan ≡ fin (stops f) → is_stage1 f.stage ≡ false
  pub front : List Mark
  pub last : Mark
  pub is : marks (regime_for c a) (walk c true a) trail ≡ front ++ last ∷ []
  pub first : is_first last ≡ true
  pub word : last.base ≡ false
  pub to_table : is_table last.part ≡ true
  pub stored : AllUsed P None (front ++ last ∷ [])

-- a chain that reaches a leaf of stage 2
pub record IsLeafRow2 (P : Mark → Option ℕ → Type 0) (r : Regime) (p : Bool) (trail : List Item) (x : ℕ) (class : ℕ) : Type 0 where
  pub leaf : Leaf2
  pub on : IsOn r (chain r p x) trail (done (reaches leaf))
  pub class_is : leaf.class ≡ class
  pub stored : AllUsed P None (marks r (chain r p x) trail)

-- a chain that ends in a table of stage 2, and needs a word
pub record IsTableRow2 (P : Mark → Option ℕ → Type 0) (r : Regime) (p : Bool) (trail : List Item) (x : ℕ) : Type 0 where
  pub need : Need
  pub go : Item → Ask Need Item (End Leaf2)
  pub words : IsWords (ask need go)
  pub on : IsOn r (chain r p x) trail (ask need go)
  pub stored : AllUsed P None (marks r (chain r p x) trail)

-- what a row promises of each address of its region; P by the side of the access
abbrev pub IsRowBy : (Side → Mark → Option ℕ → Type 0) → Row → Kind → Type 0
IsRowBy P r leaf1 = (a : Access) → MayServe r a → IsLeafRow1 (P (side_of a.va)) r.key.config r r.trail a
IsRowBy P r table1 = (r.global ≡ false) × ((a : Access) → MayServe r a → IsTableRow1 (P (side_of a.va)) r.key.config r.trail a)
IsRowBy P r leaf2 = (r.key.asid ≡ 0) × (r.global ≡ false)
    × ((s : Side) (p : Bool) (x : ℕ) → holds r.region x ≡ true → IsLeafRow2 (P s) (regime_of r.key.config s) p r.trail x r.region.class)
IsRowBy P r table2 = (r.key.asid ≡ 0) × (r.global ≡ false)
    × ((s : Side) (p : Bool) (x : ℕ) → holds r.region x ≡ true → IsTableRow2 (P s) (regime_of r.key.config s) p r.trail x)

-- a row of a core
abbrev pub IsRow : View → List Inval → Row → Type 0
IsRow v inbox r = IsRowBy (λ s. IsStored (sided v s) inbox r) r r.kind

-- two rows of stage 2 leaves are told apart by what they serve
abbrev pub IsApart2 : Row → Row → Type 0
IsApart2 r s = r.kind ≡ leaf2 → s.kind ≡ leaf2 → r.key.config ≡ s.key.config → r.key.vmid ≡ s.key.vmid → r.region ≡ s.region → ⊥

-- two combined rows that serve the same are not global, and of two ASIDs
abbrev pub IsApart1 : Row → Row → Type 0
IsApart1 r s = r.kind ≡ leaf1 → s.kind ≡ leaf1 → r.key.config ≡ s.key.config → r.key.vmid ≡ s.key.vmid → r.region ≡ s.region
    → r.global ≡ s.global →
    (r.global ≡ false) × (r.key.asid ≡ s.key.asid → ⊥)

abbrev pub IsApart : Row → Row → Type 0
IsApart r s = IsApart2 r s × IsApart1 r s

abbrev pub AllApart : List Row → Type 0
AllApart rows = AllPairs IsApart rows

-- the facts of a core behind a log; the side of the view doesn't count
pub record Facts (v : View) (w : Core) : Type 0 where
  pub bank_is : w.bank ≡ bank_after v.core v.log
  pub mail : (i : Inval) → In i w.inbox → (i.issued < now v) × (IsComplete v.log (now v) i → ⊥)
  pub rows : (r : Row) → In r w.cache.rows → IsRow v w.inbox r
  pub apart : AllApart w.cache.rows

-- the facts of the machine behind a log
pub record AllFacts (h : Header) (log : List Step) (w : World) : Type 0 where
  pub step_is : w.step ≡ length log
  pub memory_is : w.memory ≡ memory_after h log
  pub count : length w.cores ≡ h.cores
  pub each : (c : ℕ) (s : Side) → c < h.cores → Facts (view_of h log c s) (core_numbered w c)
