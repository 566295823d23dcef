-- What is said of an access that is served, and of the rows that it makes.
use Rattle.std.proofs.Common.{◌≡◌, ℕ, ◌≤◌, Bool, true, false, List, [], ◌∷◌, ◌++◌, ◌⊎◌, Option, Some, None}
use Rattle.std.specs.Prelude.{unwrap_or}
use Rattle.sysregs.specs.Registers.{config_of}
use Rattle.sysregs.specs.Sides.{side_of}
use Rattle.fault_codes.specs.declared.fault.Fault.{Fault}
use Rattle.trails.specs.declared.item.Item.{Item}
use Rattle.trails.specs.declared.outcome.Access.{Access}
use Rattle.trails.specs.declared.outcome.Outcome.TheVariants.{Conflict}
use Rattle.trails.specs.declared.event.Event.{Event}
use Rattle.trails.specs.declared.step.Step.{Step}
use Rattle.tlbi_ops.specs.declared.inval.Inval.{Inval}
use Rattle.walk_spec.specs.declared.leaf.Leaf2.{Leaf2}
use Rattle.walk_spec.specs.Ask.{Ask, done, ask, Fed, ended, lacks}
use Rattle.walk_spec.specs.Needs.{Regime, Need, stage2_base, word, WordNeed}
use Rattle.walk_spec.specs.Steps.{End, stops, reaches}
use Rattle.walk_spec.specs.Stage2.{is_refused2}
use Rattle.walk_spec.specs.Stage1.{untagged}
use Rattle.walk_spec.specs.BothStages.{Landing, walk}
use Rattle.walk_spec.specs.Fresh.{fed_outcome}
use Rattle.tagged_tlb.specs.declared.row.Kind.TheVariants.{Leaf1 as leaf1}
use Rattle.machine_spec.specs.Moments.{memory_after, regs_after}
use Rattle.machine_spec.specs.Invalidations.{issued_by}
use Rattle.machine_spec.specs.Marks.{Mark, marks}
use Rattle.machine_spec.specs.Uses.{next_first, AllUsed, LastIs}
use Rattle.machine_spec.specs.Kept.{View, now, IsKeptNow, IsNowBase}
use Rattle.machine_spec.specs.Allowed.{is_of_word, IsNowOf, last_entry, IsRight}
use Rattle.tagged_tlb.specs.declared.row.Row.{Row}
use Rattle.tagged_tlb.specs.Rows.{matches1}
use Rattle.machine_spec.specs.Made.{key_of, last_first}
use Rattle.tagged_tlb.specs.Sets.{Cache, filled}
use Rattle.machine_spec.specs.Served.{Supplied, gives, halts, Place, supply, Halt, came, clash, Reply, serve, served}
use Rattle.machine_spec.specs.Machine.{Core, made_by}
use Rattle.machine_laws.specs.Standing.{IsOn}
use Rattle.machine_laws.proofs.Trees.{chain, Plan, flat, IsSound, IsWords, IsWord}
use Rattle.machine_laws.proofs.Facts.{In, regime_for, IsRow, AllApart, Facts}

-- kept as of now, with a use that has been
abbrev pub Good : View → Mark → Option ℕ → Type 0
Good v m o = IsKeptNow v m o × (unwrap_or o (now v) ≤ now v)

-- a use that is still to come, or now
abbrev pub IsNow : ℕ → Option ℕ → Type 0
IsNow k None = Unit {0}
IsNow k (Some u) = u ≡ k

-- the last item where a walk ends so: behind a translation a word; behind a word's fault it was read now
abbrev pub LastOk : ℕ → End Landing → List Mark → Type 0
LastOk k (reaches l) ms = LastIs IsWord ms
LastOk k (stops f) ms = is_of_word f.class ≡ true → LastIs (IsNowOf f.stage k) ms

-- the items of a tree are kept, below the stage 1 leaf whose moment is above, if there is one; the next use of stage 1 is now
pub record Kept1 (v : View) (r : Regime) (above : Option ℕ) (t : Ask Need Item (End Landing)) (items : List Item) : Type 0 where
  pub used : AllUsed (Good v) above (marks r t items)
  pub next : IsNow (now v) (next_first (marks r t items))
  pub last_base : LastIs (IsNowBase (now v)) (marks r t items)

-- what a core meets behind the log of a view
abbrev pub place_of : View → List Row → Place
place_of v rows = record { regs = regs_after v.core v.log; memory = memory_after v.header v.log; rows = rows; step = now v }

-- the register fields of now, and the walk of an access under them
abbrev pub config_at : View → Rattle.sysregs.specs.declared.regs.Config.Config
config_at v = config_of (regs_after v.core v.log)

abbrev pub here : View → Access → Ask Need Item (End Landing)
here v a = walk (config_at v) true a

-- items on which a tree was served; K says that a list of items is kept
abbrev pub FineOf : (K : List Item → Type 0) → View → Regime → Ask Need Item (End Landing) → List Item → Halt → Type 0
FineOf K v r t items (came (ended e)) = IsOn r t items (done e) × K items × LastOk (now v) e (marks r t items)
FineOf K v r t items (came (lacks n)) =
    (w : WordNeed) × (k : Item → Ask Need Item (End Landing)) × (n ≡ word w) × IsOn r t items (ask n k) × K items
    × (memory_after v.header v.log w.place ≡ None)
FineOf K v r t items (clash one two) =
    (x : ℕ) × (k : Item → Ask Need Item (End Landing)) × IsOn r t items (ask (stage2_base x) k)
    × ((p : Bool) × (l : Leaf2) × IsOn r (chain r p x) one (done (reaches l)))
    × ((p : Bool) × (l : Leaf2) × IsOn r (chain r p x) two (done (reaches l)))
    × (last_entry one ≡ last_entry two → ⊥) × K (items ++ one) × K (items ++ two) × (is_refused2 r.config x ≡ false)

abbrev pub FineBy : View → Regime → Option ℕ → Ask Need Item (End Landing) → List Item → Halt → Type 0
FineBy v r above t items halt = FineOf (Kept1 v r above t) v r t items halt

-- how a chain may begin: by a row, or by the register
pub record Start (v : View) (r : Regime) (p : Bool) (x : ℕ) (i : Item) (rest : List Item) : Type 0 where
  pub left : Ask Need Item (End Leaf2)
  pub words : IsWords left
  pub on : IsOn r (chain r p x) (i ∷ rest) left
  pub used : AllUsed (Good v) None (marks r (chain r p x) (i ∷ rest))
  pub last_base : LastIs (IsNowBase (now v)) (marks r (chain r p x) (i ∷ rest))
  pub goes : (f : Fault) → left ≡ done (stops f) → (rest ≡ []) × (i.moment ≡ now v)
  pub word : (l : Leaf2) → left ≡ done (reaches l) → LastIs IsWord (marks r (chain r p x) (i ∷ rest))

-- a row's whole chain
pub record Whole (v : View) (r : Regime) (p : Bool) (x : ℕ) (items : List Item) : Type 0 where
  pub leaf : Leaf2
  pub on : IsOn r (chain r p x) items (done (reaches leaf))
  pub used : AllUsed (Good v) None (marks r (chain r p x) items)
  pub last_base : LastIs (IsNowBase (now v)) (marks r (chain r p x) items)

abbrev pub Begins : View → Regime → Bool → ℕ → Supplied → Type 0
Begins v r p x (gives i rest by) = Start v r p x i rest
Begins v r p x (halts (came e)) = ⊥
Begins v r p x (halts (clash one two)) = Whole v r p x one × Whole v r p x two × (last_entry one ≡ last_entry two → ⊥)

-- every plan is served well where every chain begins well
abbrev pub PlansAreFine : Type 0
PlansAreFine =
    (v : View) (rows : List Row) (a : Access) → v.side ≡ side_of a.va →
    ((p : Bool) (x : ℕ) → Begins v (regime_for (config_at v) a) p x (supply (place_of v rows) a (stage2_base x))) →
    (p : Plan) → IsSound (regime_for (config_at v) a) p → (above : Option ℕ) → IsNow (now v) above →
    let t = flat (regime_for (config_at v) a) p in
    let r = serve (supply (place_of v rows) a) [] t in
    FineBy v (regime_for (config_at v) a) above t r.items r.halt

-- the answer of a reply is right
abbrev pub RightBy : View → Access → Reply → Halt → Type 0
RightBy v a r (came end) = IsRight (record { view = v; access = a }) r.items None (fed_outcome end)
RightBy v a r (clash one two) = IsRight (record { view = v; access = a }) (r.items ++ one) (Some (r.items ++ two)) Conflict

-- the items that the walk took, and their uses
pub record IsUsed (v : View) (a : Access) (items : List Item) (u : Ask Need Item (End Landing)) : Type 0 where
  pub on : IsOn (regime_for (config_at v) a) (here v a) items u
  pub used : AllUsed (Good v) None (marks (regime_for (config_at v) a) (here v a) items)

-- what the rows that are made need
abbrev pub UsedBy : View → Access → Reply → Halt → Type 0
UsedBy v a r (came (ended e)) = IsUsed v a r.items (done e)
UsedBy v a r (came (lacks n)) = (k : Item → Ask Need Item (End Landing)) × IsUsed v a r.items (ask n k)
UsedBy v a r (clash one two) = Unit {0}

-- where the stage 1 leaf was read now, no combined row matched
abbrev pub IsAlone : View → List Row → Access → Reply → Type 0
IsAlone v rows a r =
    (m : Mark) → last_first (marks (regime_for (config_at v) a) (here v a) r.items) ≡ Some m → m.item.moment ≡ now v →
    (x : Row) → In x rows → matches1 leaf1 (key_of (regs_after v.core v.log)) (untagged a.va) x ≡ false

pub record ServedOk (v : View) (rows : List Row) (a : Access) (r : Reply) : Type 0 where
  pub right : RightBy v a r r.halt
  pub used : UsedBy v a r r.halt
  pub alone : IsAlone v rows a r
  pub live : (x : Row) → In x r.by → In x rows

-- every access is served well over the rows of a core
abbrev pub ServesWell : Type 0
ServesWell = (v : View) (w : Core) (a : Access) → v.side ≡ side_of a.va → Facts v w → ServedOk v w.cache.rows a (served (place_of v w.cache.rows) a)

-- the view of one more step
abbrev pub longer : View → Step → View
longer v s = record v { log = v.log ++ s ∷ [] }

-- the invalidation that an event issues behind the log
abbrev pub issued_now : View → Event → Option Inval
issued_now v e = issued_by (λ c. regs_after c v.log) (now v) e

-- the rows behind a step: those before, and others that have their fact behind it
pub record MadeOk (v : View) (s : Step) (w : Core) (l : Cache) : Type 0 where
  pub rows : (x : Row) → In x l.rows → In x w.cache.rows ⊎ IsRow (longer v s) w.inbox x
  pub apart : AllApart l.rows

-- every reply makes rows well
abbrev pub MakesWell : Type 0
MakesWell =
    (v : View) (w : Core) (a : Access) (s : Step) (r : Reply) (end : Fed Need (End Landing)) → v.side ≡ side_of a.va →
    ((i : Inval) → issued_now v s.event ≡ Some i → ⊥) → Facts v w → ServedOk v w.cache.rows a r → r.halt ≡ came end →
    MadeOk v s w (filled v.header v.core w.cache r.by (made_by (place_of v w.cache.rows) a r (came end)))
