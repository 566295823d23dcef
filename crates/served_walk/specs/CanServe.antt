-- What the rows of a core are good for, over every run (this project's own rules).
use Rattle.std.specs.Prelude.{◌≡◌, ◌⊎◌, ℕ, ◌<◌, ◌≤◌, false, true, List, [], length}
use Rattle.sysregs.specs.declared.regs.Side.{Side}
use Rattle.trails.specs.declared.event.Event.{Event}
use Rattle.trails.specs.declared.outcome.Access.{Access}
use Rattle.trails.specs.declared.outcome.Outcome.{Outcome}
use Rattle.trails.specs.Lengths.{most_items, most_items2}
use Rattle.walk_spec.specs.declared.leaf.Leaf2.{Leaf2}
use Rattle.walk_spec.specs.Ask.{needs, ends}
use Rattle.walk_spec.specs.Needs.{word, WordNeed}
use Rattle.walk_spec.specs.Steps.{reaches}
use Rattle.walk_spec.specs.Stage1.{stands2}
use Rattle.walk_spec.specs.Stage2.{is_refused2}
use Rattle.translate.specs.Replayed.{EndsOn, NeedsMore}
use Rattle.machine_spec.specs.Header.{Header}
use Rattle.tagged_tlb.specs.declared.row.Kind.{Kind}
use Rattle.tagged_tlb.specs.declared.row.Kind.TheVariants.{Leaf1, Table1, Leaf2 as OfLeaf2, Table2}
use Rattle.tagged_tlb.specs.declared.row.Row.{Row}
use Rattle.tagged_tlb.specs.Rows.{holds}
use Rattle.tagged_tlb.specs.Tied.{AreToldApart}
use Rattle.machine_spec.specs.Machine.{core_numbered, world_after}
use Rattle.machine_laws.specs.Headline.{AreOfCores}
use Rattle.machine_laws.specs.Leaving.{In}
use Rattle.machine_laws.specs.MayServe.{MayServe}

-- the judged walk of an access ends on the first items of the row's trail
abbrev pub Ends : (row : Row) (access : Access) → Type 0
Ends r a = (len : ℕ) × (o : Outcome) × EndsOn r.key.config a r.trail len o

-- An address that a row holds, and an access that it may serve: the walk of a combined row ends on its trail, and that of a
-- table of stage 1 needs more behind it, or ends in a fault of stage 2. A leaf of stage 2 ends the chain of its trail just behind
-- the last item, and a table of stage 2 needs a word behind it.
abbrev pub ServesAs : (row : Row) (kind : Kind) → Type 0
ServesAs r Leaf1 = (a : Access) → MayServe r a → Ends r a × (length r.trail ≤ most_items)
ServesAs r Table1 = (a : Access) → MayServe r a → (Ends r a ⊎ NeedsMore r.key.config a r.trail) × (length r.trail ≤ most_items)
ServesAs r OfLeaf2 =
    (s : Side) (x : ℕ) → holds r.region x ≡ true → is_refused2 r.key.config x ≡ false →
    ((l : Leaf2) × (stands2 r.key.config s false x r.trail ≡ ends (reaches l) [])) × (length r.trail ≤ most_items2)
ServesAs r Table2 =
    (s : Side) (x : ℕ) → holds r.region x ≡ true → is_refused2 r.key.config x ≡ false →
    ((w : WordNeed) × (stands2 r.key.config s false x r.trail ≡ needs (word w))) × (length r.trail ≤ most_items2)

-- the rows of a core before a step
pub record AreServable (step : ℕ) (rows : List Row) : Type 0 where
  pub told : AreToldApart rows
  pub before : (r : Row) → In r rows → r.made.step < step
  pub serves : (r : Row) → In r rows → ServesAs r r.kind

-- Over every run the rows of each core can serve.
abbrev pub RowsCanServe : Type 0
RowsCanServe =
    (h : Header) (events : List Event) → AreOfCores h events → (c : ℕ) → c < h.cores →
    let w = world_after h events in AreServable w.step (core_numbered w c).cache.rows
