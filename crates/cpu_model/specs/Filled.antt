-- The rows of a step, and caches that get them (this project's own rules).
use Rattle.std.specs.Prelude.{◌≡◌, ℕ, ◌+◌, true, List, fold}
use Rattle.sysregs.specs.declared.regs.Regs.{Regs}
use Rattle.sysregs.specs.Registers.{config_of}
use Rattle.sysregs.specs.Sides.{side_of}
use Rattle.trails.specs.declared.item.Item.{Item}
use Rattle.trails.specs.declared.outcome.Access.{Access}
use Rattle.trace_lang.specs.Traces.{Header}
use Rattle.walk_spec.specs.Ask.{Fed}
use Rattle.walk_spec.specs.Needs.{Need, regime_of}
use Rattle.walk_spec.specs.Steps.{End}
use Rattle.walk_spec.specs.Stage1.{untagged}
use Rattle.walk_spec.specs.BothStages.{Landing, walk}
use Rattle.translate.specs.Replayed.{stands_whole}
use Rattle.tagged_tlb.specs.declared.row.Row.{Row}
use Rattle.tagged_tlb.specs.Sets.{Cache, filled}
use Rattle.machine_spec.specs.Marks.{marks}
use Rattle.machine_spec.specs.Made.{numbered, rows_made}
use Rattle.made_rows.specs.declared.making.NewRow.{NewRow}
use Rattle.made_rows.specs.declared.gather.Walked.{Walked}
use Rattle.made_rows.specs.NewRows.{rows_from, StandsTo, is_mapped}
use Rattle.tagged_tlb.specs.Tied.{AreToldApart}
use Rattle.served_walk.specs.declared.met.Service.{Service}
use Rattle.walk_cache.specs.ByKind.{CachesState, AreCachesOf, added_to}
use Rattle.walk_cache.specs.Services.{AreServices}
use Rattle.cpu_model.specs.Cores.{CoreState, AreCaches}

-- the rows of a step, which are told by their places in its trail, in the order of their making
abbrev pub rows_of_step : (regs : Regs) (step : ℕ) (trail : List Item) (new : List NewRow) → List Row
rows_of_step regs step trail new = numbered 0 (rows_from record { regs = regs; step = step } trail new)

-- rows came one by one, and so many were evicted for them
pub record HoldMore (h : Header) (core : ℕ) (l : Cache) (rows : List Row) (evicted : ℕ) (new : CachesState) : Type 0 where
  pub caches : AreCachesOf h core (fold (added_to h core) l rows) new
  pub count : (fold (added_to h core) l rows).evictions ≡ l.evictions + evicted

-- the same for each list that the caches held
abbrev pub Fills : (old : CachesState) (rows : List Row) (evicted : ℕ) (new : CachesState) → Type 0
Fills old rows evicted new = (h : Header) → (core : ℕ) → (l : Cache) → AreCachesOf h core l old → HoldMore h core l rows evicted new

-- an access stands on its trail up to this end
pub record StandsIn (regs : Regs) (walked : Walked) (end : Fed Need (End Landing)) : Type 0 where
  pub stands : StandsTo (stands_whole (config_of regs) walked.access.now walked.trail.now) end
  pub mapped : walked.is_mapped ≡ is_mapped end

-- the rows that a step makes whose access came to this end on a trail
abbrev pub made_of : (regs : Regs) (step : ℕ) (access : Access) (trail : List Item) (end : Fed Need (End Landing)) → List Row
made_of regs step a trail end =
    let c = config_of regs in
    rows_made record { regs = regs; step = step } (untagged a.va) trail (marks (regime_of c (side_of a.va)) (walk c true a) trail) end

-- caches behind a step: these rows served in it, these came, and so many were evicted
pub record IsFilled (h : Header) (core : ℕ) (l : Cache) (served made : List Row) (evicted : ℕ) (new : CachesState) : Type 0 where
  pub caches : AreCachesOf h core (filled h core l served made) new
  pub count : (filled h core l served made).evictions ≡ l.evictions + evicted

-- the same for each list of rows that the core's caches held, by the services of the step
abbrev pub FilledBy : (core : CoreState) (moment : ℕ) (walked : Walked) (services : List Service) (evicted : ℕ) (new : CachesState) → Type 0
FilledBy c k w services evicted new =
    (h : Header) → (l : Cache) → (served : List Row) → (end : Fed Need (End Landing)) → AreCaches h c.number l c → AreToldApart l.rows
    → AreServices h.size l.rows services served → StandsIn c.bank.regs w end
    → IsFilled h c.number l served (made_of c.bank.regs k w.access.now w.trail.now end) evicted new
