-- The machine: what each event does to each core, and the run of a trace (this project's own rules).
use Rattle.std.specs.Prelude.{ℕ, ◌+◌, ◌-◌, Bool, true, false, not, ◌==◌, nat_lt, if◌then◌else◌, List, [], ◌∷◌, ◌++◌}
use Rattle.std.specs.Prelude.{length, fold, filter, get_or, replicate, Option, Some, None}
use Rattle.std.specs.List.{list_any}
use Rattle.sysregs.specs.declared.regs.Regs.{Regs}
use Rattle.sysregs.specs.Registers.{config_of, asid_of, vmid_of}
use Rattle.sysregs.specs.Sides.{side_of}
use Rattle.trails.specs.declared.item.Item.{Item}
use Rattle.trails.specs.declared.outcome.Access.{Access}
use Rattle.trails.specs.declared.outcome.Outcome.TheVariants.{Conflict}
use Rattle.trails.specs.declared.event.Event.{Event}
use Rattle.trails.specs.declared.event.Event.TheVariants.{Tlbi, Dsb, Deliver, Access as AccessOf, Prefetch}
use Rattle.trails.specs.declared.step.Answer.{Answer}
use Rattle.trails.specs.declared.step.Step.{Step}
use Rattle.table_reads.specs.Memory.{Memory}
use Rattle.tlbi_ops.specs.declared.inval.Inval.{Inval}
use Rattle.tlbi_ops.specs.Operands.{reaches_core}
use Rattle.tlbi_ops.specs.Covers.{covers}
use Rattle.walk_spec.specs.Needs.{regime_of}
use Rattle.walk_spec.specs.Stage1.{untagged}
use Rattle.walk_spec.specs.BothStages.{walk}
use Rattle.walk_spec.specs.Fresh.{fed_outcome}
use Rattle.machine_spec.specs.Header.{Header}
use Rattle.machine_spec.specs.Moments.{zeros, stored, Bank, no_bank, banked}
use Rattle.machine_spec.specs.Invalidations.{issued_by, completes}
use Rattle.machine_spec.specs.Marks.{marks}
use Rattle.machine_spec.specs.Allowed.{is_earlier, is_changed}
use Rattle.tagged_tlb.specs.declared.row.Row.{Row}
use Rattle.machine_spec.specs.Made.{rows_made}
use Rattle.tagged_tlb.specs.Sets.{Cache, filled}
use Rattle.machine_spec.specs.Served.{Place, Reply, Halt, came, clash, served}

-- a core: its registers with their queue, the invalidations that have reached it and have not taken effect, oldest first,
-- and its rows
pub record Core : Type 0 where
  pub bank : Bank
  pub inbox : List Inval
  pub cache : Cache

-- the machine: the number of the coming step, memory, and the cores
pub record World : Type 0 where
  pub step : ℕ
  pub memory : Memory
  pub cores : List Core

abbrev pub no_core : Core
no_core = record { bank = no_bank; inbox = []; cache = record { rows = []; evictions = 0 } }

-- the core with other registers and another queue
abbrev pub with_bank : (core : Core) (bank : Bank) → Core
with_bank w b = record w { bank = b }

-- the core with other rows
abbrev pub with_cache : (core : Core) (cache : Cache) → Core
with_cache w l = record w { cache = l }

-- INVALIDATIONS

-- an invalidation takes effect at a core: the rows that it covers go
abbrev pub killed : (cache : Cache) (inval : Inval) → Cache
killed l i = record l { rows = filter (λ r. not (covers i r.tag)) l.rows }

-- the oldest takes effect
abbrev pub delivered_by : (core : Core) (inbox : List Inval) → Core
delivered_by w [] = w
delivered_by w (i ∷ later) = record w { inbox = later; cache = killed w.cache i }

abbrev pub delivered : (core : Core) → Core
delivered w = delivered_by w w.inbox

abbrev pub most_held : ℕ
most_held = 64

abbrev pub posted : (core : Core) (inval : Inval) → Core
posted w i = record w { inbox = w.inbox ++ i ∷ [] }

-- an invalidation comes in; where the inbox is full, its oldest takes effect first
abbrev pub mailed : (core : Core) (inval : Inval) → Core
mailed w i = if nat_lt (length w.inbox) most_held then posted w i else posted (delivered w) i

abbrev pub mailed_by : (number : ℕ) (core : Core) (issued : Option Inval) → Core
mailed_by c w None = w
mailed_by c w (Some i) = if reaches_core i c then mailed w i else w

-- the invalidations that an event completes take effect, oldest first, and leave
abbrev pub finished : (core : Core) (event : Event) → Core
finished w e = record w {
  inbox = filter (λ i. not (completes e i)) w.inbox;
  cache = fold killed w.cache (filter (completes e) w.inbox);
}

-- ACCESSES

-- what an access leaves: its answer, and the rows
pub record Visited : Type 0 where
  pub answer : Answer
  pub cache : Cache

-- where an access is done: the trace's header, the core's number, what it meets there, and the rows with their evictions
pub record Visit : Type 0 where
  pub header : Header
  pub number : ℕ
  pub place : Place
  pub cache : Cache

-- whether a trail is old
abbrev pub is_old : (place : Place) (items : List Item) → Bool
is_old p items = list_any (is_earlier p.step) items

-- whether it differs from now
abbrev pub is_stale : (place : Place) (access : Access) (items : List Item) → Bool
is_stale p a items = list_any (is_changed p.regs (side_of a.va) p.memory) items

-- the rows that a reply makes, which is no conflict
abbrev pub made_by : (place : Place) (access : Access) (reply : Reply) (halt : Halt) → List Row
made_by p a r (came end) =
    let c = config_of p.regs in
    rows_made record { regs = p.regs; step = p.step } (untagged a.va) r.items (marks (regime_of c (side_of a.va)) (walk c true a) r.items) end
made_by p a r (clash one two) = []

-- the answer and the rows by how the service halted; a conflict makes and moves none
abbrev pub visited_by : (visit : Visit) (access : Access) (reply : Reply) (halt : Halt) → Visited
visited_by v a r (came end) =
    let l = filled v.header v.number v.cache r.by (made_by v.place a r (came end)) in
    record {
      answer = record {
        asid = asid_of v.place.regs;
        vmid = vmid_of v.place.regs;
        outcome = fed_outcome end;
        first = r.items;
        second = None;
        old = is_old v.place r.items;
        stale = is_stale v.place a r.items;
        evicted = l.evictions - v.cache.evictions;
      };
      cache = l;
    }
visited_by v a r (clash one two) =
    record {
      answer = record {
        asid = asid_of v.place.regs;
        vmid = vmid_of v.place.regs;
        outcome = Conflict;
        first = r.items ++ one;
        second = Some (r.items ++ two);
        old = is_old v.place (r.items ++ one);
        stale = false;
        evicted = 0;
      };
      cache = v.cache;
    }

-- an access or a prefetch
abbrev pub visited : (visit : Visit) (access : Access) → Visited
visited v a = let r = served v.place a in visited_by v a r r.halt

-- EVENTS

abbrev pub visit_of : (header : Header) (world : World) (number : ℕ) (core : Core) → Visit
visit_of h w c core = record {
  header = h;
  number = c;
  place = record { regs = core.bank.regs; memory = w.memory; rows = core.cache.rows; step = w.step };
  cache = core.cache;
}

-- the core of a number
abbrev pub core_numbered : (world : World) (number : ℕ) → Core
core_numbered w c = get_or w.cores c no_core

-- the registers in force of the cores
abbrev pub regs_in : (world : World) (number : ℕ) → Regs
regs_in w c = (core_numbered w c).bank.regs

-- what an access leaves of a core
abbrev pub accessed : (header : Header) (world : World) (number : ℕ) (core : Core) (access : Access) → Core
accessed h w c core a = record core { cache = (visited (visit_of h w c core) a).cache }

-- what an event does to the inbox and the rows of a core
unfoldable pub acted : (header : Header) (world : World) (number : ℕ) (core : Core) (event : Event) → Core
acted h w c v (Tlbi core from op shared operand) = mailed_by c v (issued_by (regs_in w) w.step (Tlbi core from op shared operand))
acted h w c v (Dsb core kind) = finished v (Dsb core kind)
acted h w c v (Deliver core) = if core == c then delivered v else v
acted h w c v (AccessOf core access) = if core == c then accessed h w c v access else v
acted h w c v (Prefetch core access) = if core == c then accessed h w c v access else v
acted h w c v _ = v

-- what an event does to a core: its registers by the rules of their queue, and the rest
abbrev pub moved : (header : Header) (world : World) (event : Event) (number : ℕ) (core : Core) → Core
moved h w e c v = record (acted h w c v e) { bank = banked c v.bank e }

-- a function of number and value at each place of a list
abbrev pub at_each : {X : Type 0} → (change : ℕ → X → X) (number : ℕ) (list : List X) → List X
at_each f n [] = []
at_each f n (x ∷ list) = f n x ∷ at_each f (n + 1) list

-- the machine after an event
abbrev pub after_event : (header : Header) (world : World) (event : Event) → World
after_event h w e = record { step = w.step + 1; memory = stored w.memory e; cores = at_each (moved h w e) 0 w.cores }

-- the machine at first
abbrev pub opened : (header : Header) → World
opened h = record { step = 0; memory = zeros h.ranges; cores = replicate h.cores no_core }

-- the machine after events
abbrev pub world_after : (header : Header) (events : List Event) → World
world_after h events = fold (after_event h) (opened h) events

abbrev pub answer_in : (header : Header) (world : World) (number : ℕ) (access : Access) → Answer
answer_in h w c a = (visited (visit_of h w c (core_numbered w c)) a).answer

-- the answer of an event, which an access and a prefetch have
unfoldable pub answer_to : (header : Header) (world : World) (event : Event) → Option Answer
answer_to h w (AccessOf core access) = Some (answer_in h w core access)
answer_to h w (Prefetch core access) = Some (answer_in h w core access)
answer_to h w _ = None

abbrev pub step_of : (header : Header) (world : World) (event : Event) → Step
step_of h w e = record { event = e; answer = answer_to h w e }

-- the steps of events from a machine on
abbrev pub run_from : (header : Header) (world : World) (events : List Event) → List Step
run_from h w [] = []
run_from h w (e ∷ events) = step_of h w e ∷ run_from h (after_event h w e) events

-- the run of a trace: its log
abbrev pub run_of : (header : Header) (events : List Event) → List Step
run_of h events = run_from h (opened h) events
