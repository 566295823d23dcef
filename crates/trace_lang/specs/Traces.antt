-- What a trace is, and its limits (this project's own rules).
use Rattle.std.specs.Prelude.{◌≡◌, ℕ, ◌+◌, ◌^◌, ◌<◌, ◌≤◌, Bool, true, false}
use Rattle.std.specs.Prelude.{List, [], ◌∷◌, ◌++◌, length, All, None}
use Rattle.std.specs.List.{list_any}
use Rattle.sysregs.specs.declared.regs.Op.{Op}
use Rattle.sysregs.specs.Ops.{form_of, has_operand, is_of_el1}
use Rattle.sysregs.specs.Refused.{msr_refused_field}
use Rattle.trails.specs.declared.event.Event.{Event}
use Rattle.trails.specs.declared.event.Event.TheVariants.{Store, Msr, Settle, Isb, Tlbi, Dsb, Deliver, Access, Prefetch}
use Rattle.trails.specs.declared.event.Origin.{Origin}
use Rattle.trails.specs.declared.event.Origin.TheVariants.{El1, El2}
use Rattle.phys_mem.specs.Memory.{is_aligned}
use Rattle.phys_mem.specs.Ranges.{is_range, share_byte, bytes_of}
use Rattle.phys_mem.specs.Words.{holds_word}
use Rattle.trace_lang.specs.declared.header.Size.{Size}
use Rattle.trace_lang.specs.declared.header.Policy.{Policy}

-- how many cores there are, the ranges of memory (start and length in bytes), the size of the caches and their policy
pub record Header : Type 0 where
  pub cores : ℕ
  pub ranges : List (ℕ × ℕ)
  pub size : Size
  pub policy : Policy

-- a trace: its header, and its events in order
pub record Parts : Type 0 where
  pub header : Header
  pub events : List Event

abbrev pub parts_of : (cores : ℕ) (ranges : List (ℕ × ℕ)) (size : Size) (policy : Policy) (events : List Event) → Parts
parts_of cores ranges size policy events = record { header = record { cores = cores; ranges = ranges; size = size; policy = policy }; events = events }

abbrev pub most_cores : ℕ
most_cores = 8

abbrev pub most_ranges : ℕ
most_ranges = 16

abbrev pub most_events : ℕ
most_events = 50000

-- 64 MiB
abbrev pub most_memory : ℕ
most_memory = 2 ^ 26

-- the eight bytes at a place lie in one range
abbrev pub is_within : (ranges : List (ℕ × ℕ)) (place : ℕ) → Bool
is_within ranges p = list_any (λ r. holds_word r p) ranges

-- an exception level may issue an operation
abbrev pub may_issue : (from : Origin) (op : Op) → Bool
may_issue El1 op = is_of_el1 (form_of op).scope
may_issue El2 op = true

-- a range may stand behind others: it shares no byte with them, and there is no more memory than there may be
pub record RangeFits (earlier : List (ℕ × ℕ)) (r : ℕ × ℕ) : Type 0 where
  pub range : is_range r ≡ true
  pub sum : bytes_of earlier + r.1 ≤ most_memory
  pub apart : list_any (share_byte r) earlier ≡ false

-- each range fits behind those before it
abbrev pub RangesFitBehind : (earlier ranges : List (ℕ × ℕ)) → Type 0
RangesFitBehind earlier [] = Unit {0}
RangesFitBehind earlier (r ∷ ranges) = RangeFits earlier r × RangesFitBehind (earlier ++ r ∷ []) ranges

-- what an event of a core needs besides
abbrev pub EventFitsBy : (header : Header) (event : Event) → Type 0
EventFitsBy h (Store core pa value) = (is_aligned pa ≡ true) × (is_within h.ranges pa ≡ true)
EventFitsBy h (Msr core reg value) = msr_refused_field reg value ≡ None
EventFitsBy h (Tlbi core from op shared operand) = (may_issue from op ≡ true) × (has_operand (form_of op).scope ≡ false → operand ≡ 0)
EventFitsBy h (Prefetch core access) = access.pan ≡ false
EventFitsBy h _ = Unit {0}

-- the core that does an event
abbrev pub core_of : (event : Event) → ℕ
core_of (Store core pa value) = core
core_of (Msr core reg value) = core
core_of (Settle core) = core
core_of (Isb core) = core
core_of (Tlbi core from op shared operand) = core
core_of (Dsb core kind) = core
core_of (Deliver core) = core
core_of (Access core access) = core
core_of (Prefetch core access) = core

-- an event fits the header
abbrev pub EventFits : (header : Header) (event : Event) → Type 0
EventFits h e = (core_of e < h.cores) × EventFitsBy h e

-- the limits of a trace
pub record IsTrace (t : Parts) : Type 0 where
  pub some_cores : 1 ≤ t.header.cores
  pub cores : t.header.cores ≤ most_cores
  pub count : length t.header.ranges ≤ most_ranges
  pub ranges : RangesFitBehind [] t.header.ranges
  pub events : length t.events ≤ most_events
  pub each : All (EventFits t.header) t.events
