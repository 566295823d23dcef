-- A core apart from its inbox (this project's own rules).
use Rattle.std.specs.Prelude.{◌≡◌, ◌≤◌, ℕ, List, [], length, All, None}
use Rattle.sysregs.specs.Refused.{refused_field, AreAccepted}
use Rattle.table_reads.specs.Memory.{Memory}
use Rattle.trace_lang.specs.declared.header.Size.TheVariants.{NoRows}
use Rattle.trace_lang.specs.declared.header.Policy.TheVariants.{Fifo}
use Rattle.machine_spec.specs.Header.{Header}
use Rattle.machine_spec.specs.Moments.{Bank, no_bank, most_queued}
use Rattle.machine_spec.specs.Machine.{Visit}
use Rattle.tagged_tlb.specs.declared.row.Row.{Row}
use Rattle.tagged_tlb.specs.Sets.{Cache}
use Rattle.tagged_tlb.specs.Tied.{AreSmall}
use Rattle.served_walk.specs.CanServe.{AreServable}
use Rattle.walk_cache.specs.ByKind.{CachesState, AreCachesOf, AreAlike}

-- its number, its registers with their queue, and its caches
pub record CoreState : Type 0 where
  pub number : ℕ
  pub bank : Bank
  pub caches : CachesState

-- a core at first, without room for rows
abbrev pub no_core_state : CoreState
no_core_state = record {
  number = 0;
  bank = no_bank;
  caches = record {
    size = NoRows;
    sets = record { leaf1 = []; table1 = []; leaf2 = []; table2 = [] };
    chooser = record { last = 0; policy = Fifo };
  };
}

-- the core with other registers and another queue
abbrev pub cpu_with_bank : (core : CoreState) (bank : Bank) → CoreState
cpu_with_bank c b = record c { bank = b }

-- the core as it was, apart from its rows
pub record HasOtherRows (old new : CoreState) : Type 0 where
  pub number : new.number ≡ old.number
  pub bank : new.bank ≡ old.bank
  pub caches : AreAlike old.caches new.caches

-- A core's caches hold these rows, under a header and as the core of that number, and so many were evicted. The definitions have
-- the rows in one list by rank, which a core does not keep: more than one list may be held alike, and what is said of a core holds
-- of each.
abbrev pub AreCaches : (header : Header) (number : ℕ) (cache : Cache) (core : CoreState) → Type 0
AreCaches h n l c = AreCachesOf h n l c.caches

-- rows that a core may have before a step: they can serve, and their classes are small
pub record CanServe (moment : ℕ) (rows : List Row) : Type 0 where
  pub small : AreSmall rows
  pub servable : AreServable moment rows

-- where the core does an access: under a header, with rows that its caches hold, on a memory, at a moment
abbrev pub visit_at : (header : Header) (core : CoreState) (cache : Cache) (memory : Memory) (moment : ℕ) → Visit
visit_at h c l m k = record {
  header = h;
  number = c.number;
  place = record { regs = c.bank.regs; memory = m; rows = l.rows; step = k };
  cache = l;
}

-- the limits of a bank: the queue isn't longer than it may be, and no field is refused that is set or waits
pub record IsBank (b : Bank) : Type 0 where
  pub few : length b.queue ≤ most_queued
  pub waiting : All (λ w. refused_field w.0 w.1 ≡ None) b.queue
  pub accepted : AreAccepted b.regs
