-- What holds after so many steps: memory, the queues of register writes, and the registers in force. At first all memory
-- and all registers are 0 and all queues empty. That a write waits until it is settled, and that a queue holds 64, are this
-- project's own rules (DDI 0487: a write of a System register may take effect late, and by ISB at the latest).
use Rattle.std.specs.Prelude.{ℕ, ◌==◌, nat_lt, if◌then◌else◌, List, [], ◌∷◌, ◌++◌, length, fold, take}
use Rattle.sysregs.specs.declared.regs.Regs.{Regs}
use Rattle.sysregs.specs.declared.regs.Reg.{Reg}
use Rattle.sysregs.specs.Registers.{zero_regs, set_of}
use Rattle.trails.specs.declared.event.Event.{Event}
use Rattle.trails.specs.declared.event.Event.TheVariants.{Store, Msr, Settle, Isb}
use Rattle.trails.specs.declared.step.Step.{Step}
use Rattle.table_reads.specs.Memory.{Memory}
use Rattle.machine_spec.specs.Header.{Header}
-- memory where each word is 0, and memory with another word at a place
pub use Rattle.phys_mem.specs.Memory.{zeros, stored_at}

-- a store is seen at once
unfoldable pub stored : (memory : Memory) (event : Event) → Memory
stored m (Store core pa value) = stored_at m pa value
stored m _ = m

-- memory after a log
abbrev pub memory_after : (header : Header) (log : List Step) → Memory
memory_after h log = fold (λ m s. stored m s.event) (zeros h.ranges) log

-- a write that waits: the register, and its value
abbrev pub Write : Type 0
Write = Reg × ℕ

-- the registers in force, and the writes that wait, oldest first
pub record Bank : Type 0 where
  pub regs : Regs
  pub queue : List Write

abbrev pub most_queued : ℕ
most_queued = 64

abbrev pub written : (registers : Regs) (write : Write) → Regs
written r w = set_of r w.0 w.1

-- the oldest write takes effect
abbrev pub settled_by : (registers : Regs) (queue : List Write) → Bank
settled_by r [] = record { regs = r; queue = [] }
settled_by r (w ∷ queue) = record { regs = written r w; queue = queue }

abbrev pub settled : (bank : Bank) → Bank
settled b = settled_by b.regs b.queue

-- all writes take effect, oldest first
abbrev pub drained : (bank : Bank) → Bank
drained b = record { regs = fold written b.regs b.queue; queue = [] }

abbrev pub appended : (bank : Bank) (write : Write) → Bank
appended b w = record b { queue = b.queue ++ w ∷ [] }

-- a write waits behind the others; where the queue is full, its oldest takes effect first
abbrev pub queued : (bank : Bank) (write : Write) → Bank
queued b w = if nat_lt (length b.queue) most_queued then appended b w else appended (settled b) w

-- what an event does to the registers of a core
unfoldable pub banked : (core : ℕ) (bank : Bank) (event : Event) → Bank
banked c b (Msr core reg value) = if core == c then queued b (reg, value) else b
banked c b (Settle core) = if core == c then settled b else b
banked c b (Isb core) = if core == c then drained b else b
banked c b _ = b

abbrev pub no_bank : Bank
no_bank = record { regs = zero_regs; queue = [] }

-- queue and registers of a core after a log
abbrev pub bank_after : (core : ℕ) (log : List Step) → Bank
bank_after c log = fold (λ b s. banked c b s.event) no_bank log

-- the registers in force
abbrev pub regs_after : (core : ℕ) (log : List Step) → Regs
regs_after c log = (bank_after c log).regs

-- the registers of a core at a moment, which is after so many steps
abbrev pub regs_at : (log : List Step) (core moment : ℕ) → Regs
regs_at log c k = regs_after c (take k log)
