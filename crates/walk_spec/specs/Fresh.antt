-- The fresh walk: every base is that of the registers, and every word that of a memory.
use Rattle.std.specs.Prelude.{ℕ, List, Option, Some, option_map, true}
use Rattle.geometry.specs.Tables.{level_of}
use Rattle.sysregs.specs.declared.regs.Regs.{Regs}
use Rattle.sysregs.specs.declared.regs.Side.{Side}
use Rattle.sysregs.specs.Registers.{config_of, ttbr_base, vttbr_base}
use Rattle.sysregs.specs.Sides.{side_of}
use Rattle.fault_codes.specs.declared.fault.Stage.TheVariants.{S1, S2}
use Rattle.trails.specs.declared.item.Item.{Item}
use Rattle.trails.specs.declared.outcome.Access.{Access}
use Rattle.trails.specs.declared.outcome.Outcome.{Outcome}
use Rattle.trails.specs.declared.outcome.Outcome.TheVariants.{Absent, Conflict}
use Rattle.table_reads.specs.Numbers.{sizes1, sizes2}
use Rattle.table_reads.specs.Places.{aligned_base}
use Rattle.table_reads.specs.Items.{base_item}
use Rattle.table_reads.specs.Memory.{Memory}
use Rattle.walk_spec.specs.Ask.{Fed, ended, lacks, fed_items, fed_end}
use Rattle.walk_spec.specs.Needs.{Need, stage1_base, stage2_base, word, needed_item}
use Rattle.walk_spec.specs.Steps.{End}
use Rattle.walk_spec.specs.BothStages.{Landing, walk, outcome_of}

-- the base of stage 1 for a side: that of TTBR0_EL1 or TTBR1_EL1, aligned to the start table's size
abbrev pub start_base1 : (regs : Regs) (side : Side) → ℕ
start_base1 regs s = aligned_base (sizes1 (config_of regs) s) (ttbr_base regs s)

-- the base of stage 2: that of VTTBR_EL2, aligned to the start table's size
abbrev pub start_base2 : (regs : Regs) → ℕ
start_base2 regs = aligned_base (sizes2 (config_of regs)) (vttbr_base regs)

-- what registers and a memory give for a need, at a moment
abbrev pub given : (regs : Regs) (side : Side) (memory : Memory) (moment : ℕ) (need : Need) → Option Item
given regs s m k stage1_base = Some (base_item k S1 (sizes1 (config_of regs) s) (start_base1 regs s))
given regs s m k (stage2_base _) = Some (base_item k S2 (sizes2 (config_of regs)) (start_base2 regs))
given regs s m k (word w) = option_map (needed_item k w) (m w.place)

-- how the walk comes out that was fed so far: a place that memory lacks is absent
abbrev pub fed_outcome : (end : Fed Need (End Landing)) → Outcome
fed_outcome (ended e) = outcome_of e
fed_outcome (lacks (word w)) = Absent w.stage (level_of w.left) w.place w.s1ptw
fed_outcome (lacks stage1_base) = Conflict
fed_outcome (lacks (stage2_base _)) = Conflict

-- the items of the fresh walk at a moment
abbrev pub fresh_items : (memory : Memory) (regs : Regs) (access : Access) (moment : ℕ) → List Item
fresh_items m regs a k = fed_items (given regs (side_of a.va) m k) (walk (config_of regs) true a)

-- the outcome of the fresh walk
abbrev pub fresh_outcome : (memory : Memory) (regs : Regs) (access : Access) (moment : ℕ) → Outcome
fresh_outcome m regs a k = fed_outcome (fed_end (given regs (side_of a.va) m k) (walk (config_of regs) true a))
