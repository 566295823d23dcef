-- Trails that the memory and the registers of now would give again.
use Rattle.std.specs.Prelude.{◌≡◌, ℕ, true, List, [], ◌∷◌, map, Some}
use Rattle.sysregs.specs.declared.regs.Regs.{Regs}
use Rattle.sysregs.specs.declared.regs.Side.{Side}
use Rattle.sysregs.specs.Registers.{config_of}
use Rattle.sysregs.specs.Sides.{side_of}
use Rattle.trails.specs.declared.item.Item.{Item}
use Rattle.trails.specs.declared.outcome.Access.{Access}
use Rattle.table_reads.specs.Memory.{Memory}
use Rattle.walk_spec.specs.Ask.{Ask, done, ask}
use Rattle.walk_spec.specs.Needs.{Need, stage1_base, stage2_base, word}
use Rattle.walk_spec.specs.BothStages.{walk}
use Rattle.walk_spec.specs.Fresh.{start_base1, start_base2}

-- an item is as now: a word stands at the very place that is needed, and memory has it there; a base is the register's
abbrev pub IsAsNow : (registers : Regs) (side : Side) (memory : Memory) (need : Need) (item : Item) → Type 0
IsAsNow regs s m stage1_base i = i.value ≡ start_base1 regs s
IsAsNow regs s m (stage2_base x) i = i.value ≡ start_base2 regs
IsAsNow regs s m (word w) i = (i.pa ≡ w.place) × (m w.place ≡ Some i.value)

-- each item that a walk meets is as now
abbrev pub AreAsNow : {A : Type 0} → (registers : Regs) (side : Side) (memory : Memory) (walk : Ask Need Item A) (items : List Item) → Type 0
AreAsNow regs s m (done a) items = Unit {0}
AreAsNow regs s m (ask n k) [] = Unit {0}
AreAsNow regs s m (ask n k) (i ∷ items) = IsAsNow regs s m n i × AreAsNow regs s m (k i) items

-- a trail of an access is unchanged
abbrev pub IsUnchanged : (registers : Regs) (memory : Memory) (access : Access) (items : List Item) → Type 0
IsUnchanged regs m a items = AreAsNow regs (side_of a.va) m (walk (config_of regs) true a) items

-- the items with another moment
abbrev pub read_at : (moment : ℕ) (items : List Item) → List Item
read_at k items = map (λ (i : Item). record i { moment = k }) items
