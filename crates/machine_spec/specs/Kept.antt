-- When a trail may still be relied on.
use Rattle.std.specs.Prelude.{◌≡◌, ℕ, ◌≤◌, true, false, List, length, take, Option, Some, None, unwrap_or}
use Rattle.sysregs.specs.declared.regs.Regs.{Regs}
use Rattle.sysregs.specs.declared.regs.Side.{Side}
use Rattle.sysregs.specs.declared.regs.Config.{Config}
use Rattle.sysregs.specs.Registers.{config_of, asid_of, vmid_of}
use Rattle.fault_codes.specs.declared.fault.Stage.{Stage}
use Rattle.fault_codes.specs.declared.fault.Stage.TheVariants.{S1, S2}
use Rattle.trails.specs.declared.step.Step.{Step}
use Rattle.tlbi_ops.specs.declared.inval.Inval.{Inval}
use Rattle.tlbi_ops.specs.declared.inval.Tag.{Tag}
use Rattle.tlbi_ops.specs.Operands.{reaches_core}
use Rattle.tlbi_ops.specs.Covers.{covers}
use Rattle.walk_spec.specs.Fresh.{start_base1, start_base2}
use Rattle.machine_spec.specs.Header.{Header}
use Rattle.machine_spec.specs.Moments.{memory_after, regs_at}
use Rattle.machine_spec.specs.Invalidations.{inval_at, IsComplete}
use Rattle.machine_spec.specs.Marks.{Mark, has_asid, tag_by}
use Rattle.machine_spec.specs.Uses.{AllUsed, LastIs}

-- whose trail it is: the trace's header, the log so far, the core, and the side of the access
pub record View : Type 0 where
  pub header : Header
  pub log : List Step
  pub core : ℕ
  pub side : Side

-- how many steps there were
abbrev pub now : (view : View) → ℕ
now v = length v.log

-- the registers in force at a moment
abbrev pub regs_when : (view : View) (moment : ℕ) → Regs
regs_when v k = regs_at v.log v.core k

-- the base that registers give for a stage
abbrev pub base_by : (registers : Regs) (side : Side) (stage : Stage) → ℕ
base_by regs s S1 = start_base1 regs s
base_by regs s S2 = start_base2 regs

-- what an invalidation looks at in a word
abbrev pub tag_of : (view : View) (mark : Mark) → Tag
tag_of v m = tag_by (regs_when v m.item.moment) m

-- An item is held under register fields and a VMID: they were in force when it was read, and then memory had this word, or
-- the register gave this base.
pub record IsHeld (v : View) (config : Config) (vmid : ℕ) (m : Mark) : Type 0 where
  pub config_was : config_of (regs_when v m.item.moment) ≡ config
  pub vmid_was : vmid_of (regs_when v m.item.moment) ≡ vmid
  pub base : m.base ≡ true → base_by (regs_when v m.item.moment) v.side m.stage ≡ m.item.value
  pub word : m.base ≡ false → memory_after v.header (take m.item.moment v.log) m.item.pa ≡ Some m.item.value

-- An item may be relied on up to its use: it was read by then, a base at its use, the ASID was the same where one belongs to
-- it, and no invalidation that covers it was issued after it was read and complete before its use.
pub record IsKeptItem (v : View) (config : Config) (vmid : ℕ) (m : Mark) (use_ : ℕ) : Type 0 where
  pub past : m.item.moment ≤ use_
  pub held : IsHeld v config vmid m
  pub at_base : m.base ≡ true → m.item.moment ≡ use_
  pub asid : has_asid m ≡ true → asid_of (regs_when v m.item.moment) ≡ asid_of (regs_when v use_)
  pub live : m.base ≡ false → (k : ℕ) (i : Inval) → m.item.moment ≤ k → inval_at v.log k ≡ Some i → reaches_core i v.core ≡ true →
      covers i (tag_of v m) ≡ true → IsComplete v.log use_ i → ⊥

-- the same under the registers of now; what is used now is used at the coming step
abbrev pub IsKeptNow : (view : View) (mark : Mark) (use_ : Option ℕ) → Type 0
IsKeptNow v m use_ = let regs = regs_when v (now v) in IsKeptItem v (config_of regs) (vmid_of regs) m (unwrap_or use_ (now v))

-- an item that is a base was read now
abbrev pub IsNowBase : (moment : ℕ) (mark : Mark) → Type 0
IsNowBase k m = m.base ≡ true → m.item.moment ≡ k

-- a trail may be relied on: each item up to its use, and a base without a word behind it was read now
pub record IsKept (v : View) (marks : List Mark) : Type 0 where
  pub items : AllUsed (IsKeptNow v) None marks
  pub last_base : LastIs (IsNowBase (now v)) marks
