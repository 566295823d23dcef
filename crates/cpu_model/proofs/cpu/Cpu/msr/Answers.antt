use Rattle.std.proofs.Common.{◌≡◌, rules, sym, subst}
use Rattle.machine_spec.specs.Moments.{queued}
use Rattle.cpu_model.specs.Cores.{IsBank}
use Rattle.cpu_model.proofs.Banks.{is_queued}
use Rattle.cpu_model.proofs.cpu.Cpu.msr.Goals as goal
use Rattle.cpu_model.proofs.cpu.Cpu.msr.Goals.{After-push_reserved, then-len-eq-MOST_QUEUED, else-len-eq-MOST_QUEUED}

same : (c : After-push_reserved) → record { regs = c.if-len-eq-MOST_QUEUED.self-inside.force; queue = c.push_reserved.new.self.items }
    ≡ queued (record { regs = c.self.inside.force; queue = c.self.inside.queue.items }) (c.args.reg, c.args.value)
same c = elim c.if-len-eq-MOST_QUEUED.branch [ then-len-eq-MOST_QUEUED w ↦ search rules | else-len-eq-MOST_QUEUED w ↦ search rules ]

pub invariant_of-self : goal.invariant_of-self
invariant_of-self c = (
  subst IsBank (sym (same c))
      (is_queued (record { regs = c.self.inside.force; queue = c.self.inside.queue.items }) (c.args.reg, c.args.value) c.requires c.self.invariant.0),
  elim c.if-len-eq-MOST_QUEUED.branch [ then-len-eq-MOST_QUEUED w ↦ search rules | else-len-eq-MOST_QUEUED w ↦ search rules ],
  elim c.if-len-eq-MOST_QUEUED.branch [ then-len-eq-MOST_QUEUED w ↦ search rules | else-len-eq-MOST_QUEUED w ↦ search rules ],
)
