use Rattle.std.proofs.Common.{arith}
use Rattle.cpu_model.proofs.Banks.{is_drained}
use Rattle.cpu_model.proofs.cpu.Cpu.isb.Goals as goal

pub invariant_of-self : goal.invariant_of-self
invariant_of-self c =
    let kept = is_drained (record { regs = c.self.inside.force; queue = c.self.inside.queue.items }) c.self.invariant.0 in (
      rw (c.write_all.ensures, c.as_slice.ensures.value, c.clear.ensures.items) kept,
      omega (arith, c.clear.ensures.capacity, c.self.invariant.1),
      c.self.invariant.2,
    )
