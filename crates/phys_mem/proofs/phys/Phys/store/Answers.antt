use Rattle.std.proofs.Common.{None, Some, arith}
use Rattle.phys_mem.proofs.Places.{there_by, stored}
use Rattle.phys_mem.proofs.phys.Phys.store.Goals as goal

pub returns-in_default-clause-there : goal.returns-in_default-clause-there
returns-in_default-clause-there c = rw (← c.self.view_is) (there_by _ c.args.pa None (rw (
  ← c.as_slice.ensures.value,
  ← c.index_of.ensures.is,
) c.in_default.is))

pub returns-clause-there : goal.returns-clause-there
returns-clause-there c = rw (← c.self.view_is)
    (there_by _ c.args.pa (Some c.in-Some.index) (rw (← c.as_slice.ensures.value, ← c.index_of.ensures.is) c.in-Some.is))

pub returns-clause-after : goal.returns-clause-after
returns-clause-after c =
    rw (← c.self.view_is, c.set.ensures) (stored _ c.args.pa c.args.value c.in-Some.index c.self.invariant.kept.whole
    (rw (← c.as_slice.ensures.value, ← c.index_of.ensures.is) c.in-Some.is)
    (omega (arith, c.self.invariant.all, rw c.as_slice.ensures.value at c.in-Some.ensures.within)))
