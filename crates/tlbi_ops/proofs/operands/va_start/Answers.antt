use Rattle.std.proofs.Common.{◌+◌, arith}
use Rattle.tlbi_ops.proofs.Shifts.{power_within}
use Rattle.tlbi_ops.proofs.operands.va_start.Goals as goal

pub overflow_sub-result : goal.overflow_sub-result
overflow_sub-result c = omega (arith, power_within (37 + c.args.granule) 56 (omega arith))
