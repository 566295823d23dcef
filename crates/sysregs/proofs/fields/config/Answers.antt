use Rattle.std.proofs.Common.{arith}
use Rattle.sysregs.proofs.fields.config.Goals as goal

-- a field is below 2 to its bits
pub returns-clause-in_range : goal.returns-clause-in_range
returns-clause-in_range c = record {
  mair = omega arith;
  t0sz = omega arith;
  t1sz = omega arith;
  sh0 = omega arith;
  sh1 = omega arith;
  ips = omega arith;
  t2sz = omega arith;
  sl0 = omega arith;
  sl2 = omega arith;
  ps = omega arith;
}
