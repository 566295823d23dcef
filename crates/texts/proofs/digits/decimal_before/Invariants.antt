use Rattle.std.proofs.Common.{◌≡◌, ◌≤◌, drop, false, ◌+◌, ◌-◌, ◌<◌, ◌^◌, ◌++◌, length}
use Rattle.std.specs.Fmt.{digits}
use Rattle.texts.proofs.Onto.{onto}
use Rattle.texts.proofs.digits.decimal_before.Given as goal

-- the digits of what is left, before those that stand, are the digits of the number
abbrev pub invariant-loop-rest : goal.invariant-loop-rest
invariant-loop-rest l = record {
  size : length l.bytes ≡ length l.fn.bytes;
  before : l.start ≤ l.end;
  behind : l.end < l.start + l.most;
  room : l.rest < 10 ^ (l.start + l.most - l.end);
  same : onto ((64 - l.most) + (l.start + l.most - l.end)) 10 l.rest (drop l.start l.bytes) ≡ digits 10 false l.n ++ drop l.end l.fn.bytes;
}

abbrev pub decreases-loop-rest : goal.decreases-loop-rest
decreases-loop-rest l = l.rest
