use Rattle.std.proofs.Common.{◌≡◌, length, take}
use Rattle.machine_spec.specs.Machine.{run_of}
use Rattle.machine_spec.specs.Summary.{summary}
use Rattle.run_answer.proofs.drilled.sum_up.Given as goal

-- so many steps were done of the trace that was handed in, and they are counted
abbrev pub invariant-loop-k : goal.invariant-loop-k
invariant-loop-k g l = record {
  trace : l.machine.trace ≡ l.fn.machine.trace;
  count : length l.machine.log ≡ l.k;
  log : l.machine.log ≡ run_of l.fn.machine.trace.header (take l.k l.fn.machine.trace.events);
  counted : l.tally.counted ≡ summary l.machine.log;
  steps : l.tally.steps ≡ l.k;
}
