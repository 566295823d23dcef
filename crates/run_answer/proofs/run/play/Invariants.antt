use Rattle.std.proofs.Common.{◌≡◌, ◌≤◌, length, take}
use Rattle.machine_spec.specs.Machine.{run_of}
use Rattle.report_text.specs.Reports.{IsReportOf}
use Rattle.run_answer.proofs.run.play.Given as goal

-- so many steps were done of the trace that was handed in, and the report has them
abbrev pub invariant-loop-k : goal.invariant-loop-k
invariant-loop-k g l = record {
  later : g.O.Sink.faults l.fn.out ≤ g.O.Sink.faults l.out;
  trace : l.machine.trace ≡ l.fn.machine.trace;
  count : length l.machine.log ≡ l.k;
  log : l.machine.log ≡ run_of l.fn.machine.trace.header (take l.k l.fn.machine.trace.events);
  report : IsReportOf (g.O.Sink.written l.fn.out) (g.O.Sink.written l.out) l.report l.machine.log;
}
