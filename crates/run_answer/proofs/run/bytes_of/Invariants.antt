use Rattle.std.proofs.Common.{◌≡◌, ◌<◌, ◌≤◌, ◌+◌, ◌-◌}
use Rattle.trace_lang.specs.declared.parsing.TheConstants.{MOST_BYTES}
use Rattle.run_answer.proofs.run.bytes_of.Given as goal

abbrev pub invariant-loop-room : goal.invariant-loop-room
invariant-loop-room g l = record {
  above : l.size < l.room;
  most : l.room ≤ MOST_BYTES + 1;
  same : g.F.Files.holds l.files ≡ g.F.Files.holds l.fn.files;
  missing : g.F.Files.missing l.fn.files l.name ≤ g.F.Files.missing l.files l.name;
  later : g.F.Files.faults l.fn.files l.name ≤ g.F.Files.faults l.files l.name;
}

abbrev pub decreases-loop-room : goal.decreases-loop-room
decreases-loop-room g l = MOST_BYTES + 1 - l.room
