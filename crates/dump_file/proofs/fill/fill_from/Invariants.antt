use Rattle.std.proofs.Common.{◌≡◌, ◌≤◌, ◌-◌, length, take}
use Rattle.dump_file.specs.Held.{InTurns}
use Rattle.dump_file.specs.Counted.{OthersStay}
use Rattle.dump_file.specs.Filled.{IsFront}
use Rattle.dump_file.proofs.fill.fill_from.Given as goal

abbrev pub invariant-loop-done : goal.invariant-loop-done
invariant-loop-done g l = record {
  within : l.done ≤ length l.into;
  same : g.F.Files.holds l.files ≡ g.F.Files.holds l.fn.files;
  missing : g.F.Files.missing l.fn.files l.name ≤ g.F.Files.missing l.files l.name;
  faults : g.F.Files.faults l.fn.files l.name ≤ g.F.Files.faults l.files l.name;
  others : OthersStay l.name (g.F.Files.faults l.fn.files) (g.F.Files.faults l.files) (g.F.Files.missing l.fn.files) (g.F.Files.missing l.files);
  front : IsFront (g.F.Files.holds l.fn.files l.name) l.at l.into l.done;
  turns : InTurns (g.F.Files.reads l.name) l.at l.fn.files (take l.done l.into) l.files;
}

abbrev pub decreases-loop-done : goal.decreases-loop-done
decreases-loop-done g l = length l.into - l.done
