use Rattle.std.proofs.Common.{◌≡◌, length}
use Rattle.trails.specs.Printed.{HaveTexts}
use Rattle.run_tests.proofs.of_report_text.many_accesses.Given as goal

-- as many accesses as turns, and each can be printed
abbrev pub invariant-loop-made : goal.invariant-loop-made
invariant-loop-made l = record {
  printable : HaveTexts l.log.items;
  size : length l.log.items ≡ l._made;
}
