use Rattle.std.proofs.Common.{◌≡◌, drop}
use Rattle.dump_file.specs.DumpOf.{serving}
use Rattle.dump_file.proofs.dump.serving.Given as goal

-- no segment so far holds the place
abbrev pub invariant-loop-segment : goal.invariant-loop-segment
invariant-loop-segment l = serving (drop l.segment-index l.segments) l.pa ≡ serving l.segments l.pa
