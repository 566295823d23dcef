use Rattle.std.proofs.Common.{◌≡◌}
use Rattle.dump_file.specs.DumpOf.{segments_of}
use Rattle.dump_file.specs.Opening.{EndsWithin}
use Rattle.dump_file.proofs.Collected.{behind, left}
use Rattle.dump_file.proofs.header.segments.Given as goal

abbrev pub invariant-loop-index : goal.invariant-loop-index
invariant-loop-index l = record {
  within : EndsWithin l.size l.segments.items;
  due : behind l.segments.items (left l.size l.index l.count l.table) ≡ segments_of l.size 0 l.count l.table;
}
