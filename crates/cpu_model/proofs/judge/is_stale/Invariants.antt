use Rattle.std.proofs.Common.{◌≡◌, drop}
use Rattle.std.specs.List.{list_any}
use Rattle.phys_mem.specs.Words.{memory_of}
use Rattle.machine_spec.specs.Allowed.{is_changed}
use Rattle.cpu_model.specs.Judged.{HaveSizes}
use Rattle.cpu_model.proofs.judge.is_stale.Given as goal

abbrev pub invariant-loop-item : goal.invariant-loop-item
invariant-loop-item l =
    HaveSizes l.force l.side l.items → list_any (is_changed l.force l.side (memory_of l.phys)) l.items
    ≡ list_any (is_changed l.force l.side (memory_of l.phys)) (drop l.item-index l.items)
