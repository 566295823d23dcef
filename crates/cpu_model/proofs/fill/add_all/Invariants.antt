use Rattle.std.proofs.Common.{◌≤◌, take}
use Rattle.walk_cache.specs.ByKind.{AreAlike}
use Rattle.cpu_model.specs.Filled.{rows_of_step, Fills}
use Rattle.cpu_model.proofs.fill.add_all.Given as goal

abbrev pub invariant-loop-order : goal.invariant-loop-order
invariant-loop-order l =
    Fills l.fn.caches (rows_of_step l.source.force.now l.source.step l.source.trail.now (take l.order l.rows)) l.evicted l.caches
    × (l.evicted ≤ l.order) × AreAlike l.fn.caches l.caches
