use Rattle.std.proofs.Common.{not, refl}
use Rattle.std.specs.Prelude.{filter}
use Rattle.tlbi_ops.specs.Covers.{covers}
use Rattle.walk_cache.specs.Sized.{state_of}
use Rattle.walk_cache.specs.declared.caches.Held.TheVariants.{NoRows, Small, Medium, Large}
use Rattle.walk_cache.proofs.Sizes.{small_fits, medium_fits, large_fits, small_keeps, medium_keeps, large_keeps, kept, none_killed}
use Rattle.walk_cache.proofs.caches.Caches.kill.Goals as goal
use Rattle.walk_cache.proofs.caches.Caches.kill.Goals.{in-NoRows, in-Small, in-Medium, in-Large}

pub returns-clause-killed : goal.returns-clause-killed
returns-clause-killed c =
    let i = c.args.inval.now in
    let by = c.self.inside.chooser in
    elim c.match-self.branch [
      | in-NoRows w ↦
          rw (w.self-inside-is, ← c.self.view_is, w.in-NoRows.is) (λ h core l f. none_killed h core l (state_of NoRows by) f refl i)
      | in-Small w ↦
          rw (w.self-inside-is, ← c.self.view_is, w.in-Small.is)
          (λ h core l f. kept h core l (Small w.in-Small.kinds) by f (filter (λ r. not (covers i r.tag)) l.rows) (Small w.kill.new.self)
          (small_keeps h.size f.size_is) refl (w.kill.ensures h.size l.rows (small_fits h.size f.size_is) f.tied))
      | in-Medium w ↦
          rw (w.self-inside-is, ← c.self.view_is, w.in-Medium.is)
          (λ h core l f. kept h core l (Medium w.in-Medium.kinds) by f (filter (λ r. not (covers i r.tag)) l.rows) (Medium w.kill-in-Medium.new.self)
          (medium_keeps h.size f.size_is) refl (w.kill-in-Medium.ensures h.size l.rows (medium_fits h.size f.size_is) f.tied))
      | in-Large w ↦
          rw (w.self-inside-is, ← c.self.view_is, w.in-Large.is)
          (λ h core l f. kept h core l (Large w.in-Large.kinds) by f (filter (λ r. not (covers i r.tag)) l.rows) (Large w.kill-in-Large.new.self)
          (large_keeps h.size f.size_is) refl (w.kill-in-Large.ensures h.size l.rows (large_fits h.size f.size_is) f.tied))
    ]
