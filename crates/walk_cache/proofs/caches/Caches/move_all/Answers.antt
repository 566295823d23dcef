use Rattle.std.proofs.Common.{refl}
use Rattle.std.specs.Prelude.{fold}
use Rattle.tagged_tlb.specs.Sets.{to_end}
use Rattle.walk_cache.specs.Sized.{state_of}
use Rattle.walk_cache.specs.declared.caches.Held.TheVariants.{NoRows, Small, Medium, Large}
use Rattle.walk_cache.proofs.Sizes.{small_fits, medium_fits, large_fits, small_keeps, medium_keeps, large_keeps, kept, none_moved}
use Rattle.walk_cache.proofs.caches.Caches.move_all.Goals as goal
use Rattle.walk_cache.proofs.caches.Caches.move_all.Goals.{in-NoRows, in-Small, in-Medium, in-Large}

pub returns-clause-moved : goal.returns-clause-moved
returns-clause-moved c =
    let by = c.self.inside.chooser in
    let services = c.args.services.now in
    elim c.match-self.branch [
      | in-NoRows w ↦
          rw (w.self-inside-is, ← c.self.view_is, w.in-NoRows.is)
          (λ h core l served f told are. none_moved h core l (state_of NoRows by) f refl services served are)
      | in-Small w ↦
          rw (w.self-inside-is, ← c.self.view_is, w.in-Small.is)
          (λ h core l served f told are. kept h core l (Small w.in-Small.kinds) by f (fold to_end l.rows served) (Small w.touch_all.new.self)
          (small_keeps h.size f.size_is) refl (w.touch_all.ensures h.size l.rows served (small_fits h.size f.size_is) told f.tied are))
      | in-Medium w ↦
          rw (w.self-inside-is, ← c.self.view_is, w.in-Medium.is)
          (λ h core l served f told are. kept h core l (Medium w.in-Medium.kinds) by f (fold to_end l.rows served) (Medium w.touch_all-in-Medium.new.self)
          (medium_keeps h.size f.size_is) refl (w.touch_all-in-Medium.ensures h.size l.rows served (medium_fits h.size f.size_is) told f.tied are))
      | in-Large w ↦
          rw (w.self-inside-is, ← c.self.view_is, w.in-Large.is)
          (λ h core l served f told are. kept h core l (Large w.in-Large.kinds) by f (fold to_end l.rows served) (Large w.touch_all-in-Large.new.self)
          (large_keeps h.size f.size_is) refl (w.touch_all-in-Large.ensures h.size l.rows served (large_fits h.size f.size_is) told f.tied are))
    ]
