use Rattle.walk_cache.proofs.Sizes.{small_fits, medium_fits, large_fits}
use Rattle.walk_cache.proofs.caches.Caches.find.Goals as goal

pub returns-in-Small-clause-stand : goal.returns-in-Small-clause-stand
returns-in-Small-clause-stand c =
    rw (← c.self.view_is, c.in-Small.is)
    (λ d h core l f told. c.find.ensures.stand d h.size l.rows (small_fits h.size f.size_is) told f.tied)

pub returns-in-Small-clause-best : goal.returns-in-Small-clause-best
returns-in-Small-clause-best c =
    rw (← c.self.view_is, c.in-Small.is)
    (λ d h core l f told small. c.find.ensures.best d h.size l.rows (small_fits h.size f.size_is) told small f.tied)

pub returns-in-Medium-clause-stand : goal.returns-in-Medium-clause-stand
returns-in-Medium-clause-stand c =
    rw (← c.self.view_is, c.in-Medium.is)
    (λ d h core l f told. c.find-in-Medium.ensures.stand d h.size l.rows (medium_fits h.size f.size_is) told f.tied)

pub returns-in-Medium-clause-best : goal.returns-in-Medium-clause-best
returns-in-Medium-clause-best c =
    rw (← c.self.view_is, c.in-Medium.is)
    (λ d h core l f told small. c.find-in-Medium.ensures.best d h.size l.rows (medium_fits h.size f.size_is) told small f.tied)

pub returns-in-Large-clause-stand : goal.returns-in-Large-clause-stand
returns-in-Large-clause-stand c =
    rw (← c.self.view_is, c.in-Large.is)
    (λ d h core l f told. c.find-in-Large.ensures.stand d h.size l.rows (large_fits h.size f.size_is) told f.tied)

pub returns-in-Large-clause-best : goal.returns-in-Large-clause-best
returns-in-Large-clause-best c =
    rw (← c.self.view_is, c.in-Large.is)
    (λ d h core l f told small. c.find-in-Large.ensures.best d h.size l.rows (large_fits h.size f.size_is) told small f.tied)
