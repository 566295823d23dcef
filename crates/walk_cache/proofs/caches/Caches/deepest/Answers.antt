use Rattle.walk_cache.proofs.Sizes.{small_fits, medium_fits, large_fits}
use Rattle.walk_cache.proofs.caches.Caches.deepest.Goals as goal

pub returns-in-Small-clause-stands : goal.returns-in-Small-clause-stands
returns-in-Small-clause-stands c =
    rw (← c.self.view_is, c.in-Small.is)
    (λ d h core l f. c.deepest.ensures.stands d h.size l.rows (small_fits h.size f.size_is) f.tied)

pub returns-in-Small-clause-least : goal.returns-in-Small-clause-least
returns-in-Small-clause-least c =
    rw (← c.self.view_is, c.in-Small.is)
    (λ d h core l f told small. c.deepest.ensures.least d h.size l.rows (small_fits h.size f.size_is) told small f.tied)

pub returns-in-Medium-clause-stands : goal.returns-in-Medium-clause-stands
returns-in-Medium-clause-stands c =
    rw (← c.self.view_is, c.in-Medium.is)
    (λ d h core l f. c.deepest-in-Medium.ensures.stands d h.size l.rows (medium_fits h.size f.size_is) f.tied)

pub returns-in-Medium-clause-least : goal.returns-in-Medium-clause-least
returns-in-Medium-clause-least c =
    rw (← c.self.view_is, c.in-Medium.is)
    (λ d h core l f told small. c.deepest-in-Medium.ensures.least d h.size l.rows (medium_fits h.size f.size_is) told small f.tied)

pub returns-in-Large-clause-stands : goal.returns-in-Large-clause-stands
returns-in-Large-clause-stands c =
    rw (← c.self.view_is, c.in-Large.is)
    (λ d h core l f. c.deepest-in-Large.ensures.stands d h.size l.rows (large_fits h.size f.size_is) f.tied)

pub returns-in-Large-clause-least : goal.returns-in-Large-clause-least
returns-in-Large-clause-least c =
    rw (← c.self.view_is, c.in-Large.is)
    (λ d h core l f told small. c.deepest-in-Large.ensures.least d h.size l.rows (large_fits h.size f.size_is) told small f.tied)
