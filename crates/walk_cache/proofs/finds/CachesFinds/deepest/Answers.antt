use Rattle.walk_cache.specs.ByKind.{sets_of}
use Rattle.walk_cache.proofs.Searched.{one_made}
use Rattle.walk_cache.proofs.finds.CachesFinds.deepest.Goals as goal

pub returns-clause-made : goal.returns-clause-made
returns-clause-made c = λ d live h told.
    one_made d (sets_of c.args.self.now.sets c.args.kind) h.0.size c.args.kind live c.deepest.result
    (c.deepest.ensures.stands d h.0 h.1 (record { rows = live; evictions = h.2 }) h.3)

pub returns-clause-least : goal.returns-clause-least
returns-clause-least c = λ d live h told small. c.deepest.ensures.least d h.0 h.1 (record { rows = live; evictions = h.2 }) h.3 told small
