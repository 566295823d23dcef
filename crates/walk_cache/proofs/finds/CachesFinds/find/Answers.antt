use Rattle.std.proofs.Common.{◌∙◌}
use Rattle.walk_cache.specs.ByKind.{sets_of}
use Rattle.walk_cache.proofs.Searched.{all_made, same_rows}
use Rattle.walk_cache.proofs.finds.CachesFinds.find.Goals as goal

pub returns-clause-made : goal.returns-clause-made
returns-clause-made c = λ d live h told.
    all_made d (sets_of c.args.self.now.sets c.args.kind) h.0.size c.args.kind live c.find.result
    (c.find.ensures.stand d h.0 h.1 (record { rows = live; evictions = h.2 }) h.3 told)

pub returns-clause-best : goal.returns-clause-best
returns-clause-best c = λ d live h told small.
    same_rows d (sets_of c.args.self.now.sets c.args.kind) c.find.result
    ∙ c.find.ensures.best d h.0 h.1 (record { rows = live; evictions = h.2 }) h.3 told small
