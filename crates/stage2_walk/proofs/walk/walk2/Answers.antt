use Rattle.stage2_walk.proofs.Accepted.{accepted_sizes}
use Rattle.stage2_walk.proofs.walk.walk2.Goals as goal

pub sizes2-requires-clause-sized : goal.sizes2-requires-clause-sized
sizes2-requires-clause-sized g c = accepted_sizes c.args.config.now c.args.ipa c.requires.accepted
