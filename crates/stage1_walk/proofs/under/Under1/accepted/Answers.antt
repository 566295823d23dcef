use Rattle.stage1_walk.proofs.Accepted.{accepted_size}
use Rattle.stage1_walk.proofs.under.Under1.accepted.Goals as goal

pub sizes1-requires-clause-txsz : goal.sizes1-requires-clause-txsz
sizes1-requires-clause-txsz c = rw c.side-side.ensures (accepted_size c.args.config.now c.args.access.now c.requires.accepted)
