use Rattle.stage1_walk.proofs.SideNumbers.{granule_is}
use Rattle.stage1_walk.proofs.under.Under1.of.Goals as goal

pub returns-clause-under : goal.returns-clause-under
returns-clause-under c = record {
  sound = c.requires.sound;
  granule = granule_is c.args.config.now c.args.side c.args.sizes c.requires.sizes;
  address = c.untagged.ensures;
}
