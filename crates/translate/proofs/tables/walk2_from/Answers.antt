use Rattle.sysregs.specs.Registers.{config_of}
use Rattle.stage2_walk.proofs.Accepted.{accepted_sizes}
use Rattle.stage2_walk.proofs.Entered.{granule_is}
use Rattle.translate.proofs.Entering.{none_sized2, some_sized2}
use Rattle.translate.proofs.tables.walk2_from.Goals as goal

pub unreachable-requires : goal.unreachable-requires
unreachable-requires g c =
    none_sized2 (config_of c.args.force.now) (rw c.in_default.is at c.start2.ensures.sized)
    (accepted_sizes (config_of c.args.force.now) c.args.ipa c.requires.accepted)

pub walk2_left-requires-clause-under : goal.walk2_left-requires-clause-under
walk2_left-requires-clause-under g c =
    let s = some_sized2 c.args.force.now c.start2.result.now c.start2.ensures c.in-Some.sizes c.in-Some.is in
    record { sound = s.1; granule = rw c.config.ensures.same (granule_is (config_of c.args.force.now) c.in-Some.sizes s.0) }
