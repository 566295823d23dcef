use Rattle.sysregs.specs.Registers.{config_of}
use Rattle.sysregs.specs.Sides.{side_of}
use Rattle.stage1_walk.proofs.Accepted.{accepted_size}
use Rattle.translate.proofs.Entering.{none_sized1}
use Rattle.translate.proofs.tables.walk1_from.Goals as goal

pub unreachable-requires : goal.unreachable-requires
unreachable-requires g c =
    none_sized1 (config_of c.args.force.now) (side_of c.args.access.now.va) (rw (c.in_default.is, c.side-side.ensures) at c.start1.ensures.sized)
    (accepted_size (config_of c.args.force.now) c.args.access.now c.requires.accepted)
