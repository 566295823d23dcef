use Rattle.sysregs.specs.Equality.{same_fields}
use Rattle.sysregs.proofs.Configs.{equal_configs}
use Rattle.sysregs.proofs.equality.same_config.Goals as goal

pub returns : goal.returns
unfolding same_fields
returns c = rw (c.same_numbers.ensures, c.same_granules.ensures, c.same_low.ensures, c.same_high.ensures, c.same_rest.ensures) (
    equal_configs c.args.a.now c.args.b.now
    )
