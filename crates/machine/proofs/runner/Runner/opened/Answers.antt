use Rattle.std.proofs.Common.{[], ◌∙◌, refl}
use Rattle.machine.proofs.Steps.{opens}
use Rattle.machine.proofs.runner.Runner.opened.Goals as goal

pub invariant_of-result : goal.invariant_of-result
invariant_of-result c =
    let o = opens c.args.trace c.in_ok-phys.phys c.in_ok-seats.seats.items [] c.ranges-2.result.now c.cores.result c.size.result c.policy.result
    refl c.ranges-2.ensures.value c.cores.ensures.value c.size.ensures.value c.policy.ensures.value
    c.in_ok-phys.ensures.memory c.in_ok-seats.ensures.each in (
      o,
      c.in_ok-seats.ensures.count ∙ c.cores.ensures.value,
      c.in_ok-phys.ensures.ranges ∙ c.ranges-2.ensures.value,
      refl,
    )

pub returns-clause-machine : goal.returns-clause-machine
returns-clause-machine c =
    let o = opens c.args.trace c.in_ok-phys.phys c.in_ok-seats.seats.items [] c.ranges-2.result.now c.cores.result c.size.result c.policy.result
    refl c.ranges-2.ensures.value c.cores.ensures.value c.size.ensures.value c.policy.ensures.value
    c.in_ok-phys.ensures.memory c.in_ok-seats.ensures.each in
    o.machine
