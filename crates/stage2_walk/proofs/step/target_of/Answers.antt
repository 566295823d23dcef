use Rattle.std.proofs.Common.{sym, ap, ◌∙◌}
use Rattle.table_reads.specs.declared.lead.Lead.TheVariants.{Reached}
use Rattle.stage2_walk.specs.Under.{asked_under}
use Rattle.stage2_walk.proofs.Ends.{reached_is}
use Rattle.stage2_walk.proofs.step.target_of.Goals as goal

pub returns-in-Reached-clause-value : goal.returns-in-Reached-clause-value
returns-in-Reached-clause-value g c =
    let e = c.in-Reached.ensures.value in
    sym e ∙ ap Reached (reached_is (asked_under c.args.under.now) c.args.last.now c.in-Reached.leaf e)
