use Rattle.std.proofs.Common.{rules}
use mir.Val.{SFits}
use mir.Syntax.{w8}
use Rattle.std.proofs.lemmas.Int.{to_z-of_z}
use Rattle.translate.proofs.Entering.{begins2, begins2_refused}
use Rattle.translate.proofs.parts.refusals.begin2.Goals as goal

pub returns-in-Ok : goal.returns-in-Ok
returns-in-Ok c =
    let fits : SFits w8 c.level.result = search rules in
    rw (to_z-of_z _ _ fits, c.level.ensures)
    (begins2 c.args.config.now c.args.ipa c.args.ptw c.in-Ok.sizes (c.in-Ok.ensures.entered c.args.config.now c.sized2.ensures.sized))

pub returns-in-Err : goal.returns-in-Err
returns-in-Err c =
    begins2_refused c.args.config.now c.args.ipa c.args.ptw c.in-Err.fault (c.in-Err.ensures.entered c.args.config.now c.sized2.ensures.sized)
