use Rattle.std.proofs.Common.{rules}
use mir.Val.{SFits}
use mir.Syntax.{w8}
use Rattle.std.proofs.lemmas.Int.{to_z-of_z}
use Rattle.stage2_walk.proofs.Levels.{has_level}
use Rattle.stage2_walk.proofs.step.leaf.Goals as goal

pub returns-clause-level : goal.returns-clause-level
returns-clause-level g c =
    let fits : SFits w8 c.level.result = search rules in
    rw (to_z-of_z _ _ fits, c.level.ensures) (has_level c.args.left c.requires.left)
