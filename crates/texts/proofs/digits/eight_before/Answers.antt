use Rattle.texts.proofs.Behind.{fronts}
use Rattle.texts.proofs.Hex.{eight}
use Rattle.texts.proofs.digits.eight_before.Goals as goal

pub returns-clause-text : goal.returns-clause-text
returns-clause-text c =
    eight c.args.n _ _ _ _ _ c.two_before-start.ensures.text c.two_before-start-2.ensures.text c.two_before-start-3.ensures.text c.two_before.ensures.text

pub returns-clause-front : goal.returns-clause-front
returns-clause-front c =
    let a = c.two_before-start in
    let b = c.two_before-start-2 in
    let d = c.two_before-start-3 in
    fronts _ _ _ _ _ a.result b.result d.result c.two_before.result b.ensures.starts d.ensures.starts c.two_before.ensures.starts
    a.ensures.front b.ensures.front d.ensures.front c.two_before.ensures.front
