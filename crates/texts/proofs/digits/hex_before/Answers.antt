use Rattle.std.proofs.Common.{arith, ◌∙◌, ◌-◌, ◌+◌}
use Rattle.texts.proofs.Behind.{front_part}
use Rattle.texts.proofs.Hex.{low_put, high_put}
use Rattle.texts.proofs.digits.hex_before.Goals as goal

pub returns-then-count-gt8-clause-text : goal.returns-then-count-gt8-clause-text
returns-then-count-gt8-clause-text c =
    let low = c.eight_before-start in
    high_put c.args.n c.args.end low.result c.eight_before.result c.args.count _ _ _
    low.ensures.starts c.eight_before.ensures.starts c.requires.count low.ensures.text c.eight_before.ensures.text

pub returns-then-count-gt8-clause-front : goal.returns-then-count-gt8-clause-front
returns-then-count-gt8-clause-front c =
    let low = c.eight_before-start in
    front_part (c.args.end - (c.args.count + 7)) c.eight_before.result _ _ (omega arith) c.eight_before.ensures.front
    ∙ front_part (c.args.end - (c.args.count + 7)) low.result _ _ (omega arith) low.ensures.front

pub returns-else-count-gt8-clause-text : goal.returns-else-count-gt8-clause-text
returns-else-count-gt8-clause-text c =
    let low = c.eight_before-start in
    low_put c.args.n c.args.end low.result c.args.count _ _ low.ensures.starts (omega arith) c.requires.count low.ensures.text

pub returns-else-count-gt8-clause-front : goal.returns-else-count-gt8-clause-front
returns-else-count-gt8-clause-front c =
    front_part (c.args.end - (c.args.count + 7)) c.eight_before-start.result _ _ (omega arith) c.eight_before-start.ensures.front
