use Rattle.std.proofs.Common.{arith, ◌-◌}
use Rattle.texts.proofs.Behind.{copied}
use Rattle.texts.proofs.digits.decimal_after.Goals as goal

pub returns-clause-text : goal.returns-clause-text
returns-clause-text c =
    let d = c.decimal_before-start in
    copied c.args.end d.result (20 - d.result) c.args.most c.text_after.result 40 c.args.bytes.now c.text_after.new.bytes d.new.bytes _ _
    d.ensures.size (omega arith) (omega arith) (omega arith) d.ensures.text (omega arith) c.text_after.ensures.ends c.text_after.ensures.text
