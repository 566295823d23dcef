use Rattle.std.proofs.Common.{arith, ◌-◌}
use Rattle.texts.proofs.Behind.{copied}
use Rattle.texts.proofs.digits.hex_after.Goals as goal

pub returns-clause-text : goal.returns-clause-text
returns-clause-text c =
    let h = c.hex_before in
    let count = c.hex_count-count.result in
    copied c.args.end (32 - count) count 16 c.text_after.result 48 c.args.bytes.now c.text_after.new.bytes h.new.bytes _ _
    h.ensures.size (omega arith) (omega arith) (omega arith) h.ensures.text (omega arith) c.text_after.ensures.ends c.text_after.ensures.text
