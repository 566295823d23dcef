use Rattle.std.proofs.Common.{arith, ◌+◌, ap, drop, take, ◌∙◌, sym}
use Rattle.texts.proofs.Behind.{headed}
use Rattle.texts.proofs.digits.headed_after.Goals as goal

pub returns-clause-text : goal.returns-clause-text
returns-clause-text g c =
    let some = c.hex_before in
    let put = c.array_after in
    let at = put.ensures.ends in
    headed c.args.end (c.args.end + g.row.N + c.hex_count-count.result) c.hex_count-count.result g.row.N c.args.bytes.now some.new.bytes put.new.bytes
    c.args.head.now _ some.ensures.size (omega arith) (omega arith) (omega arith) some.ensures.text some.ensures.front
    (ap (λ k. take k put.new.bytes) (sym at) ∙ put.ensures.text)
    (ap (λ k. drop k put.new.bytes) (sym at) ∙ put.ensures.behind ∙ ap (λ k. drop k some.new.bytes) at)
