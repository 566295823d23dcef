use Rattle.std.proofs.Common.{arith, ap, length, ◌+◌, ◌-◌, ◌≡◌}
use Rattle.std.proofs.lemmas.Slice.{drop-put_mid}
use Rattle.texts.proofs.room.array_after.Goals as goal

pub returns-clause-behind : goal.returns-clause-behind
returns-clause-behind g c =
    let same : length c.fill.new.room ≡ length c.args.text.now = ap length c.fill.ensures in
    let size : length c.fill.new.room ≡ c.args.end + g.row.N - c.args.end = omega arith in
    drop-put_mid c.args.end (c.args.end + g.row.N - c.args.end) c.args.bytes.now c.fill.new.room (c.args.end + g.row.N) (omega arith) (omega arith) size
