use Rattle.std.proofs.Common.{◌^◌, ◌<◌, ◌≤◌, sym, ap, arith}
use Rattle.std.proofs.Math.Nat.{div-eq_of_lt}
use Rattle.std.proofs.Math.Pow.{pow_mono}
use Rattle.made_rows.proofs.gather.region_around.Goals as goal

pub returns-else-class-lt64 : goal.returns-else-class-lt64
returns-else-class-lt64 c =
    let more : 2 ^ 64 ≤ 2 ^ c.args.class = pow_mono c.if-class-lt64.false in
    let less : c.args.address < 2 ^ c.args.class = omega (arith, c.ranges.address.fits, more) in
    ap (λ z. record { class = c.args.class; start = z }) (sym (div-eq_of_lt less))
