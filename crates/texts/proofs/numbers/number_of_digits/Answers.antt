use Rattle.std.proofs.Common.{arith, ◌∙◌, sym, ◌+◌, ◌*◌, ◌^◌, ◌≤◌}
use Rattle.std.proofs.lemmas.Bool.Decides.{nat_tests}
use Rattle.texts.proofs.ReadDigits.{too_large_at, none_grown, all_read}
use Rattle.texts.proofs.numbers.number_of_digits.Goals as goal

pub returns-in_err-n : goal.returns-in_err-n
returns-in_err-n c =
    let large : 2 ^ 64 ≤ c.loop-byte.n * c.args.radix + c.value_of-digit.result = none_grown _ (sym c.in_err-n.ensures) in
    c.from_residual.ensures ∙ sym (too_large_at c.args.radix c.args.most c.loop-byte.n c.loop-byte.byte-index c.args.digits.now (omega arith)
    c.loop-byte-test.true c.loop-byte.invariant.value (rw (← c.value_of-digit.ensures) large))

pub returns : goal.returns
returns c = all_read c.args.radix c.args.most c.loop-byte.n c.loop-byte.byte-index c.args.digits.now (grind (arith, nat_tests, c.if-is_empty.ensures))
    (omega arith) (omega arith) c.loop-byte.invariant.fits c.loop-byte.invariant.all c.loop-byte.invariant.value
