use Rattle.texts.proofs.Hex.{has_digits, some_bit}
use Rattle.texts.proofs.digits.hex_count.Goals as goal

pub overflow_sub-result : goal.overflow_sub-result
overflow_sub-result c = some_bit c.args.n c.ranges.n.fits

pub returns : goal.returns
returns c = has_digits c.args.n c.ranges.n.fits
