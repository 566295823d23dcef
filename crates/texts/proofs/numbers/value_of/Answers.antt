use Rattle.texts.proofs.Values.{value_at}
use Rattle.texts.proofs.numbers.value_of.Goals as goal

pub returns : goal.returns
returns c = value_at c.args.byte c.ranges.byte.fits
