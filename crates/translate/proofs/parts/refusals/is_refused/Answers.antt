use Rattle.translate.proofs.Entering.{refused_by}
use Rattle.translate.proofs.parts.refusals.is_refused.Goals as goal

pub returns : goal.returns
returns c =
    rw (c.is_extended-in_range.ensures, c.top_bit.ensures.value, c.is_el0.ensures, c.e0pd.ensures, c.epd.ensures)
    (refused_by c.args.config.now c.args.access.now c.args.side c.args.sizes.now c.requires.side c.requires.sized c.requires.sizes)
