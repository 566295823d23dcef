use Rattle.tagged_tlb.proofs.Classes.{start_below}
use Rattle.tagged_tlb.proofs.tlb.start_of.Goals as goal

pub returns-clause-below : goal.returns-clause-below
returns-clause-below c = start_below c.args.classes c.ranges.classes.fits
