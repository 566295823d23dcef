use Rattle.tagged_tlb.proofs.Classes.{end_above}
use Rattle.tagged_tlb.proofs.tlb.end_of.Goals as goal

pub returns-clause-above : goal.returns-clause-above
returns-clause-above c = end_above c.args.classes c.ranges.classes.fits
