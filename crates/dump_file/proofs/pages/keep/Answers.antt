use Rattle.dump_file.proofs.Keeping.{after_put}
use Rattle.dump_file.proofs.pages.keep.Goals as goal

pub returns : goal.returns
returns c = after_put c.put.result _ _ _ _ c.put.ensures.entries c.put.ensures.err
