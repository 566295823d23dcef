use Rattle.dump_file.proofs.Keeping.{part_among, stay_among, stay_then}
use Rattle.dump_file.proofs.pages.part.Goals as goal

pub returns-then-kept_part-clause-stay : goal.returns-then-kept_part-clause-stay
returns-then-kept_part-clause-stay g c = stay_among _ _ _ _ c.kept_part.ensures.among

pub returns-clause-part : goal.returns-clause-part
returns-clause-part g c = part_among c.read_part.result _ _ _ _ _ _ _ _ c.kept_part.ensures.among c.read_part.ensures.part

pub returns-clause-stay : goal.returns-clause-stay
returns-clause-stay g c = stay_then _ _ _ _ _ (stay_among _ _ _ _ c.kept_part.ensures.among) c.read_part.ensures.stay
