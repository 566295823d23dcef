use Rattle.std.proofs.Common.{arith}
use Rattle.dump_file.proofs.Keeping.{part_joined, stay_then}
use Rattle.dump_file.proofs.pages.bytes_at.Goals as goal

pub returns-clause-part : goal.returns-clause-part
returns-clause-part g c =
    let first = c.in_ok-part.ensures in
    part_joined c.part-3.result _ _ _ _ _ _ _ _ _ _ _ (omega arith) first.missing first.stay (rw c.if-not-branch.false at first.part)
    (rw first.same at c.part-3.ensures.part)

pub returns-clause-stay : goal.returns-clause-stay
returns-clause-stay g c =
    let first = c.in_ok-part.ensures in
    stay_then _ _ _ _ _ first.stay (rw first.same at c.part-3.ensures.stay)
