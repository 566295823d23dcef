use Rattle.std.proofs.Common.{rules, ◌∙◌, Ok, refl}
use Rattle.std.specs.declared.alloc.AllocError.{AllocError}
use Rattle.std.proofs.lemmas.Iterator.{items_from_collect}
use Rattle.std.proofs.lemmas.Iterator.Adapters.{YieldsList-from_vec}
use Rattle.std.specs.Vec.Iter.{into_iter_items}
use Rattle.vmsa.proofs.ProgramName.{behind_first}
use Rattle.vmsa.proofs.after_name.Goals as goal

pub returns : goal.returns
returns c =
    items_from_collect {E = AllocError} (Ok c.in_ok-collect.field-0) c.in_ok-collect.ensures.ran
    (YieldsList-from_vec {s = c.next-name.new.self} (into_iter_items c.next-name.new.self) refl (search rules))
    ∙ behind_first c.next-name.result _ _ _ _ c.next-name.ensures.cases (search rules) (search rules)
