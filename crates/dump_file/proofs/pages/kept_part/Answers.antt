use Rattle.std.proofs.Common.{arith, ◌∙◌, ◌≡◌, ◌-◌, ◌*◌, ◌/◌, length, min}
use Rattle.dump_file.proofs.Keeping.{found, among_promoted, part_of_page}
use Rattle.dump_file.proofs.pages.kept_part.Goals as goal

pub returns-in_default-clause-among : goal.returns-in_default-clause-among
returns-in_default-clause-among c = among_promoted c.args.pages.now c.get.follows.lender-at-none _ c.get.follows.holds-at-none

pub copy_part-requires : goal.copy_part-requires
copy_part-requires c =
    let full : length c.in-Some.page.now.items ≡ min 4096 (c.args.file.now.size - 4096 * (c.args.at / 4096)) =
    c.requires.full _ (found _ _ c.in-Some.page.now c.in-Some.ensures.value) in
    rw c.as_slice.ensures.value (omega (arith, full))

pub returns-clause-part : goal.returns-clause-part
returns-clause-part c = λ _ bytes h.
    let there = found _ _ c.in-Some.page.now c.in-Some.ensures.value in
    part_of_page bytes c.args.at _ _ _ (omega arith) (c.as_slice.ensures.value ∙ h _ there) c.copy_part.ensures

pub returns-clause-among : goal.returns-clause-among
returns-clause-among c = among_promoted c.args.pages.now c.get.follows.lender-at-none _ c.get.follows.holds-at-none
