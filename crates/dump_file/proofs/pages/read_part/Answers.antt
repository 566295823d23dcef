use Rattle.std.proofs.Common.{arith, ◌≡◌, ◌-◌, ◌*◌, ◌/◌, ◌%◌, List, ℕ, length, min, subst, drop, take, ap, ◌∙◌}
use Rattle.dump_file.specs.Paging.{IsAdded}
use Rattle.dump_file.proofs.Keeping.{full_added, part_whole, stay_added, written}
use Rattle.dump_file.proofs.pages.read_part.Goals as goal

pub returns-clause-full : goal.returns-clause-full
returns-clause-full g c =
    let page = c.fill_from-2.new.into in
    let size : length page ≡ min 4096 (c.args.file.now.size - (c.args.at - c.args.at % 4096)) = omega (arith, c.in-Ok.ensures.len) in
    let start : c.args.at - c.args.at % 4096 ≡ 4096 * (c.args.at / 4096) = omega arith in
    let same = written c.in-Ok.page.len page c.in-Ok.page.items (omega arith) in
    let added : IsAdded c.args.pages.now.entries c.keep.new.pages.entries (c.args.at / 4096) page =
    subst (λ (x : List ℕ). IsAdded c.args.pages.now.entries c.keep.new.pages.entries (c.args.at / 4096) x) same c.keep.ensures in
    full_added _ _ 0 0 (c.args.at - c.args.at % 4096) 0 page size _ _ start added c.requires.full

pub returns-clause-part : goal.returns-clause-part
returns-clause-part g c =
    let page = c.fill_from-2.new.into in
    let size : length page ≡ min 4096 (c.args.file.now.size - (c.args.at - c.args.at % 4096)) = omega (arith, c.in-Ok.ensures.len) in
    let start : c.args.at - c.args.at % 4096 ≡ 4096 * (c.args.at / 4096) = omega arith in
    let same = written c.in-Ok.page.len page c.in-Ok.page.items (omega arith) in
    let copied = c.copy_part.ensures ∙ ap (λ (x : List ℕ). take (length c.copy_part.new.into) (drop (c.args.at % 4096) x))
    (c.as_slice.ensures.value ∙ same) in
    part_whole _ _ _ _ _ _ page size _ (c.args.at % 4096) _ _ c.in_ok-count.ensures.bytes (omega arith) (omega arith) copied

pub returns-clause-stay : goal.returns-clause-stay
returns-clause-stay g c =
    let page = c.fill_from-2.new.into in
    let size : length page ≡ min 4096 (c.args.file.now.size - (c.args.at - c.args.at % 4096)) = omega (arith, c.in-Ok.ensures.len) in
    let start : c.args.at - c.args.at % 4096 ≡ 4096 * (c.args.at / 4096) = omega arith in
    let same = written c.in-Ok.page.len page c.in-Ok.page.items (omega arith) in
    let added : IsAdded c.args.pages.now.entries c.keep.new.pages.entries (c.args.at / 4096) page =
    subst (λ (x : List ℕ). IsAdded c.args.pages.now.entries c.keep.new.pages.entries (c.args.at / 4096) x) same c.keep.ensures in
    stay_added _ _ _ _ _ _ page size _ (c.args.at / 4096) start added _ c.in_ok-count.ensures.bytes (omega (arith, c.in-Ok.ensures.len))
    c.in_ok-count.ensures.bound
