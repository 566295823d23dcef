use Rattle.std.proofs.Common.{◌≡◌, ℕ, ◌-◌, ◌+◌, ◌<◌, ◌≤◌, [], length, get_or, ap, sym, ◌∙◌, subst, arith}
use Rattle.std.proofs.lemmas.List.{get_or_default}
use Rattle.std.proofs.Math.Pow.{pow_mono}
use Rattle.std.specs.Prelude.{◌%◌, ◌/◌, ◌^◌}
use Rattle.tagged_tlb.specs.Slots.{hit}
use Rattle.tagged_tlb.specs.Tied.{is_sought}
use Rattle.tagged_tlb.proofs.Deepest.{none_of_first, none_here, none_of_class, none_of_classes, place_within, found_here, nothing, some_row}
use Rattle.tagged_tlb.specs.Found.{seen_at}
use Rattle.tagged_tlb.proofs.Stands.{stands}
use Rattle.tagged_tlb.proofs.tlb.search_deepest.Goals as goal
use Rattle.tagged_tlb.proofs.tlb.search_deepest.Goals.{then-is_marked+in-None, else-is_marked}

pub loop-class-init : goal.loop-class-init
loop-class-init g c = (
  λ kind live told f.
      none_of_first (some_row c.args.sought.now.key kind) c.args.sets.now kind g.row.SETS c.args.sought.now live told f c.requires.some c.args.classes
      c.requires.marked c.start_of-class.result c.start_of-class.ensures.below,
  c.start_of-class.ensures.most,
)

pub returns-in-Some-clause-within : goal.returns-in-Some-clause-within
returns-in-Some-clause-within g c =
    let at : ℕ = c.args.sought.now.at / 2 ^ c.loop-class.class % g.row.SETS in
    let lt : at < length c.args.sets.now = omega (arith, c.requires.some, c.requires.sets) in (
      lt,
      place_within c.args.sets.now (hit c.args.sought.now c.loop-class.class
          (c.args.sought.now.at / 2 ^ c.loop-class.class)) at c.in-Some.way c.index-sets-set.result lt
          c.index-sets-set.is (sym c.first_way.ensures ∙ c.in-Some.is),
    )

pub returns-in-Some-clause-least : goal.returns-in-Some-clause-least
returns-in-Some-clause-least g c = λ d kind live told small f.
    found_here d c.args.sets.now kind g.row.SETS c.args.sought.now live told f c.loop-class.class c.requires.some c.index-sets-set.result c.index-sets-set.is
    c.in-Some.way (sym c.first_way.ensures ∙ c.in-Some.is) (c.loop-class.invariant.0 kind live told f)

pub loop-class-preserved : goal.loop-class-preserved
loop-class-preserved g c = (
  λ kind live told f. elim c.if-is_marked.branch [
    | then-is_marked+in-None w ↦
        none_here (some_row c.args.sought.now.key kind) c.args.sets.now kind g.row.SETS c.args.sought.now live told f c.loop-class.class c.requires.some
        w.index-sets-set.result w.index-sets-set.is
        (sym w.first_way.ensures ∙ w.in-None.is) (c.loop-class.invariant.0 kind live told f)
    | else-is_marked w ↦
        none_of_class (some_row c.args.sought.now.key kind) c.args.sets.now kind g.row.SETS c.args.sought.now live told f c.loop-class.class c.requires.some
        c.args.classes c.requires.marked
        (sym c.is_marked.ensures ∙ w.if-is_marked.false) (c.loop-class.invariant.0 kind live told f)
  ],
  omega (arith, c.loop-class-test.true, c.end_of-class-end.ensures.most),
)

pub returns-clause-least : goal.returns-clause-least
returns-clause-least g c = λ d kind live told small f.
    let past : c.end_of-class-end.result ≤ c.loop-class.class = omega (arith, c.loop-class-test.false) in
    let gap : c.loop-class.class + (64 - c.loop-class.class) ≡ 64 = omega (arith, c.loop-class.invariant.1) in
    let more = pow_mono past in
    let above : c.args.classes < 2 ^ c.loop-class.class = omega (arith, c.end_of-class-end.ensures.above, more) in
    sym (nothing (is_sought kind c.args.sought.now) live
    (none_of_classes (some_row c.args.sought.now.key kind) c.args.sets.now kind g.row.SETS c.args.sought.now live told f c.requires.some c.args.classes
    c.requires.marked
    (64 - c.loop-class.class) c.loop-class.class gap above (c.loop-class.invariant.0 kind live told f)) small)

pub made-made-requires : goal.made-made-requires
made-made-requires g c =
    let at : ℕ = c.args.sought.now.at / 2 ^ c.loop-class.class % g.row.SETS in
    let lt : at < length c.args.sets.now = omega (arith, c.requires.some, c.requires.sets) in
    let one = c.index-sets-set-in-Some.result in
    let one_is = c.index-sets-set-in-Some.is ∙ get_or_default c.args.sets.now at one [] lt in (
      omega arith,
      subst (λ v. c.in-Some.way < length v) (sym one_is)
          (place_within c.args.sets.now (hit c.args.sought.now c.loop-class.class (c.args.sought.now.at / 2 ^ c.loop-class.class)) at c.in-Some.way
          c.index-sets-set.result lt c.index-sets-set.is (sym c.first_way.ensures ∙ c.in-Some.is)),
    )

pub returns-in-Some-clause-stands : goal.returns-in-Some-clause-stands
returns-in-Some-clause-stands g c = λ d kind live f.
    let at : ℕ = c.args.sought.now.at / 2 ^ c.loop-class.class % g.row.SETS in
    let lt : at < length c.args.sets.now = omega (arith, c.requires.some, c.requires.sets) in
    let one = c.index-sets-set-in-Some.result in
    let one_is = c.index-sets-set-in-Some.is ∙ get_or_default c.args.sets.now at one [] lt in
    let here = place_within c.args.sets.now (hit c.args.sought.now c.loop-class.class (c.args.sought.now.at / 2 ^ c.loop-class.class)) at c.in-Some.way
    c.index-sets-set.result lt c.index-sets-set.is (sym c.first_way.ensures ∙ c.in-Some.is) in
    stands kind g.row.SETS live d c.args.sets.now f (seen_at at c.in-Some.way c.made-made.result) (lt, here)
    (sym (c.made-made.ensures d ∙ ap (λ xs. (get_or xs c.in-Some.way d).made) one_is))
