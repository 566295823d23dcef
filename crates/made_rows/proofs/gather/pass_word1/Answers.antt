use Rattle.std.proofs.Common.{◌≡◌, ◌+◌, true, None, sym, ◌∙◌, subst, inl, inr}
use Rattle.fault_codes.specs.declared.fault.Stage.TheVariants.{S1}
use Rattle.trails.specs.declared.item.Item.{Item}
use Rattle.made_rows.specs.declared.gather.Stand.{Stand}
use Rattle.made_rows.specs.Sized.{is_sized}
use Rattle.made_rows.specs.NewRows.{regime_for, mark_in, MadeFor, Passed, TellsMark}
use Rattle.made_rows.proofs.Passing
use Rattle.made_rows.proofs.gather.pass_word1.Goals as goal

pub returns-then-not-is_now-clause-passed : goal.returns-then-not-is_now-clause-passed
returns-then-not-is_now-clause-passed c =
    let made : MadeFor = c.args.making.now in
    let s : Stand = c.args.stand.now in
    let i : Item = c.args.item.now in
    λ known.
    let k = known.word c.requires.what in
    let led = Passing.led1 made s.ipa i c.requires.what c.requires.stage s.goal k.0 k.1 k.3 c.in_ok-word.word
    (sym (c.word.ensures.is k.0 k.1 k.2 k.3 k.4) ∙ c.in_ok-word.was) in
    Passing.earlier1 made s.ipa i c.requires.what c.requires.stage c.args.at s.goal c.in_ok-word.word.goal s.start led s.leaf s.class2
    (Passing.now_of made s.ipa i c.requires.what ∙ sym c.is_now.ensures ∙ c.if-not-is_now.true)

pub returns-in-Table-clause-passed : goal.returns-in-Table-clause-passed
returns-in-Table-clause-passed c =
    let made : MadeFor = c.args.making.now in
    let s : Stand = c.args.stand.now in
    let i : Item = c.args.item.now in
    λ known.
    let k = known.word c.requires.what in
    let led = Passing.led1 made s.ipa i c.requires.what c.requires.stage s.goal k.0 k.1 k.3 c.in_ok-word.word
    (sym (c.word.ensures.is k.0 k.1 k.2 k.3 k.4) ∙ c.in_ok-word.was) in
    let t = Passing.tells1 made s.ipa i c.requires.what c.requires.stage k.0 k.1 k.3 c.in_ok-word.word
    (sym (c.word.ensures.is k.0 k.1 k.2 k.3 k.4) ∙ c.in_ok-word.was) in
    let sized = subst (λ st. is_sized (regime_for made) st ≡ true) c.requires.stage k.4 in
    subst (Passed made c.args.at i s record { ipa = s.ipa; goal = c.in_ok-word.word.goal; start = c.args.at + 1; leaf = None; class2 = None })
    (sym c.only_if.ensures.is)
    (Passing.table1 made s.ipa i c.requires.what c.requires.stage
    (Passing.now_of made s.ipa i c.requires.what ∙ sym c.is_now.ensures ∙ c.if-not-is_now.false) c.in_ok-word.word t
    c.args.at s.goal c.in_ok-word.word.goal s.start led s.leaf s.class2 c.in-Table.cached c.row-row.result c.in-Table.is
    (λ trail. c.row-row.ensures.row (mark_in made s.ipa i) trail
    (subst (TellsMark (regime_for made) (mark_in made s.ipa i) S1 c.in_ok-word.word) (sym c.va.ensures) t) sized))

pub returns-in-Leaf1-clause-passed : goal.returns-in-Leaf1-clause-passed
returns-in-Leaf1-clause-passed c =
    let made : MadeFor = c.args.making.now in
    let s : Stand = c.args.stand.now in
    let i : Item = c.args.item.now in
    λ known.
    let k = known.word c.requires.what in
    let led = Passing.led1 made s.ipa i c.requires.what c.requires.stage s.goal k.0 k.1 k.3 c.in_ok-word.word
    (sym (c.word.ensures.is k.0 k.1 k.2 k.3 k.4) ∙ c.in_ok-word.was) in
    let t = Passing.tells1 made s.ipa i c.requires.what c.requires.stage k.0 k.1 k.3 c.in_ok-word.word
    (sym (c.word.ensures.is k.0 k.1 k.2 k.3 k.4) ∙ c.in_ok-word.was) in
    let sized = subst (λ st. is_sized (regime_for made) st ≡ true) c.requires.stage k.4 in
    Passing.leaf1 made s.ipa i c.requires.what c.requires.stage
    (Passing.now_of made s.ipa i c.requires.what ∙ sym c.is_now.ensures ∙ c.if-not-is_now.false) c.in_ok-word.word t
    c.args.at s.goal c.in_ok-word.word.goal s.start led s.leaf s.class2 c.in-Leaf1.global c.row-row-in-Leaf1.result c.in-Leaf1.is
    (λ trail. c.row-row-in-Leaf1.ensures.row (mark_in made s.ipa i) trail
    (subst (TellsMark (regime_for made) (mark_in made s.ipa i) S1 c.in_ok-word.word)
    (sym c.va-in-Leaf1.ensures) t) sized) c.row-row-in-Leaf1.ensures.start c.row-row-in-Leaf1.ensures.class

pub returns-in-Nothing-clause-passed : goal.returns-in-Nothing-clause-passed
returns-in-Nothing-clause-passed c =
    let made : MadeFor = c.args.making.now in
    let s : Stand = c.args.stand.now in
    let i : Item = c.args.item.now in
    λ known.
    let k = known.word c.requires.what in
    let led = Passing.led1 made s.ipa i c.requires.what c.requires.stage s.goal k.0 k.1 k.3 c.in_ok-word.word
    (sym (c.word.ensures.is k.0 k.1 k.2 k.3 k.4) ∙ c.in_ok-word.was) in
    let t = Passing.tells1 made s.ipa i c.requires.what c.requires.stage k.0 k.1 k.3 c.in_ok-word.word
    (sym (c.word.ensures.is k.0 k.1 k.2 k.3 k.4) ∙ c.in_ok-word.was) in
    let n = Passing.now_of made s.ipa i c.requires.what ∙ sym c.is_now.ensures ∙ c.if-not-is_now.false in
    elim c.in-Nothing.is [
      | inl e ↦ Passing.nothing1 made s.ipa i c.requires.what c.requires.stage n c.in_ok-word.word t c.args.at
          s.goal c.in_ok-word.word.goal s.start led s.leaf s.class2 e
      | inr e ↦ absurd (Passing.not_second made s.ipa i c.requires.what c.requires.stage n c.in_ok-word.word t e.0 e.1)
    ]
