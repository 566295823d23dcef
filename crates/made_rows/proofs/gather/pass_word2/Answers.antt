use Rattle.std.proofs.Common.{◌≡◌, true, Some, sym, ◌∙◌, subst, inl, inr}
use Rattle.trails.specs.declared.item.Item.{Item}
use Rattle.made_rows.specs.declared.gather.Stand.{Stand}
use Rattle.made_rows.specs.Sized.{is_sized}
use Rattle.made_rows.specs.NewRows.{regime_for, mark_in, MadeFor, Passed}
use Rattle.made_rows.proofs.Passing
use Rattle.made_rows.proofs.gather.pass_word2.Goals as goal

pub returns-then-is_none-clause-passed : goal.returns-then-is_none-clause-passed
returns-then-is_none-clause-passed c =
    let made : MadeFor = c.args.making.now in
    let s : Stand = c.args.stand.now in
    let i : Item = c.args.item.now in
    λ known. Passing.earlier2 made s.ipa i c.requires.what c.requires.stage c.args.at s.goal s.start s.leaf s.class2 c.if-is_none.ensures
    (Passing.now_of made s.ipa i c.requires.what ∙ sym c.if-not-is_now.ensures)

pub returns-then-not-is_now-2-clause-passed : goal.returns-then-not-is_now-2-clause-passed
returns-then-not-is_now-2-clause-passed c =
    let made : MadeFor = c.args.making.now in
    let s : Stand = c.args.stand.now in
    let i : Item = c.args.item.now in
    λ known.
    let k = known.word c.requires.what in
    let t = Passing.tells2 made s.ipa i c.requires.what c.requires.stage k.0 k.1 k.3 c.in_ok-word.word
    (sym (c.word.ensures.is k.0 k.1 k.2 k.3 k.4) ∙ c.in_ok-word.was) in
    Passing.before2 made s.ipa i c.requires.what c.requires.stage c.in_ok-word.word t c.args.at s.goal s.start s.leaf s.class2
    (Passing.now_of made s.ipa i c.requires.what ∙ sym c.is_now-is_now.ensures ∙ c.if-not-is_now-2.true)

pub returns-in-Table-clause-passed : goal.returns-in-Table-clause-passed
returns-in-Table-clause-passed c =
    let made : MadeFor = c.args.making.now in
    let s : Stand = c.args.stand.now in
    let i : Item = c.args.item.now in
    λ known.
    let k = known.word c.requires.what in
    let t = Passing.tells2 made s.ipa i c.requires.what c.requires.stage k.0 k.1 k.3 c.in_ok-word.word
    (sym (c.word.ensures.is k.0 k.1 k.2 k.3 k.4) ∙ c.in_ok-word.was) in
    let sized = subst (λ st. is_sized (regime_for made) st ≡ true) c.requires.stage k.4 in
    subst (Passed made c.args.at i s record { ipa = s.ipa; goal = s.goal; start = s.start; leaf = s.leaf; class2 = Some c.in_ok-word.word.class })
    (sym c.only_if.ensures.is)
    (Passing.table2 made s.ipa i c.requires.what c.requires.stage c.in_ok-word.word t
    (Passing.now_of made s.ipa i c.requires.what ∙ sym c.is_now-is_now.ensures ∙ c.if-not-is_now-2.false)
    c.args.at s.goal s.start s.leaf s.class2 c.in-Table.cached c.row-row.result c.in-Table.is
    (λ trail. c.row-row.ensures.row (mark_in made s.ipa i) trail t sized))

pub returns-in-Leaf2-clause-passed : goal.returns-in-Leaf2-clause-passed
returns-in-Leaf2-clause-passed c =
    let made : MadeFor = c.args.making.now in
    let s : Stand = c.args.stand.now in
    let i : Item = c.args.item.now in
    λ known.
    let k = known.word c.requires.what in
    let t = Passing.tells2 made s.ipa i c.requires.what c.requires.stage k.0 k.1 k.3 c.in_ok-word.word
    (sym (c.word.ensures.is k.0 k.1 k.2 k.3 k.4) ∙ c.in_ok-word.was) in
    let sized = subst (λ st. is_sized (regime_for made) st ≡ true) c.requires.stage k.4 in
    subst (Passed made c.args.at i s record { ipa = s.ipa; goal = s.goal; start = s.start; leaf = s.leaf; class2 = Some c.in_ok-word.word.class })
    (sym c.only_if-in-Leaf2.ensures.is)
    (Passing.leaf2 made s.ipa i c.requires.what c.requires.stage c.in_ok-word.word t
    (Passing.now_of made s.ipa i c.requires.what ∙ sym c.is_now-is_now.ensures ∙ c.if-not-is_now-2.false)
    c.args.at s.goal s.start s.leaf s.class2 c.in-Leaf2.cached c.row-row-in-Leaf2.result c.in-Leaf2.is
    (λ trail. c.row-row-in-Leaf2.ensures.row (mark_in made s.ipa i) trail t sized))

pub returns-in-Nothing-clause-passed : goal.returns-in-Nothing-clause-passed
returns-in-Nothing-clause-passed c =
    let made : MadeFor = c.args.making.now in
    let s : Stand = c.args.stand.now in
    let i : Item = c.args.item.now in
    λ known.
    let k = known.word c.requires.what in
    let t = Passing.tells2 made s.ipa i c.requires.what c.requires.stage k.0 k.1 k.3 c.in_ok-word.word
    (sym (c.word.ensures.is k.0 k.1 k.2 k.3 k.4) ∙ c.in_ok-word.was) in
    let n = Passing.now_of made s.ipa i c.requires.what ∙ sym c.is_now-is_now.ensures ∙ c.if-not-is_now-2.false in
    elim c.in-Nothing.is [
      | inl e ↦ Passing.nothing2 made s.ipa i c.requires.what c.requires.stage c.in_ok-word.word t n c.args.at s.goal s.start s.leaf s.class2 e
      | inr e ↦ absurd (Passing.not_first made s.ipa i c.requires.what c.requires.stage c.in_ok-word.word t n e.0 e.1)
    ]
