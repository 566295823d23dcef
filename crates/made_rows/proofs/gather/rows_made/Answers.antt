use Rattle.std.proofs.Common.{◌≡◌, List, [], ◌++◌, append-nil, fold, refl, sym, ap, ◌∙◌, subst, None}
use Rattle.trails.specs.declared.item.Item.{Item}
use Rattle.trails.specs.declared.outcome.Access.{Access}
use Rattle.sysregs.specs.declared.regs.Regs.{Regs}
use Rattle.made_rows.specs.declared.making.NewRow.{NewRow}
use Rattle.walk_spec.specs.Stage1.{untagged}
use Rattle.machine_spec.specs.Made.{leaf_rows}
use Rattle.made_rows.specs.Pieces.{after1, after2, IsPiece}
use Rattle.made_rows.specs.NewRows.{MadeFor, maker_for, regime_for, one_from, AreKnown, HasLeaf, met_in, PassedAll, AreMade}
use Rattle.std.specs.Prelude.{All, IfSome}
use Rattle.std.proofs.lemmas.List.Elements.{All-push}
use Rattle.made_rows.specs.NewRows.{IsSmall}
use Rattle.made_rows.proofs.Earlier.{none_made}
use Rattle.made_rows.proofs.PassingAll.{listed}
use Rattle.made_rows.proofs.Combining.{trail_known, all_made, none_mapped, one_mapped}
use Rattle.made_rows.proofs.gather.rows_made.Goals as goal

pub returns-then-not-walked-clause-made : goal.returns-then-not-walked-clause-made
returns-then-not-walked-clause-made c =
    let regs : Regs = c.args.force.now in
    let a : Access = c.args.walked.now.access.now in
    let trail : List Item = c.args.walked.now.trail.now in
    let made : MadeFor = record { regs = regs; access = a; step = c.args.step } in
    let rows : List NewRow = c.pass_all-stand.new.rows.items in
    let passed : AreKnown (regime_for made) trail → PassedAll made trail rows c.pass_all-stand.result =
    subst (λ m. AreKnown (regime_for m) trail → PassedAll m trail rows c.pass_all-stand.result) c.of-making.ensures c.pass_all-stand.ensures.passed in
    λ end h m.
    let p = passed (trail_known regs c.args.step a trail end h) in
    subst (AreMade regs c.args.step a trail end) (append-nil rows)
    (all_made regs c.args.step a trail end h rows [] p.rows_are (none_mapped regs c.args.step a trail end (sym m ∙ c.if-not-walked.true)))

pub returns-in-Some-clause-made : goal.returns-in-Some-clause-made
returns-in-Some-clause-made c =
    let regs : Regs = c.args.force.now in
    let a : Access = c.args.walked.now.access.now in
    let trail : List Item = c.args.walked.now.trail.now in
    let made : MadeFor = record { regs = regs; access = a; step = c.args.step } in
    let rows : List NewRow = c.pass_all-stand.new.rows.items in
    let passed : AreKnown (regime_for made) trail → PassedAll made trail rows c.pass_all-stand.result =
    subst (λ m. AreKnown (regime_for m) trail → PassedAll m trail rows c.pass_all-stand.result) c.of-making.ensures c.pass_all-stand.ensures.passed in
    λ end h m.
    let p = passed (trail_known regs c.args.step a trail end h) in
    let one = one_mapped regs c.args.step a trail end h (sym m ∙ c.if-not-walked.false) c.leaf_row.result
    (λ class piece. subst
    (λ m. HasLeaf m (fold after1 None (met_in m trail)) (fold after2 None (met_in m trail)) c.pass_all-stand.result →
    IsPiece (fold after1 None (met_in m trail)) (fold after2 None (met_in m trail)) class → one_from (maker_for m) trail c.leaf_row.result
    ≡ leaf_rows (maker_for m) class (untagged m.access.va) trail (fold after1 None (met_in m trail))) c.of-making.ensures
    (λ l q. c.leaf_row.ensures.row _ _ class trail l q refl) p.leaf piece) in
    subst (AreMade regs c.args.step a trail end) (ap (λ o. rows ++ listed o) c.in-Some.is ∙ sym c.push_reserved.ensures.items)
    (all_made regs c.args.step a trail end h rows (listed c.leaf_row.result) p.rows_are one)

pub returns-in_default-clause-made : goal.returns-in_default-clause-made
returns-in_default-clause-made c =
    let regs : Regs = c.args.force.now in
    let a : Access = c.args.walked.now.access.now in
    let trail : List Item = c.args.walked.now.trail.now in
    let made : MadeFor = record { regs = regs; access = a; step = c.args.step } in
    let rows : List NewRow = c.pass_all-stand.new.rows.items in
    let passed : AreKnown (regime_for made) trail → PassedAll made trail rows c.pass_all-stand.result =
    subst (λ m. AreKnown (regime_for m) trail → PassedAll m trail rows c.pass_all-stand.result) c.of-making.ensures c.pass_all-stand.ensures.passed in
    λ end h m.
    let p = passed (trail_known regs c.args.step a trail end h) in
    let one = one_mapped regs c.args.step a trail end h (sym m ∙ c.if-not-walked.false) c.leaf_row.result
    (λ class piece. subst
    (λ m. HasLeaf m (fold after1 None (met_in m trail)) (fold after2 None (met_in m trail)) c.pass_all-stand.result →
    IsPiece (fold after1 None (met_in m trail)) (fold after2 None (met_in m trail)) class → one_from (maker_for m) trail c.leaf_row.result
    ≡ leaf_rows (maker_for m) class (untagged m.access.va) trail (fold after1 None (met_in m trail))) c.of-making.ensures
    (λ l q. c.leaf_row.ensures.row _ _ class trail l q refl) p.leaf piece) in
    subst (AreMade regs c.args.step a trail end) (ap (λ o. rows ++ listed o) c.in_default.is ∙ append-nil rows)
    (all_made regs c.args.step a trail end h rows (listed c.leaf_row.result) p.rows_are one)

pub returns-then-not-has_new-clause-made : goal.returns-then-not-has_new-clause-made
returns-then-not-has_new-clause-made c = λ end h m.
    subst (AreMade c.args.force.now c.args.step c.args.walked.now.access.now c.args.walked.now.trail.now end) (sym c.requires.empty)
    (none_made c.args.force.now c.args.step c.args.walked.now.access.now c.args.walked.now.trail.now end h
    (sym c.has_new.ensures ∙ c.if-not-has_new.true))

pub returns-in-Some-clause-small : goal.returns-in-Some-clause-small
returns-in-Some-clause-small c =
    subst (All IsSmall) (sym c.push_reserved.ensures.items) (All-push IsSmall c.pass_all-stand.new.rows.items c.in-Some.row c.pass_all-stand.ensures.small
    (subst (λ o. IfSome o IsSmall) c.in-Some.is (c.leaf_row.ensures.small c.pass_all-stand.ensures.leaf)))
