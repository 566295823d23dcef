use Rattle.std.proofs.Common.{ℕ, List, None, Some, sym, ◌∙◌, ap, subst, refl, map, string_bytes}
use Rattle.clap.specs.Simple.{App, app_of}
use Rattle.commands.specs.Clap.{raw_app, number_by, IsMatched}
use Rattle.commands.proofs.Clap.{plain_words, raw_in, raw_read, raw_refused}
use Rattle.commands.proofs.raw.raw.Goals as goal

pub returns-in-None : goal.returns-in-None
returns-in-None c =
    let words : List (List ℕ) = map string_bytes c.args.words.now in
    let refused : IsMatched raw_app words None = subst (λ (a : App). IsMatched a words None) c.in-Ok.ensures
    (subst (IsMatched (app_of c.in-Ok.command) words) c.in-None.is c.in_ok-matched.ensures) in
    sym (raw_refused words (plain_words words c.requires) refused)

pub returns-in-Some : goal.returns-in-Some
returns-in-Some c =
    let words : List (List ℕ) = map string_bytes c.args.words.now in
    let taken : IsMatched raw_app words (Some c.in-Some.m) = subst (λ (a : App). IsMatched a words (Some c.in-Some.m)) c.in-Ok.ensures
    (subst (IsMatched (app_of c.in-Ok.command) words) c.in-Some.is c.in_ok-matched.ensures) in
    let tcr = c.number_in.ensures ∙ ap number_by c.text_of-in-Some.ensures in
    let ttbr0 = c.number_in-in-Some.ensures ∙ ap number_by c.text_of-in-Some-2.ensures in
    let va = c.number_in-in-Some-2.ensures ∙ ap number_by c.text_of-in-Some-3.ensures in
    c.raw_from.ensures ∙ rw (c.text_of.ensures, tcr, ttbr0, va) refl
    ∙ ap raw_in taken.1 ∙ raw_read words (plain_words words c.requires) taken.0
