use Rattle.std.proofs.Common.{◌≡◌, ℕ, List, None, Some, sym, ◌∙◌, ap, subst, refl, map, string_bytes, length, ◌≤◌, arith}
use Rattle.std.proofs.lemmas.List.{length-map}
use Rattle.clap.specs.Simple.{App, app_of}
use Rattle.commands.specs.Clap.{explain_app, IsMatched}
use Rattle.commands.proofs.Clap.{plain_words, explain_in, explain_read, explain_refused}
use Rattle.commands.proofs.explain.explain_few.Goals as goal

pub returns-in-None : goal.returns-in-None
returns-in-None c =
    let words : List (List ℕ) = map string_bytes c.args.words.now in
    let refused : IsMatched explain_app words None = subst (λ (a : App). IsMatched a words None) c.in-Ok.ensures
    (subst (IsMatched (app_of c.in-Ok.command) words) c.in-None.is c.in_ok-matched.ensures) in
    sym (explain_refused words (plain_words words c.requires.plain) refused)

pub returns-in-Some : goal.returns-in-Some
returns-in-Some c =
    let words : List (List ℕ) = map string_bytes c.args.words.now in
    let taken : IsMatched explain_app words (Some c.in-Some.m) = subst (λ (a : App). IsMatched a words (Some c.in-Some.m)) c.in-Ok.ensures
    (subst (IsMatched (app_of c.in-Ok.command) words) c.in-Some.is c.in_ok-matched.ensures) in
    let size : length words ≡ length c.args.words.now = length-map c.args.words.now string_bytes in
    let short : length words ≤ 6 = grind (arith, size, c.requires.few) in
    c.explain_from.ensures ∙ rw (c.text_of.ensures, c.text_of-in-Some.ensures, c.access_of.ensures) refl
    ∙ ap explain_in taken.1 ∙ explain_read words (plain_words words c.requires.plain) short taken.0
