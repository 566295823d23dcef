use Rattle.std.proofs.Common.{ℕ, List, None, Some, sym, ◌∙◌, ap, subst, refl, map, string_bytes}
use Rattle.clap.specs.Simple.{App, app_of}
use Rattle.commands.specs.Clap.{drill_app, number_by, IsMatched}
use Rattle.commands.proofs.Clap.{plain_words, drill_in, drill_read, drill_refused}
use Rattle.commands.proofs.drill.drill.Goals as goal

pub returns-in-None : goal.returns-in-None
returns-in-None c =
    let words : List (List ℕ) = map string_bytes c.args.words.now in
    let refused : IsMatched drill_app words None = subst (λ (a : App). IsMatched a words None) c.in-Ok.ensures
    (subst (IsMatched (app_of c.in-Ok.command) words) c.in-None.is c.in_ok-matched.ensures) in
    sym (drill_refused words (plain_words words c.requires) refused)

pub returns-in-Some : goal.returns-in-Some
returns-in-Some c =
    let words : List (List ℕ) = map string_bytes c.args.words.now in
    let taken : IsMatched drill_app words (Some c.in-Some.m) = subst (λ (a : App). IsMatched a words (Some c.in-Some.m)) c.in-Ok.ensures
    (subst (IsMatched (app_of c.in-Ok.command) words) c.in-Some.is c.in_ok-matched.ensures) in
    c.drill_from.ensures ∙ rw (c.number_in.ensures ∙ ap number_by c.text_of.ensures) refl ∙ ap drill_in taken.1
    ∙ drill_read words (plain_words words c.requires) taken.0
