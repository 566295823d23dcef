use Rattle.std.proofs.Common.{◌≡◌, ℕ, List, sym, map, string_bytes, length, arith}
use Rattle.std.proofs.lemmas.Bool.Decides.{nat_tests}
use Rattle.std.proofs.lemmas.List.{length-map}
use Rattle.commands.proofs.Clap.{explain_long}
use Rattle.commands.proofs.explain.explain.Goals as goal

pub returns-then-words-gt6 : goal.returns-then-words-gt6
returns-then-words-gt6 c =
    let words : List (List ℕ) = map string_bytes c.args.words.now in
    let size : length words ≡ length c.args.words.now = length-map c.args.words.now string_bytes in
    sym (explain_long words (grind (arith, nat_tests, size)))
