-- Parts of a text that were put behind a text.
use Rattle.std.proofs.Common.{◌≡◌, ℕ, List, [], ◌∷◌, ◌++◌, sym, ◌∙◌, append_assoc, append-nil}
use Rattle.texts.specs.Texts.{joined_text}

-- the parts, the first one put first
abbrev pub put_behind : (old : List ℕ) (parts : List (List ℕ)) → List ℕ
put_behind old [] = old
put_behind old (p ∷ ps) = put_behind (old ++ p) ps

-- is their text behind it
pub parts_behind : (old : List ℕ) (parts : List (List ℕ)) → put_behind old parts ≡ old ++ joined_text parts
parts_behind old [] = sym (append-nil old)
parts_behind old (p ∷ ps) = parts_behind (old ++ p) ps ∙ append_assoc old p (joined_text ps)
