-- A text that grows by the part of one element more.
use Rattle.std.proofs.Common.{◌≡◌, ℕ, ◌+◌, ◌<◌, List, [], ◌∷◌, ◌++◌, length, take}
use Rattle.std.proofs.Common.{get_or, flat_map, sym, ◌∙◌, ap, append_assoc, append-nil}
use Rattle.std.proofs.lemmas.Grind.{flat_map-append}
use Rattle.std.proofs.lemmas.List.{take_more}

pub grown : {X : Type 0} (f : X → List ℕ) (old now new : List ℕ) (xs : List X) (i : ℕ) (d : X) → i < length xs
    → now ≡ old ++ flat_map f (take i xs) →
    new ≡ now ++ f (get_or xs i d) → new ≡ old ++ flat_map f (take (i + 1) xs)
grown f old now new xs i d l h e =
    e ∙ ap (λ t. t ++ f (get_or xs i d)) h ∙ append_assoc old (flat_map f (take i xs)) (f (get_or xs i d))
    ∙ ap (λ t. old ++ t) (ap (λ t. flat_map f (take i xs) ++ t) (sym (append-nil (f (get_or xs i d))))
    ∙ sym (flat_map-append f (take i xs) (get_or xs i d ∷ [])) ∙ ap (flat_map f) (sym (take_more xs i d l)))

-- a text that was begun with nothing and has grown by three parts
pub assembled : (start first second whole a b tail : List ℕ) → start ≡ [] → first ≡ start ++ a → second ≡ first ++ b
    → whole ≡ second ++ tail →
    whole ≡ a ++ (b ++ tail)
assembled start first second whole a b tail s f g w =
    w ∙ ap (λ l. l ++ tail) (g ∙ ap (λ l. l ++ b) (f ∙ ap (λ l. l ++ a) s)) ∙ append_assoc a b tail
