-- The values of all bytes as digits, computed.
use Rattle.std.proofs.Common.{◌≡◌, ℕ, zero, suc, ◌+◌, ◌<◌, ◌==◌, ◌&&◌, List, [], ◌∷◌}
use Rattle.std.proofs.Common.{length, get_or, Bool, true, false, refl, ap, ◌∙◌, arith}
use Rattle.std.proofs.lemmas.Bool.{eqb-true}
use Rattle.std.specs.Char.{digit_value}
use Rattle.texts.specs.declared.numbers.TheConstants.{VALUES}

-- a list has the values of the bytes from one on
abbrev are_values : (first : ℕ) (list : List ℕ) → Bool
are_values n [] = true
are_values n (x ∷ xs) = (x == digit_value n) && are_values (n + 1) xs

pub both : (a b : Bool) → (a && b) ≡ true → (a ≡ true) × (b ≡ true)
both true true h = (refl, refl)
both true false h = cc
both false b h = cc

value_from : (n : ℕ) (xs : List ℕ) → are_values n xs ≡ true → (i : ℕ) → i < length xs → get_or xs i 0 ≡ digit_value (n + i)
value_from n [] h i l = absurd (omega arith)
value_from n (x ∷ xs) h zero l = eqb-true x (digit_value n) (both (x == digit_value n) (are_values (n + 1) xs) h).0
    ∙ ap digit_value (let e : n ≡ n + 0 = omega arith in e)
value_from n (x ∷ xs) h (suc i) l =
    value_from (n + 1) xs (both (x == digit_value n) (are_values (n + 1) xs) h).1 i (omega arith)
    ∙ ap digit_value (let e : n + 1 + i ≡ n + suc i = omega arith in e)

pub value_at : (byte : ℕ) → byte < 256 → get_or VALUES byte 0 ≡ digit_value byte
value_at b l = value_from 0 VALUES refl b (omega arith) ∙ ap digit_value (let e : 0 + b ≡ b = omega arith in e)
