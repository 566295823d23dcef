-- A level as one digit.
use Rattle.std.proofs.Common.{◌≡◌, ℕ, zero, suc, ◌+◌, ◌<◌, [], ◌∷◌, decimal, refl, arith}
use Rattle.std.specs.Fmt.{digits}

-- a number below 4 is its digit
pub one_digit : (n : ℕ) → n < 4 → (48 + n) ∷ [] ≡ decimal n
unfolding digits
one_digit zero h = refl
one_digit (suc zero) h = refl
one_digit (suc (suc zero)) h = refl
one_digit (suc (suc (suc zero))) h = refl
one_digit (suc (suc (suc (suc n)))) h = absurd (omega arith)
