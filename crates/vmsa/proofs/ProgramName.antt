-- The words behind the first.
use Rattle.std.proofs.Common.{ℕ, ◌+◌, sym, ap, drop, Option, Some, None, MatchOption, arith, ◌≡◌, List, [], ◌∷◌, length, refl}

-- what a list has behind the first element that was taken from it
pub behind_first : {A : Type 0} (first : Option A) (all rest : List A) (m n : ℕ)
    → MatchOption first ((m ≡ 0) × (n ≡ 0)) (λ x. (all ≡ x ∷ rest) × (n + 1 ≡ m)) → m ≡ length all → n ≡ length rest
    → rest ≡ drop 1 all
behind_first (Some x) all rest m n h k l = sym (ap (drop 1) h.0)
behind_first None [] [] m n h k l = refl
behind_first None (y ∷ ys) rest m n h k l = let e = h.0 in absurd (omega arith)
behind_first None [] (y ∷ ys) m n h k l = let e = h.1 in absurd (omega arith)
