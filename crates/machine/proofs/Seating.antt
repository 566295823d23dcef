-- Cores that are put one behind the other.
use Rattle.std.proofs.Common.{◌≡◌, ◌⊎◌, inl, inr, ℕ, ◌+◌, ◌<◌, List, [], ◌∷◌, ◌++◌}
use Rattle.std.proofs.Common.{length, length-append, get_or, sym, ap, ◌∙◌, subst, arith}
use Rattle.std.proofs.Math.Nat.{eq-or-lt_of_le}
use Rattle.std.proofs.Math.ListN.{get_or-append}
use Rattle.std.proofs.Math.Seq.{get_or-append_seam}

module _ {A : Type 0} (P : ℕ → A → Type 0) (z : A) (xs ys : List A) (s : A) (k : ℕ) (n : length xs ≡ k)
    (each : (d : ℕ) → d < k → P d (get_or xs d z)) (last : P k s) (is : ys ≡ xs ++ s ∷ []) where
  at_end : get_or ys k z ≡ s
  at_end = ap (λ (l : List A). get_or l k z) is ∙ ap (λ (i : ℕ). get_or (xs ++ s ∷ []) i z) (sym n) ∙ get_or-append_seam xs s [] z

  before : (d : ℕ) → d < k → get_or ys d z ≡ get_or xs d z
  before d l = ap (λ (l : List A). get_or l d z) is ∙ get_or-append xs (s ∷ []) z d (omega (arith, n, l))

  at : (d : ℕ) → (d ≡ k) ⊎ (d < k) → P d (get_or ys d z)
  at d (inl e) = subst (λ (i : ℕ). P i (get_or ys i z)) (sym e) (subst (P k) (sym at_end) last)
  at d (inr l) = subst (P d) (sym (before d l)) (each d l)

  -- one more, each by its number
  pub each_more : (d : ℕ) → d < k + 1 → P d (get_or ys d z)
  each_more d h = at d (eq-or-lt_of_le (omega arith))

pub longer : {A : Type 0} (xs ys : List A) (s : A) (k : ℕ) → length xs ≡ k → ys ≡ xs ++ s ∷ [] → length ys ≡ k + 1
longer xs ys s k n is = simp (is, length-append) (omega (arith, n))
