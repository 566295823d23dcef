-- Bases that are multiples of a table's size.
use Rattle.std.proofs.Common.{◌≡◌, ℕ, ◌+◌, ◌*◌, ◌/◌, ◌%◌, ◌^◌, ◌≤◌, arith, ap, ◌∙◌}
use Rattle.std.proofs.lemmas.Nat.{pow-add}
use Rattle.std.proofs.Math.Nat.{div-mul-le_self, mul-mod_right}

pub by_size : (b k : ℕ) → b / 2 ^ (3 + k) * 2 ^ (3 + k) ≡ b / (8 * 2 ^ k) * (8 * 2 ^ k)
by_size b k = ap (λ s. b / s * s) (pow-add 2 3 k)

pub size_fits : (b k : ℕ) → b / 2 ^ (3 + k) * 2 ^ (3 + k) ≤ b
size_fits b k = div-mul-le_self b (2 ^ (3 + k))

pub size_eight : (b k : ℕ) → b / 2 ^ (3 + k) * 2 ^ (3 + k) % 8 ≡ 0
size_eight b k =
    let s : b / (8 * 2 ^ k) * (8 * 2 ^ k) ≡ 8 * (b / (8 * 2 ^ k) * 2 ^ k) = omega arith in
    ap (λ z. z % 8) (by_size b k ∙ s) ∙ mul-mod_right 8 (b / (8 * 2 ^ k) * 2 ^ k)
