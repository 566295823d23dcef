-- The address bits of a word.
use Rattle.std.proofs.Common.{◌≡◌, ℕ, ◌+◌, ◌-◌, ◌*◌, ◌/◌, ◌%◌, ◌^◌, ◌≤◌, arith, ap, ◌∙◌}
use Rattle.std.proofs.lemmas.Nat.{field_of}

-- bits 47 down to n, from the whole of bits 47:0
pub low_address : (w n : ℕ) → n ≤ 47 → w / 1 % 2 ^ 48 / 2 ^ n * 2 ^ n ≡ w / 2 ^ n % 2 ^ (47 - n + 1) * 2 ^ n
low_address w n h =
    let width : (47 - n + 1) + n ≡ 48 = omega arith in
    let whole : w / 1 ≡ w = omega arith in
    let field : w % 2 ^ 48 / 2 ^ n ≡ w / 2 ^ n % 2 ^ (47 - n + 1) = rw width at (field_of w (47 - n + 1) n) in
    ap (λ v. v % 2 ^ 48 / 2 ^ n * 2 ^ n) whole ∙ ap (λ v. v * 2 ^ n) field
