-- The index that an address has in a table, as a field of the address.
use Rattle.std.proofs.Common.{◌≡◌, ℕ, ◌+◌, ◌-◌, ◌*◌, ◌/◌, ◌%◌, ◌^◌, ◌<◌, ◌≤◌, arith, inl, inr}
use Rattle.std.specs.Prelude.{bit_and}
use Rattle.std.proofs.lemmas.Bool.{cases_lt}
use Rattle.std.proofs.lemmas.Nat.{and_mask, one_shl, field_of, mod_below, pow_pos, pow_below, shr_below, shr-shr}

-- the lowest bits of a word under a mask of ones
pub masked_low : (x top : ℕ) → top < 64 → bit_and x (1 * 2 ^ top % 18446744073709551616 - 1) ≡ x % 2 ^ top
masked_low x top h = rw (one_shl top 64 h, and_mask)

-- the bits from k up to t of a number
pub field_at : (x t k : ℕ) → k ≤ t → x % 2 ^ t / 2 ^ k ≡ x / 2 ^ k % 2 ^ (t - k)
field_at x t k h =
    let e : (t - k) + k ≡ t = omega arith in
    rw e at (field_of x (t - k) k)

-- an index has as many bits as lie from its class up to its top
pub field_below : (x t k : ℕ) → k ≤ t → x % 2 ^ t / 2 ^ k < 2 ^ (t - k)
field_below x t k h = rw (field_at x t k h) (mod_below (x / 2 ^ k) (2 ^ (t - k)) (pow_pos (t - k)))

-- the index in a table whose level resolves s bits
pub index_below : (x k s : ℕ) → x % 2 ^ (k + s) / 2 ^ k < 2 ^ s
index_below x k s =
    let e : (k + s) - k ≡ s = omega arith in
    rw e at (field_below x (k + s) k (omega arith))

-- there are no bits above a lower top
field_of_none : (x t k : ℕ) → t < k → x % 2 ^ t / 2 ^ k ≡ 0
field_of_none x t k h =
    let below : x % 2 ^ t < 2 ^ k = omega (arith, mod_below x (2 ^ t) (pow_pos t), pow_below t k h) in
    let e : 0 + k ≡ k = omega arith in
    let b : x % 2 ^ t / 2 ^ k < 2 ^ 0 = shr_below (x % 2 ^ t) 0 k (rw e below) in
    omega (arith, b)

-- addresses of one entry have one index
pub same_index : (x y k t : ℕ) → x / 2 ^ k ≡ y / 2 ^ k → x % 2 ^ t / 2 ^ k ≡ y % 2 ^ t / 2 ^ k
same_index x y k t e =
    elim (cases_lt t k) [
      | inl h ↦ rw (field_of_none x t k h, field_of_none y t k h)
      | inr h ↦ rw (field_at x t k h, field_at y t k h, e)
    ]

-- addresses that share a region share each larger one
pub coarser : (x y k d : ℕ) → x / 2 ^ k ≡ y / 2 ^ k → x / 2 ^ (k + d) ≡ y / 2 ^ (k + d)
coarser x y k d e = rw (← shr-shr x k d, ← shr-shr y k d, e)
