-- The rights of a set, as tests under a mask.
use Rattle.std.proofs.Common.{◌≡◌, ℕ, ◌^◌, eqb, arith, refl}
use Rattle.std.specs.Prelude.{bit_and}
use Rattle.std.specs.Int.{bit_at}
use Rattle.std.proofs.lemmas.Nat.{pow_pos}
use Rattle.std.proofs.lemmas.Nat.Bits.{and_pow, bit_at-lt}
use Rattle.permissions.specs.Rights.{has}
use Rattle.permissions.specs.declared.set.Perms.{Perms}
use Rattle.permissions.specs.declared.bits.El.TheVariants.{El0, El1}
use Rattle.explain_text.specs.Mapped.{letters_text, rights_text}

-- one bit of a number, as a test under a mask
one_bit : (n k : ℕ) → eqb (bit_and n (2 ^ k)) (2 ^ k) ≡ eqb (bit_at n k) 1
one_bit n k = grind (arith, and_pow n k, bit_at-lt n k, pow_pos k)

-- the rights of EL0
pub rights0 : (p : Perms) → letters_text (eqb (bit_and p.0 1) 1) (eqb (bit_and p.0 2) 2) (eqb (bit_and p.0 4) 4) ≡ rights_text p El0
unfolding has
rights0 p = rw (one_bit p.0 0, one_bit p.0 1, one_bit p.0 2) refl

-- the rights of EL1
pub rights1 : (p : Perms) → letters_text (eqb (bit_and p.0 8) 8) (eqb (bit_and p.0 16) 16) (eqb (bit_and p.0 32) 32) ≡ rights_text p El1
unfolding has
rights1 p = rw (one_bit p.0 3, one_bit p.0 4, one_bit p.0 5) refl
