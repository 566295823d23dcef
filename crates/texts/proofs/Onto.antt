-- The digits of a number, the last one first, before a text that stands.
use Rattle.std.proofs.Common.{◌≡◌, ℕ, ◌+◌, ◌-◌, ◌/◌, ◌%◌, ◌<◌, ◌≤◌, ◌^◌, zero, suc, List, [], ◌∷◌}
use Rattle.std.proofs.Common.{◌++◌, Bool, true, false, sym, ◌∙◌, ap, refl, arith, eqb, subst, append_assoc}
use Rattle.std.specs.Fmt.{digits, digits_onto, digit_glyph}
use Rattle.std.proofs.Math.Nat.{div-lt_iff_lt-mul, pow-suc}

-- the digits in a radix, with room for so many, before a text
unfoldable pub onto : ℕ → ℕ → ℕ → List ℕ → List ℕ
onto room radix n acc = digits_onto room radix false n acc

pub onto_start : (radix n : ℕ) → onto 64 radix n [] ≡ digits radix false n
unfolding onto digits
onto_start radix n = refl

pub onto_last : (room radix n : ℕ) (acc : List ℕ) → eqb (n / radix) 0 ≡ true → onto (suc room) radix n acc ≡ digit_glyph false (n % radix) ∷ acc
unfolding onto
onto_last room radix n acc h = rw h refl

pub onto_more : (room radix n : ℕ) (acc : List ℕ) → eqb (n / radix) 0 ≡ false →
    onto (suc room) radix n acc ≡ onto room radix (n / radix) (digit_glyph false (n % radix) ∷ acc)
unfolding onto
onto_more room radix n acc h = rw h refl

onto_none : (radix n : ℕ) (acc : List ℕ) → onto zero radix n acc ≡ acc
unfolding onto
onto_none radix n acc = refl

acc_case : (room radix n : ℕ) (acc : List ℕ) (b : Bool) → eqb (n / radix) 0 ≡ b →
    ((m : ℕ) (more : List ℕ) → onto room radix m more ≡ onto room radix m [] ++ more)
    → onto (suc room) radix n acc ≡ onto (suc room) radix n [] ++ acc
acc_case room radix n acc true e ih = onto_last room radix n acc e ∙ sym (ap (λ (x : List ℕ). x ++ acc) (onto_last room radix n [] e))
acc_case room radix n acc false e ih =
    let d : ℕ = digit_glyph false (n % radix) in
    onto_more room radix n acc e ∙ ih (n / radix) (d ∷ acc)
    ∙ sym (append_assoc (onto room radix (n / radix) []) (d ∷ []) acc)
    ∙ sym (ap (λ (x : List ℕ). x ++ acc) (onto_more room radix n [] e ∙ ih (n / radix) (d ∷ [])))

onto_acc : (room radix n : ℕ) (acc : List ℕ) → onto room radix n acc ≡ onto room radix n [] ++ acc
onto_acc zero radix n acc = onto_none radix n acc ∙ sym (ap (λ (x : List ℕ). x ++ acc) (onto_none radix n []))
onto_acc (suc room) radix n acc = acc_case room radix n acc (eqb (n / radix) 0) refl (λ m more. onto_acc room radix m more)

pub digits_start : (most radix n : ℕ) (acc : List ℕ) → most ≤ 64 → onto ((64 - most) + most) radix n acc ≡ digits radix false n ++ acc
digits_start most radix n acc h =
    let e : (64 - most) + most ≡ 64 = omega arith in
    ap (λ (r : ℕ). onto r radix n acc) e ∙ onto_acc 64 radix n acc ∙ ap (λ (x : List ℕ). x ++ acc) (onto_start radix n)

pub room_left : (radix k n : ℕ) → 0 < radix → 0 < k → n < radix ^ k → n / radix < radix ^ (k - 1)
room_left radix k n p h l = let one : k ≡ suc (k - 1) =
    omega arith in (div-lt_iff_lt-mul p).1 (let b : n < radix ^ suc (k - 1) = subst (λ (x : ℕ). n < radix ^ x) one l in rw pow-suc at b)
