-- Lists whose words are given by their numbers.
use Rattle.std.proofs.Common.{◌≡◌, ◌<◌, ◌+◌, ℕ, zero, suc, length, replicate, get_or, set, refl, sym, ◌∙◌, ap, arith, inl, inr}
use Rattle.std.proofs.lemmas.Bool.{cases_eq}
use Rattle.std.proofs.lemmas.List.{length-replicate, length-set, get_or-replicate, get_or-set_same, get_or-set_other, ext_get_or}
use Rattle.phys_mem.specs.Pages.{listed}

pub length_listed : (n k : ℕ) (word : ℕ → ℕ) → length (listed n k word) ≡ n
length_listed zero k word = refl
length_listed (suc n) k word = ap suc (length_listed n (k + 1) word)

listed_from : (n k : ℕ) (word : ℕ → ℕ) (i : ℕ) → i < n → get_or (listed n k word) i 0 ≡ word (k + i)
listed_from zero k word i h = absurd (omega arith)
listed_from (suc n) k word zero h = ap word (let e : k ≡ k + 0 = omega arith in e)
listed_from (suc n) k word (suc i) h = listed_from n (k + 1) word i (omega arith) ∙ ap word (let e : k + 1 + i ≡ k + suc i = omega arith in e)

-- a word of the list is the one with its number
pub listed_at : (n : ℕ) (word : ℕ → ℕ) (i : ℕ) → i < n → get_or (listed n 0 word) i 0 ≡ word i
listed_at n word i h = listed_from n 0 word i h ∙ ap word (let e : 0 + i ≡ i = omega arith in e)

-- where one word changes and no other, the list has that word set
pub listed_set
    : (n : ℕ) (old new : ℕ → ℕ) (i value : ℕ) → i < n → new i ≡ value → ((j : ℕ) → (j ≡ i → ⊥) → new j ≡ old j)
    → listed n 0 new ≡ set (listed n 0 old) i value
listed_set n old new i value within here others =
    let l = length_listed n 0 new in
    let m = length_listed n 0 old in
    let s = length-set (listed n 0 old) i value in
    ext_get_or 0 (listed n 0 new) (set (listed n 0 old) i value) (omega (arith, l, m, s)) (λ j h.
    let below : j < n = omega (arith, h, l) in
    listed_at n new j below ∙ elim (cases_eq j i) as (λ _. new j ≡ get_or (set (listed n 0 old) i value) j 0) [
      | inl same ↦ ap new same ∙ here
          ∙ sym (ap (λ x. get_or (set (listed n 0 old) i value) x 0) same ∙ get_or-set_same (listed n 0 old) i value 0 (omega (arith, within, m)))
      | inr other ↦ others j other ∙ sym (get_or-set_other (listed n 0 old) i j value 0 other ∙ listed_at n old j below)
    ])

-- where each word is 0, so is the list
pub listed_zeros : (n : ℕ) (word : ℕ → ℕ) → ((k : ℕ) → word k ≡ 0) → listed n 0 word ≡ replicate n 0
listed_zeros n word h =
    let l = length_listed n 0 word in
    let m : length (replicate {A = ℕ} n 0) ≡ n = length-replicate {A = ℕ} n 0 in
    ext_get_or 0 (listed n 0 word) (replicate n 0) (omega (arith, l, m)) (λ j below.
    listed_at n word j (omega (arith, below, l)) ∙ h j ∙ sym (get_or-replicate n j 0 0 (omega (arith, below, l))))
