-- Which word holds a place, and the memory that words are.
use Rattle.std.proofs.Common.{◌≡◌, ◌≤◌, ◌<◌, ◌+◌, ◌-◌, ◌*◌, ◌%◌, ◌/◌, ℕ, zero, suc, Bool}
use Rattle.std.proofs.Common.{true, false, nat_eq, List, [], ◌∷◌, length, replicate, slice_set, Some, None, Option, All}
use Rattle.std.proofs.Common.{IfSome, refl, sym, ◌∙◌, ap, arith, inl, inr, if◌then◌else◌}
use Rattle.std.specs.Prelude.{◌&&◌, slice_index, is_some}
use Rattle.std.proofs.Math.Path.{fun_ext}
use Rattle.std.proofs.lemmas.Bool.{cases_Bool, eqb-true, eqb-false}
use Rattle.std.proofs.Math.Bool.{true≢false}
use Rattle.std.proofs.lemmas.Bool.Decides.{nat_tests}
use Rattle.std.proofs.lemmas.Option.{none-some, same_Some}
use Rattle.std.proofs.lemmas.List.{get_or-set_same, get_or-set_other}
use Rattle.std.proofs.lemmas.List.Elements.{All-head, All-tail}
use Rattle.phys_mem.specs.Memory.{zeros, stored_at, loaded, is_aligned}
use Rattle.phys_mem.specs.Ranges.{bytes_of}
use Rattle.phys_mem.specs.Words.{IsWhole, Held, holds_word, index_from, index_of, seen_at, memory_of}

-- the word that holds a place is one of the words
pub index_within
    : (first : ℕ) (ranges : List (ℕ × ℕ)) (place k : ℕ) → All IsWhole ranges → index_from first ranges place ≡ Some k
    → (first ≤ k) × (8 * k + 8 ≤ 8 * first + bytes_of ranges)
index_within first [] place k h e = absurd (none-some k e)
index_within first (r ∷ ranges) place k h e =
    let one : IsWhole r = All-head IsWhole r ranges h in
    elim (cases_Bool (holds_word r place)) [
      | inl here ↦ let found : first + (place - r.0) / 8 ≡ k = same_Some _ _ (grind (arith, here, e)) in
          (omega arith, grind (arith, nat_tests, here, found, one.length, one.start))
      | inr not_here ↦ let later : index_from (first + r.1 / 8) ranges place ≡ Some k = grind (arith, not_here, e) in
          let rest : (first + r.1 / 8 ≤ k) × (8 * k + 8 ≤ 8 * (first + r.1 / 8) + bytes_of ranges) =
          index_within (first + r.1 / 8) ranges place k (All-tail IsWhole r ranges h) later in
          (omega (arith, rest.0), omega (arith, rest.1, one.length))
    ]

pub within_if : (ranges : List (ℕ × ℕ)) (place : ℕ) (index : Option ℕ) → All IsWhole ranges → index_from 0 ranges place ≡ index →
    IfSome index (λ k. 8 * k + 8 ≤ bytes_of ranges)
within_if ranges place None h e = tt
within_if ranges place (Some k) h e = omega (arith, (index_within 0 ranges place k h e).1)

-- a word holds one place alone
pub one_place
    : (first : ℕ) (ranges : List (ℕ × ℕ)) (p q k : ℕ) → All IsWhole ranges → p % 8 ≡ 0 → q % 8 ≡ 0
    → index_from first ranges p ≡ Some k → index_from first ranges q ≡ Some k → p ≡ q
one_place first [] p q k h a b e f = absurd (none-some k e)
one_place first (r ∷ ranges) p q k h a b e f =
    let one : IsWhole r = All-head IsWhole r ranges h in
    let more : All IsWhole ranges = All-tail IsWhole r ranges h in
    elim (cases_Bool (holds_word r p)) [
      | inl here ↦ elim (cases_Bool (holds_word r q)) [
        | inl too ↦ grind (
          arith,
          nat_tests,
          here,
          too,
          same_Some (first + (p - r.0) / 8) k (grind (arith, here, e)),
          same_Some (first + (q - r.0) / 8) k
              (grind (arith, too, f)),
          a,
          b,
          one.start,
        )
        | inr other ↦ let later : first + r.1 / 8 ≤ k = (index_within (first + r.1 / 8) ranges q k more (grind (arith, other, f))).0 in
            absurd (grind (arith, nat_tests, here, later, same_Some (first + (p - r.0) / 8) k (grind (arith, here, e)), one.length))
      ]
      | inr not_here ↦ elim (cases_Bool (holds_word r q)) [
        | inl too ↦ let later : first + r.1 / 8 ≤ k = (index_within (first + r.1 / 8) ranges p k more (grind (arith, not_here, e))).0 in
            absurd (grind (arith, nat_tests, too, later, same_Some (first + (q - r.0) / 8) k (grind (arith, too, f)), one.length))
        | inr other ↦ one_place (first + r.1 / 8) ranges p q k more a b (grind (arith, not_here, e)) (grind (arith, other, f))
      ]
    ]

zero_at : (n k : ℕ) → slice_index (replicate n 0) k ≡ 0
zero_at zero k = refl
zero_at (suc n) zero = refl
zero_at (suc n) (suc k) = zero_at n k

zero_or : (holds aligned : Bool) (n k : ℕ) (later memory : Option ℕ) → seen_at (replicate n 0) aligned later ≡ memory →
    seen_at (replicate n 0) aligned (if holds then Some k else later) ≡ (if holds then Some 0 else memory)
zero_or true true n k later memory e = ap (λ (v : ℕ). Some v) (zero_at n k)
zero_or true false n k later memory e = refl
zero_or false aligned n k later memory e = e

-- words of 0 are a memory of 0
zero_seen : (n first : ℕ) (ranges : List (ℕ × ℕ)) (place : ℕ) → seen_at (replicate n 0) (is_aligned place)
    (index_from first ranges place) ≡ zeros ranges place
zero_seen n first [] place = refl
zero_seen n first (r ∷ ranges) place =
    zero_or (holds_word r place) (is_aligned place) n (first + (place - r.0) / 8) _ _ (zero_seen n (first + r.1 / 8) ranges place)

zero_memory : (h : Held) (n : ℕ) → h.words ≡ replicate n 0 → memory_of h ≡ zeros h.ranges
unfolding memory_of
zero_memory h n e = fun_ext (λ p. ap (λ (w : List ℕ). seen_at w (is_aligned p) (index_from 0 h.ranges p)) e ∙ zero_seen n 0 h.ranges p)

pub zero_opened : (given ranges : List (ℕ × ℕ)) (words : List ℕ) (n : ℕ) → ranges ≡ given → words ≡ replicate n 0 →
    memory_of (record { ranges = ranges; words = words }) ≡ zeros given
zero_opened given ranges words n same e = zero_memory (record { ranges = ranges; words = words }) n e ∙ ap zeros same

word_seen : (words : List ℕ) (aligned : Bool) (index : Option ℕ) (k : ℕ) → (if aligned then index else None) ≡ Some k →
    Some (slice_index words k) ≡ (if aligned then seen_at words aligned index else None)
word_seen words true None k e = absurd (none-some k e)
word_seen words true (Some j) k e = ap (λ (n : ℕ). Some (slice_index words n)) (sym (same_Some j k e))
word_seen words false index k e = absurd (none-some k e)

-- what is loaded is the word that holds the place
pub loaded_some : (h : Held) (pa k : ℕ) → index_of h.ranges pa ≡ Some k → Some (slice_index h.words k) ≡ loaded (memory_of h) pa
unfolding memory_of
loaded_some h pa k e = word_seen h.words (is_aligned pa) (index_from 0 h.ranges pa) k e

nothing_seen : (words : List ℕ) (aligned : Bool) (index : Option ℕ) →
    is_some (if aligned then index else None) ≡ (aligned && is_some (seen_at words aligned index))
nothing_seen words true None = refl
nothing_seen words true (Some j) = refl
nothing_seen words false index = refl

-- there is a word where one holds the place
pub there_by : (h : Held) (pa : ℕ) (index : Option ℕ) → index_of h.ranges pa ≡ index → is_some index ≡ (is_aligned pa && is_some (memory_of h pa))
unfolding memory_of
there_by h pa index e = ap is_some (sym e) ∙ nothing_seen h.words (is_aligned pa) (index_from 0 h.ranges pa)

none_loaded : (aligned : Bool) (seen : Option ℕ) → (aligned && is_some seen) ≡ false → None ≡ (if aligned then seen else None)
none_loaded true None e = refl
none_loaded true (Some v) e = absurd (true≢false e)
none_loaded false seen e = refl

-- nothing is loaded where no word holds the place
pub loaded_none : (h : Held) (pa : ℕ) → index_of h.ranges pa ≡ None → None ≡ loaded (memory_of h) pa
loaded_none h pa e = none_loaded (is_aligned pa) (memory_of h pa) (sym (there_by h pa None e))

aligned_by : (aligned : Bool) (index : Option ℕ) (k : ℕ) → (if aligned then index else None) ≡ Some k → (aligned ≡ true) × (index ≡ Some k)
aligned_by true index k e = (refl, e)
aligned_by false index k e = absurd (none-some k e)

-- a word that is written is seen at no other place
other_seen : (words : List ℕ) (aligned : Bool) (index : Option ℕ) (k value : ℕ) → (aligned ≡ true → index ≡ Some k → ⊥) →
    seen_at (slice_set words k value) aligned index ≡ seen_at words aligned index
other_seen words aligned None k value h = refl
other_seen words true (Some j) k value h = ap (λ (v : ℕ). Some v) (get_or-set_other words k j value 0 (λ e. h refl (ap (λ (n : ℕ). Some n) e)))
other_seen words false (Some j) k value h = refl

-- a word that is written is seen at its place
same_seen : (words : List ℕ) (aligned : Bool) (index : Option ℕ) (k value : ℕ) → aligned ≡ true → index ≡ Some k → k < length words →
    seen_at (slice_set words k value) aligned index ≡ Some value
same_seen words aligned index k value a e h = rw (a, e) (ap (λ (v : ℕ). Some v) (get_or-set_same words k value 0 h))

pub stored
    : (h : Held) (pa value k : ℕ) → All IsWhole h.ranges → index_of h.ranges pa ≡ Some k → k < length h.words
    → memory_of (record h { words = slice_set h.words k value }) ≡ stored_at (memory_of h) pa value
unfolding memory_of
stored h pa value k whole e within =
    let parts : (is_aligned pa ≡ true) × (index_from 0 h.ranges pa ≡ Some k) = aligned_by (is_aligned pa) (index_from 0 h.ranges pa) k e in
    fun_ext (λ p. elim (cases_Bool (nat_eq p pa)) [
      | inl same ↦ let here : p ≡ pa = eqb-true p pa same in
          rw same (same_seen h.words (is_aligned p) (index_from 0 h.ranges p) k value (rw here parts.0) (rw here parts.1) within)
      | inr other ↦ rw other (other_seen h.words (is_aligned p) (index_from 0 h.ranges p) k value
          (λ a f. eqb-false p pa other (one_place 0 h.ranges p pa k whole (eqb-true (p % 8) 0 a) (eqb-true (pa % 8) 0 parts.0) f parts.1)))
    ])
