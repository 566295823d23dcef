-- Ranges of whole words, and their bytes.
use Rattle.std.proofs.Common.{◌≡◌, ◌≤◌, ◌<◌, ◌+◌, ◌*◌, ◌%◌, ◌/◌, ◌^◌, ℕ, Bool, true, false, not}
use Rattle.std.proofs.Common.{List, [], ◌∷◌, ◌++◌, ◌-◌, min, length, take, drop, replicate, ◌∙◌, Some, None}
use Rattle.std.proofs.Common.{Option, All, slice_index_or, refl, sym, ap, arith, if◌then◌else◌}
use Rattle.std.proofs.lemmas.Option.{none-some}
use Rattle.std.proofs.lemmas.Bool.Decides.{nat_tests}
use Rattle.std.proofs.lemmas.List.{take_more, drop_all, length-replicate}
use Rattle.std.proofs.lemmas.List.Elements.{All-nil, All-cons, All-head, All-tail}
use Rattle.phys_mem.specs.Ranges.{is_range, first_place, bytes_of}
use Rattle.phys_mem.specs.Words.{IsWhole, AreHeld, IsHeld}

-- what passes the test is whole words, at least one
pub whole : (r : ℕ × ℕ) → is_range r ≡ true → IsWhole r
whole r h = record {
  start = grind (arith, nat_tests, h);
  length = grind (arith, nat_tests, h);
  some = grind (arith, nat_tests, h);
  end = grind (arith, nat_tests, h);
}

-- where the first place that fails is none, this one passes and none fails behind it
none_there : (passes : Bool) (k : ℕ) (rest : Option ℕ) → (if not passes then Some k else rest) ≡ None → (passes ≡ true) × (rest ≡ None)
none_there true k rest h = (refl, h)
none_there false k rest h = absurd (none-some k (sym h))

-- where no range is refused, each is whole words
pub all_whole : (k : ℕ) (ranges : List (ℕ × ℕ)) → first_place (λ r. not (is_range r)) k ranges ≡ None → All IsWhole ranges
all_whole k [] h = All-nil IsWhole
all_whole k (r ∷ ranges) h =
    let parts : (is_range r ≡ true) × (first_place (λ r. not (is_range r)) (k + 1) ranges ≡ None) = none_there (is_range r) k _ h in
    All-cons IsWhole r ranges (whole r parts.0) (all_whole (k + 1) ranges parts.1)

-- no place is behind the last
pub none_behind : (test : ℕ × ℕ → Bool) (ranges : List (ℕ × ℕ)) (k : ℕ) → length ranges ≤ k → first_place test k (drop k ranges) ≡ None
none_behind test ranges k h = ap (first_place test k) (drop_all k ranges h)

-- the bytes of one range more
pub bytes_of-push : (ranges : List (ℕ × ℕ)) (r : ℕ × ℕ) → bytes_of (ranges ++ r ∷ []) ≡ bytes_of ranges + r.1
bytes_of-push [] r = omega arith
bytes_of-push (x ∷ ranges) r = omega (arith, bytes_of-push ranges r)

-- the bytes of the ranges so far, as far as a word holds them
pub sum_goes_on
    : (ranges : List (ℕ × ℕ)) (place sum next : ℕ) → place < length ranges → sum ≡ min (bytes_of (take place ranges)) (2 ^ 64 - 1)
    → next ≡ min (sum + (slice_index_or ranges place (0, 0)).1) (2 ^ 64 - 1) → next ≡ min (bytes_of (take (place + 1) ranges)) (2 ^ 64 - 1)
sum_goes_on ranges i sum next below e n =
    let more : bytes_of (take (i + 1) ranges) ≡ bytes_of (take i ranges) + (slice_index_or ranges i (0, 0)).1 =
    ap bytes_of (take_more ranges i (0, 0) below) ∙ bytes_of-push (take i ranges) (slice_index_or ranges i (0, 0)) in
    omega (arith, more, e, n)

-- memory is small enough that a word holds its bytes
pub small_sum : (ranges : List (ℕ × ℕ)) (sum : ℕ) → AreHeld ranges → sum ≡ min (bytes_of ranges) (2 ^ 64 - 1) → sum ≡ bytes_of ranges
small_sum ranges sum kept e = let small = kept.small in omega (arith, small, e)

whole_bytes : (ranges : List (ℕ × ℕ)) → All IsWhole ranges → bytes_of ranges % 8 ≡ 0
whole_bytes [] h = refl
whole_bytes (r ∷ ranges) h = omega (arith, (All-head IsWhole r ranges h).length, whole_bytes ranges (All-tail IsWhole r ranges h))

-- so many words are all bytes of the ranges
pub opened
    : (given ranges : List (ℕ × ℕ)) (words : List ℕ) (bytes : ℕ) → ranges ≡ given → AreHeld given → bytes ≡ bytes_of given
    → words ≡ replicate (bytes / 8) 0
    → IsHeld (record { ranges = ranges; words = words })
opened given ranges words bytes same kept e n =
    let count : length words ≡ bytes / 8 = ap length n ∙ length-replicate (bytes / 8) 0 in
    let all : 8 * length words ≡ bytes_of given = omega (arith, count, e, whole_bytes given kept.whole) in
    record { kept = rw same kept; all = rw same all }
