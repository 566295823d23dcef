-- The ranges of a trace are those of a memory.
use Rattle.std.proofs.Common.{◌≡◌, ◌≤◌, ◌+◌, ◌*◌, ◌/◌, ◌^◌, ℕ, Bool, true, false, not, cond, List, []}
use Rattle.std.proofs.Common.{◌∷◌, ◌++◌, length, refl, ap, ◌∙◌, Option, Some, None, arith}
use Rattle.std.specs.Prelude.{◌&&◌, ◌||◌, nat_lt, nat_le, is_some}
use Rattle.std.specs.List.{list_any}
use Rattle.std.proofs.Math.Path.{fun_ext}
use Rattle.phys_mem.specs.Memory.{zeros as words_at_first}
use Rattle.phys_mem.specs.Ranges.{is_range, share_byte, first_place, overlap_behind, bytes_of, refusal_of}
use Rattle.phys_mem.specs.Words.{Held, memory_of, seen_at, index_from, holds_word}
use Rattle.phys_mem.proofs.WholeRanges.{bytes_of-push}
use Rattle.trace_lang.specs.Traces.{most_memory, is_within, RangesFitBehind}
use Rattle.machine_spec.specs.Moments.{zeros}

-- MEMORY

-- the memory at first, by the words of its ranges
pub same_zeros : (ranges : List (ℕ × ℕ)) → words_at_first ranges ≡ zeros ranges
same_zeros [] = fun_ext (λ p. refl)
same_zeros (r ∷ ranges) = fun_ext (λ p. ap (λ m. cond (nat_le r.0 p && nat_le (p + 8) (r.0 + r.1)) (Some 0) (m p)) (same_zeros ranges))

found_at : (words : List ℕ) (aligned b : Bool) (i : ℕ) (rest : Bool) (later : Option ℕ)
    → (rest ≡ true → is_some (seen_at words aligned later) ≡ true)
    → (b || rest) ≡ true → is_some (seen_at words aligned (cond b (Some i) later)) ≡ true
found_at words aligned true i rest later next h = refl
found_at words aligned false i rest later next h = next h

found : (words : List ℕ) (aligned : Bool) (k : ℕ) (ranges : List (ℕ × ℕ)) (p : ℕ) → is_within ranges p ≡ true
    → is_some (seen_at words aligned (index_from k ranges p)) ≡ true
found words aligned k [] p h = absurd cc
found words aligned k (r ∷ ranges) p h =
    found_at words aligned (holds_word r p) _ (is_within ranges p) (index_from (k + r.1 / 8) ranges p) (found words aligned (k + r.1 / 8) ranges p) h

-- a place within the ranges has a word
pub has_word : (held : Held) (p : ℕ) → is_within held.ranges p ≡ true → is_some (memory_of held p) ≡ true
unfolding memory_of
has_word held p h = found held.words _ 0 held.ranges p h

-- RANGES

bad_behind : (k : ℕ) (earlier ranges : List (ℕ × ℕ)) → RangesFitBehind earlier ranges → first_place (λ r. not (is_range r)) k ranges ≡ None
bad_behind k earlier [] h = refl
bad_behind k earlier (r ∷ ranges) h =
    let ok = h.0.range in rw ok (bad_behind (k + 1) (earlier ++ r ∷ []) ranges h.1)

swapped : (x y : Bool) → (x && y) ≡ (y && x)
swapped true true = refl
swapped true false = refl
swapped false true = refl
swapped false false = refl

neither : (x y : Bool) → (x || y) ≡ false → (x ≡ false) × (y ≡ false)
neither true y h = absurd cc
neither false y h = (refl, h)

none_shares : (k : ℕ) (r : ℕ × ℕ) (earlier : List (ℕ × ℕ)) → list_any (share_byte r) earlier ≡ false
    → first_place (λ other. share_byte other r) k earlier ≡ None
none_shares k r [] h = refl
none_shares k r (s ∷ earlier) h =
    let n = neither (share_byte r s) (list_any (share_byte r) earlier) h in
    let e : share_byte s r ≡ false = swapped (nat_lt s.0 (r.0 + r.1)) (nat_lt r.0 (s.0 + s.1)) ∙ n.0 in
    rw e (none_shares (k + 1) r earlier n.1)

no_overlap : (earlier ranges : List (ℕ × ℕ)) → RangesFitBehind earlier ranges → overlap_behind earlier ranges ≡ None
no_overlap earlier [] h = refl
no_overlap earlier (r ∷ ranges) h = rw (none_shares 0 r earlier h.0.apart) (no_overlap (earlier ++ r ∷ []) ranges h.1)

bytes_fit : (earlier ranges : List (ℕ × ℕ)) → bytes_of earlier ≤ most_memory → RangesFitBehind earlier ranges
    → bytes_of earlier + bytes_of ranges ≤ most_memory
bytes_fit earlier [] few h = omega (arith, few)
bytes_fit earlier (r ∷ ranges) few h =
    let sum = h.0.sum in
    let e : bytes_of (earlier ++ r ∷ []) ≡ bytes_of earlier + r.1 = bytes_of-push earlier r in
    let rest = bytes_fit (earlier ++ r ∷ []) ranges (omega (arith, sum, e)) h.1 in
    omega (arith, rest, e)

not_more : (n m : ℕ) → n ≤ m → nat_lt m n ≡ false
not_more n m h = grind (arith, h)

-- no refusal but for want of memory
pub none_refused : (ranges : List (ℕ × ℕ)) → length ranges ≤ 16 → RangesFitBehind [] ranges → refusal_of ranges ≡ None
unfolding refusal_of
none_refused ranges few fit =
    let bytes : bytes_of ranges ≤ 64 * 2 ^ 20 = (let b = bytes_fit [] ranges (omega arith) fit in omega (arith, b)) in
    rw (bad_behind 0 [] ranges fit, no_overlap [] ranges fit, not_more (length ranges) 16 few, not_more (bytes_of ranges) (64 * 2 ^ 20) bytes) refl
