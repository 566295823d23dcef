-- One call of a sink after another.
use Rattle.std.proofs.Common.{◌≡◌, ℕ, ◌+◌, ◌-◌, ◌^◌, ◌<◌, ◌≤◌, List, [], ◌++◌, length, take, drop, min, Option, Some, None}
use Rattle.std.proofs.Common.{Result, Ok, Err, IsOk, IsErr, sym, ◌∙◌, ap, refl, append_assoc, append-nil, arith, subst, get_or, flat_map}
use Rattle.std.proofs.lemmas.List.{take-append-drop, drop_more, take-append-le}
use Rattle.std.proofs.lemmas.Grind.{flat_map-append, common_steps}
use Rattle.std.proofs.Math.Seq.{take-append-add}
use Rattle.bitwords.specs.Causes.{HasCause}
use Rattle.explain_text.specs.Written.{Appended, Wrote}

-- nothing written
pub appended_none : (a : Option (List ℕ)) → Appended a a []
appended_none None = tt
appended_none (Some o) = (o, refl, sym (append-nil o))

-- two texts, one behind the other
pub appended_then : (a b c : Option (List ℕ)) (s t : List ℕ) → Appended a b s → Appended b c t → Appended a c (s ++ t)
appended_then a b None s t p q = tt
appended_then a None (Some n) s t p q = let none : None ≡ Some q.0 = q.1 in cc
appended_then a (Some m) (Some n) s t p q =
    let told : Some m ≡ Some q.0 = q.1 in
    let same : m ≡ q.0 = cc in
    (p.0, p.1, q.2 ∙ ap (λ (x : List ℕ). x ++ t) (sym same ∙ p.2) ∙ append_assoc p.0 s t)

-- a prefix of the first text is one of both
front_take : (k : ℕ) (s t : List ℕ) → take (min k (length s)) (s ++ t) ≡ take k s
front_take k s t = grind (arith, common_steps, take-append-le)

-- the first text and a prefix of the second
back_take : (k : ℕ) (s t : List ℕ) → take (length s + k) (s ++ t) ≡ s ++ take k t
back_take k s t = take-append-add s t k

-- the first call fails
pub fails_first : {T U E : Type 0} (a b : Option (List ℕ)) (r : Result T E) (q : Result U E) (s t : List ℕ) → IsErr r → IsErr q → Wrote a b r s
    → Wrote a b q (s ++ t)
fails_first a b (Ok x) q s t h k w = cc
fails_first a b (Err e) (Ok x) s t h k w = cc
fails_first a b (Err e) (Err d) s t h k w = (min w.0 (length s), rw front_take w.1)

-- the first call succeeds, and a later one ends the text
pub goes_on : {T U E : Type 0} (a b c : Option (List ℕ)) (r : Result T E) (q : Result U E) (s t : List ℕ) → IsOk r → Wrote a b r s → Wrote b c q t
    → Wrote a c q (s ++ t)
goes_on a b c (Err e) q s t h v w = cc
goes_on a b c (Ok x) (Ok y) s t h v w = appended_then a b c s t v w
goes_on a b c (Ok x) (Err y) s t h v w = (length s + w.0, rw back_take (appended_then a b c s (take w.0 t) v w.1))

-- some text was written, and then a call fails
pub stops : {T U E : Type 0} (a b c : Option (List ℕ)) (r : Result T E) (q : Result U E) (s t u : List ℕ) → IsErr r → IsErr q → Appended a b s
    → Wrote b c r t
    → Wrote a c q (s ++ (t ++ u))
stops {T} {U} {E} a b c r q s t u h k v w = goes_on {T = Unit {0}} {U = U} {E = E} a b c (Ok tt) q s (t ++ u) refl v (fails_first b c r q t u h k w)

-- a sink that counts no fault answers no error
pub no_error : {T E : Type 0} (r : Result T E) → HasCause 0 0 r → IsOk r
no_error (Ok x) h = refl
no_error (Err e) h = absurd (let rose : min 1 (2 ^ 64 - 1) ≤ 0 = h.failed in omega arith)

-- and so it is given the whole text
pub no_fault : {T E : Type 0} (a b : Option (List ℕ)) (r : Result T E) (s : List ℕ) → HasCause 0 0 r → Wrote a b r s → Appended a b s
no_fault a b (Ok x) s h w = w
no_fault a b (Err e) s h w = absurd (let rose : min 1 (2 ^ 64 - 1) ≤ 0 = h.failed in omega arith)

-- the same text in other words
pub same_text : {T E : Type 0} (a b : Option (List ℕ)) (r : Result T E) (s t : List ℕ) → s ≡ t → Wrote a b r s → Wrote a b r t
same_text a b r s t e w = subst (Wrote a b r) e w

-- the elements before one, that one, and those behind it
text_at : {X A : Type 0} (f : X → List A) (xs : List X) (i : ℕ) (d : X) → i < length xs
    → flat_map f (take i xs) ++ (f (get_or xs i d) ++ flat_map f (drop (i + 1) xs)) ≡ flat_map f xs
text_at f xs i d h =
    ap (λ ys. flat_map f (take i xs) ++ flat_map f ys) (sym (drop_more xs i d h))
    ∙ sym (flat_map-append f (take i xs) (drop i xs))
    ∙ ap (flat_map f) (take-append-drop i xs)

-- a loop that writes each element of a list stops at one
pub loop_stops : {X T U E : Type 0} (a b c : Option (List ℕ)) (r : Result T E) (q : Result U E) (f : X → List ℕ) (xs : List X) (i : ℕ) (d : X)
    → i < length xs
    → IsErr r → IsErr q → Appended a b (flat_map f (take i xs)) → Wrote b c r (f (get_or xs i d)) → Wrote a c q (flat_map f xs)
loop_stops a b c r q f xs i d h k m v w =
    same_text a c q _ _ (text_at f xs i d h) (stops a b c r q (flat_map f (take i xs)) (f (get_or xs i d)) (flat_map f (drop (i + 1) xs)) k m v w)
