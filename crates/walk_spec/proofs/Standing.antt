-- How a walk stands on longer and shorter lists. Each law holds of every walk that is told as questions.
use Rattle.std.proofs.Common.{◌≡◌, List, [], ◌∷◌, ◌++◌, Bool, true, false, cond, refl, sym, ap, ◌∙◌, inl, inr}
use Rattle.std.specs.Prelude.{◌⊎◌}
use Rattle.walk_spec.specs.Ask.{Ask, done, ask, after, Stands, needs, bad, ends, on}

-- goes on from where a walk stands
abbrev pub then_on : {N I A B : Type 0} → Stands N I A → (A → List I → Stands N I B) → Stands N I B
then_on (needs n) f = needs n
then_on bad f = bad
then_on (ends a items) f = f a items

-- standing on one walk and then another is standing on the first, and then on the second with what is left
pub on_after : {N I A B : Type 0} (fits : N → I → Bool) (t : Ask N I A) (f : A → Ask N I B) (items : List I) →
    on fits (after t f) items ≡ then_on (on fits t items) (λ a rest. on fits (f a) rest)
on_after fits (done a) f items = refl
on_after fits (ask n k) f [] = refl
on_after fits (ask n k) f (i ∷ items) =
    elim (fits n i) as (λ b. cond b (on fits (after (k i) f) items) bad ≡ then_on (cond b (on fits (k i) items) bad) (λ a rest. on fits (f a) rest)) [
      | true ↦
          on_after fits (k i) f items
      | false ↦ refl
    ]

-- a walk that has ended takes no more
pub on_ends_append : {N I A : Type 0} (fits : N → I → Bool) (t : Ask N I A) (items more : List I) (a : A) (rest : List I)
    → on fits t items ≡ ends a rest →
    on fits t (items ++ more) ≡ ends a (rest ++ more)
on_ends_append fits (done b) items more a rest h = cc
on_ends_append fits (ask n k) [] more a rest h = cc
on_ends_append fits (ask n k) (i ∷ items) more a rest h =
    elim (fits n i) as (λ b. cond b (on fits (k i) items) bad ≡ ends a rest → cond b (on fits (k i) (items ++ more)) bad ≡ ends a (rest ++ more)) [
      | true ↦
          (λ e. on_ends_append fits (k i) items more a rest e)
      | false ↦ (λ e. cc)
    ] h

-- an item that does not fit is not mended by further items
pub on_bad_append : {N I A : Type 0} (fits : N → I → Bool) (t : Ask N I A) (items more : List I) → on fits t items ≡ bad
    → on fits t (items ++ more) ≡ bad
on_bad_append fits (done b) items more h = cc
on_bad_append fits (ask n k) [] more h = cc
on_bad_append fits (ask n k) (i ∷ items) more h =
    elim (fits n i) as (λ b. cond b (on fits (k i) items) bad ≡ bad →
    cond b (on fits (k i) (items ++ more)) bad ≡ bad) [ true ↦ (λ e. on_bad_append fits (k i) items more e) | false ↦ (λ e. refl) ] h

on_true : {N I A : Type 0} (b : Bool) (u : Stands N I A) (a : A) (rest : List I) → cond b u bad ≡ ends a rest → (b ≡ true) × (u ≡ ends a rest)
on_true true u a rest h = (refl, h)
on_true false u a rest h = absurd cc

take_true : {N I A : Type 0} (b : Bool) (u v : Stands N I A) → b ≡ true → u ≡ v → cond b u bad ≡ v
take_true b u v e h = rw e h

-- a walk that ends on a longer list needs something on each front of it, which the next item fits, or has ended there
pub on_front : {N I A : Type 0} (fits : N → I → Bool) (t : Ask N I A) (items : List I) (i : I) (more : List I) (a : A) (rest : List I) →
    on fits t (items ++ i ∷ more) ≡ ends a rest →
    ((n : N) × (on fits t items ≡ needs n) × (fits n i ≡ true)) ⊎ ((left : List I) × (on fits t items ≡ ends a left))
on_front fits (done b) items i more a rest h = let q : b ≡ a = cc in inr (items, ap (λ z. ends z items) q)
on_front fits (ask n k) [] i more a rest h = inl (n, refl, (on_true (fits n i) (on fits (k i) more) a rest h).0)
on_front fits (ask n k) (j ∷ items) i more a rest h =
    let t = on_true (fits n j) (on fits (k j) (items ++ i ∷ more)) a rest h in
    rw t.0 (on_front fits (k j) items i more a rest t.1)

-- what is left over is the list's end, and the walk ends on the part before it with nothing left
pub on_split : {N I A : Type 0} (fits : N → I → Bool) (t : Ask N I A) (items : List I) (a : A) (rest : List I) → on fits t items ≡ ends a rest →
    (front : List I) × (items ≡ front ++ rest) × (on fits t front ≡ ends a [])
on_split fits (done b) items a rest h = let q : b ≡ a = cc in ([], cc, ap (λ z. ends z []) q)
on_split fits (ask n k) [] a rest h = absurd cc
on_split fits (ask n k) (i ∷ items) a rest h =
    let t = on_true (fits n i) (on fits (k i) items) a rest h in
    let d = on_split fits (k i) items a rest t.1 in
    (i ∷ d.0, ap (λ rest. i ∷ rest) d.1, take_true (fits n i) (on fits (k i) d.0) (ends a []) t.0 d.2)

after_ends : {N I A B : Type 0} (fits : N → I → Bool) (f : A → Ask N I B) (s : Stands N I A) (b : B) (rest : List I) →
    then_on s (λ a left. on fits (f a) left) ≡ ends b rest → (a : A) × (left : List I) × (s ≡ ends a left) × (on fits (f a) left ≡ ends b rest)
after_ends fits f (needs n) b rest h = absurd cc
after_ends fits f bad b rest h = absurd cc
after_ends fits f (ends a left) b rest h = (a, left, refl, h)

-- a walk that goes on and ends has ended in its first part on a front, and then in its second on the rest
pub on_after_ends : {N I A B : Type 0} (fits : N → I → Bool) (t : Ask N I A) (f : A → Ask N I B) (items : List I) (b : B) (rest : List I) →
    on fits (after t f) items ≡ ends b rest → (a : A) × (left : List I) × (front : List I) × (items ≡ front ++ left) × (on fits t front ≡ ends a [])
    × (on fits (f a) left ≡ ends b rest)
on_after_ends fits t f items b rest h =
    let d = after_ends fits f (on fits t items) b rest (sym (on_after fits t f items) ∙ h) in
    let s = on_split fits t items d.0 d.1 d.2 in
    (d.0, d.1, s.0, s.1, s.2, d.3)

after_needs : {N I A B : Type 0} (fits : N → I → Bool) (f : A → Ask N I B) (s : Stands N I A) (n : N)
    → then_on s (λ a left. on fits (f a) left) ≡ needs n →
    (s ≡ needs n) ⊎ ((a : A) × (left : List I) × (s ≡ ends a left) × (on fits (f a) left ≡ needs n))
after_needs fits f (needs m) n h = let q : m ≡ n = cc in inl (ap (λ z. needs z) q)
after_needs fits f bad n h = absurd cc
after_needs fits f (ends a left) n h = inr (a, left, refl, h)

abbrev pub NeedsLater : {N I A B : Type 0} → (N → I → Bool) → Ask N I A → (A → Ask N I B) → List I → N → Type 0
NeedsLater {N} {I} {A} fits t f items n = (a : A) × (left : List I) × (front : List I) × (items ≡ front ++ left) × (on fits t front ≡ ends a [])
    × (on fits (f a) left ≡ needs n)

-- a walk that goes on and needs something needs it in its first part, or later
pub on_after_needs : {N I A B : Type 0} (fits : N → I → Bool) (t : Ask N I A) (f : A → Ask N I B) (items : List I) (n : N) →
    on fits (after t f) items ≡ needs n → (on fits t items ≡ needs n) ⊎ NeedsLater fits t f items n
on_after_needs fits t f items n h =
    elim (after_needs fits f (on fits t items) n (sym (on_after fits t f items) ∙ h)) as (λ _. (on fits t items ≡ needs n) ⊎ NeedsLater fits t f items n)
    [ inl e ↦ inl e | inr d ↦ (let s = on_split fits t items d.0 d.1 d.2 in inr (d.0, d.1, s.0, s.1, s.2, d.3)) ]
