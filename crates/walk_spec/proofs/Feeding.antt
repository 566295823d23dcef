-- Walks that were fed, and walks whose answers were taken in turn.
use Rattle.std.proofs.Common.{◌≡◌, List, [], ◌∷◌, ◌++◌, Bool, true, refl, ap, subst}
use Rattle.std.specs.Prelude.{Option, Some, None}
use Rattle.walk_spec.specs.Ask.{Ask, done, ask, after, Stands, needs, ends, on, Fed, ended, lacks, fed_items, fed_end, with_answer, Took}

-- how a fed walk stands on what it was given
abbrev pub stands_fed : {N I A : Type 0} → Fed N A → Stands N I A
stands_fed (ended a) = ends a []
stands_fed (lacks n) = needs n

-- what is given fits
abbrev pub GivesFitting : {N I : Type 0} → (N → I → Bool) → (N → Option I) → Type 0
GivesFitting {N} {I} fits give = (n : N) (i : I) → give n ≡ Some i → fits n i ≡ true

on_fed_at : {N I A : Type 0} (fits : N → I → Bool) (give : N → Option I) (n : N) (k : I → Ask N I A) (o : Option I)
    → ((i : I) → o ≡ Some i → fits n i ≡ true) →
    ((i : I) → on fits (k i) (fed_items give (k i)) ≡ stands_fed (fed_end give (k i))) →
    on fits (ask n k) (with_answer o [] (λ i. i ∷ fed_items give (k i))) ≡ stands_fed (with_answer o (lacks n) (λ i. fed_end give (k i)))
on_fed_at fits give n k None f r = refl
on_fed_at fits give n k (Some i) f r = rw (f i refl) (r i)

-- on the items that it was fed a walk ends as fed, or needs what was lacking
pub on_fed : {N I A : Type 0} (fits : N → I → Bool) (give : N → Option I) → GivesFitting fits give → (t : Ask N I A) →
    on fits t (fed_items give t) ≡ stands_fed (fed_end give t)
on_fed fits give g (done a) = refl
on_fed fits give g (ask n k) = on_fed_at fits give n k (give n) (g n) (λ i. on_fed fits give g (k i))

-- the same for a walk whose answers were taken, where allowed answers fit
pub on_took : {N I A : Type 0} (fits : N → I → Bool) (answers : N → I → Type 0) → ((n : N) (i : I) → answers n i → fits n i ≡ true) →
    (t : Ask N I A) (items : List I) (e : Fed N A) → Took answers t items e → on fits t items ≡ stands_fed e
on_took fits answers f (done a) items e h = rw (h.0, h.1) refl
on_took fits answers f (ask n k) [] e h = rw h refl
on_took fits answers f (ask n k) (i ∷ items) e h = rw (f n i h.0) (on_took fits answers f (k i) items e h.1)

-- what lacked is not given
abbrev pub EndsAsGiven : {N I A : Type 0} → (N → Option I) → Fed N A → Type 0
EndsAsGiven give (ended a) = Unit {0}
EndsAsGiven give (lacks n) = give n ≡ None

-- where each answer taken is the one given, and what lacked is not given, items and end are those of the fed walk
pub fed_took : {N I A : Type 0} (give : N → Option I) (t : Ask N I A) (items : List I) (e : Fed N A) → Took (λ n i. give n ≡ Some i) t items e →
    EndsAsGiven give e → (items ≡ fed_items give t) × (e ≡ fed_end give t)
fed_took give (done a) items e h w = (h.0, h.1)
fed_took give (ask n k) [] e h w = let x : give n ≡ None = subst (EndsAsGiven give) h w in (rw x refl, rw (x, h) refl)
fed_took give (ask n k) (i ∷ items) e h w = let r = fed_took give (k i) items e h.1 w in (rw h.0 (ap (λ rest. i ∷ rest) r.0), rw h.0 r.1)

-- a taken walk goes on
pub took_after : {N I A B : Type 0} (answers : N → I → Type 0) (t : Ask N I A) (f : A → Ask N I B) (items more : List I) (a : A) (e : Fed N B) →
    Took answers t items (ended a) → Took answers (f a) more e → Took answers (after t f) (items ++ more) e
took_after answers (done b) f items more a e h w = let q : a ≡ b = cc in rw h.0 (rw (← q) w)
took_after answers (ask n k) f [] more a e h w = absurd cc
took_after answers (ask n k) f (i ∷ items) more a e h w = (h.0, took_after answers (k i) f items more a e h.1 w)

-- a taken walk that lacked something does not go on
pub took_after_lacks : {N I A B : Type 0} (answers : N → I → Type 0) (t : Ask N I A) (f : A → Ask N I B) (items : List I) (n : N) →
    Took answers t items (lacks n) → Took answers (after t f) items (lacks n)
took_after_lacks answers (done b) f items n h = let q = h.1 in absurd cc
took_after_lacks answers (ask m k) f [] n h = cc
took_after_lacks answers (ask m k) f (i ∷ items) n h = (h.0, took_after_lacks answers (k i) f items n h.1)

-- a stricter relation on answers may be weakened
pub took_weaker : {N I A : Type 0} (answers more : N → I → Type 0) → ((n : N) (i : I) → answers n i → more n i) →
    (t : Ask N I A) (items : List I) (e : Fed N A) → Took answers t items e → Took more t items e
took_weaker answers more f (done a) items e h = h
took_weaker answers more f (ask n k) [] e h = h
took_weaker answers more f (ask n k) (i ∷ items) e h = (f n i h.0, took_weaker answers more f (k i) items e h.1)
