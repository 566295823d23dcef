-- Walks that take items, and walks that take them side by side. Each law holds of every walk that is told as questions.
use Rattle.std.proofs.Common.{◌≡◌, List, [], ◌∷◌, ◌++◌, Bool, true, false, cond, refl, sym, ap, inl, inr}
use Rattle.std.specs.Prelude.{◌⊎◌, map}
use Rattle.walk_spec.specs.Ask.{Ask, done, ask, after, Stands, needs, bad, ends, on}
use Rattle.walk_laws.specs.Regions.{met}

-- a walk takes these items, each of which fits, and is left as another walk
abbrev pub Takes : {N I A : Type 0} → (fits : N → I → Bool) (walk : Ask N I A) (items : List I) (left : Ask N I A) → Type 0
Takes fits t [] u = u ≡ t
Takes fits (ask n k) (i ∷ items) u = (fits n i ≡ true) × Takes fits (k i) items u
Takes fits (done a) (i ∷ items) u = ⊥

-- two walks take the same items, each of which fits both and is alike for both, and are left as two others
abbrev pub InStep : {N I A B : Type 0} →
    (fits : N → I → Bool) (alike : N → N → I → Type 0) (t : Ask N I A) (t' : Ask N I B) (items : List I) (u : Ask N I A) (u' : Ask N I B) → Type 0
InStep fits alike t t' [] u u' = (u ≡ t) × (u' ≡ t')
InStep fits alike (ask n k) (ask n' k') (i ∷ items) u u' = (fits n i ≡ true) × (fits n' i ≡ true) × alike n n' i
    × InStep fits alike (k i) (k' i) items u u'
InStep fits alike (ask n k) (done b) (i ∷ items) u u' = ⊥
InStep fits alike (done a) t' (i ∷ items) u u' = ⊥

-- the last item of a list
abbrev pub LastIs : {I : Type 0} → (items : List I) (last : I) → Type 0
LastIs [] l = ⊥
LastIs (i ∷ []) l = i ≡ l
LastIs (i ∷ (j ∷ items)) l = LastIs (j ∷ items) l

pub last_back : {I : Type 0} (front : List I) (j : I) (rest : List I) (l : I) → LastIs (front ++ j ∷ rest) l → LastIs (j ∷ rest) l
last_back [] j rest l h = h
last_back (i ∷ []) j rest l h = h
last_back (i ∷ (i' ∷ front)) j rest l h = last_back (i' ∷ front) j rest l h

pub last_here : {I : Type 0} (front : List I) (l : I) → LastIs (front ++ l ∷ []) l
last_here [] l = refl
last_here (i ∷ []) l = refl
last_here (i ∷ (i' ∷ front)) l = last_here (i' ∷ front) l

-- no item is left over
abbrev pub UsesAll : {N I A : Type 0} → Stands N I A → Type 0
UsesAll (needs n) = Unit {0}
UsesAll bad = ⊥
UsesAll (ends a []) = Unit {0}
UsesAll (ends a (i ∷ items)) = ⊥

-- what holds of each question of a walk
abbrev pub Asks : {N I A : Type 0} → (holds : N → Type 0) (walk : Ask N I A) → Type 0
Asks P (done a) = Unit {0}
Asks {I} P (ask n k) = P n × ((i : I) → Asks P (k i))

module _ {N I : Type 0} (fits : N → I → Bool) where
  uses_fit : {A : Type 0} (b : Bool) (s : Stands N I A) → UsesAll (cond b s bad) → (b ≡ true) × UsesAll s
  uses_fit true s h = (refl, h)
  uses_fit false s h = absurd h

  fit_on : {A : Type 0} (b : Bool) (s z : Stands N I A) → b ≡ true → s ≡ z → cond b s bad ≡ z
  fit_on b s z e h = rw e h

  -- a walk that uses all items takes them, and stands as what is left of it
  pub takes_all : {A : Type 0} (t : Ask N I A) (items : List I) → UsesAll (on fits t items) → (u : Ask N I A) × Takes fits t items u
      × (on fits t items ≡ on fits u [])
  takes_all (done a) [] h = (done a, refl, refl)
  takes_all (done a) (i ∷ items) h = absurd h
  takes_all (ask n k) [] h = (ask n k, refl, refl)
  takes_all (ask n k) (i ∷ items) h =
      let w = uses_fit (fits n i) (on fits (k i) items) h in
      let d = takes_all (k i) items w.1 in
      (d.0, (w.0, d.1), fit_on (fits n i) (on fits (k i) items) (on fits d.0 []) w.0 d.2)

  -- a walk that ends with no item left over takes all items
  pub takes_ends : {A : Type 0} (t : Ask N I A) (items : List I) (a : A) → on fits t items ≡ ends a [] → Takes fits t items (done a)
  takes_ends (done b) items a h = let z : items ≡ [] = cc in let q : b ≡ a = cc in rw z (ap (λ d. done d) (sym q))
  takes_ends (ask n k) [] a h = absurd cc
  takes_ends (ask n k) (i ∷ items) a h = let w = take_true (fits n i) (on fits (k i) items) a h in (w.0, takes_ends (k i) items a w.1)
    where
      take_true : {A : Type 0} (b : Bool) (s : Stands N I A) (a : A) → cond b s bad ≡ ends a [] → (b ≡ true) × (s ≡ ends a [])
      take_true true s a h = (refl, h)
      take_true false s a h = absurd cc

  -- a done walk takes nothing
  pub done_takes : {A : Type 0} (a : A) (items : List I) (u : Ask N I A) → Takes fits (done a) items u → (items ≡ []) × (u ≡ done a)
  done_takes a [] u h = (refl, h)
  done_takes a (i ∷ items) u h = absurd h

  -- two walks, one after the other: the items end in the first, which asks, or the first is done and the rest is the second's
  abbrev pub InFirst : {A B : Type 0} → (t : Ask N I A) (f : A → Ask N I B) (items : List I) (u : Ask N I B) → Type 0
  InFirst {A} t f items u = (n : N) × (k : I → Ask N I A) × Takes fits t items (ask n k) × (u ≡ after (ask n k) f)

  abbrev pub InSecond : {A B : Type 0} → (t : Ask N I A) (f : A → Ask N I B) (items : List I) (u : Ask N I B) → Type 0
  InSecond {A} t f items u = (a : A) × (front : List I) × (rest : List I) × (items ≡ front ++ rest) × Takes fits t front (done a)
      × Takes fits (f a) rest u

  further : {A B : Type 0} (n : N) (k : I → Ask N I A) (f : A → Ask N I B) (i : I) (items : List I) (u : Ask N I B) → fits n i ≡ true →
      InFirst (k i) f items u ⊎ InSecond (k i) f items u → InFirst (ask n k) f (i ∷ items) u ⊎ InSecond (ask n k) f (i ∷ items) u
  further n k f i items u h (inl w) = inl (w.0, w.1, (h, w.2), w.3)
  further n k f i items u h (inr w) = inr (w.0, i ∷ w.1, w.2, ap (λ z. i ∷ z) w.3, (h, w.4), w.5)

  pub takes_after : {A B : Type 0} (t : Ask N I A) (f : A → Ask N I B) (items : List I) (u : Ask N I B) → Takes fits (after t f) items u →
      InFirst t f items u ⊎ InSecond t f items u
  takes_after (done a) f items u h = inr (a, [], items, refl, refl, h)
  takes_after (ask n k) f [] u h = inl (n, k, refl, h)
  takes_after (ask n k) f (i ∷ items) u h = further n k f i items u h.0 (takes_after (k i) f items u h.1)

  -- it holds of the question that took the last item
  pub last_asked : {A : Type 0} (P : N → Type 0) (t : Ask N I A) (items : List I) (u : Ask N I A) (l : I) → Asks P t → Takes fits t items u
      → LastIs items l →
      (n : N) × P n × (fits n l ≡ true)
  last_asked P t [] u l p h e = absurd e
  last_asked P (done a) (i ∷ items) u l p h e = absurd h
  last_asked P (ask n k) (i ∷ []) u l p h e = (n, p.0, rw (← e) h.0)
  last_asked P (ask n k) (i ∷ (j ∷ items)) u l p h e = last_asked P (k i) (j ∷ items) u l (p.1 i) h.1 e

module _ {N I : Type 0} (fits : N → I → Bool) (alike : N → N → I → Type 0) where
  -- in step from the start, and then on
  pub step_on : {A B : Type 0} (t : Ask N I A) (t' : Ask N I B) (items more : List I) (u w : Ask N I A) (u' w' : Ask N I B) →
      InStep fits alike t t' items u u' → InStep fits alike u u' more w w' → InStep fits alike t t' (items ++ more) w w'
  step_on t t' [] more u w u' w' h k = rw (← h.0, ← h.1) k
  step_on (ask n k) (ask n' k') (i ∷ items) more u w u' w' h m = (h.0, h.1, h.2, step_on (k i) (k' i) items more u w u' w' h.3 m)
  step_on (ask n k) (done b) (i ∷ items) more u w u' w' h m = absurd h
  step_on (done a) t' (i ∷ items) more u w u' w' h m = absurd h

  -- what follows on two walks in step
  pub step_after : {A B C D : Type 0} (t : Ask N I A) (t' : Ask N I B) (f : A → Ask N I C) (f' : B →
      Ask N I D) (items : List I) (u : Ask N I A) (u' : Ask N I B) → InStep fits alike t t' items u u' →
      InStep fits alike (after t f) (after t' f') items (after u f) (after u' f')
  step_after t t' f f' [] u u' h = (ap (λ z. after z f) h.0, ap (λ z. after z f') h.1)
  step_after (ask n k) (ask n' k') f f' (i ∷ items) u u' h = (h.0, h.1, h.2, step_after (k i) (k' i) f f' items u u' h.3)
  step_after (ask n k) (done b) f f' (i ∷ items) u u' h = absurd h
  step_after (done a) t' f f' (i ∷ items) u u' h = absurd h

  -- how the other walk stands then
  pub step_stands : {A B : Type 0} (t : Ask N I A) (t' : Ask N I B) (items : List I) (u : Ask N I A) (u' : Ask N I B) → InStep fits alike t t' items u u' →
      on fits t' items ≡ on fits u' []
  step_stands t t' [] u u' h = rw h.1 refl
  step_stands (ask n k) (ask n' k') (i ∷ items) u u' h = fit_on fits (fits n' i) _ _ h.1 (step_stands (k i) (k' i) items u u' h.3)
  step_stands (ask n k) (done b) (i ∷ items) u u' h = absurd h
  step_stands (done a) t' (i ∷ items) u u' h = absurd h

-- two walks in step met alike needs
pub step_met : {N I A B C : Type 0} (fits : N → I → Bool) (name : N → I → C) (t : Ask N I A) (t' : Ask N I B) (items : List I) (u : Ask N I A)
    (u' : Ask N I B) → InStep fits (λ m n i. name m i ≡ name n i) t t' items u u' →
    map (λ z. name z.0 z.1) (met t items) ≡ map (λ z. name z.0 z.1) (met t' items)
step_met fits name (done a) (done b) [] u u' h = refl
step_met fits name (done a) (ask n k) [] u u' h = refl
step_met fits name (ask n k) (done b) [] u u' h = refl
step_met fits name (ask n k) (ask n' k') [] u u' h = refl
step_met fits name (ask n k) (ask n' k') (i ∷ items) u u' h = rw h.2 (ap (λ l. name n' i ∷ l) (step_met fits name (k i) (k' i) items u u' h.3))
step_met fits name (ask n k) (done b) (i ∷ items) u u' h = absurd h
step_met fits name (done a) t' (i ∷ items) u u' h = absurd h
