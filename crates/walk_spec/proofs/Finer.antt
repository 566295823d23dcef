-- A walk over a supply that itself walks for each question: together they are the finer walk.
use Rattle.std.proofs.Common.{◌≡◌, List, [], ◌∷◌, ◌++◌, refl, inl, inr, subst, append-nil}
use Rattle.std.specs.Prelude.{Result, Ok, Err}
use Rattle.walk_spec.specs.Ask.{Ask, done, ask, finer, go_on, Fed, ended, lacks, Took, Ran}
use Rattle.walk_spec.proofs.Feeding.{took_after, took_after_lacks}

-- how a stop of the supply tells the end of the walk for one question
abbrev pub StopsBy : {M I Y A X : Type 0} → (Y → A) → (X → Fed M A → Type 0) → X → Fed M (Result I Y) → Type 0
StopsBy stop tells x (lacks m) = tells x (lacks m)
StopsBy stop tells x (ended (Ok i)) = ⊥
StopsBy stop tells x (ended (Err y)) = tells x (ended (stop y))

abbrev pub TellsEnd : {M A X : Type 0} → (X → Fed M A → Type 0) → Result A X → Fed M A → Type 0
TellsEnd tells (Ok a) e = e ≡ ended a
TellsEnd tells (Err x) e = tells x e

-- what is asked of a supply that walks for each question; `kept` holds of it from call to call
pub record Walks {N M I V Y A X S : Type 0} (end : Y → A) (value : I → V) (gives : S → N → List I → Result V X → S → Type 0)
    (answers : M → I →
    Type 0) (how : N → Ask M I (Result I Y)) (kept : S → Type 0) (tells : S → X → Fed M A → Type 0) : Type 0 where
  pub word : (s : S) (n : N) (front : List I) (i : I) (s' : S) → kept s → gives s n (front ++ i ∷ []) (Ok (value i)) s' →
      Took answers (how n) (front ++ i ∷ []) (ended (Ok i)) × kept s'
  pub stop : (s : S) (n : N) (items : List I) (x : X) (s' : S) → kept s → gives s n items (Err x) s'
      → (e : Fed M (Result I Y)) × Took answers (how n) items e
      × StopsBy end (tells s') x e

module _ {N M I V Y A X S : Type 0} (end : Y → A) (value : I → V) (gives : S → N → List I → Result V X → S → Type 0)
    (answers : M → I → Type 0) (how : N →
    Ask M I (Result I Y)) (kept : S → Type 0) (tells : S → X → Fed M A → Type 0) (law : Walks end value gives answers how kept tells) where
  abbrev pub Together : Ask N I A → List I → Result A X → S → Type 0
  Together t items r s' = (e : Fed M A) × Took answers (finer end how t) items e × TellsEnd (tells s') r e

  stopped : (n : N) (k : I → Ask N I A) (items : List I) (x : X) (r : Result A X) (s' : S) (e : Fed M (Result I Y)) → Took answers (how n) items e →
      StopsBy end (tells s') x e → r ≡ Err x → Together (ask n k) items r s'
  stopped n k items x r s' (lacks m) h t q = (lacks m, took_after_lacks answers (how n) (go_on end (λ i. finer end how (k i))) items m h, rw q t)
  stopped n k items x r s' (ended (Ok i)) h t q = absurd t
  stopped n k items x r s' (ended (Err y)) h t q =
      let w = took_after answers (how n) (go_on end (λ i. finer end how (k i))) items [] (Err y) (ended (end y)) h (refl, refl) in
      (ended (end y), subst (λ list. Took answers (finer end how (ask n k)) list (ended (end y))) (append-nil items) w, rw q t)

  -- a walk over the supply took the items of the finer walk, with the end that its answer tells
  pub ran_finer : (t : Ask N I A) (s : S) (items : List I) (r : Result A X) (s' : S) → kept s → Ran value gives t s items r s' → Together t items r s'
  ran_finer (done a) s items r s' y h = (ended a, (h.0, refl), rw h.1 refl)
  ran_finer (ask n k) s items r s' y (inl w) =
      let o = law.word s n w.0 w.1 w.3 y w.4 in
      let d = ran_finer (k w.1) w.3 w.2 r s' o.1 w.6 in
      (d.0, rw w.5 (took_after answers (how n) (go_on end (λ i. finer end how (k i))) (w.0 ++ w.1 ∷ []) w.2 (Ok w.1) d.0 o.0 d.1), d.2)
  ran_finer (ask n k) s items r s' y (inr w) =
      let o = law.stop s n items w.0 s' y w.1 in
      stopped n k items w.0 r s' o.0 o.1 o.2 w.2

-- a relation that each answer of a supply keeps
pub record Keeps {N I V X S : Type 0} (gives : S → N → List I → Result V X → S → Type 0) (kept : S → S → Type 0) : Type 0 where
  pub here : (s : S) → kept s s
  pub then : (a b c : S) → kept a b → kept b c → kept a c
  pub each : (s : S) (n : N) (items : List I) (r : Result V X) (s' : S) → gives s n items r s' → kept s s'

-- what each answer of a supply keeps, a walk over it keeps
pub ran_keeps : {N I V A X S : Type 0} (value : I → V) (gives : S → N → List I → Result V X → S → Type 0) (kept : S → S → Type 0)
    → Keeps gives kept →
    (t : Ask N I A) (s : S) (items : List I) (r : Result A X) (s' : S) → Ran value gives t s items r s' → kept s s'
ran_keeps value gives kept k (done a) s items r s' h = rw h.2 (k.here s)
ran_keeps value gives kept k (ask n f) s items r s' (inl w) =
    k.then s w.3 s' (k.each s n (w.0 ++ w.1 ∷ []) (Ok (value w.1)) w.3 w.4) (ran_keeps value gives kept k (f w.1) w.3 w.2 r s' w.6)
ran_keeps value gives kept k (ask n f) s items r s' (inr w) = k.each s n items (Err w.0) s' w.1
