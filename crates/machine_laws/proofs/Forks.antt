-- A front behind which stage 2 is walked, and a chain that reaches a leaf: the walk meets each item of both.
use Rattle.std.proofs.Common.{◌≡◌, ℕ, Bool, true, false, cond, List, [], ◌∷◌, ◌++◌, refl, sym, ap, subst}
use Rattle.std.specs.Prelude.{Result, Ok, Err}
use Rattle.std.proofs.lemmas.Bool.{both_ways}
use Rattle.sysregs.specs.declared.regs.Config.{Config}
use Rattle.sysregs.specs.Sides.{side_of}
use Rattle.trails.specs.declared.item.Item.{Item}
use Rattle.trails.specs.declared.outcome.Access.{Access}
use Rattle.walk_spec.specs.declared.leaf.Leaf2.{Leaf2}
use Rattle.walk_spec.specs.Ask.{Ask, done, ask, after, Stands, needs, bad, ends, on}
use Rattle.walk_spec.specs.Needs.{Regime, Need, stage2_base, fits}
use Rattle.walk_spec.specs.Steps.{End, stops, reaches}
use Rattle.walk_spec.specs.Stage1.{asked2, stands2}
use Rattle.walk_spec.specs.Stage2.{is_refused2, walk2_behind}
use Rattle.walk_spec.specs.BothStages.{Landing, walk}
use Rattle.walk_laws.specs.Shift.{stands}
use Rattle.machine_laws.proofs.Facts.{regime_for}
use Rattle.machine_laws.proofs.Sides.{Twin, twin_chain}
use Rattle.machine_laws.proofs.Sounds.{words_behind}
use Rattle.machine_laws.proofs.Trees.{is_need1, needs_base, chain, Plan, fin, own, via, joined, flat, IsSound, IsWords}
use Rattle.machine_laws.proofs.WalkLaws.{laws_hold}

-- the list ends where the walk does, or before
abbrev pub IsMet : {A : Type 0} → Stands Need Item A → Type 0
IsMet (needs n) = Unit {0}
IsMet bad = ⊥
IsMet (ends a []) = Unit {0}
IsMet (ends a (i ∷ items)) = ⊥

pub fit_met : {A : Type 0} (fit : Bool) (s : Stands Need Item A) → IsMet (cond fit s bad) → (fit ≡ true) × IsMet s
fit_met true s met = (refl, met)
fit_met false s met = absurd met

none_met : {A : Type 0} (r : Regime) (t : Ask Need Item A) → IsMet (on (fits r) t [])
none_met r (done a) = tt
none_met r (ask n k) = tt

-- how a list stands whose first item was taken
fit_ends : {A : Type 0} (fit : Bool) (s : Stands Need Item A) (e : A) → cond fit s bad ≡ ends e [] → (fit ≡ true) × (s ≡ ends e [])
fit_ends true s e h = (refl, h)
fit_ends false s e h = absurd cc

fit_needs : {A : Type 0} (fit : Bool) (s : Stands Need Item A) (n : Need) → cond fit s bad ≡ needs n → (fit ≡ true) × (s ≡ needs n)
fit_needs true s n h = (refl, h)
fit_needs false s n h = absurd cc

need_is : {A : Type 0} (n m : Need) → ◌≡◌ {A = Stands Need Item A} (needs n) (needs m) → n ≡ m
need_is n m h = cc

-- no question of stage 1 is for stage 2
no_base2 : {A P : Type 0} (n : Need) (x : ℕ) → is_need1 n ≡ true → ◌≡◌ {A = Stands Need Item A} (needs n) (needs (stage2_base x)) → P
no_base2 n x one h = absurd (both_ways (is_need1 n) (ap is_need1 (need_is n (stage2_base x) h)) one)

module _ (r : Regime) where
  -- a chain on which a twin ends is met, whatever comes behind it
  twin_met : (t t' : Ask Need Item (End Leaf2)) (xs : List Item) (e : End Leaf2) (f : End Leaf2 → Ask Need Item (End Landing)) → Twin r r t t'
      → on (fits r) t xs ≡ ends e [] → IsMet (on (fits r) (after t' f) xs)
  twin_met (done d) (done g) [] e f w h = none_met r (f g)
  twin_met (done d) (done g) (x ∷ xs) e f w h = absurd cc
  twin_met (done (reaches l)) (ask n k) xs e f w h = absurd w
  twin_met (done (stops g)) (ask n k) xs e f w h = absurd w
  twin_met (ask n k) (done g) xs e f w h = absurd w
  twin_met (ask m k) (ask n l) [] e f w h = tt
  twin_met (ask m k) (ask n l) (x ∷ xs) e f w h =
      let p = fit_ends (fits r m x) (on (fits r) (k x) xs) e h in
      rw (w.0 x, p.0) (twin_met (k x) (l x) xs e f (w.2 x) p.1)

  module _ (x : ℕ) (one : List Item) (l : Leaf2) (q : Bool) where
    abbrev Forks : Ask Need Item (End Landing) → List Item → Type 0
    Forks t front = on (fits r) t front ≡ needs (stage2_base x) → IsMet (on (fits r) t (front ++ one))

    -- behind one more item
    goes_on : (n : Need) (k : Item → Ask Need Item (End Landing)) (i : Item) (front : List Item) → Forks (k i) front → Forks (ask n k) (i ∷ front)
    goes_on n k i front next h =
        let p = fit_needs (fits r n i) (on (fits r) (k i) front) (stage2_base x) h in
        rw p.0 (next p.1)

    -- behind a chain comes a question of stage 1, or the end
    module _ (k : Item → Ask Need Item (End Landing)) (later : (i : Item) (front : List Item) → Forks (k i) front) where
      behind : (d : Result Need (End Landing)) → ((n : Need) → d ≡ Ok n → is_need1 n ≡ true) → (front : List Item) → Forks (joined d k) front
      behind (Err e) first [] h = absurd cc
      behind (Err e) first (i ∷ front) h = absurd cc
      behind (Ok n) first [] h = no_base2 n x (first n refl) h
      behind (Ok n) first (i ∷ front) h = goes_on n k i front (later i front) h

      in_chain : (next : End Leaf2 → Result Need (End Landing)) → ((e : End Leaf2) (n : Need) → next e ≡ Ok n → is_need1 n ≡ true)
          → (t : Ask Need Item (End Leaf2)) (front : List Item) → IsWords t → Forks (after t (λ e. joined (next e) k)) front
      in_chain next first (done e) front w h = behind (next e) (first e) front h
      in_chain next first (ask n m) [] w h = absurd (both_ways (needs_base n) w.1 (ap needs_base (need_is n (stage2_base x) h)))
      in_chain next first (ask n m) (i ∷ front) w h =
          goes_on n (λ j. after (m j) (λ e. joined (next e) k)) i front (in_chain next first (m i) front (w.2 i)) h

    module _ (reached : is_refused2 r.config x ≡ false → (p : Bool) (f : End Leaf2 → Ask Need Item (End Landing))
        → IsMet (on (fits r) (after (chain r p x) f) one)) where
      forks : (p : Plan) → IsSound r p → (front : List Item) → Forks (flat r p) front
      forks (fin e) s [] h = absurd cc
      forks (fin e) s (i ∷ front) h = absurd cc
      forks (own n k) s [] h = no_base2 n x s.0 h
      forks (own n k) s (i ∷ front) h = goes_on n (λ i. flat r (k i)) i front (forks (k i) (s.2 i) front) h
      forks (via p y next k) s [] h =
          let same : stage2_base y ≡ stage2_base x = need_is (stage2_base y) (stage2_base x) h in
          let at : y ≡ x = cc in
          let f : End Leaf2 → Ask Need Item (End Landing) = λ e. joined (next e) (λ i. flat r (k i)) in
          subst (λ z. IsMet (on (fits r) (after (chain r p z) f) one)) (sym at) (reached (subst (λ z. is_refused2 r.config z ≡ false) at s.0) p f)
      forks (via p y next k) s (i ∷ front) h =
          let t : Ask Need Item (End Leaf2) = walk2_behind (asked2 r p y) i.value in
          goes_on (stage2_base y) (λ i. after (walk2_behind (asked2 r p y) i.value) (λ e. joined (next e) (λ i. flat r (k i)))) i front
          (in_chain (λ i. flat r (k i)) (λ j ys. forks (k j) (s.3 j) ys) next (λ e n is. (s.2 e n is).0) t front (words_behind (asked2 r p y) i.value)) h

chain_if : (b : Bool) (t u : Ask Need Item (End Leaf2)) → b ≡ false → cond b u t ≡ t
chain_if b t u off = rw off refl

-- the walk of an access meets a front and a chain of stage 2 behind it
pub fork_met : (c : Config) (a : Access) (front one : List Item) (x : ℕ) (q : Bool) (l : Leaf2) → stands c true a front ≡ needs (stage2_base x)
    → stands2 c (side_of a.va) q x one ≡ ends (reaches l) [] → IsMet (stands c true a (front ++ one))
fork_met c a front one x q l asks reached =
    let r : Regime = regime_for c a in
    let plan : Plan = laws_hold.plan c true a in
    let is : flat r plan ≡ walk c true a = laws_hold.plan_is c true a in
    let met = λ (ok : is_refused2 r.config x ≡ false) (p : Bool) (f : End Leaf2 → Ask Need Item (End Landing)).
    twin_met r (chain r q x) (chain r p x) one (reaches l) f (twin_chain c (side_of a.va) (side_of a.va) q p x)
    (subst (λ t. on (fits r) t one ≡ ends (reaches l) []) (chain_if (is_refused2 r.config x) (chain r q x) _ ok) reached) in
    subst (λ t. IsMet (on (fits r) t (front ++ one))) is
    (forks r x one l q met plan (laws_hold.sound c true a) front (subst (λ t. on (fits r) t front ≡ needs (stage2_base x)) (sym is) asks))
