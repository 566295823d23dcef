-- Laws of trees on which lists stand, of their marks, and of plans.
use Rattle.std.proofs.Common.{◌≡◌, ℕ, Bool, List, [], ◌∷◌, ◌++◌, refl, sym, ap, ◌∙◌, subst, append-nil}
use Rattle.std.specs.Prelude.{Result, Ok, Err}
use Rattle.trails.specs.declared.item.Item.{Item}
use Rattle.walk_spec.specs.declared.leaf.Leaf2.{Leaf2}
use Rattle.walk_spec.specs.Ask.{Ask, done, ask, after, needs, ends, on}
use Rattle.walk_spec.specs.Needs.{Regime, Need, stage1_base, stage2_base, word, fits}
use Rattle.walk_spec.specs.Steps.{End}
use Rattle.walk_spec.specs.BothStages.{Landing}
use Rattle.machine_spec.specs.Marks.{Mark, mark, marks, is_first}
use Rattle.machine_laws.specs.Standing.{IsOn}
use Rattle.machine_laws.proofs.Trees.{is_need1, needs_base, chain, Plan, via, joined, flat, rest_by, IsSecond, IsWords, AllSecond, fin, own}

module _ {A : Type 0} (r : Regime) where
  pub on_append : (t u v : Ask Need Item A) (xs ys : List Item) → IsOn r t xs u → IsOn r u ys v → IsOn r t (xs ++ ys) v
  on_append t u v [] ys e h = subst (λ w. IsOn r w ys v) e h
  on_append (done a) u v (x ∷ xs) ys e h = absurd e
  on_append (ask n k) u v (x ∷ xs) ys e h = (e.0, on_append (k x) u v xs ys e.1 h)

  pub marks_append : (t u : Ask Need Item A) (xs ys : List Item) → IsOn r t xs u → marks r t (xs ++ ys) ≡ marks r t xs ++ marks r u ys
  marks_append (done a) u [] ys e = ap (λ w. marks r w ys) (sym e)
  marks_append (ask n k) u [] ys e = ap (λ w. marks r w ys) (sym e)
  marks_append (done a) u (x ∷ xs) ys e = absurd e
  marks_append (ask n k) u (x ∷ xs) ys e = ap (λ v. mark r n x ∷ v) (marks_append (k x) u xs ys e.1)

  -- a list on which a tree ends stands on it in the sense of the walks, and so does one on which it needs something
  pub on_ends : (t : Ask Need Item A) (a : A) (xs : List Item) → IsOn r t xs (done a) → on (fits r) t xs ≡ ends a []
  on_ends t a [] e = subst (λ w. on (fits r) w [] ≡ ends a []) e refl
  on_ends (done b) a (x ∷ xs) e = absurd e
  on_ends (ask n k) a (x ∷ xs) e = rw e.0 (on_ends (k x) a xs e.1)

  pub on_needs : (t : Ask Need Item A) (n : Need) (k : Item → Ask Need Item A) (xs : List Item) → IsOn r t xs (ask n k) → on (fits r) t xs ≡ needs n
  on_needs t n k [] e = subst (λ w. on (fits r) w [] ≡ needs n) e refl
  on_needs (done b) n k (x ∷ xs) e = absurd e
  on_needs (ask m l) n k (x ∷ xs) e = rw e.0 (on_needs (l x) n k xs e.1)

pub marks_nil : {B : Type 0} (r : Regime) (t : Ask Need Item B) → marks r t [] ≡ []
marks_nil r (done a) = refl
marks_nil r (ask n k) = refl

module _ {A B : Type 0} (r : Regime) where
  pub on_after : (t u : Ask Need Item A) (f : A → Ask Need Item B) (xs : List Item) → IsOn r t xs u → IsOn r (after t f) xs (after u f)
  on_after t u f [] e = ap (λ w. after w f) e
  on_after (done a) u f (x ∷ xs) e = absurd e
  on_after (ask n k) u f (x ∷ xs) e = (e.0, on_after (k x) u f xs e.1)

  pub marks_after : (t u : Ask Need Item A) (f : A → Ask Need Item B) (xs : List Item) → IsOn r t xs u → marks r (after t f) xs ≡ marks r t xs
  marks_after (done a) u f [] e = marks_nil r (f a)
  marks_after (ask n k) u f [] e = refl
  marks_after (done a) u f (x ∷ xs) e = absurd e
  marks_after (ask n k) u f (x ∷ xs) e = ap (λ v. mark r n x ∷ v) (marks_after (k x) u f xs e.1)

-- a list on a tree that goes on ends in the first part
pub record Split {A B : Type 0} (r : Regime) (t : Ask Need Item A) (f : A → Ask Need Item B) (xs : List Item) (b : B) : Type 0 where
  pub end : A
  pub front : List Item
  pub rest : List Item
  pub is : xs ≡ front ++ rest
  pub on_front : IsOn r t front (done end)
  pub more : IsOn r (f end) rest (done b)

pub on_split : {A B : Type 0} (r : Regime) (t : Ask Need Item A) (f : A → Ask Need Item B) (xs : List Item) (b : B) → IsOn r (after t f) xs (done b)
    → Split r t f xs b
on_split r (done a) f xs b h = record { end = a; front = []; rest = xs; is = refl; on_front = refl; more = h }
on_split r (ask n k) f [] b h = absurd cc
on_split r (ask n k) f (x ∷ xs) b h =
    let d = on_split r (k x) f xs b h.1 in
    record { end = d.end; front = x ∷ d.front; rest = d.rest; is = ap (λ v. x ∷ v) d.is; on_front = (h.0, d.on_front); more = d.more }

-- PLANS

module _ (r : Regime) where
  pub joined_is : (e : Result Need (End Landing)) (k : Item → Plan) → joined e (λ i. flat r (k i)) ≡ flat r (rest_by e k)
  joined_is (Err e) k = refl
  joined_is (Ok n) k = refl

  pub via_on : (p : Bool) (x : ℕ) (next : End Leaf2 → Result Need (End Landing)) (k : Item → Plan) (xs : List Item) (e : End Leaf2)
      → IsOn r (chain r p x) xs (done e) → IsOn r (flat r (via p x next k)) xs (flat r (rest_by (next e) k))
  via_on p x next k xs e h =
      subst (λ v. IsOn r (flat r (via p x next k)) xs v) (joined_is (next e) k)
      (on_after r (chain r p x) (done e) (λ e. joined (next e) (λ i. flat r (k i))) xs h)

  pub via_marks : (p : Bool) (x : ℕ) (next : End Leaf2 → Result Need (End Landing)) (k : Item → Plan) (xs : List Item) (u : Ask Need Item (End Leaf2))
      → IsOn r (chain r p x) xs u → marks r (flat r (via p x next k)) xs ≡ marks r (chain r p x) xs
  via_marks p x next k xs u h = marks_after r (chain r p x) u (λ e. joined (next e) (λ i. flat r (k i))) xs h

pub flat_fin : (r : Regime) (p : Plan) (e : End Landing) → flat r p ≡ done e → p ≡ fin e
flat_fin r (fin a) e h = cc
flat_fin r (own n k) e h = absurd cc
flat_fin r (via p x next k) e h = absurd cc

-- MARKS BY NEEDS

pub mark_first : (r : Regime) (n : Need) (i : Item) → is_first (mark r n i) ≡ is_need1 n
unfolding mark
mark_first r stage1_base i = refl
mark_first r (stage2_base x) i = refl
mark_first r (word w) i = refl

pub mark_base : (r : Regime) (n : Need) (i : Item) → (mark r n i).base ≡ needs_base n
unfolding mark
mark_base r stage1_base i = refl
mark_base r (stage2_base x) i = refl
mark_base r (word w) i = refl

pub mark_item : (r : Regime) (n : Need) (i : Item) → (mark r n i).item ≡ i
unfolding mark
mark_item r stage1_base i = refl
mark_item r (stage2_base x) i = refl
mark_item r (word w) i = refl

pub words_second : {A : Type 0} (t : Ask Need Item A) → IsWords t → IsSecond t
words_second (done a) h = h
words_second (ask n k) h = (h.0, λ i. words_second (k i) (h.2 i))

pub second_marks : {A : Type 0} (r : Regime) (t : Ask Need Item A) (xs : List Item) → IsSecond t → AllSecond (marks r t xs)
second_marks r (done a) xs h = tt
second_marks r (ask n k) [] h = tt
second_marks r (ask n k) (x ∷ xs) h = (mark_first r n x ∙ h.0, second_marks r (k x) xs (h.1 x))

pub words_on : {A : Type 0} (r : Regime) (t u : Ask Need Item A) (xs : List Item) → IsWords t → IsOn r t xs u → IsWords u
words_on r t u [] h e = subst IsWords (sym e) h
words_on r (done a) u (x ∷ xs) h e = absurd e
words_on r (ask n k) u (x ∷ xs) h e = words_on r (k x) u xs (h.2 x) e.1

pub nil_right : (ms : List Mark) → ms ++ [] ≡ ms
nil_right ms = rw append-nil refl
