-- The uses of the items of a trail that is put together, or cut behind its stage 1 leaf; and the last item of lists that are put together.
use Rattle.std.proofs.Common.{◌≡◌, ℕ, Bool, true, false, cond, List, [], ◌∷◌, ◌++◌, refl, sym, ◌∙◌, subst, Option, Some, None}
use Rattle.machine_spec.specs.Marks.{Mark, is_first, is_leaf}
use Rattle.machine_spec.specs.Uses.{next_first, next_second, use_of, above_of, AllUsed, LastIs}
use Rattle.machine_laws.proofs.Trees.{AllSecond}
use Rattle.machine_laws.proofs.Fine.{IsNow}

pub used_map : (P Q : Mark → Option ℕ → Type 0) → ((m : Mark) (o : Option ℕ) → P m o → Q m o) → (above : Option ℕ) (ms : List Mark)
    → AllUsed P above ms
    → AllUsed Q above ms
used_map P Q f above [] h = h
used_map P Q f above (m ∷ ms) h = (f m (use_of above m ms) h.0, used_map P Q f (above_of above m) ms h.1)

-- the same where each mark is of stage 2
pub second_map : (P Q : Mark → Option ℕ → Type 0) → ((m : Mark) (o : Option ℕ) → is_first m ≡ false → P m o → Q m o) →
    (above : Option ℕ) (ms : List Mark) → AllSecond ms → AllUsed P above ms → AllUsed Q above ms
second_map P Q f above [] s h = h
second_map P Q f above (m ∷ ms) s h = (f m (use_of above m ms) s.0 h.0, second_map P Q f (above_of above m) ms s.1 h.1)

-- USES BY THE STAGE OF AN ITEM

cond_on : {X : Type 0} (b : Bool) (u v : X) → b ≡ true → cond b u v ≡ u
cond_on b u v h = rw h refl

cond_off : {X : Type 0} (b : Bool) (u v : X) → b ≡ false → cond b u v ≡ v
cond_off b u v h = rw h refl

pub use_first : (above : Option ℕ) (m : Mark) (more : List Mark) → is_first m ≡ true → use_of above m more ≡ next_first more
use_first above m more h = cond_on (is_first m) (next_first more) (next_second above more) h

pub use_second : (above : Option ℕ) (m : Mark) (more : List Mark) → is_first m ≡ false → use_of above m more ≡ next_second above more
use_second above m more h = cond_off (is_first m) (next_first more) (next_second above more) h

pub above_second : (above : Option ℕ) (m : Mark) → is_first m ≡ false → above_of above m ≡ above
above_second above m h = rw h refl

pub above_first : (above : Option ℕ) (m : Mark) → is_first m ≡ true → is_leaf m.part ≡ false → above_of above m ≡ None
above_first above m h l = rw (h, l) refl

pub above_leaf : (above : Option ℕ) (m : Mark) → is_first m ≡ true → is_leaf m.part ≡ true → above_of above m ≡ Some m.item.moment
above_leaf above m h l = rw (h, l) refl

-- items of stage 2 are passed over by the uses of stage 1
pub first_none : (xs ys : List Mark) → AllSecond xs → next_first (xs ++ ys) ≡ next_first ys
first_none [] ys h = refl
first_none (x ∷ xs) ys h = cond_off (is_first x) (Some x.item.moment) (next_first (xs ++ ys)) h.0 ∙ first_none xs ys h.1

pub none_of : (ms : List Mark) → AllSecond ms → next_first ms ≡ None
none_of [] h = refl
none_of (x ∷ xs) h = cond_off (is_first x) (Some x.item.moment) (next_first xs) h.0 ∙ none_of xs h.1

pub first_here : (m : Mark) (ms : List Mark) → is_first m ≡ true → next_first (m ∷ ms) ≡ Some m.item.moment
first_here m ms f = cond_on (is_first m) (Some m.item.moment) (next_first ms) f

-- AN ITEM OF STAGE 1 THAT FOLLOWS GIVES A USE

first_some : (b : Bool) (v : ℕ) (xs ys : Option ℕ) → ((u : ℕ) × (xs ≡ Some u) × (ys ≡ Some u))
    → (u : ℕ) × (cond b (Some v) xs ≡ Some u) × (cond b (Some v) ys ≡ Some u)
first_some true v xs ys h = (v, refl, refl)
first_some false v xs ys h = h

next_first_some : (pre : List Mark) (m : Mark) (ms : List Mark) → is_first m ≡ true →
    (u : ℕ) × (next_first (pre ++ m ∷ ms) ≡ Some u) × (next_first (pre ++ m ∷ []) ≡ Some u)
next_first_some [] m ms f = (m.item.moment, first_here m ms f, first_here m [] f)
next_first_some (x ∷ pre) m ms f = first_some (is_first x) x.item.moment (next_first (pre ++ m ∷ ms)) (next_first (pre ++ m ∷ []))
    (next_first_some pre m ms f)

next_second_some : (above : Option ℕ) (pre : List Mark) (m : Mark) (ms : List Mark) →
    (u : ℕ) × (next_second above (pre ++ m ∷ ms) ≡ Some u) × (next_second above (pre ++ m ∷ []) ≡ Some u)
next_second_some above [] m ms = (m.item.moment, refl, refl)
next_second_some above (x ∷ pre) m ms = (x.item.moment, refl, refl)

use_case : (above : Option ℕ) (b : Bool) (pre : List Mark) (m : Mark) (ms : List Mark) → is_first m ≡ true →
    (u : ℕ) × (cond b (next_first (pre ++ m ∷ ms)) (next_second above (pre ++ m ∷ ms)) ≡ Some u)
    × (cond b (next_first (pre ++ m ∷ [])) (next_second above (pre ++ m ∷ [])) ≡ Some u)
use_case above true pre m ms f = next_first_some pre m ms f
use_case above false pre m ms f = next_second_some above pre m ms

pub use_some : (above : Option ℕ) (x : Mark) (pre : List Mark) (m : Mark) (ms : List Mark) → is_first m ≡ true →
    (u : ℕ) × (use_of above x (pre ++ m ∷ ms) ≡ Some u) × (use_of above x (pre ++ m ∷ []) ≡ Some u)
use_some above x pre m ms f = use_case above (is_first x) pre m ms f

pub before_same : (above : Option ℕ) (x : Mark) (pre : List Mark) (m : Mark) (ms : List Mark) → is_first m ≡ true →
    use_of above x (pre ++ m ∷ []) ≡ use_of above x (pre ++ m ∷ ms)
before_same above x pre m ms f = let k = use_some above x pre m ms f in k.2 ∙ sym k.1

-- a trail is cut behind an item of stage 1 after which stage 2 alone follows
pub cut_used : (P : Mark → Option ℕ → Type 0) (above : Option ℕ) (pre : List Mark) (m : Mark) (out : List Mark) → is_first m ≡ true
    → AllSecond out →
    AllUsed P above (pre ++ m ∷ out) → AllUsed P above (pre ++ m ∷ [])
cut_used P above [] m out f s p = (subst (P m) (use_first above m out f ∙ none_of out s ∙ sym (use_first above m [] f)) p.0, tt)
cut_used P above (x ∷ pre) m out f s p = (subst (P x) (sym (before_same above x pre m out f)) p.0, cut_used P (above_of above x) pre m out f s p.1)

-- TRAILS PUT TOGETHER: what is open to the end of the first is used now

module _ (P : Mark → Option ℕ → Type 0) (now : ℕ) (opened : (m : Mark) (u : ℕ) → u ≡ now → P m None → P m (Some u)) where
  pub open_at : (m : Mark) (o : Option ℕ) → IsNow now o → P m None → P m o
  open_at m None h p = p
  open_at m (Some u) h p = opened m u h p

  head : (above : Option ℕ) (m : Mark) (cs ms : List Mark) → is_first m ≡ false → IsNow now (next_second above ms) → P m (use_of None m cs)
      → P m (use_of above m (cs ++ ms))
  head above m [] ms s h p =
      let q : P m None = subst (P m) (use_second None m [] s) p in
      subst (P m) (sym (use_second above m ms s)) (open_at m (next_second above ms) h q)
  head above m (c ∷ cs) ms s h p = subst (P m) (use_second None m (c ∷ cs) s ∙ sym (use_second above m (c ∷ (cs ++ ms)) s)) p

  -- a chain of stage 2, and what follows it at this moment
  pub chain_append : (above : Option ℕ) (cs ms : List Mark) → AllSecond cs → IsNow now (next_second above ms) → AllUsed P None cs → AllUsed P above ms
      → AllUsed P above (cs ++ ms)
  chain_append above [] ms s h p q = q
  chain_append above (c ∷ cs) ms s h p q =
      let rest : AllUsed P None cs = subst (λ v. AllUsed P v cs) (above_second None c s.0) p.1 in
      (head above c cs ms s.0 h p.0, subst (λ v. AllUsed P v (cs ++ ms)) (sym (above_second above c s.0)) (chain_append above cs ms s.1 h rest q))

  -- a trail that ends in a table of stage 1, and what follows it, whose next item of stage 1 is read at this moment
  pub table_append : (above : Option ℕ) (pre : List Mark) (m : Mark) (ms : List Mark) → is_first m ≡ true → is_leaf m.part ≡ false
      → IsNow now (next_first ms) →
      AllUsed P above (pre ++ m ∷ []) → AllUsed P None ms → AllUsed P above (pre ++ m ∷ ms)
  table_append above [] m ms f l h p q = (
    subst (P m) (sym (use_first above m ms f)) (open_at m (next_first ms) h (subst (P m) (use_first above m [] f) p.0)),
    subst (λ v. AllUsed P v ms) (sym (above_first above m f l)) q,
  )
  table_append above (x ∷ pre) m ms f l h p q =
      (subst (P x) (before_same above x pre m ms f) p.0, table_append (above_of above x) pre m ms f l h p.1 q)

-- THE LAST ITEM

module _ (P : Mark → Type 0) where
  pub last_tail : (m : Mark) (ms : List Mark) → LastIs P (m ∷ ms) → LastIs P ms
  last_tail m [] h = tt
  last_tail m (x ∷ ms) h = h

  -- the last item of a list is that of each of its later parts
  pub last_tail_of : (pre ms : List Mark) → LastIs P (pre ++ ms) → LastIs P ms
  last_tail_of [] ms h = h
  last_tail_of (x ∷ pre) ms h = last_tail_of pre ms (last_tail x (pre ++ ms) h)

  -- what is before the last items doesn't count
  pub last_more : (pre : List Mark) (m : Mark) (ms : List Mark) → LastIs P (m ∷ ms) → LastIs P (pre ++ m ∷ ms)
  last_more [] m ms h = h
  last_more (x ∷ []) m ms h = h
  last_more (x ∷ y ∷ pre) m ms h = last_more (y ∷ pre) m ms h

  -- either list may be the one that ends
  pub last_append : (pre ms : List Mark) → LastIs P pre → LastIs P ms → LastIs P (pre ++ ms)
  last_append [] ms h k = k
  last_append (x ∷ []) [] h k = h
  last_append (x ∷ []) (m ∷ ms) h k = k
  last_append (x ∷ y ∷ pre) ms h k = last_append (y ∷ pre) ms h k

pub last_map : (P Q : Mark → Type 0) → ((m : Mark) → P m → Q m) → (ms : List Mark) → LastIs P ms → LastIs Q ms
last_map P Q f [] h = h
last_map P Q f (m ∷ []) h = f m h
last_map P Q f (m ∷ n ∷ ms) h = last_map P Q f (n ∷ ms) h
