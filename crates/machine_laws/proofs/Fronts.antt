-- What a new row keeps of the trail of its step: the uses of the items of a front, of a chain, and of a whole trail.
use Rattle.std.proofs.Common.{◌≡◌, ℕ, true, false, List, [], ◌∷◌, ◌++◌, sym, ◌∙◌, subst, Option, Some, None}
use Rattle.machine_spec.specs.Marks.{Mark, is_first, is_leaf}
use Rattle.machine_spec.specs.Uses.{next_second, use_of, above_of, AllUsed}
use Rattle.machine_laws.proofs.Trees.{AllSecond}
use Rattle.machine_laws.proofs.Uses.{use_second, use_first, above_second, above_leaf, none_of, use_some}

module _ (P Q : Mark → Option ℕ → Type 0) (closed : (m : Mark) (u : ℕ) → P m (Some u) → Q m (Some u)) where
  some_goes : (m : Mark) (o q : Option ℕ) (u : ℕ) → o ≡ Some u → q ≡ Some u → P m o → Q m q
  some_goes m o q u e f p = subst (Q m) (sym f) (closed m u (subst (P m) e p))

  -- up to an item of stage 1, whose own use is to come
  pub front_first : (above : Option ℕ) (pre : List Mark) (m : Mark) (ms : List Mark) → is_first m ≡ true → Q m None
      → AllUsed P above (pre ++ m ∷ ms)
      → AllUsed Q above (pre ++ m ∷ [])
  front_first above [] m ms f q p = (subst (Q m) (sym (use_first above m [] f)) q, tt)
  front_first above (x ∷ pre) m ms f q p =
      let k = use_some above x pre m ms f in
      (some_goes x (use_of above x (pre ++ m ∷ ms)) (use_of above x (pre ++ m ∷ [])) k.0 k.1 k.2 p.0, front_first (above_of above x) pre m ms f q p.1)

  use_out : (u : ℕ) (m : Mark) (ms : List Mark) → P m (next_second (Some u) ms) → Q m (next_second (Some u) ms)
  use_out u m [] p = closed m u p
  use_out u m (x ∷ ms) p = closed m x.item.moment p

  -- behind the stage 1 leaf each item has its use
  pub out_closed : (u : ℕ) (ms : List Mark) → AllSecond ms → AllUsed P (Some u) ms → AllUsed Q (Some u) ms
  out_closed u [] s p = tt
  out_closed u (m ∷ ms) s p = (
    subst (Q m) (sym (use_second (Some u) m ms s.0)) (use_out u m ms (subst (P m) (use_second (Some u) m ms s.0) p.0)),
    subst (λ v. AllUsed Q v ms) (sym (above_second (Some u) m s.0)) (out_closed u ms s.1 (subst (λ v. AllUsed P v ms) (above_second (Some u) m s.0) p.1)),
  )

  -- a whole trail, of which the stage 1 leaf alone has its use to come
  pub whole_leaf : (above : Option ℕ) (pre : List Mark) (m : Mark) (ms : List Mark) → is_first m ≡ true → is_leaf m.part ≡ true → AllSecond ms
      → Q m None
      → AllUsed P above (pre ++ m ∷ ms) → AllUsed Q above (pre ++ m ∷ ms)
  whole_leaf above [] m ms f l s q p = (
    subst (Q m) (sym (use_first above m ms f ∙ none_of ms s)) q,
    subst (λ v. AllUsed Q v ms) (sym (above_leaf above m f l)) (out_closed m.item.moment ms s (subst (λ v. AllUsed P v ms) (above_leaf above m f l) p.1)),
  )
  whole_leaf above (x ∷ pre) m ms f l s q p =
      let k = use_some above x pre m ms f in
      (some_goes x (use_of above x (pre ++ m ∷ ms)) (use_of above x (pre ++ m ∷ ms)) k.0 k.1 k.1 p.0, whole_leaf (above_of above x) pre m ms f l s q p.1)

module _ (P Q : Mark → Option ℕ → Type 0) (closed : (m : Mark) (u : ℕ) → is_first m ≡ false → P m (Some u) → Q m (Some u)) where
  head2 : (above : Option ℕ) (x : Mark) (pre : List Mark) (m : Mark) (ms : List Mark) → is_first x ≡ false → P x (use_of above x (pre ++ m ∷ ms))
      → Q x (use_of None x (pre ++ m ∷ []))
  head2 above x [] m ms s p = subst (Q x) (sym (use_second None x (m ∷ []) s)) (closed x m.item.moment s (subst (P x) (use_second above x (m ∷ ms) s) p))
  head2 above x (y ∷ pre) m ms s p =
      subst (Q x) (sym (use_second None x (y ∷ (pre ++ m ∷ [])) s)) (closed x y.item.moment s (subst (P x)
      (use_second above x (y ∷ (pre ++ m ∷ ms)) s) p))

  -- a chain of stage 2 up to an item whose own use is to come, from the rest of the trail that begins with it
  pub front_second : (above : Option ℕ) (pre : List Mark) (m : Mark) (ms : List Mark) → AllSecond pre → is_first m ≡ false → Q m None
      → AllUsed P above (pre ++ m ∷ ms) → AllUsed Q None (pre ++ m ∷ [])
  front_second above [] m ms s f q p = (subst (Q m) (sym (use_second None m [] f)) q, tt)
  front_second above (x ∷ pre) m ms s f q p = (
    head2 above x pre m ms s.0 p.0,
    subst (λ v. AllUsed Q v (pre ++ m ∷ [])) (sym (above_second None x s.0)) (front_second (above_of above x) pre m ms s.1 f q p.1),
  )

-- the later part of a list
pub used_drop : (P : Mark → Option ℕ → Type 0) (above : Option ℕ) (xs ys : List Mark) → AllUsed P above (xs ++ ys)
    → (above2 : Option ℕ) × AllUsed P above2 ys
used_drop P above [] ys p = (above, p)
used_drop P above (x ∷ xs) ys p = used_drop P (above_of above x) xs ys p.1
