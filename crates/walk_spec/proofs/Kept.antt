-- How a walk that asks stands on the rest of a list, from a place of the list on.
use Rattle.std.proofs.Common.{◌≡◌, ℕ, suc, ◌+◌, ◌<◌, List, [], ◌∷◌, length, drop, get_or}
use Rattle.std.proofs.Common.{drop-cons, add-one, refl, sym, ap, ◌∙◌, Bool, true, false}
use Rattle.std.proofs.Math.Seq.{drop-length}
use Rattle.walk_spec.specs.Ask.{Ask, ask, needs, bad, on}

pub rest_none : {I : Type 0} (at : ℕ) (items : List I) → at ≡ length items → drop at items ≡ []
rest_none at items e = ap (λ n. drop n items) e ∙ drop-length items

pub rest_some : {I : Type 0} (at : ℕ) (items : List I) (i : I) → at < length items → i ≡ get_or items at i
    → drop at items ≡ i ∷ drop (at + 1) items
rest_some at items i l e = rw add-one (drop-cons items at i l ∙ ap (λ j. j ∷ drop (suc at) items) (sym e))

module _ {N I A : Type 0} (fits : N → I → Bool) (t : Ask N I A) (n : N) (k : I → Ask N I A) (asks : t ≡ ask n k) (items : List I) (at : ℕ) where
  -- the list is at its end
  pub asks_none : at ≡ length items → on fits t (drop at items) ≡ needs n
  asks_none e = rw (rest_none at items e, asks) refl

  module _ (i : I) (l : at < length items) (e : i ≡ get_or items at i) where
    -- the next item doesn't fit
    pub asks_off : fits n i ≡ false → on fits t (drop at items) ≡ bad
    asks_off f = rw (rest_some at items i l e, asks, f) refl

    -- the next item fits
    pub asks_by : fits n i ≡ true → on fits t (drop at items) ≡ on fits (k i) (drop (at + 1) items)
    asks_by f = rw (rest_some at items i l e, asks, f) refl
