-- Rows that were found are rows of the list, and a row of the list is found by its making.
use Rattle.std.proofs.Common.{◌≡◌, ℕ, zero, suc, ◌<◌, ◌+◌, Bool, true, false, cond, List, [], ◌∷◌, length, get_or, Option, Some, None}
use Rattle.std.proofs.Common.{inl, inr, refl, ap, sym, ◌∙◌, subst, arith}
use Rattle.std.specs.Prelude.{filter, ◌==◌, ◌%◌}
use Rattle.std.proofs.lemmas.Bool.{eqb-true, eq-eqb, and_from, and_parts, both_ways}
use Rattle.std.proofs.lemmas.List.{get_or_default}
use Rattle.tagged_tlb.specs.declared.row.Kind.{Kind}
use Rattle.tagged_tlb.specs.declared.row.Made.{Made}
use Rattle.tagged_tlb.specs.declared.row.Row.{Row}
use Rattle.tagged_tlb.specs.declared.found.Found.{Found}
use Rattle.tagged_tlb.specs.declared.found.Found.TheVariants.{Nothing, One, Two}
use Rattle.tagged_tlb.specs.declared.found.Seen.{Seen}
use Rattle.tagged_tlb.specs.Rows.{same_kind}
use Rattle.tagged_tlb.specs.Sets.{is_row}
use Rattle.tagged_tlb.specs.Tied.{in_set, IsTied, IsOther, AreToldApart, row_at}
use Rattle.tagged_tlb.specs.Found.{IsSeen, AllSeen, IsWithin, AreWithin, first_hit, seen_row}
use Rattle.tagged_tlb.specs.Stands.{In, is_made, Stands}
use Rattle.tagged_tlb.proofs.Ties.{kind_itself, kind_is}
use Rattle.tagged_tlb.proofs.Touches.{itself, turned, passes}
use Rattle.tagged_tlb.proofs.Order.{told_filter}

-- AN ELEMENT OF A LIST

pub in_get : {X : Type 0} (xs : List X) (i : ℕ) (d : X) → i < length xs → In (get_or xs i d) xs
in_get [] i d h = absurd (omega (arith, h))
in_get (x ∷ xs) zero d h = inl refl
in_get (x ∷ xs) (suc i) d h = inr (in_get xs i d (omega (arith, h)))

in_whole_by : {X : Type 0} (p : X → Bool) (y x : X) (xs : List X) (b : Bool) → (In y (filter p xs) → In y xs)
    → In y (cond b (x ∷ filter p xs) (filter p xs))
    → In y (x ∷ xs)
in_whole_by p y x xs true rest (inl e) = inl e
in_whole_by p y x xs true rest (inr i) = inr (rest i)
in_whole_by p y x xs false rest i = inr (rest i)

-- what a filter leaves was there
pub in_whole : {X : Type 0} (p : X → Bool) (y : X) (xs : List X) → In y (filter p xs) → In y xs
in_whole p y [] i = i
in_whole p y (x ∷ xs) i = in_whole_by p y x xs (p x) (in_whole p y xs) i

in_filter_by : {X : Type 0} (p : X → Bool) (y x : X) (xs : List X) (b : Bool) → p x ≡ b → p y ≡ true → (In y xs → In y (filter p xs))
    → In y (x ∷ xs)
    → In y (cond b (x ∷ filter p xs) (filter p xs))
in_filter_by p y x xs true e t rest (inl f) = inl f
in_filter_by p y x xs true e t rest (inr i) = inr (rest i)
in_filter_by p y x xs false e t rest (inl f) = absurd (both_ways (p x) e (subst (λ v. p v ≡ true) f t))
in_filter_by p y x xs false e t rest (inr i) = rest i

-- what passes is left
pub in_filter : {X : Type 0} (p : X → Bool) (y : X) (xs : List X) → p y ≡ true → In y xs → In y (filter p xs)
in_filter p y [] t i = i
in_filter p y (x ∷ xs) t i = in_filter_by p y x xs (p x) refl t (in_filter p y xs t) i

-- WHAT WAS FOUND

module _ (k : Kind) (n : ℕ) (live : List Row) (d : Row) (sets : List (List Row)) (f : IsTied k n live sets) where
  pub stands : (s : Seen) → IsWithin sets s.slot → IsSeen d sets s → Stands k n s.slot.set s.made live (seen_row d sets s)
  stands s w made =
      let lt : s.slot.set < n = let a = w.0 in let b = f.count in omega (arith, a, b) in
      let are = f.each s.slot.set lt in
      let r_is : seen_row d sets s ≡ get_or (filter (in_set k n s.slot.set) live) s.slot.way d = ap (λ xs. get_or xs s.slot.way d) are in
      let within : s.slot.way < length (filter (in_set k n s.slot.set) live) = subst (λ xs. s.slot.way < length xs) are w.1 in
      let own : in_set k n s.slot.set (seen_row d sets s) ≡ true = rw r_is (passes (in_set k n s.slot.set) d live s.slot.way within) in
      let parts = and_parts (same_kind k (seen_row d sets s).kind) (s.slot.set == (seen_row d sets s).region.start % n) own in
      record {
        held = in_whole (in_set k n s.slot.set) (seen_row d sets s) live (rw r_is (in_get (filter (in_set k n s.slot.set) live) s.slot.way d within));
        kind_is = sym (kind_is k (seen_row d sets s).kind parts.0);
        set_is = sym (eqb-true s.slot.set ((seen_row d sets s).region.start % n) parts.1);
        made_is = made;
      }

  pub all_stand : (found : Found) → AreWithin sets found → AllSeen (IsSeen d sets) found
      → AllSeen (λ s. Stands k n s.slot.set s.made live (seen_row d sets s)) found
  all_stand Nothing w h = tt
  all_stand (One a) w h = stands a w h
  all_stand (Two a b) w h = (stands a w.0 h.0, stands b w.1 h.1)

-- A ROW OF THE LIST BY ITS MAKING

pub other_in : (r s : Row) (rows : List Row) → IsOther r rows → In s rows → is_row r s ≡ false
other_in r s [] o i = absurd i
other_in r s (x ∷ rows) o (inl e) = subst (λ (v : Row). is_row r v ≡ false) (sym e) o.0
other_in r s (x ∷ rows) o (inr i) = other_in r s rows o.1 i

-- the first that was made as a row of the list is that row
abbrev Finds : (d r : Row) (way : ℕ) (rows : List Row) → Option ℕ → Type 0
Finds d r way rows None = ⊥
Finds d r way rows (Some w) = (j : ℕ) × (w ≡ way + j) × (j < length rows) × (get_or rows j d ≡ r)

next_finds : (d r x : Row) (way : ℕ) (rows : List Row) (o : Option ℕ) → Finds d r (way + 1) rows o → Finds d r way (x ∷ rows) o
next_finds d r x way rows None h = h
next_finds d r x way rows (Some w) h = (suc h.0, (let e = h.1 in omega (arith, e)), (let l = h.2 in omega (arith, l)), h.3)

module _ (d r : Row) where
  finds_by : (way : ℕ) (x : Row) (rows : List Row) (b : Bool) → is_row r x ≡ b → IsOther x rows
      → (In r rows → Finds d r (way + 1) rows (first_hit (is_made r.made) (way + 1) rows)) → In r (x ∷ rows)
      → Finds d r way (x ∷ rows) (cond b (Some way) (first_hit (is_made r.made) (way + 1) rows))
  finds_by way x rows true e o rest (inl f) = (0, omega arith, omega arith, sym f)
  finds_by way x rows true e o rest (inr i) = absurd (both_ways (is_row x r) (other_in x r rows o i) (turned x r ∙ e))
  finds_by way x rows false e o rest (inl f) = absurd (both_ways (is_row r x) e (subst (λ (v : Row). is_row r v ≡ true) f (itself r)))
  finds_by way x rows false e o rest (inr i) = next_finds d r x way rows (first_hit (is_made r.made) (way + 1) rows) (rest i)

  pub finds : (way : ℕ) (rows : List Row) → AreToldApart rows → In r rows → Finds d r way rows (first_hit (is_made r.made) way rows)
  finds way [] t i = i
  finds way (x ∷ rows) t i = finds_by way x rows (is_row r x) refl t.0 (finds (way + 1) rows t.1) i

-- IN ITS SET

module _ (k : Kind) (n set : ℕ) (made : Made) (live : List Row) (sets : List (List Row)) (r : Row) (told : AreToldApart live) (f : IsTied k n live sets)
    (st : Stands k n set made live r) (some : 0 < n) where
  pub set_lt : set < n
  set_lt = let e = st.set_is in omega (arith, some, e)

  own : in_set k n set r ≡ true
  own =
      and_from (same_kind k r.kind) (set == r.region.start % n) (subst (λ v. same_kind v r.kind ≡ true) st.kind_is (kind_itself r.kind))
      (eq-eqb set (r.region.start % n) (sym st.set_is))

  module _ (one : List Row) (value : one ≡ get_or sets set one) where
    one_is : one ≡ filter (in_set k n set) live
    one_is = value ∙ get_or_default sets set one [] (subst (λ v. set < v) (sym f.count) set_lt) ∙ f.each set set_lt

    found : Finds r r 0 one (first_hit (is_made made) 0 one)
    found =
        subst (λ m. Finds r r 0 one (first_hit (is_made m) 0 one)) st.made_is
        (subst (λ xs. Finds r r 0 xs (first_hit (is_made r.made) 0 xs)) (sym one_is)
        (finds r r 0 (filter (in_set k n set) live) (told_filter (in_set k n set) live told) (in_filter (in_set k n set) r live own st.held)))

    -- the set has the row
    pub not_none : {P : Type 0} → first_hit (is_made made) 0 one ≡ None → P
    not_none e = absurd (subst (Finds r r 0 one) e found)

    -- it stands where its making is found
    pub row_is : (w : ℕ) → first_hit (is_made made) 0 one ≡ Some w → row_at sets set w r ≡ r
    row_is w e =
        let h = subst (Finds r r 0 one) e found in
        let at : w ≡ h.0 = let a = h.1 in omega (arith, a) in
        subst (λ v. get_or (get_or sets set []) v r ≡ r) (sym at)
        (subst (λ xs. get_or xs h.0 r ≡ r) (value ∙ get_or_default sets set one [] (subst (λ v. set < v) (sym f.count) set_lt)) h.3)
