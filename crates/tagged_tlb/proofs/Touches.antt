-- A row that served goes last: in its set, and in the list of all rows.
use Rattle.std.proofs.Common.{◌≡◌, ℕ, zero, suc, ◌<◌, Bool, true, false, not, cond, List, []}
use Rattle.std.proofs.Common.{◌∷◌, ◌++◌, length, get_or, set, refl, ap, sym, ◌∙◌}
use Rattle.std.proofs.Common.{subst, arith, inl, inr}
use Rattle.std.specs.Prelude.{filter, ◌==◌}
use Rattle.std.specs.List.{remove}
use Rattle.std.proofs.lemmas.Bool.{cases_eq, eq-eqb, ne_eqb, and_from}
use Rattle.std.proofs.lemmas.List.{get_or_default}
use Rattle.tagged_tlb.specs.declared.row.Kind.{Kind}
use Rattle.tagged_tlb.specs.declared.row.Row.{Row}
use Rattle.tagged_tlb.specs.Sets.{without, is_row, to_end}
use Rattle.tagged_tlb.specs.Tied.{in_set, IsTied, IsOther, AreToldApart, row_at}
use Rattle.tagged_tlb.proofs.Lists.{filter-without, filter-other, filter-more, filter-no_more}
use Rattle.tagged_tlb.specs.Rows.{same_kind}
use Rattle.tagged_tlb.proofs.Ties.{apart_set, apart_kind, set_tied, kept_tied}

pub itself : (r : Row) → is_row r r ≡ true
itself r = and_from (r.made.step == r.made.step) (r.made.order == r.made.order) (eq-eqb r.made.step r.made.step refl) (eq-eqb r.made.order r.made.order refl)

eqb_turned : (a b : ℕ) → (a == b) ≡ (b == a)
eqb_turned a b = elim (cases_eq a b) [
  | inl e ↦ eq-eqb a b e ∙ sym (eq-eqb b a (sym e))
  | inr ne ↦ ne_eqb a b ne ∙ sym (ne_eqb b a (λ e. ne (sym e)))
]

pub turned : (r s : Row) → is_row r s ≡ is_row s r
turned r s = rw (eqb_turned r.made.step s.made.step, eqb_turned r.made.order s.made.order) refl

-- A ROW AMONG OTHERS

other_if : (y s : Row) (ss : List Row) (b : Bool) → is_row y s ≡ false → IsOther y ss → IsOther y (cond b (s ∷ ss) ss)
other_if y s ss true h o = (h, o)
other_if y s ss false h o = o

pub other_filter : (q : Row → Bool) (y : Row) (ys : List Row) → IsOther y ys → IsOther y (filter q ys)
other_filter q y [] o = tt
other_filter q y (s ∷ ys) o = other_if y s (filter q ys) (q s) o.0 (other_filter q y ys o.1)

other_at : (y : Row) (ys : List Row) (k : ℕ) (d : Row) → IsOther y ys → k < length ys → is_row y (get_or ys k d) ≡ false
other_at y [] k d o h = absurd (omega (arith, h))
other_at y (s ∷ ys) zero d o h = o.0
other_at y (s ∷ ys) (suc k) d o h = other_at y ys k d o.1 (omega (arith, h))

pub all_kept : (y : Row) (ys : List Row) → IsOther y ys → filter (λ x. not (is_row y x)) ys ≡ ys
all_kept y [] o = refl
all_kept y (s ∷ ys) o = rw o.0 (ap (λ v. s ∷ v) (all_kept y ys o.1))

-- the list without the very row, which stands in a set at a place
module _ (q : Row → Bool) (d : Row) where
  abbrev Loses : List Row → ℕ → Type 0
  Loses xs way = filter (λ x. not (is_row (get_or (filter q xs) way d) x)) xs ≡ without q xs way

  module _ (y : Row) (ys : List Row) (o : IsOther y ys) (rest : (k : ℕ) → k < length (filter q ys) → Loses ys k) where
    kept : (k : ℕ) → k < length (filter q ys) → filter (λ x. not (is_row (get_or (filter q ys) k d) x)) (y ∷ ys) ≡ y ∷ without q ys k
    kept k lt =
        let no : is_row (get_or (filter q ys) k d) y ≡ false = turned (get_or (filter q ys) k d) y
        ∙ other_at y (filter q ys) k d (other_filter q y ys o) lt in
        ap (λ b. cond (not b) (y ∷ filter (λ x. not (is_row (get_or (filter q ys) k d) x)) ys)
        (filter (λ x. not (is_row (get_or (filter q ys) k d) x)) ys)) no
        ∙ ap (λ v. y ∷ v) (rest k lt)

    loses_by : (b : Bool) (way : ℕ) → way < length (cond b (y ∷ filter q ys) (filter q ys))
        → filter (λ x. not (is_row (get_or (cond b (y ∷ filter q ys) (filter q ys)) way d) x)) (y ∷ ys)
        ≡ elim way [ zero ↦ cond b ys (y ∷ without q ys zero) | suc k ↦ cond b (y ∷ without q ys k) (y ∷ without q ys (suc k)) ]
    loses_by true zero lt =
        ap (λ b. cond (not b) (y ∷ filter (λ x. not (is_row y x)) ys) (filter (λ x. not (is_row y x)) ys)) (itself y) ∙ all_kept y ys o
    loses_by true (suc k) lt = kept k (omega (arith, lt))
    loses_by false zero lt = kept zero lt
    loses_by false (suc k) lt = kept (suc k) lt

  pub loses : (xs : List Row) (way : ℕ) → AreToldApart xs → way < length (filter q xs) → Loses xs way
  loses [] way t h = absurd (omega (arith, h))
  loses (y ∷ ys) zero t h = loses_by y ys t.0 (λ k lt. loses ys k t.1 lt) (q y) zero h
  loses (y ∷ ys) (suc k) t h = loses_by y ys t.0 (λ k lt. loses ys k t.1 lt) (q y) (suc k) h

  passes_by : (x : Row) (xs : List Row) (b : Bool) → q x ≡ b → ((j : ℕ) → j < length (filter q xs) → q (get_or (filter q xs) j d) ≡ true)
      → (i : ℕ) → i < length (cond b (x ∷ filter q xs) (filter q xs)) → q (get_or (cond b (x ∷ filter q xs) (filter q xs)) i d) ≡ true
  passes_by x xs true e rest zero lt = e
  passes_by x xs true e rest (suc j) lt = rest j (omega (arith, lt))
  passes_by x xs false e rest j lt = rest j lt

  pub passes : (xs : List Row) (i : ℕ) → i < length (filter q xs) → q (get_or (filter q xs) i d) ≡ true
  passes [] i h = absurd (omega (arith, h))
  passes (x ∷ xs) i h = passes_by x xs (q x) refl (λ j lt. passes xs j lt) i h

-- THE SETS

module _ (k : Kind) (n at way : ℕ) (d : Row) (live : List Row) (sets : List (List Row)) (told : AreToldApart live) (f : IsTied k n live sets) (lt : at < n)
    (within : way < length (get_or sets at [])) where
  abbrev r : Row
  r = row_at sets at way d

  abbrev rest : List Row
  rest = without (in_set k n at) live way

  r_is : r ≡ get_or (filter (in_set k n at) live) way d
  r_is = ap (λ xs. get_or xs way d) (f.each at lt)

  within2 : way < length (filter (in_set k n at) live)
  within2 = subst (λ xs. way < length xs) (f.each at lt) within

  to_end_is : to_end live r ≡ rest ++ r ∷ []
  to_end_is = ap (λ (v : Row). filter (λ x. not (is_row v x)) live ++ r ∷ []) r_is ∙ ap (λ xs. xs ++ r ∷ [])
      (loses (in_set k n at) d live way told within2)

  r_in : in_set k n at r ≡ true
  r_in = rw r_is (passes (in_set k n at) d live way within2)

  pub touched_tied : IsTied k n (to_end live r) (set sets at (remove (get_or sets at []) way ++ r ∷ []))
  touched_tied =
      rw to_end_is
      (set_tied k n at live (rest ++ r ∷ []) sets (remove (get_or sets at []) way ++ r ∷ []) lt f
      (ap (λ xs. remove xs way ++ r ∷ []) (f.each at lt) ∙ ap (λ xs. xs ++ r ∷ []) (sym (filter-without (in_set k n at) live way))
      ∙ sym (filter-more (in_set k n at) rest r r_in))
      (λ s ne. filter-no_more (in_set k n s) rest r (apart_set n s at k ne r r_in)
      ∙ filter-other (in_set k n at) (in_set k n s) (apart_set n s at k ne) live way))

  -- the other kinds keep their sets
  pub touched_other : (j : Kind) (m : ℕ) → same_kind j k ≡ false → (theirs : List (List Row)) → IsTied j m live theirs
      → IsTied j m (to_end live r) theirs
  touched_other j m ne theirs g =
      rw to_end_is
      (kept_tied j m live (rest ++ r ∷ []) theirs g
      (λ s. filter-no_more (in_set j m s) rest r (apart_kind n m s at j k ne r r_in)
      ∙ filter-other (in_set k n at) (in_set j m s) (apart_kind n m s at j k ne) live way))

pub touched_here : (k : Kind) (n at way : ℕ) (d : Row) (live : List Row) (sets : List (List Row)) → AreToldApart live → IsTied k n live sets → at < n
    → way < length (get_or sets at []) → (one : List Row) → one ≡ get_or sets at one → (new : List Row) → ((d : Row)
    → new ≡ remove one way ++ get_or one way d ∷ [])
    → IsTied k n (to_end live (row_at sets at way d)) (set sets at new)
touched_here k n at way d live sets told f lt within one value new e =
    let one_is : one ≡ get_or sets at [] = value ∙ get_or_default sets at one [] (subst (λ v. at < v) (sym f.count) lt) in
    let new_is : new ≡ remove (get_or sets at []) way ++ row_at sets at way d ∷ [] = e d ∙ ap (λ xs. remove xs way ++ get_or xs way d ∷ []) one_is in
    rw new_is (touched_tied k n at way d live sets told f lt within)
