-- What a row that comes leaves of the sets.
use Rattle.std.proofs.Common.{◌≡◌, ℕ, ◌<◌, ◌≤◌, ◌+◌, Bool, true, false, List, [], ◌∷◌}
use Rattle.std.proofs.Common.{◌++◌, length, get_or, set, refl, sym, ◌∙◌, subst, arith, inl, inr}
use Rattle.std.specs.List.{remove, list_any}
use Rattle.std.proofs.lemmas.Bool.{cases_lt}
use Rattle.std.proofs.lemmas.List.{get_or_default}
use Rattle.tagged_tlb.specs.declared.chooser.Chooser.{Chooser}
use Rattle.tagged_tlb.specs.declared.row.Row.{Row}
use Rattle.trace_lang.specs.Traces.{Header}
use Rattle.tagged_tlb.specs.Shapes.{shape, shape_of}
use Rattle.tagged_tlb.specs.Sets.{Cache, victim, same_key, added}
use Rattle.tagged_tlb.specs.Tied.{IsTied, IsAdded, IsAt}
use Rattle.tagged_tlb.proofs.Ties.{place, set_tied, room_tied, full_tied, added_none, added_room, added_full}

module _ (h : Header) (core n ways : ℕ) (l : Cache) (r : Row) (fits : shape_of h.size r.kind ≡ shape n ways) (sets : List (List Row)) (by : Chooser)
    (same : h.policy ≡ by.policy) (some : 0 < n) (f : IsTied r.kind n l.rows sets) (at : IsAt core l.evictions by)
    (one : List Row) (value : one ≡ get_or sets (place n r) one) where
  lt : place n r < n
  lt = omega (arith, some)

  one_is : one ≡ get_or sets (place n r) []
  one_is = value ∙ get_or_default sets (place n r) one [] (subst (λ k. place n r < k) (sym f.count) lt)

  any_is : (b : Bool) → list_any (same_key r) one ≡ b → list_any (same_key r) (get_or sets (place n r) []) ≡ b
  any_is b e = subst (λ xs. list_any (same_key r) xs ≡ b) one_is e

  -- one would serve the same
  pub was_there : list_any (same_key r) one ≡ true → IsAdded r.kind n core l (added h core l r) false by (set sets (place n r) one)
  was_there e =
      subst (λ m. IsAdded r.kind n core l m false by (set sets (place n r) one)) (sym (added_none h core n ways l r fits sets lt f (any_is true e)))
      (record {
        tied = set_tied r.kind n (place n r) l.rows l.rows sets one lt f (one_is
            ∙ f.each (place n r) lt) (λ s ne. refl);
        at = at;
        count = omega arith;
      })

  module _ (new : List Row) (lost : Bool) (by2 : Chooser) (none : list_any (same_key r) one ≡ false) where
    with_room_added : length one < ways → (new ≡ one ++ r ∷ []) × (lost ≡ false) × (by2 ≡ by)
        → IsAdded r.kind n core l (added h core l r) lost by2 (set sets (place n r) new)
    with_room_added k e =
        let short : length (get_or sets (place n r) []) < ways = subst (λ xs. length xs < ways) one_is k in
        rw (added_room h core n ways l r fits sets lt f (any_is false none) short, e.0, e.1, e.2)
        (record { tied = rw one_is (room_tied h core n ways l r fits sets lt f); at = at; count = omega arith })

    full_added : ways ≤ length one → (new ≡ remove one (victim h.policy core l.evictions ways) ++ r ∷ []) × (lost ≡ true)
        × IsAt core (l.evictions + 1) by2
        → IsAdded r.kind n core l (added h core l r) lost by2 (set sets (place n r) new)
    full_added k e =
        let long : ways ≤ length (get_or sets (place n r) []) = subst (λ xs. ways ≤ length xs) one_is k in
        rw (added_full h core n ways l r fits sets lt f (any_is false none) long, e.0, e.1)
        (record { tied = rw one_is (full_tied h core n ways l r fits sets lt f); at = e.2; count = refl })

    -- none would
    pub was_filled : (length one < ways → (new ≡ one ++ r ∷ []) × (lost ≡ false) × (by2 ≡ by))
        → (ways ≤ length one → (core n : ℕ) → IsAt core n by
        → (new ≡ remove one (victim by.policy core n ways) ++ r ∷ []) × (lost ≡ true) × IsAt core (n + 1) by2)
        → IsAdded r.kind n core l (added h core l r) lost by2 (set sets (place n r) new)
    was_filled room full = elim (cases_lt (length one) ways) [
      | inl k ↦ with_room_added k (room k)
      | inr k ↦ full_added k (subst (λ p. (new ≡ remove one (victim p core l.evictions ways) ++ r ∷ []) × (lost ≡ true)
          × IsAt core (l.evictions + 1) by2)
          (sym same) (full k core l.evictions at))
    ]
