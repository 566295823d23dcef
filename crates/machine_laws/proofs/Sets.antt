-- What a full set loses when a row is made, and which rows a step leaves.
use Rattle.std.proofs.Common.{◌≡◌, ℕ, zero, suc, ◌+◌, ◌<◌, arith, Bool, true, false, cond, List, [], ◌∷◌}
use Rattle.std.proofs.Common.{◌++◌, length, ◌⊎◌, inl, inr, refl, sym, ap, ◌∙◌, subst, append-nil}
use Rattle.std.specs.Prelude.{filter, fold, nat_le, not, ◌==◌, ◌%◌}
use Rattle.std.specs.List.{remove, list_any}
use Rattle.std.proofs.lemmas.Bool.{and_from, both_ways, cases_Bool, eq-eqb}
use Rattle.std.proofs.lemmas.List.Elements.{filter-append}
use Rattle.trace_lang.specs.declared.header.Policy.{Policy}
use Rattle.trace_lang.specs.declared.header.Policy.TheVariants.{Lru, Fifo, Random}
use Rattle.tagged_tlb.specs.declared.row.Kind.{Kind}
use Rattle.tagged_tlb.specs.declared.row.Kind.TheVariants.{Leaf1, Table1, Leaf2, Table2}
use Rattle.tagged_tlb.specs.Shapes.{Shape, shape_of, keeps_rows}
use Rattle.machine_spec.specs.Header.{Header}
use Rattle.tagged_tlb.specs.declared.row.Row.{Row}
use Rattle.tagged_tlb.specs.Rows.{same_kind}
use Rattle.tagged_tlb.specs.Sets.{Cache, victim, without, same_set, same_key, placed, added, is_row, to_end, touched, filled}
use Rattle.tagged_tlb.proofs.Lists.{filter-without, filter-other}
use Rattle.tagged_tlb.proofs.Ties.{kind_itself}
use Rattle.machine_laws.specs.Rules.{SetLoses, FullSetsLoseOne}
use Rattle.machine_laws.proofs.Facts.{In}
use Rattle.machine_laws.proofs.Lists.{In-from_filter, In-push_cases, In-without}

-- ONE SET

-- a row is in its own set
pub same_set_itself : (s : Shape) (r : Row) → same_set s r r ≡ true
same_set_itself s r =
    and_from (same_kind r.kind r.kind) (r.region.start % s.sets == r.region.start % s.sets) (kind_itself r.kind)
    (eq-eqb (r.region.start % s.sets) (r.region.start % s.sets) refl)

module _ (h : Header) (c : ℕ) (s : Shape) (l : Cache) (r : Row) where
  abbrev with_loss : Cache
  with_loss = record { rows = without (same_set s r) l.rows (victim h.policy c l.evictions s.ways) ++ r ∷ []; evictions = l.evictions + 1 }

  own_set : filter (same_set s r) (without (same_set s r) l.rows (victim h.policy c l.evictions s.ways) ++ r ∷ [])
      ≡ remove (filter (same_set s r) l.rows) (victim h.policy c l.evictions s.ways) ++ r ∷ []
  own_set =
      let n : ℕ = victim h.policy c l.evictions s.ways in
      filter-append (same_set s r) (without (same_set s r) l.rows n) (r ∷ [])
      ∙ ap (λ b. filter (same_set s r) (without (same_set s r) l.rows n) ++ cond b (r ∷ []) []) (same_set_itself s r)
      ∙ ap (λ v. v ++ r ∷ []) (filter-without (same_set s r) l.rows n)

  -- the new row at the end of a list doesn't pass
  not_new : (test : Row → Bool) → test r ≡ false → (xs : List Row) → filter test (xs ++ r ∷ []) ≡ filter test xs
  not_new test fails xs = filter-append test xs (r ∷ []) ∙ ap (λ b. filter test xs ++ cond b (r ∷ []) []) fails ∙ append-nil (filter test xs)

  abbrev with_room : Cache
  with_room = record l { rows = l.rows ++ r ∷ [] }

  -- a test that no row of the set passes
  module _ (test : Row → Bool) (apart : (x : Row) → test x ≡ true → same_set s r x ≡ false) where
    new_fails : test r ≡ false
    new_fails = elim (cases_Bool (test r)) [ inl t ↦ absurd (both_ways (same_set s r r) (apart r t) (same_set_itself s r)) | inr f ↦ f ]

    old_fails : (x : Row) → same_set s r x ≡ true → test x ≡ false
    old_fails x t = elim (cases_Bool (test x)) [ inl u ↦ absurd (both_ways (same_set s r x) (apart x u) t) | inr f ↦ f ]

    others_by : (b : Bool) → filter test (cond b with_loss with_room).rows ≡ filter test l.rows
    others_by true =
        let n : ℕ = victim h.policy c l.evictions s.ways in
        not_new test new_fails (without (same_set s r) l.rows n) ∙ filter-other (same_set s r) test old_fails l.rows n
    others_by false = not_new test new_fails l.rows

  -- the policy names a row of a set that has one
  victim_within : (policy : Policy) → 0 < s.ways → victim policy c l.evictions s.ways < s.ways
  victim_within Lru w = w
  victim_within Fifo w = w
  victim_within (Random start) w = omega arith

  pub set_loses : SetLoses h c s l r
  set_loses = record {
    full = λ e. subst (λ b. filter (same_set s r) (cond b with_loss with_room).rows
        ≡ remove (filter (same_set s r) l.rows) (victim h.policy c l.evictions s.ways) ++ r ∷ []) (sym e) own_set;
    one = victim_within h.policy;
    room = λ e. subst (λ b. (cond b with_loss with_room).rows ≡ l.rows ++ r ∷ []) (sym e) refl;
    others = λ test apart. others_by test apart (nat_le s.ways (length (filter (same_set s r) l.rows)));
  }

-- A full set loses the row that the policy names and gets the new one, and a set that isn't full loses none.
pub full_sets_lose_one : FullSetsLoseOne
full_sets_lose_one h c s l r = set_loses h c s l r

-- WHICH ROWS A STEP LEAVES

module _ (h : Header) (c : ℕ) where
  placed_by : (s : Shape) (l : Cache) (r x : Row) (b : Bool) → In x (cond b (with_loss h c s l r) (with_room h c s l r)).rows → In x l.rows ⊎ (x ≡ r)
  placed_by s l r x true i =
      let n : ℕ = victim h.policy c l.evictions s.ways in
      elim (In-push_cases (without (same_set s r) l.rows n) r x i) [ inl j ↦ inl (In-without (same_set s r) l.rows n x j) | inr e ↦ inr e ]
  placed_by s l r x false i = In-push_cases l.rows r x i

  In-placed : (s : Shape) (l : Cache) (r x : Row) → In x (placed h c s l r).rows → In x l.rows ⊎ (x ≡ r)
  In-placed s l r x i = placed_by s l r x (nat_le s.ways (length (filter (same_set s r) l.rows))) i

  added_by : (l : Cache) (r x : Row) (b : Bool) → In x (cond b l (placed h c (shape_of h.size r.kind) l r)).rows → In x l.rows ⊎ (x ≡ r)
  added_by l r x true i = inl i
  added_by l r x false i = In-placed (shape_of h.size r.kind) l r x i

  pub In-added : (l : Cache) (r x : Row) → In x (added h c l r).rows → In x l.rows ⊎ (x ≡ r)
  In-added l r x i = added_by l r x (list_any (same_key r) l.rows) i

  pub all_added : (made : List Row) (l : Cache) (x : Row) → In x (fold (added h c) l made).rows → In x l.rows ⊎ In x made
  all_added [] l x i = inl i
  all_added (r ∷ made) l x i = elim (all_added made (added h c l r) x i) [
    | inl j ↦ elim (In-added l r x j) [ inl k ↦ inl k | inr e ↦ inr (inl e) ]
    | inr j ↦ inr (inr j)
  ]

all_to_end : (served rows : List Row) (x : Row) → In x (fold to_end rows served) → In x rows ⊎ In x served
all_to_end [] rows x i = inl i
all_to_end (r ∷ served) rows x i = elim (all_to_end served (to_end rows r) x i) [
  | inl j ↦ elim (In-push_cases (filter (λ (y : Row). not (is_row r y)) rows) r x j) [
    | inl k ↦ inl (In-from_filter (λ (y : Row). not (is_row r y)) rows x k).0
    | inr e ↦ inr (inl e)
  ]
  | inr j ↦ inr (inr j)
]

pub In-touched : (policy : Policy) (rows served : List Row) (x : Row) → In x (touched policy rows served) → In x rows ⊎ In x served
In-touched Lru rows served x i = all_to_end served rows x i
In-touched Fifo rows served x i = inl i
In-touched (Random start) rows served x i = inl i

filled_by : (h : Header) (c : ℕ) (l : Cache) (served made : List Row) (x : Row) (b : Bool)
    → In x (cond b (fold (added h c) (record l { rows = touched h.policy l.rows served }) made) l).rows → (In x l.rows ⊎ In x served) ⊎ In x made
filled_by h c l served made x true i = elim (all_added h c made (record l { rows = touched h.policy l.rows served }) x i) [
  | inl j ↦ inl (In-touched h.policy l.rows served x j)
  | inr j ↦ inr j
]
filled_by h c l served made x false i = inl (inl i)

-- each row behind a step was there, served in it, or was made in it
pub In-filled : (h : Header) (c : ℕ) (l : Cache) (served made : List Row) (x : Row) → In x (filled h c l served made).rows
    → (In x l.rows ⊎ In x served) ⊎ In x made
In-filled h c l served made x i = filled_by h c l served made x (keeps_rows h.size) i
