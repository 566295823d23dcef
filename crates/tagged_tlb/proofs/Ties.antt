-- The sets of a kind stay what a filter leaves of the list of all rows.
use Rattle.std.proofs.Common.{◌≡◌, ℕ, ◌<◌, ◌≤◌, ◌+◌, Bool, true, false, cond, List, []}
use Rattle.std.proofs.Common.{◌∷◌, ◌++◌, length, get_or, set, map, refl, ap, sym, ◌∙◌}
use Rattle.std.proofs.Common.{subst, arith, inl, inr}
use Rattle.std.specs.Prelude.{filter, ◌==◌, ◌&&◌, ◌%◌, nat_le}
use Rattle.std.specs.List.{remove, list_any}
use Rattle.std.proofs.lemmas.Bool.{cases_eq, cases_Bool, eq-eqb, ne_eqb, eqb-true, both_ways, leb-true, leb-false, and_parts, and_from}
use Rattle.std.proofs.lemmas.List.{length-map, length-set, get_or-set_same, get_or-set_other}
use Rattle.tagged_tlb.specs.declared.row.Kind.{Kind}
use Rattle.tagged_tlb.specs.declared.row.Kind.TheVariants.{Leaf1, Table1, Leaf2, Table2}
use Rattle.tagged_tlb.specs.declared.row.Row.{Row}
use Rattle.sysregs.specs.Equality.{same_bool, same_fields}
use Rattle.trace_lang.specs.Traces.{Header}
use Rattle.tagged_tlb.specs.Shapes.{shape, shape_of}
use Rattle.tagged_tlb.specs.Rows.{same_kind, same_region}
use Rattle.tagged_tlb.specs.Sets.{Cache, victim, without, same_key, placed, added}
use Rattle.tagged_tlb.specs.Tied.{in_set, IsTied}
use Rattle.tagged_tlb.proofs.Lists.{filter-without, filter-other, filter-filter, filter-more, filter-no_more, map_at, any-filter}

-- KINDS AND SETS

pub kind_itself : (k : Kind) → same_kind k k ≡ true
kind_itself Leaf1 = refl
kind_itself Table1 = refl
kind_itself Leaf2 = refl
kind_itself Table2 = refl

pub kind_is : (a b : Kind) → same_kind a b ≡ true → a ≡ b
kind_is Leaf1 Leaf1 h = refl
kind_is Leaf1 Table1 h = absurd (both_ways false refl h)
kind_is Leaf1 Leaf2 h = absurd (both_ways false refl h)
kind_is Leaf1 Table2 h = absurd (both_ways false refl h)
kind_is Table1 Leaf1 h = absurd (both_ways false refl h)
kind_is Table1 Table1 h = refl
kind_is Table1 Leaf2 h = absurd (both_ways false refl h)
kind_is Table1 Table2 h = absurd (both_ways false refl h)
kind_is Leaf2 Leaf1 h = absurd (both_ways false refl h)
kind_is Leaf2 Table1 h = absurd (both_ways false refl h)
kind_is Leaf2 Leaf2 h = refl
kind_is Leaf2 Table2 h = absurd (both_ways false refl h)
kind_is Table2 Leaf1 h = absurd (both_ways false refl h)
kind_is Table2 Table1 h = absurd (both_ways false refl h)
kind_is Table2 Leaf2 h = absurd (both_ways false refl h)
kind_is Table2 Table2 h = refl

-- the set of a row in a cache of so many sets
abbrev pub place : (n : ℕ) (row : Row) → ℕ
place n r = r.region.start % n

in_own : (n : ℕ) (r : Row) → in_set r.kind n (place n r) r ≡ true
in_own n r = and_from (same_kind r.kind r.kind) (place n r == place n r) (kind_itself r.kind) (eq-eqb (place n r) (place n r) refl)

pub in_other : (n s : ℕ) (k : Kind) (r : Row) → (s ≡ place n r → ⊥) → in_set k n s r ≡ false
in_other n s k r ne = rw (ne_eqb s (place n r) ne) (and_no (same_kind k r.kind))
  where
    and_no : (b : Bool) → (b && false) ≡ false
    and_no true = refl
    and_no false = refl

of_other : (n s : ℕ) (k : Kind) (r : Row) → same_kind k r.kind ≡ false → in_set k n s r ≡ false
of_other n s k r h = rw h refl

-- a row of one set is in no other, and a row of one kind in no set of another
pub apart_set : (n s t : ℕ) (k : Kind) → (s ≡ t → ⊥) → (x : Row) → in_set k n t x ≡ true → in_set k n s x ≡ false
apart_set n s t k ne x h =
    let e : t ≡ place n x = eqb-true t (place n x) (and_parts (same_kind k x.kind) (t == place n x) h).1 in
    in_other n s k x (λ f. ne (f ∙ sym e))

pub apart_kind : (n m s t : ℕ) (j k : Kind) → same_kind j k ≡ false → (x : Row) → in_set k n t x ≡ true → in_set j m s x ≡ false
apart_kind n m s t j k ne x h =
    let e : k ≡ x.kind = kind_is k x.kind (and_parts (same_kind k x.kind) (t == place n x) h).0 in
    of_other m s j x (subst (λ v. same_kind j v ≡ false) e ne)

le_yes : {a b : ℕ} → a ≤ b → nat_le a b ≡ true
le_yes {a} {b} h = elim (cases_Bool (nat_le a b)) [ inl t ↦ t | inr f ↦ absurd (omega (arith, h, leb-false a b f)) ]

le_no : {a b : ℕ} → b < a → nat_le a b ≡ false
le_no {a} {b} h = elim (cases_Bool (nat_le a b)) [ inl t ↦ absurd (omega (arith, h, leb-true a b t)) | inr f ↦ f ]

-- KILLS

pub killed_tied : (k : Kind) (n : ℕ) (keep : Row → Bool) (live : List Row) (sets : List (List Row)) → IsTied k n live sets
    → IsTied k n (filter keep live) (map (filter keep) sets)
killed_tied k n keep live sets f = record {
  count = length-map sets (filter keep) ∙ f.count;
  each = λ s h. map_at (filter keep) refl sets s ∙ ap (filter keep) (f.each s h) ∙ filter-filter keep (in_set k n s) live;
}

-- ONE SET IS WRITTEN

-- the list changes, and of the kind's sets only one does
pub set_tied : (k : Kind) (n p : ℕ) (live live2 : List Row) (sets : List (List Row)) (new : List Row) → p < n → IsTied k n live sets
    → new ≡ filter (in_set k n p) live2 → ((s : ℕ) → (s ≡ p → ⊥) → filter (in_set k n s) live2 ≡ filter (in_set k n s) live)
    → IsTied k n live2 (set sets p new)
set_tied k n p live live2 sets new lt f own others = record {
  count = length-set sets p new ∙ f.count;
  each = λ s h. elim (cases_eq p s) as (λ _. get_or (set sets p new) s [] ≡ filter (in_set k n s) live2) [
    | inl e ↦ subst (λ v. get_or (set sets p new) v [] ≡ filter (in_set k n v) live2) e (get_or-set_same sets p new [] (subst (λ v. p < v)
        (sym f.count) lt) ∙ own)
    | inr ne ↦ get_or-set_other sets p s new [] (λ e. ne (sym e)) ∙ f.each s h ∙ sym (others s (λ e. ne (sym e)))
  ];
}

-- no set of another kind does
pub kept_tied : (k : Kind) (n : ℕ) (live live2 : List Row) (sets : List (List Row)) → IsTied k n live sets
    → ((s : ℕ) → filter (in_set k n s) live2 ≡ filter (in_set k n s) live) → IsTied k n live2 sets
kept_tied k n live live2 sets f others = record { count = f.count; each = λ s h. f.each s h ∙ sym (others s) }

-- A ROW COMES

module _ (h : Header) (core n ways : ℕ) (l : Cache) (r : Row) (fits : shape_of h.size r.kind ≡ shape n ways) where
  abbrev pub v : ℕ
  v = victim h.policy core l.evictions ways

  abbrev pub own : List Row → List Row
  own live = filter (in_set r.kind n (place n r)) live

  abbrev pub lost : List Row
  lost = without (in_set r.kind n (place n r)) l.rows v

  more_own : (live : List Row) → own (live ++ r ∷ []) ≡ own live ++ r ∷ []
  more_own live = filter-more (in_set r.kind n (place n r)) live r (in_own n r)

  -- what a set that isn't full holds then
  pub room_tied : (sets : List (List Row)) → place n r < n → IsTied r.kind n l.rows sets
      → IsTied r.kind n (l.rows ++ r ∷ []) (set sets (place n r) (get_or sets (place n r) [] ++ r ∷ []))
  room_tied sets lt f =
      set_tied r.kind n (place n r) l.rows (l.rows ++ r ∷ []) sets (get_or sets (place n r) [] ++ r ∷ []) lt f
      (ap (λ xs. xs ++ r ∷ []) (f.each (place n r) lt) ∙ sym (more_own l.rows))
      (λ s ne. filter-no_more (in_set r.kind n s) l.rows r (in_other n s r.kind r ne))

  -- and a full one
  pub full_tied : (sets : List (List Row)) → place n r < n → IsTied r.kind n l.rows sets
      → IsTied r.kind n (lost ++ r ∷ []) (set sets (place n r) (remove (get_or sets (place n r) []) v ++ r ∷ []))
  full_tied sets lt f =
      set_tied r.kind n (place n r) l.rows (lost ++ r ∷ []) sets (remove (get_or sets (place n r) []) v ++ r ∷ []) lt f
      (ap (λ xs. remove xs v ++ r ∷ []) (f.each (place n r) lt) ∙ ap (λ xs. xs ++ r ∷ []) (sym (filter-without (in_set r.kind n (place n r)) l.rows v))
      ∙ sym (more_own lost))
      (λ s ne. filter-no_more (in_set r.kind n s) lost r (in_other n s r.kind r ne)
      ∙ filter-other (in_set r.kind n (place n r)) (in_set r.kind n s) (apart_set n s (place n r) r.kind ne) l.rows v)

  -- the other kinds keep their sets
  module _ (j : Kind) (m : ℕ) (ne : same_kind j r.kind ≡ false) where
    others_placed : (b : Bool) (s : ℕ)
        → filter (in_set j m s) (cond b (record { rows = lost ++ r ∷ []; evictions = l.evictions + 1 })
        (record l { rows = l.rows ++ r ∷ [] })).rows ≡ filter (in_set j m s) l.rows
    others_placed true s =
        filter-no_more (in_set j m s) lost r (of_other m s j r ne)
        ∙ filter-other (in_set r.kind n (place n r)) (in_set j m s) (apart_kind n m s (place n r) j r.kind ne) l.rows v
    others_placed false s = filter-no_more (in_set j m s) l.rows r (of_other m s j r ne)

    others_by : (b c : Bool) (s : ℕ)
        → filter (in_set j m s) (cond b l (cond c (record { rows = lost ++ r ∷ []; evictions = l.evictions + 1 })
        (record l { rows = l.rows ++ r ∷ [] }))).rows ≡ filter (in_set j m s) l.rows
    others_by true c s = refl
    others_by false c s = others_placed c s

    pub others_tied : (sets : List (List Row)) → IsTied j m l.rows sets → IsTied j m (added h core l r).rows sets
    others_tied sets f =
        subst (λ s. IsTied j m (cond (list_any (same_key r) l.rows) l (placed h core s l r)).rows sets) (sym fits)
        (kept_tied j m l.rows (cond (list_any (same_key r) l.rows) l (placed h core (shape n ways) l r)).rows sets f (others_by (list_any
        (same_key r) l.rows) (nat_le ways (length (own l.rows)))))

  key_in_set : (x : Row) → same_key r x ≡ true → in_set r.kind n (place n r) x ≡ true
  key_in_set x e =
      let a : Bool = same_kind r.kind x.kind in
      let b : Bool = same_region r.region x.region in
      let c : Bool = r.key.vmid == x.key.vmid in
      let d : Bool = r.key.asid == x.key.asid in
      let g : Bool = same_bool r.global x.global in
      let k5 = and_parts (a && b && c && d && g) (same_fields r.key.config x.key.config) e in
      let k4 = and_parts (a && b && c && d) g k5.0 in
      let k3 = and_parts (a && b && c) d k4.0 in
      let k2 = and_parts (a && b) c k3.0 in
      let k1 = and_parts a b k2.0 in
      let start : r.region.start ≡ x.region.start = eqb-true r.region.start x.region.start (and_parts (r.region.class == x.region.class)
      (r.region.start == x.region.start) k1.1).1 in
      and_from a (place n r == place n x) k1.0 (eq-eqb (place n r) (place n x) (ap (λ y. y % n) start))

  -- a row of the same key is looked for in one set
  pub has_tied : (sets : List (List Row)) → place n r < n → IsTied r.kind n l.rows sets
      → list_any (same_key r) (get_or sets (place n r) []) ≡ list_any (same_key r) l.rows
  has_tied sets lt f = ap (list_any (same_key r)) (f.each (place n r) lt) ∙ sym (any-filter (same_key r) (in_set r.kind n (place n r)) l.rows key_in_set)

  abbrev pub with_room : Cache
  with_room = record l { rows = l.rows ++ r ∷ [] }

  abbrev pub with_loss : Cache
  with_loss = record { rows = lost ++ r ∷ []; evictions = l.evictions + 1 }

  -- what the row makes of the list, told by its set
  module _ (sets : List (List Row)) (lt : place n r < n) (f : IsTied r.kind n l.rows sets) where
    pub added_none : list_any (same_key r) (get_or sets (place n r) []) ≡ true → added h core l r ≡ l
    added_none e = ap (λ b. cond b l (placed h core (shape_of h.size r.kind) l r)) (sym (has_tied sets lt f) ∙ e)

    added_new : list_any (same_key r) (get_or sets (place n r) []) ≡ false → added h core l r ≡ placed h core (shape n ways) l r
    added_new e = ap (λ b. cond b l (placed h core (shape_of h.size r.kind) l r)) (sym (has_tied sets lt f) ∙ e) ∙ ap (λ s. placed h core s l r) fits

    is_long : ways ≤ length (get_or sets (place n r) []) → ways ≤ length (own l.rows)
    is_long e = subst (λ xs. ways ≤ length xs) (f.each (place n r) lt) e

    is_short : length (get_or sets (place n r) []) < ways → length (own l.rows) < ways
    is_short e = subst (λ xs. length xs < ways) (f.each (place n r) lt) e

    pub added_room : list_any (same_key r) (get_or sets (place n r) []) ≡ false → length (get_or sets (place n r) []) < ways
        → added h core l r ≡ with_room
    added_room e k = added_new e ∙ ap (λ b. cond b with_loss with_room) (le_no (is_short k))

    pub added_full : list_any (same_key r) (get_or sets (place n r) []) ≡ false → ways ≤ length (get_or sets (place n r) [])
        → added h core l r ≡ with_loss
    added_full e k = added_new e ∙ ap (λ b. cond b with_loss with_room) (le_yes (is_long k))
