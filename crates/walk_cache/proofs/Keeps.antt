-- Rows that come, move and go stay told apart, and their classes small.
use Rattle.std.proofs.Common.{◌≡◌, ◌⊎◌, ℕ, zero, suc, ◌<◌, Bool, true, false, not, cond}
use Rattle.std.proofs.Common.{List, [], ◌∷◌, ◌++◌, length, inl, inr, refl, sym}
use Rattle.std.proofs.Common.{subst, arith}
use Rattle.std.specs.Prelude.{filter, fold, ◌+◌, ◌==◌, ◌&&◌, ◌||◌, nat_le, nat_lt}
use Rattle.std.specs.List.{list_any}
use Rattle.std.proofs.lemmas.Bool.{cases_Bool, and_parts, eqb-true, ltb-true}
use Rattle.trace_lang.specs.declared.header.Policy.{Policy}
use Rattle.trace_lang.specs.declared.header.Policy.TheVariants.{Lru, Fifo, Random}
use Rattle.trace_lang.specs.Traces.{Header}
use Rattle.tlbi_ops.specs.declared.inval.Inval.{Inval}
use Rattle.tlbi_ops.specs.Covers.{covers}
use Rattle.tagged_tlb.specs.declared.row.Row.{Row}
use Rattle.tagged_tlb.specs.Rows.{is_older}
use Rattle.tagged_tlb.specs.Shapes.{Shape, shape_of, keeps_rows}
use Rattle.tagged_tlb.specs.Sets.{Cache, victim, without, same_set, same_key, added, is_row, to_end, touched, filled}
use Rattle.tagged_tlb.specs.Stands.{In}
use Rattle.tagged_tlb.specs.Tied.{IsOther, AreToldApart, AreSmall}
use Rattle.tagged_tlb.proofs.Order.{told_filter}
use Rattle.tagged_tlb.proofs.Stands.{other_in, in_whole}
use Rattle.machine_spec.specs.Machine.{killed}
use Rattle.walk_cache.proofs.Moves.{told_more, told_end}

-- WHICH ROWS ARE LEFT

in_first : {X : Type 0} (p : X → Bool) (x y : X) (xs : List X) (b : Bool) → (In x (without p xs zero) → In x xs)
    → In x (cond b xs (y ∷ without p xs zero)) → In x (y ∷ xs)
in_first p x y xs true rest i = inr i
in_first p x y xs false rest (inl e) = inl e
in_first p x y xs false rest (inr i) = inr (rest i)

in_later : {X : Type 0} (p : X → Bool) (x y : X) (xs : List X) (n : ℕ) (b : Bool) → (In x (without p xs n) → In x xs)
    → (In x (without p xs (suc n)) → In x xs) → In x (cond b (y ∷ without p xs n) (y ∷ without p xs (suc n))) → In x (y ∷ xs)
in_later p x y xs n true rest rest2 (inl e) = inl e
in_later p x y xs n true rest rest2 (inr i) = inr (rest i)
in_later p x y xs n false rest rest2 (inl e) = inl e
in_later p x y xs n false rest rest2 (inr i) = inr (rest2 i)

-- what a list without one has
pub in_without : {X : Type 0} (p : X → Bool) (x : X) (xs : List X) (n : ℕ) → In x (without p xs n) → In x xs
in_without p x [] n i = i
in_without p x (y ∷ xs) zero i = in_first p x y xs (p y) (in_without p x xs zero) i
in_without p x (y ∷ xs) (suc n) i = in_later p x y xs n (p y) (in_without p x xs n) (in_without p x xs (suc n)) i

pub in_more : {X : Type 0} (x y : X) (xs : List X) → In x (xs ++ y ∷ []) → In x xs ⊎ (x ≡ y)
in_more x y [] (inl e) = inr e
in_more x y [] (inr i) = absurd i
in_more x y (z ∷ xs) (inl e) = inl (inl e)
in_more x y (z ∷ xs) (inr i) = elim (in_more x y xs i) [ inl j ↦ inl (inr j) | inr e ↦ inr e ]

-- SMALL CLASSES

pub small_in : (rows : List Row) → ((x : Row) → In x rows → x.region.class < 64) → AreSmall rows
small_in [] h = tt
small_in (r ∷ rows) h = (h r (inl refl), small_in rows (λ x i. h x (inr i)))

pub small_at : (rows : List Row) → AreSmall rows → (x : Row) → In x rows → x.region.class < 64
small_at [] s x i = absurd i
small_at (r ∷ rows) s x (inl e) = subst (λ (v : Row). v.region.class < 64) (sym e) s.0
small_at (r ∷ rows) s x (inr i) = small_at rows s.1 x i

-- a row of a small class comes
pub small_more : (r : Row) (rows : List Row) → AreSmall rows → r.region.class < 64 → AreSmall (rows ++ r ∷ [])
small_more r [] s c = (c, tt)
small_more r (x ∷ rows) s c = (s.0, small_more r rows s.1 c)

small_if : (x : Row) (rows : List Row) (b : Bool) → x.region.class < 64 → AreSmall rows → AreSmall (cond b (x ∷ rows) rows)
small_if x rows true c s = (c, s)
small_if x rows false c s = s

pub small_filter : (p : Row → Bool) (rows : List Row) → AreSmall rows → AreSmall (filter p rows)
small_filter p [] s = tt
small_filter p (x ∷ rows) s = small_if x (filter p rows) (p x) s.0 (small_filter p rows s.1)

-- INVALIDATIONS

pub told_killed : (l : Cache) (i : Inval) → AreToldApart l.rows → AreToldApart (killed l i).rows
told_killed l i t = told_filter (λ r. not (covers i r.tag)) l.rows t

pub small_killed : (l : Cache) (i : Inval) → AreSmall l.rows → AreSmall (killed l i).rows
small_killed l i s = small_filter (λ r. not (covers i r.tag)) l.rows s

-- SERVICES

pub small_end : (rows : List Row) (r : Row) → AreSmall rows → r.region.class < 64 → AreSmall (to_end rows r)
small_end rows r s c = small_more r (filter (λ x. not (is_row r x)) rows) (small_filter (λ x. not (is_row r x)) rows s) c

told_ends : (rows served : List Row) → AreToldApart rows → AreToldApart (fold to_end rows served)
told_ends rows [] t = t
told_ends rows (r ∷ served) t = told_ends (to_end rows r) served (told_end rows t r)

small_ends : (rows served : List Row) → AreSmall rows → AreSmall served → AreSmall (fold to_end rows served)
small_ends rows [] s c = s
small_ends rows (r ∷ served) s c = small_ends (to_end rows r) served (small_end rows r s c.0) c.1

pub told_touched : (policy : Policy) (rows served : List Row) → AreToldApart rows → AreToldApart (touched policy rows served)
told_touched Lru rows served t = told_ends rows served t
told_touched Fifo rows served t = t
told_touched (Random start) rows served t = t

pub small_touched : (policy : Policy) (rows served : List Row) → AreSmall rows → AreSmall served → AreSmall (touched policy rows served)
small_touched Lru rows served s c = small_ends rows served s c
small_touched Fifo rows served s c = s
small_touched (Random start) rows served s c = s

-- ROWS THAT COME

no_less : (a : ℕ) → nat_lt a a ≡ true → ⊥
no_less a h = let l = ltb-true a a h in omega (arith, l)

-- a row that was made later is another
pub later_other : (x r : Row) → is_older x.made r.made ≡ true → is_row x r ≡ false
later_other x r h = elim (cases_Bool (is_row x r)) [
  | inl t ↦
      let p = and_parts (x.made.step == r.made.step) (x.made.order == r.made.order) t in
      let step : x.made.step ≡ r.made.step = eqb-true x.made.step r.made.step p.0 in
      let order : x.made.order ≡ r.made.order = eqb-true x.made.order r.made.order p.1 in
      elim (cases_Bool (nat_lt x.made.step r.made.step)) [
        | inl a ↦ absurd (no_less r.made.step (subst (λ v. nat_lt v r.made.step ≡ true) step a))
        | inr a ↦
            let q = subst (λ v. (v || ((x.made.step == r.made.step) && nat_lt x.made.order r.made.order)) ≡ true) a h in
            absurd (no_less r.made.order (subst (λ v. nat_lt v r.made.order ≡ true) order
            (and_parts (x.made.step == r.made.step) (nat_lt x.made.order r.made.order) q).1))
      ]
  | inr f2 ↦ f2
]

other_from : (y : Row) (ys : List Row) → ((x : Row) → In x ys → is_row y x ≡ false) → IsOther y ys
other_from y [] h = tt
other_from y (x ∷ ys) h = (h x (inl refl), other_from y ys (λ z i. h z (inr i)))

other_without : (p : Row → Bool) (y : Row) (ys : List Row) (n : ℕ) → IsOther y ys → IsOther y (without p ys n)
other_without p y ys n o = other_from y (without p ys n) (λ x i. other_in y x ys o (in_without p x ys n i))

told_first : (p : Row → Bool) (y : Row) (ys : List Row) (b : Bool) → AreToldApart ys → IsOther y (without p ys zero) → AreToldApart (without p ys zero)
    → AreToldApart (cond b ys (y ∷ without p ys zero))
told_first p y ys true t o rest = t
told_first p y ys false t o rest = (o, rest)

told_later : (p : Row → Bool) (y : Row) (ys : List Row) (n : ℕ) (b : Bool) → IsOther y (without p ys n) → AreToldApart (without p ys n)
    → IsOther y (without p ys (suc n)) → AreToldApart (without p ys (suc n))
    → AreToldApart (cond b (y ∷ without p ys n) (y ∷ without p ys (suc n)))
told_later p y ys n true o t o2 t2 = (o, t)
told_later p y ys n false o t o2 t2 = (o2, t2)

pub told_without : (p : Row → Bool) (rows : List Row) (n : ℕ) → AreToldApart rows → AreToldApart (without p rows n)
told_without p [] n t = tt
told_without p (y ∷ ys) zero t = told_first p y ys (p y) t.1 (other_without p y ys zero t.0) (told_without p ys zero t.1)
told_without p (y ∷ ys) (suc n) t =
    told_later p y ys n (p y) (other_without p y ys n t.0) (told_without p ys n t.1) (other_without p y ys (suc n) t.0) (told_without p ys (suc n) t.1)

module _ (h : Header) (core : ℕ) (r : Row) where
  module _ (l : Cache) where
    abbrev shape_is : Shape
    shape_is = shape_of h.size r.kind

    abbrev lost : List Row
    lost = without (same_set shape_is r) l.rows (victim h.policy core l.evictions shape_is.ways)

    abbrev by : Bool → Bool → Cache
    by b d = cond b l (cond d (record { rows = lost ++ r ∷ []; evictions = l.evictions + 1 }) (record l { rows = l.rows ++ r ∷ [] }))

    in_by : (x : Row) (b d : Bool) → In x (by b d).rows → In x l.rows ⊎ (x ≡ r)
    in_by x true d i = inl i
    in_by x false true i = elim (in_more x r lost i) [
      | inl j ↦ inl (in_without (same_set shape_is r) x l.rows (victim h.policy core l.evictions shape_is.ways) j)
      | inr e ↦ inr e
    ]
    in_by x false false i = in_more x r l.rows i

    told_by : (b d : Bool) → AreToldApart l.rows → ((x : Row) → In x l.rows → is_row x r ≡ false) → AreToldApart (by b d).rows
    told_by true d t o = t
    told_by false true t o =
        told_more r lost (told_without (same_set shape_is r) l.rows (victim h.policy core l.evictions shape_is.ways) t)
        (λ x i. o x (in_without (same_set shape_is r) x l.rows (victim h.policy core l.evictions shape_is.ways) i))
    told_by false false t o = told_more r l.rows t o

  abbrev is_full : Cache → Bool
  is_full l = nat_le (shape_of h.size r.kind).ways (length (filter (same_set (shape_of h.size r.kind) r) l.rows))

  -- a row behind is one before or the one that came
  pub in_added : (l : Cache) (x : Row) → In x (added h core l r).rows → In x l.rows ⊎ (x ≡ r)
  in_added l x i = in_by l x (list_any (same_key r) l.rows) (is_full l) i

  pub told_added : (l : Cache) → AreToldApart l.rows → ((x : Row) → In x l.rows → is_row x r ≡ false) → AreToldApart (added h core l r).rows
  told_added l t o = told_by l (list_any (same_key r) l.rows) (is_full l) t o

  pub small_added : (l : Cache) → AreSmall l.rows → r.region.class < 64 → AreSmall (added h core l r).rows
  small_added l s c =
      small_in (added h core l r).rows (λ x i. elim (in_added l x i) [
        | inl j ↦ small_at l.rows s x j
        | inr e ↦ subst (λ (v : Row). v.region.class < 64) (sym e) c
      ])

-- A STEP

-- what rows that serve leave was there
in_end_back : (olds rows : List Row) (r x : Row) → ((y : Row) → In y rows → In y olds) → In r olds → In x (to_end rows r) → In x olds
in_end_back olds rows r x w m i = elim (in_more x r (filter (λ y. not (is_row r y)) rows) i) [
  | inl j ↦ w x (in_whole (λ y. not (is_row r y)) x rows j)
  | inr e ↦ subst (λ (v : Row). In v olds) (sym e) m
]

in_ends : (olds rows served : List Row) → ((y : Row) → In y rows → In y olds) → ((y : Row) → In y served → In y olds) → (x : Row)
    → In x (fold to_end rows served) → In x olds
in_ends olds rows [] w m x i = w x i
in_ends olds rows (r ∷ served) w m x i =
    in_ends olds (to_end rows r) served (λ y j. in_end_back olds rows r y w (m r (inl refl)) j) (λ y j. m y (inr j)) x i

pub in_touched : (policy : Policy) (rows served : List Row) → ((y : Row) → In y served → In y rows) → (x : Row) → In x (touched policy rows served)
    → In x rows
in_touched Lru rows served m x i = in_ends rows rows served (λ y j. j) m x i
in_touched Fifo rows served m x i = i
in_touched (Random start) rows served m x i = i

module _ (h : Header) (core : ℕ) where
  told_comes : (made : List Row) (l : Cache) → AreToldApart l.rows → AreToldApart made
      → ((y : Row) → In y made → (x : Row) → In x l.rows → is_row x y ≡ false) → AreToldApart (fold (added h core) l made).rows
  told_comes [] l t tm o = t
  told_comes (r ∷ made) l t tm o =
      told_comes made (added h core l r) (told_added h core r l t (o r (inl refl))) tm.1 (λ y iy x ix. elim (in_added h core r l x ix) [
        | inl j ↦ o y (inr iy) x j
        | inr e ↦ subst (λ (v : Row). is_row v y ≡ false) (sym e) (other_in r y made tm.0 iy)
      ])

  small_comes : (made : List Row) (l : Cache) → AreSmall l.rows → AreSmall made → AreSmall (fold (added h core) l made).rows
  small_comes [] l s c = s
  small_comes (r ∷ made) l s c = small_comes made (added h core l r) (small_added h core r l s c.0) c.1

  module _ (l : Cache) (served made : List Row) where
    abbrev step : Bool → Cache
    step b = cond b (fold (added h core) (record l { rows = touched h.policy l.rows served }) made) l

    told_step : (b : Bool) → AreToldApart l.rows → AreToldApart made → ((y : Row) → In y served → In y l.rows)
        → ((y : Row) → In y made → (x : Row) → In x l.rows → is_row x y ≡ false) → AreToldApart (step b).rows
    told_step true t tm m o =
        told_comes made (record l { rows = touched h.policy l.rows served }) (told_touched h.policy l.rows served t) tm
        (λ y iy x ix. o y iy x (in_touched h.policy l.rows served m x ix))
    told_step false t tm m o = t

    small_step : (b : Bool) → AreSmall l.rows → AreSmall served → AreSmall made → AreSmall (step b).rows
    small_step true s c cm = small_comes made (record l { rows = touched h.policy l.rows served }) (small_touched h.policy l.rows served s c) cm
    small_step false s c cm = s

    -- rows stay told apart behind a step whose rows are others than those before
    pub told_filled : AreToldApart l.rows → AreToldApart made → ((y : Row) → In y served → In y l.rows)
        → ((y : Row) → In y made → (x : Row) → In x l.rows → is_row x y ≡ false) → AreToldApart (filled h core l served made).rows
    told_filled t tm m o = told_step (keeps_rows h.size) t tm m o

    -- and their classes small
    pub small_filled : AreSmall l.rows → AreSmall served → AreSmall made → AreSmall (filled h core l served made).rows
    small_filled s c cm = small_step (keeps_rows h.size) s c cm
