-- Why rows leave, and in which order the rows of a core stand under lru.
use Rattle.std.proofs.Common.{◌≡◌, ℕ, zero, suc, ◌+◌, ◌<◌, Bool, true, false, not, cond, List, [], ◌∷◌, ◌++◌, length}
use Rattle.std.proofs.Common.{◌⊎◌, inl, inr, refl, sym, ap, ◌∙◌, subst, append_assoc, append-nil, Option, Some, None, arith}
use Rattle.std.specs.Prelude.{slice_get, ◌==◌, ◌&&◌, nat_le, nat_lt, fold, filter, take}
use Rattle.std.specs.List.{list_any}
use Rattle.std.proofs.lemmas.Bool.{cases_Bool, both_ways, not-true, eqb-true, eq-eqb}
use Rattle.std.proofs.lemmas.List.Folds.{list_any-append}
use Rattle.std.proofs.lemmas.List.Sums.{fold_push}
use Rattle.trace_lang.specs.declared.header.Policy.{Policy}
use Rattle.trace_lang.specs.declared.header.Policy.TheVariants.{Lru, Fifo, Random}
use Rattle.tlbi_ops.specs.declared.inval.Inval.{Inval}
use Rattle.tlbi_ops.specs.Covers.{covers}
use Rattle.tagged_tlb.specs.Shapes.{Shape, shape_of, keeps_rows}
use Rattle.machine_spec.specs.Header.{Header}
use Rattle.tagged_tlb.specs.declared.row.Row.{Row}
use Rattle.machine_spec.specs.Made.{numbered}
use Rattle.tagged_tlb.specs.Sets.{Cache, victim, without, same_set, same_key, placed, added, is_row, to_end, touched, filled}
use Rattle.machine_spec.specs.Machine.{Core, killed, delivered_by, delivered, most_held, posted, mailed_by}
use Rattle.tlbi_ops.specs.Operands.{reaches_core}
use Rattle.machine_laws.specs.Leaving.{rows_of_set, In, Used, pushed_out, IsEvicted, IsUsedSince}
use Rattle.machine_laws.proofs.Lists.{In-filter, In-from_filter, In-left, In-last, In-without}
use Rattle.machine_laws.proofs.Pairs.{AllPairs, pairs_filter, pairs_without, pairs_push, pairs_map}
use Rattle.machine_laws.proofs.Sets.{In-added, In-touched, In-filled}

-- ROWS TOLD APART BY THEIR MAKING

not_eq : (m n : ℕ) → (m ≡ n → ⊥) → (m == n) ≡ false
not_eq m n f = elim (cases_Bool (m == n)) [ inl t ↦ absurd (f (eqb-true m n t)) | inr e ↦ e ]

both_true : (a b : Bool) → (a && b) ≡ true → (a ≡ true) × (b ≡ true)
both_true true b h = (refl, h)
both_true false b h = absurd cc

row_parts : (x r : Row) → is_row x r ≡ true → (x.made.step ≡ r.made.step) × (x.made.order ≡ r.made.order)
row_parts x r h =
    let p = both_true (x.made.step == r.made.step) (x.made.order == r.made.order) h in
    (eqb-true x.made.step r.made.step p.0, eqb-true x.made.order r.made.order p.1)

row_from : (x r : Row) → x.made.step ≡ r.made.step → x.made.order ≡ r.made.order → is_row x r ≡ true
row_from x r s o = rw (eq-eqb x.made.step r.made.step s, eq-eqb x.made.order r.made.order o) refl

row_not : (x r : Row) → (x.made.step ≡ r.made.step → x.made.order ≡ r.made.order → ⊥) → is_row x r ≡ false
row_not x r f = elim (cases_Bool (is_row x r)) [ inl t ↦ let p = row_parts x r t in absurd (f p.0 p.1) | inr e ↦ e ]

row_turned : (x r : Row) → is_row r x ≡ false → is_row x r ≡ false
row_turned x r e = row_not x r (λ s o. both_ways (is_row r x) e (row_from r x (sym s) (sym o)))

-- a row was made before the order-th of a step, and is that one
abbrev pub IsBelow : ℕ → ℕ → Row → Type 0
IsBelow n k x = (x.made.step < n) ⊎ ((x.made.step ≡ n) × (x.made.order < k))

abbrev pub IsNumbered : ℕ → ℕ → List Row → Type 0
IsNumbered n k [] = Unit {0}
IsNumbered n k (r ∷ rs) = ((r.made.step ≡ n) × (r.made.order ≡ k)) × IsNumbered n (k + 1) rs

below_not : (n k : ℕ) (x r : Row) → IsBelow n k x → (r.made.step ≡ n) × (r.made.order ≡ k) → is_row x r ≡ false
below_not n k x r (inl lt) at = row_not x r (λ s o. omega (arith, lt, s, at.0))
below_not n k x r (inr b) at = row_not x r (λ s o. omega (arith, b.1, o, at.1))

pub numbered_are : (n : ℕ) (rs : List Row) (k : ℕ) → ((x : Row) → In x rs → x.made.step ≡ n) → IsNumbered n k (numbered k rs)
numbered_are n [] k h = tt
numbered_are n (r ∷ rs) k h = ((h r (inl refl), refl), numbered_are n rs (k + 1) (λ x i. h x (inr i)))

pub numbered_front : (n k : ℕ) (rs ss : List Row) → IsNumbered n k (rs ++ ss) → IsNumbered n k rs
numbered_front n k [] ss h = tt
numbered_front n k (r ∷ rs) ss h = (h.0, numbered_front n (k + 1) rs ss h.1)

numbered_in : (n k : ℕ) (rs : List Row) (x : Row) → IsNumbered n k rs → In x rs → x.made.step ≡ n
numbered_in n k [] x h i = absurd i
numbered_in n k (r ∷ rs) x h (inl e) = ap (λ (z : Row). z.made.step) e ∙ h.0.0
numbered_in n k (r ∷ rs) x h (inr i) = numbered_in n (k + 1) rs x h.1 i

below_next : (n k : ℕ) (x : Row) → IsBelow n k x → IsBelow n (k + 1) x
below_next n k x (inl lt) = inl lt
below_next n k x (inr b) = inr (b.0, omega (arith, b.1))

below_last : (n k : ℕ) (x r : Row) → x ≡ r → (r.made.step ≡ n) × (r.made.order ≡ k) → IsBelow n (k + 1) x
below_last n k x r e at =
    subst (IsBelow n (k + 1)) (sym e) (inr (at.0, omega (arith, at.1)))

-- a list loses the one at that place of those that pass
module _ {X : Type 0} (p : X → Bool) (y : X) where
  abbrev Loses : List X → List X → ℕ → Type 0
  Loses less those n = In y less ⊎ (slice_get those n ≡ Some y)

  behind_first : (x : X) (less those : List X) (n : ℕ) → Loses less those n → Loses (x ∷ less) those n
  behind_first x less those n h = elim h [ inl i ↦ inl (inr i) | inr e ↦ inr e ]

  lose_first : (x : X) (xs less those : List X) (b : Bool) → In y (x ∷ xs) → (In y xs → Loses less those zero)
      → Loses (cond b xs (x ∷ less)) (cond b (x ∷ those) those) zero
  lose_first x xs less those true (inl e) h = inr (ap Some (sym e))
  lose_first x xs less those true (inr i) h = inl i
  lose_first x xs less those false (inl e) h = inl (inl e)
  lose_first x xs less those false (inr i) h = behind_first x less those zero (h i)

  lose_later : (x : X) (xs one two those : List X) (n : ℕ) (b : Bool) → In y (x ∷ xs) → (In y xs → Loses one those n)
      → (In y xs → Loses two those (suc n))
      → Loses (cond b (x ∷ one) (x ∷ two)) (cond b (x ∷ those) those) (suc n)
  lose_later x xs one two those n true (inl e) f g = inl (inl e)
  lose_later x xs one two those n true (inr i) f g = behind_first x one those n (f i)
  lose_later x xs one two those n false (inl e) f g = inl (inl e)
  lose_later x xs one two those n false (inr i) f g = behind_first x two those (suc n) (g i)

  without_loses : (xs : List X) (n : ℕ) → In y xs → Loses (without p xs n) (filter p xs) n
  without_loses [] n i = absurd i
  without_loses (x ∷ xs) zero i = lose_first x xs (without p xs zero) (filter p xs) (p x) i (without_loses xs zero)
  without_loses (x ∷ xs) (suc n) i =
      lose_later x xs (without p xs n) (without p xs (suc n)) (filter p xs) n (p x) i (without_loses xs n) (without_loses xs (suc n))

none_in : (rows : List Row) → ((x : Row) → In x rows → ⊥) → rows ≡ []
none_in [] f = refl
none_in (r ∷ rows) f = absurd (f r (inl refl))

-- USES

since_more : (u : List Row) (x y r : Row) → is_row x r ≡ false → IsUsedSince u x y → IsUsedSince (u ++ r ∷ []) x y
since_more u x y r apart s = record {
  before = s.before;
  behind = s.behind ++ r ∷ [];
  is = ap (λ v. v ++ r ∷ []) s.is ∙ append_assoc s.before (y ∷ s.behind) (r ∷ []);
  not_since = rw (list_any-append (is_row x) s.behind (r ∷ []), s.not_since, apart) refl;
}

since_new : (u : List Row) (x r : Row) → IsUsedSince (u ++ r ∷ []) x r
since_new u x r = record { before = u; behind = []; is = refl; not_since = refl }

module _ (h : Header) (c : ℕ) where
  -- two rows in the order of their rank: told apart, and under lru the second was used since the first
  abbrev pub Ranks : List Row → Row → Row → Type 0
  Ranks u x y = (is_row x y ≡ false) × (h.policy ≡ Lru → IsUsedSince u x y)

  abbrev pub AreRanked : List Row → List Row → Type 0
  AreRanked u rows = AllPairs (Ranks u) rows

  kept : (u rows : List Row) (r : Row) → ((x : Row) → In x rows → is_row x r ≡ false) → AreRanked u rows → AreRanked (u ++ r ∷ []) rows
  kept u rows r apart a = pairs_map (Ranks u) (Ranks (u ++ r ∷ [])) rows (λ x i y p. (p.0, λ l. since_more u x y r (apart x i) (p.1 l))) a

  last : (u rows : List Row) (r : Row) → ((x : Row) → In x rows → is_row x r ≡ false) → AreRanked u rows
      → AreRanked (u ++ r ∷ []) (rows ++ r ∷ [])
  last u rows r apart a = pairs_push (Ranks (u ++ r ∷ [])) rows r (λ x i. (apart x i, λ l. since_new u x r)) (kept u rows r apart a)

  -- one row of each making
  one_row : (u rows : List Row) (x y : Row) → AreRanked u rows → In x rows → In y rows → is_row x y ≡ true → x ≡ y
  one_row u [] x y a i j same = absurd i
  one_row u (r ∷ rows) x y a (inl e) (inl f) same = e ∙ sym f
  one_row u (r ∷ rows) x y a (inl e) (inr j) same = absurd (both_ways (is_row r y) (a.0 y j).0 (subst (λ z. is_row z y ≡ true) e same))
  one_row u (r ∷ rows) x y a (inr i) (inl f) same = absurd (both_ways (is_row x r) (row_turned x r (a.0 x i).0) (subst (λ z. is_row x z ≡ true) f same))
  one_row u (r ∷ rows) x y a (inr i) (inr j) same = one_row u rows x y a.1 i j same

  -- SERVICES

  end_ranked : (u rows : List Row) (r : Row) → AreRanked u rows → AreRanked (u ++ r ∷ []) (to_end rows r)
  end_ranked u rows r a =
      let test = λ (x : Row). not (is_row r x) in
      last u (filter test rows) r (λ x i. row_turned x r (not-true (is_row r x) (In-from_filter test rows x i).1)) (pairs_filter (Ranks u) test rows a)

  end_stays : (u rows : List Row) (r x : Row) → AreRanked u rows → In r rows → In x rows → In x (to_end rows r)
  end_stays u rows r x a j i =
      let test = λ (y : Row). not (is_row r y) in
      elim (cases_Bool (is_row r x)) [
        | inl t ↦ subst (λ z. In z (to_end rows r)) (one_row u rows r x a j i t) (In-last (filter test rows) r)
        | inr f ↦ In-left (filter test rows) (r ∷ []) x (In-filter test rows x i (ap not f))
      ]

  ends_served : (served u rows : List Row) → ((x : Row) → In x served → In x rows) → AreRanked u rows
      → AreRanked (u ++ served) (fold to_end rows served) × ((x : Row) → In x rows → In x (fold to_end rows served))
  ends_served [] u rows live a = (rw append-nil a, λ x i. i)
  ends_served (r ∷ served) u rows live a =
      let stay = λ (x : Row) (i : In x rows). end_stays u rows r x a (live r (inl refl)) i in
      let d = ends_served served (u ++ r ∷ []) (to_end rows r) (λ x i. stay x (live x (inr i))) (end_ranked u rows r a) in
      (subst (λ v. AreRanked v (fold to_end (to_end rows r) served)) (append_assoc u (r ∷ []) served) d.0, λ x i. d.1 x (stay x i))

  -- under another policy uses don't count
  unused : (u v rows : List Row) → (h.policy ≡ Lru → ⊥) → AreRanked u rows → AreRanked v rows
  unused u v rows other a = pairs_map (Ranks u) (Ranks v) rows (λ x i y p. (p.0, λ l. absurd (other l))) a

  by_policy : (p : Policy) → h.policy ≡ p → (u rows served : List Row) → ((x : Row) → In x served → In x rows) → AreRanked u rows
      → AreRanked (u ++ served) (touched p rows served) × ((x : Row) → In x rows → In x (touched p rows served))
  by_policy Lru is u rows served live a = ends_served served u rows live a
  by_policy Fifo is u rows served live a = (unused u (u ++ served) rows (λ l. let e : Lru ≡ Fifo = sym l ∙ is in absurd cc) a, λ x i. i)
  by_policy (Random n) is u rows served live a = (unused u (u ++ served) rows (λ l. let e : Lru ≡ Random n = sym l ∙ is in absurd cc) a, λ x i. i)

  -- ROWS THAT ARE MADE

  abbrev lost : Shape → Cache → Row → Cache
  lost s l r = record { rows = without (same_set s r) l.rows (victim h.policy c l.evictions s.ways) ++ r ∷ []; evictions = l.evictions + 1 }

  abbrev room : Cache → Row → Cache
  room l r = record l { rows = l.rows ++ r ∷ [] }

  abbrev is_full : Shape → Cache → Row → Bool
  is_full s l r = nat_le s.ways (length (filter (same_set s r) l.rows))

  placed_ranked : (u : List Row) (s : Shape) (l : Cache) (r : Row) (b : Bool) → ((x : Row) → In x l.rows → is_row x r ≡ false) → AreRanked u l.rows
      → AreRanked (u ++ r ∷ []) (cond b (lost s l r) (room l r)).rows
  placed_ranked u s l r true apart a =
      let n : ℕ = victim h.policy c l.evictions s.ways in
      last u (without (same_set s r) l.rows n) r (λ x i. apart x (In-without (same_set s r) l.rows n x i)) (pairs_without (Ranks u) (same_set s r) l.rows n a)
  placed_ranked u s l r false apart a = last u l.rows r apart a

  added_ranked : (u : List Row) (l : Cache) (r : Row) (b : Bool) → ((x : Row) → In x l.rows → is_row x r ≡ false) → AreRanked u l.rows
      → AreRanked (u ++ r ∷ []) (cond b l (placed h c (shape_of h.size r.kind) l r)).rows
  added_ranked u l r true apart a = kept u l.rows r apart a
  added_ranked u l r false apart a =
      let s : Shape = shape_of h.size r.kind in
      placed_ranked u s l r (is_full s l r) apart a

  -- the rows that a step makes, behind those that it finds
  made_ranked : (n k : ℕ) (made u : List Row) (l : Cache) → IsNumbered n k made → ((x : Row) → In x l.rows → IsBelow n k x) → AreRanked u l.rows
      → AreRanked (u ++ made) (fold (added h c) l made).rows
  made_ranked n k [] u l at below a = rw append-nil a
  made_ranked n k (r ∷ made) u l at below a =
      let apart = λ (x : Row) (i : In x l.rows). below_not n k x r (below x i) at.0 in
      subst (λ v. AreRanked v (fold (added h c) (added h c l r) made).rows) (append_assoc u (r ∷ []) made)
      (made_ranked n (k + 1) made (u ++ r ∷ []) (added h c l r) at.1
      (λ x i. elim (In-added h c l r x i) [ inl j ↦ below_next n k x (below x j) | inr e ↦ below_last n k x r e at.0 ])
      (added_ranked u l r (list_any (same_key r) l.rows) apart a))

  -- a full set loses the row that the policy names
  record IsLost (l : Cache) (r x : Row) : Type 0 where
    wanted : list_any (same_key r) l.rows ≡ false
    full : is_full (shape_of h.size r.kind) l r ≡ true
    named : slice_get (rows_of_set h r l) (victim h.policy c l.evictions (shape_of h.size r.kind).ways) ≡ Some x

  placed_stays : (l : Cache) (r x : Row) (b : Bool) → is_full (shape_of h.size r.kind) l r ≡ b → list_any (same_key r) l.rows ≡ false → In x l.rows
      → In x (cond b (lost (shape_of h.size r.kind) l r) (room l r)).rows ⊎ IsLost l r x
  placed_stays l r x true e new i =
      let s : Shape = shape_of h.size r.kind in
      let n : ℕ = victim h.policy c l.evictions s.ways in
      elim (without_loses (same_set s r) x l.rows n i) [
        | inl j ↦ inl (In-left (without (same_set s r) l.rows n) (r ∷ []) x j)
        | inr t ↦ inr record { wanted = new; full = e; named = t }
      ]
  placed_stays l r x false e new i = inl (In-left l.rows (r ∷ []) x i)

  added_stays : (l : Cache) (r x : Row) (b : Bool) → list_any (same_key r) l.rows ≡ b → In x l.rows
      → In x (cond b l (placed h c (shape_of h.size r.kind) l r)).rows ⊎ IsLost l r x
  added_stays l r x true e i = inl i
  added_stays l r x false e i = placed_stays l r x (is_full (shape_of h.size r.kind) l r) refl e i

  module _ (before : Cache) (used : Used) (x : Row) where
    abbrev behind : List Row → Cache
    behind earlier = fold (added h c) (record before { rows = touched h.policy before.rows used.served }) earlier

    made_stays : keeps_rows h.size ≡ true → (later earlier : List Row) → used.made ≡ earlier ++ later → In x (behind earlier).rows
        → In x (behind (earlier ++ later)).rows ⊎ IsEvicted h c before used x
    made_stays on [] earlier is i = inl (rw append-nil i)
    made_stays on (r ∷ later) earlier is i =
        let filled_is : filled h c before used.served earlier ≡ behind earlier = ap (λ b. cond b (behind earlier) before) on in
        let s : Shape = shape_of h.size r.kind in
        elim (added_stays (behind earlier) r x (list_any (same_key r) (behind earlier).rows) refl i) [
          | inl j ↦
              let joined : (earlier ++ r ∷ []) ++ later ≡ earlier ++ r ∷ later = append_assoc earlier (r ∷ []) later in
              let next : In x (behind (earlier ++ r ∷ [])).rows = subst (λ (l : Cache). In x l.rows) (sym (fold_push (added h c) _ earlier r)) j in
              subst (λ v. In x (behind v).rows ⊎ IsEvicted h c before used x) joined (made_stays on later (earlier ++ r ∷ []) (is ∙ sym joined) next)
          | inr e ↦ inr record {
            earlier = earlier;
            new = r;
            later = later;
            made = is;
            wanted = subst (λ (l : Cache). list_any (same_key r) l.rows ≡ false) (sym filled_is) e.wanted;
            full = subst (λ (l : Cache). is_full s l r ≡ true) (sym filled_is) e.full;
            named = subst (λ (l : Cache). slice_get (rows_of_set h r l) (victim h.policy c l.evictions s.ways) ≡ Some x) (sym filled_is) e.named;
          }
        ]

  -- what is known of the rows of a core before a step
  pub record IsRanked (n : ℕ) (u rows : List Row) : Type 0 where
    pub below : (x : Row) → In x rows → x.made.step < n
    pub ranked : AreRanked u rows
    pub bare : keeps_rows h.size ≡ false → rows ≡ []

  module _ (n : ℕ) (u : List Row) (l : Cache) (state : IsRanked n u l.rows) (served : List Row) (live : (x : Row) → In x served → In x l.rows) where
    abbrev served_rows : List Row
    served_rows = touched h.policy l.rows served

    served_below : (x : Row) → In x served_rows → x.made.step < n
    served_below x i = elim (In-touched h.policy l.rows served x i) [ inl j ↦ state.below x j | inr j ↦ state.below x (live x j) ]

    filled_if : (made : List Row) (b : Bool) → keeps_rows h.size ≡ b → IsNumbered n 0 made
        → AreRanked (u ++ (served ++ made)) (cond b (fold (added h c) (record l { rows = served_rows }) made) l).rows
    filled_if made true on at =
        subst (λ v. AreRanked v (fold (added h c) (record l { rows = served_rows }) made).rows) (append_assoc u served made)
        (made_ranked n 0 made (u ++ served) (record l { rows = served_rows }) at (λ x i. inl (served_below x i))
        (by_policy h.policy refl u l.rows served live state.ranked).0)
    filled_if made false off at = rw (state.bare off) tt

    pub filled_ranked : (made : List Row) → IsNumbered n 0 made → AreRanked (u ++ (served ++ made)) (filled h c l served made).rows
    filled_ranked made at = filled_if made (keeps_rows h.size) refl at

    filled_off : (made : List Row) (b : Bool) → b ≡ false → keeps_rows h.size ≡ false
        → (cond b (fold (added h c) (record l { rows = served_rows }) made) l).rows ≡ []
    filled_off made true e off = absurd cc
    filled_off made false e off = state.bare off

    -- and behind it
    pub filled_next : (made : List Row) → IsNumbered n 0 made → IsRanked (n + 1) (u ++ (served ++ made)) (filled h c l served made).rows
    filled_next made at = record {
      below = λ x i. elim (In-filled h c l served made x i) [
        | inl (inl j) ↦ omega (arith, state.below x j)
        | inl (inr j) ↦ omega (arith, state.below x (live x j))
        | inr j ↦ omega (arith, numbered_in n 0 made x at j)
      ];
      ranked = filled_ranked made at;
      bare = λ off. filled_off made (keeps_rows h.size) off off;
    }

  -- a row stays, or a full set loses it
  filled_keeps : (before : Cache) (used : Used) (n : ℕ) (u : List Row) → IsRanked n u before.rows → ((x : Row) → In x used.served → In x before.rows)
      → (x : Row)
      → (b : Bool) → keeps_rows h.size ≡ b → In x before.rows
      → In x (cond b (behind before used x used.made) before).rows ⊎ IsEvicted h c before used x
  filled_keeps before used n u state live x true on i =
      made_stays before used x on used.made [] refl ((by_policy h.policy refl u before.rows used.served live state.ranked).1 x i)
  filled_keeps before used n u state live x false off i = inl i

  pub filled_stays : (before : Cache) (used : Used) (n : ℕ) (u : List Row) → IsRanked n u before.rows
      → ((x : Row) → In x used.served → In x before.rows)
      → (x : Row)
      → In x before.rows → In x (filled h c before used.served used.made).rows ⊎ IsEvicted h c before used x
  filled_stays before used n u state live x i = filled_keeps before used n u state live x (keeps_rows h.size) refl i

  -- INVALIDATIONS

  -- fewer rows
  pub record Thins (rows less : List Row) : Type 0 where
    pub within : (x : Row) → In x less → In x rows
    pub pairs : (u : List Row) → AreRanked u rows → AreRanked u less

  thin_same : (rows : List Row) → Thins rows rows
  thin_same rows = record { within = λ x i. i; pairs = λ u a. a }

  thin_killed : (l : Cache) (i : Inval) → Thins l.rows (killed l i).rows
  thin_killed l i = record {
    within = λ x j. (In-from_filter (λ (r : Row). not (covers i r.tag)) l.rows x j).0;
    pairs = λ u a. pairs_filter (Ranks u) (λ (r : Row). not (covers i r.tag)) l.rows a;
  }

  pub thin_all : (is : List Inval) (l : Cache) → Thins l.rows (fold killed l is).rows
  thin_all [] l = thin_same l.rows
  thin_all (i ∷ is) l =
      let one = thin_killed l i in
      let rest = thin_all is (killed l i) in
      record { within = λ x j. one.within x (rest.within x j); pairs = λ u a. rest.pairs u (one.pairs u a) }

  pub thin_next : (n : ℕ) (u rows less : List Row) → Thins rows less → IsRanked n u rows → IsRanked (n + 1) (u ++ []) less
  thin_next n u rows less t s = record {
    below = λ x i. omega (arith, s.below x (t.within x i));
    ranked = rw append-nil (t.pairs u s.ranked);
    bare = λ off. none_in less (λ x i. subst (In x) (s.bare off) (t.within x i));
  }

  -- a row that is gone was covered
  killed_keeps : (l : Cache) (i : Inval) (x : Row) → In x l.rows → In x (killed l i).rows ⊎ (covers i x.tag ≡ true)
  killed_keeps l i x j = elim (cases_Bool (covers i x.tag)) [
    | inl t ↦ inr t
    | inr f ↦ inl (In-filter (λ (r : Row). not (covers i r.tag)) l.rows x j (ap not f))
  ]

  pub all_keep : (is : List Inval) (l : Cache) (x : Row) → In x l.rows → In x (fold killed l is).rows ⊎ ((i : Inval) × In i is
      × (covers i x.tag ≡ true))
  all_keep [] l x j = inl j
  all_keep (i ∷ is) l x j = elim (killed_keeps l i x j) [
    | inl k ↦ elim (all_keep is (killed l i) x k) [ inl m ↦ inl m | inr m ↦ inr (m.0, inr m.1, m.2) ]
    | inr t ↦ inr (i, inl refl, t)
  ]

  delivered_kills : (v : Core) (inbox : List Inval) → (delivered_by v inbox).cache ≡ fold killed v.cache (take 1 inbox)
  delivered_kills v [] = refl
  delivered_kills v (i ∷ later) = refl

  mail_kills : (v : Core) (i : Inval) (reach room_left : Bool)
      → (cond reach (cond room_left (posted v i) (posted (delivered v) i)) v).cache ≡ fold killed v.cache (cond (reach && not room_left)
      (take 1 v.inbox) [])
  mail_kills v i true true = refl
  mail_kills v i true false = delivered_kills v v.inbox
  mail_kills v i false true = refl
  mail_kills v i false false = refl

  -- the rows behind an event are those that the effective invalidations leave
  pub pushed_kills : (v : Core) (o : Option Inval) → (mailed_by c v o).cache ≡ fold killed v.cache (pushed_out c v.inbox o)
  pushed_kills v None = refl
  pushed_kills v (Some i) = mail_kills v i (reaches_core i c) (nat_lt (length v.inbox) most_held)

  pub deliver_kills : (v : Core) (own : Bool) → (cond own (delivered v) v).cache ≡ fold killed v.cache (cond own (take 1 v.inbox) [])
  deliver_kills v true = delivered_kills v v.inbox
  deliver_kills v false = refl
