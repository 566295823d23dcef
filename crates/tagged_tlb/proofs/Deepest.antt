-- The row of the smallest region that matches.
use Rattle.std.proofs.Common.{zero, ◌≡◌, ℕ, suc, ◌<◌, ◌≤◌, ◌+◌, Bool, true, false, cond}
use Rattle.std.proofs.Common.{◌&&◌, List, [], ◌∷◌, length, get_or, refl, ap, sym, ◌∙◌}
use Rattle.std.proofs.Common.{subst, arith, Option, Some, None, inl, inr}
use Rattle.std.specs.Prelude.{filter, ◌==◌, ◌%◌, ◌/◌, ◌^◌, nat_lt}
use Rattle.std.proofs.lemmas.Bool.{cases_Bool, cases_eq, eq-eqb, eqb-true, ltb-true, and_from, and_parts, both_ways}
use Rattle.std.proofs.lemmas.Option.{same_Some}
use Rattle.std.proofs.lemmas.List.{get_or_default}
use Rattle.tagged_tlb.specs.declared.row.Kind.{Kind}
use Rattle.fault_codes.specs.declared.fault.Stage.TheVariants.{S1}
use Rattle.tagged_tlb.specs.declared.row.Key.{Key}
use Rattle.tagged_tlb.specs.declared.row.Sought.{Sought}
use Rattle.tagged_tlb.specs.declared.row.Row.{Row}
use Rattle.tagged_tlb.specs.Rows.{closer, deepest}
use Rattle.tagged_tlb.specs.Tied.{IsTied, AreToldApart, AreSmall, row_at, is_sought}
use Rattle.tagged_tlb.specs.Slots.{hit}
use Rattle.tagged_tlb.specs.Found.{first_hit}
use Rattle.tagged_tlb.specs.Classes.{is_marked, AreMarked}
use Rattle.tagged_tlb.proofs.Classes.{none_marked, none_from, wider, marked_at}
use Rattle.tagged_tlb.proofs.Order.{lt_yes}
use Rattle.tagged_tlb.proofs.Finds.{class_rows}

none_some : {X P : Type 0} (x : X) → ◌≡◌ {A = Option X} None (Some x) → P
none_some x h = cc

no_head : {X P : Type 0} (x : X) (xs : List X) → x ∷ xs ≡ [] → P
no_head x xs h = cc

-- THE FIRST OF A SET

-- it heads those that pass
abbrev Heads : (test : Row → Bool) (d : Row) (all : List Row) (rows : List Row) → Option ℕ → Type 0
Heads test d all rows None = filter test rows ≡ []
Heads test d all rows (Some w) = (rest : List Row) × (filter test rows ≡ get_or all w d ∷ rest)

module _ (test : Row → Bool) (d : Row) (all : List Row) where
  abbrev StandAt : (way : ℕ) (rows : List Row) → Type 0
  StandAt way rows = (j : ℕ) → j < length rows → get_or all (way + j) d ≡ get_or rows j d

  later : (way : ℕ) (r : Row) (rows : List Row) → StandAt way (r ∷ rows) → StandAt (way + 1) rows
  later way r rows h j lt =
      let e : way + (j + 1) ≡ way + 1 + j = omega arith in
      let k : j + 1 ≡ suc j = omega arith in
      subst (λ v. get_or all v d ≡ get_or rows j d) e (subst (λ v. get_or all (way + v) d ≡ get_or rows j d) (sym k) (h (suc j) (omega (arith, lt))))

  first_is : (way : ℕ) (r : Row) (rows : List Row) → StandAt way (r ∷ rows) → get_or all way d ≡ r
  first_is way r rows h = let e : way + 0 ≡ way = omega arith in subst (λ v. get_or all v d ≡ r) e (h 0 (omega arith))

  skipped : (r : Row) (rows : List Row) (o : Option ℕ) → test r ≡ false → Heads test d all rows o → Heads test d all (r ∷ rows) o
  skipped r rows None e h = rw e h
  skipped r rows (Some w) e h = rw e h

  heads_by : (way : ℕ) (r : Row) (rows : List Row) (b : Bool) → test r ≡ b → get_or all way d ≡ r
      → Heads test d all rows (first_hit test (way + 1) rows)
      → Heads test d all (r ∷ rows) (cond b (Some way) (first_hit test (way + 1) rows))
  heads_by way r rows true e f rest = (filter test rows, rw (e, f) refl)
  heads_by way r rows false e f rest = skipped r rows (first_hit test (way + 1) rows) e rest

  heads : (way : ℕ) (rows : List Row) → StandAt way rows → Heads test d all rows (first_hit test way rows)
  heads way [] s = refl
  heads way (r ∷ rows) s = heads_by way r rows (test r) refl (first_is way r rows s) (heads (way + 1) rows (later way r rows s))

-- THE LEAST CLASS

module _ (m : Row → Bool) where
  abbrev of_class : ℕ → Row → Bool
  of_class c r = m r && (r.region.class == c)

  -- those that pass have at least that class
  abbrev pub NoneBelow : ℕ → List Row → Type 0
  NoneBelow c [] = Unit {0}
  NoneBelow c (r ∷ rows) = (m r ≡ true → c ≤ r.region.class) × NoneBelow c rows

  pub from_zero : (rows : List Row) → NoneBelow 0 rows
  from_zero [] = tt
  from_zero (r ∷ rows) = ((λ _. omega arith), from_zero rows)

  none_by : (c : ℕ) (r : Row) (rows : List Row) (b : Bool) → cond b (r ∷ filter (of_class c) rows) (filter (of_class c) rows) ≡ []
      → (b ≡ false) × (filter (of_class c) rows ≡ [])
  none_by c r rows true h = no_head r (filter (of_class c) rows) h
  none_by c r rows false h = (refl, h)

  pub one_up : (c : ℕ) (rows : List Row) → NoneBelow c rows → filter (of_class c) rows ≡ [] → NoneBelow (c + 1) rows
  one_up c [] n h = tt
  one_up c (r ∷ rows) n h =
      let p = none_by c r rows (of_class c r) h in (
        (λ t. elim (cases_eq r.region.class c) [
          | inl e ↦ absurd (both_ways (of_class c r) p.0 (and_from (m r) (r.region.class == c) t (eq-eqb r.region.class c e)))
          | inr ne ↦ let k = n.0 t in omega (arith, k, ne)
        ]),
        one_up c rows n.1 p.1,
      )

  closer_least : (c : ℕ) (r : Row) (o : Option Row) → c ≤ r.region.class → ((s : Row) → o ≡ Some s → c ≤ s.region.class) → (s : Row)
      → closer r o ≡ Some s → c ≤ s.region.class
  closer_least c r None h k s e = let f : r ≡ s = Rattle.std.proofs.lemmas.Option.same_Some r s e in subst (λ (v : Row). c ≤ v.region.class) f h
  closer_least c r (Some x) h k s e = by_case (nat_lt x.region.class r.region.class) e
    where
      by_case : (b : Bool) → cond b (Some x) (Some r) ≡ Some s → c ≤ s.region.class
      by_case true e = k s e
      by_case false e = let f : r ≡ s = Rattle.std.proofs.lemmas.Option.same_Some r s e in subst (λ (v : Row). c ≤ v.region.class) f h

  least_by : (c : ℕ) (r : Row) (rows : List Row) (b : Bool) → (b ≡ true → c ≤ r.region.class)
      → ((s : Row) → deepest m rows ≡ Some s → c ≤ s.region.class)
      → (s : Row) → cond b (closer r (deepest m rows)) (deepest m rows) ≡ Some s → c ≤ s.region.class
  least_by c r rows true h k s e = closer_least c r (deepest m rows) (h refl) k s e
  least_by c r rows false h k s e = k s e

  least : (c : ℕ) (rows : List Row) → NoneBelow c rows → (s : Row) → deepest m rows ≡ Some s → c ≤ s.region.class
  least c [] n s e = none_some s e
  least c (r ∷ rows) n s e = least_by c r rows (m r) n.0 (least c rows n.1) s e

  stays : (c : ℕ) (r : Row) (o : Option Row) → r.region.class ≡ c → ((s : Row) → o ≡ Some s → c ≤ s.region.class) → closer r o ≡ Some r
  stays c r None h k = refl
  stays c r (Some x) h k =
      let le = k x refl in
      let no : nat_lt x.region.class r.region.class ≡ false = elim (cases_Bool (nat_lt x.region.class r.region.class)) [
        | inl t ↦ absurd (let lt = ltb-true x.region.class r.region.class t in omega (arith, lt, le, h))
        | inr e ↦ e
      ] in
      ap (λ b. cond b (Some x) (Some r)) no

  deepest_by : (c : ℕ) (y r : Row) (ys rest : List Row) (a b : Bool) → m y ≡ a → (y.region.class == c) ≡ b → (a ≡ true → c ≤ y.region.class)
      → NoneBelow c ys → r.region.class ≡ c
      → (filter (of_class c) ys ≡ r ∷ rest → deepest m ys ≡ Some r)
      → cond (a && b) (y ∷ filter (of_class c) ys) (filter (of_class c) ys) ≡ r ∷ rest
      → cond a (closer y (deepest m ys)) (deepest m ys) ≡ Some r
  deepest_by c y r ys rest true true e f h n k next g =
      let same : y ≡ r = cc in
      subst (λ (v : Row). closer y (deepest m ys) ≡ Some v) same (stays c y (deepest m ys) (eqb-true y.region.class c f) (least c ys n))
  deepest_by c y r ys rest true false e f h n k next g =
      let le = h refl in
      let ne : y.region.class ≡ c → ⊥ = λ q. both_ways (y.region.class == c) f (eq-eqb y.region.class c q) in
      let lt : r.region.class < y.region.class = omega (arith, le, ne, k) in
      ap (closer y) (next g) ∙ ap (λ b. cond b (Some r) (Some y)) (lt_yes r.region.class y.region.class lt)
  deepest_by c y r ys rest false b e f h n k next g = next g

  pub deepest_is : (c : ℕ) (r : Row) (rest rows : List Row) → NoneBelow c rows → r.region.class ≡ c → filter (of_class c) rows ≡ r ∷ rest
      → deepest m rows ≡ Some r
  deepest_is c r rest [] n k g = no_head r rest (sym g)
  deepest_is c r rest (y ∷ ys) n k g =
      deepest_by c y r ys rest (m y) (y.region.class == c) refl refl n.0 n.1 k (deepest_is c r rest ys n.1 k) g

  head_by : (c : ℕ) (y r : Row) (ys rest : List Row) (b : Bool) → of_class c y ≡ b → (filter (of_class c) ys ≡ r ∷ rest → r.region.class ≡ c)
      → cond b (y ∷ filter (of_class c) ys) (filter (of_class c) ys) ≡ r ∷ rest → r.region.class ≡ c
  head_by c y r ys rest true e next g =
      let same : y ≡ r = cc in
      subst (λ (v : Row). v.region.class ≡ c) same (eqb-true y.region.class c (and_parts (m y) (y.region.class == c) e).1)
  head_by c y r ys rest false e next g = next g

  pub head_class : (c : ℕ) (r : Row) (rest rows : List Row) → filter (of_class c) rows ≡ r ∷ rest → r.region.class ≡ c
  head_class c r rest [] g = no_head r rest (sym g)
  head_class c r rest (y ∷ ys) g = head_by c y r ys rest (of_class c y) refl (head_class c r rest ys) g

  nothing_by : (r : Row) (rows : List Row) (b : Bool) → m r ≡ b → (b ≡ true → 64 ≤ r.region.class) → r.region.class < 64
      → deepest m rows ≡ None
      → cond b (closer r (deepest m rows)) (deepest m rows) ≡ None
  nothing_by r rows true e h k rest = absurd (let le = h refl in omega (arith, le, k))
  nothing_by r rows false e h k rest = rest

  pub nothing : (rows : List Row) → NoneBelow 64 rows → AreSmall rows → deepest m rows ≡ None
  nothing [] n s = refl
  nothing (r ∷ rows) n s = nothing_by r rows (m r) refl n.0 s.0 (nothing rows n.1 s.1)

-- ONE CLASS

module _ (d : Row) (sets : List (List Row)) (k : Kind) (n : ℕ) (q : Sought) (live : List Row) (told : AreToldApart live) (f : IsTied k n live sets) (c : ℕ)
    (some : 0 < n)
    (one : List Row) (value : one ≡ get_or sets (q.at / 2 ^ c % n) one) where
  lt : q.at / 2 ^ c % n < n
  lt = omega (arith, some)

  one_is : one ≡ get_or sets (q.at / 2 ^ c % n) []
  one_is = value ∙ get_or_default sets (q.at / 2 ^ c % n) one [] (subst (λ v. q.at / 2 ^ c % n < v) (sym f.count) lt)

  rows_are : filter (hit q c (q.at / 2 ^ c)) one ≡ filter (of_class (is_sought k q) c) live
  rows_are = ap (filter (hit q c (q.at / 2 ^ c))) one_is ∙ class_rows d sets k n q live told f c lt

  headed : Heads (hit q c (q.at / 2 ^ c)) d one one (first_hit (hit q c (q.at / 2 ^ c)) 0 one)
  headed = heads (hit q c (q.at / 2 ^ c)) d one 0 one (λ j l. let e : 0 + j ≡ j = omega arith in
      subst (λ v. get_or one v d ≡ get_or one j d) (sym e) refl)

  -- the set has none
  pub none_here : first_hit (hit q c (q.at / 2 ^ c)) 0 one ≡ None → NoneBelow (is_sought k q) c live → NoneBelow (is_sought k q) (c + 1) live
  none_here e h = one_up (is_sought k q) c live h (sym rows_are ∙ subst (Heads (hit q c (q.at / 2 ^ c)) d one one) e headed)

  -- the set has one
  pub found_here : (w : ℕ) → first_hit (hit q c (q.at / 2 ^ c)) 0 one ≡ Some w → NoneBelow (is_sought k q) c live
      → Some (row_at sets (q.at / 2 ^ c % n) w d) ≡ deepest (is_sought k q) live
  found_here w e h =
      let p = subst (Heads (hit q c (q.at / 2 ^ c)) d one one) e headed in
      let g : filter (of_class (is_sought k q) c) live ≡ get_or one w d ∷ p.0 = sym rows_are ∙ p.1 in
      let found : deepest (is_sought k q) live ≡ Some (get_or one w d) =
      deepest_is (is_sought k q) c (get_or one w d) p.0 live h (head_class (is_sought k q) c (get_or one w d) p.0 live g) g in
      sym (found ∙ ap (λ xs. Some (get_or xs w d)) one_is)

-- NO ROW OF A CLASS

-- a row, whichever it is
pub some_row : (key : Key) (kind : Kind) → Row
some_row k kind = record {
  trail = [];
  tag = record { start = 0; class = 0; granule = 0; asid = 0; vmid = 0; stage = S1; table = false; global = false };
  key = k;
  region = record { start = 0; class = 0 };
  made = record { step = 0; order = 0 };
  kind = kind;
  global = false;
}

pub none_of_class : (d : Row) (sets : List (List Row)) (k : Kind) (n : ℕ) (q : Sought) (live : List Row) (told : AreToldApart live) (f : IsTied k n live sets)
    (c : ℕ) → 0 < n
    → (marks : ℕ) → AreMarked marks sets → is_marked marks c ≡ false → NoneBelow (is_sought k q) c live → NoneBelow (is_sought k q) (c + 1) live
none_of_class d sets k n q live told f c some marks marked no_mark h =
    let lt : q.at / 2 ^ c % n < n = omega (arith, some) in
    let empty : filter (hit q c (q.at / 2 ^ c)) (get_or sets (q.at / 2 ^ c % n) []) ≡ [] =
    none_marked marks c no_mark q (q.at / 2 ^ c) (get_or sets (q.at / 2 ^ c % n) []) (marked_at marks sets (q.at / 2 ^ c % n) [] (subst
    (λ v. q.at / 2 ^ c % n < v) (sym f.count) lt) marked) in
    one_up (is_sought k q) c live h (sym (class_rows d sets k n q live told f c lt) ∙ empty)

-- no row has a class below the first that may be there
pub none_of_first : (d : Row) (sets : List (List Row)) (k : Kind) (n : ℕ) (q : Sought) (live : List Row) (told : AreToldApart live) (f : IsTied k n live sets)
    → 0 < n → (marks : ℕ) → AreMarked marks sets → (c : ℕ) → ((j : ℕ) → j < c → is_marked marks j ≡ false)
    → NoneBelow (is_sought k q) c live
none_of_first d sets k n q live told f some marks marked zero bare = from_zero (is_sought k q) live
none_of_first d sets k n q live told f some marks marked (suc c) bare =
    let e : c + 1 ≡ suc c = omega arith in
    subst (λ v. NoneBelow (is_sought k q) v live) e (none_of_class d sets k n q live told f c some marks marked (bare c (omega arith))
    (none_of_first d sets k n q live told f some marks marked c (λ j h. bare j (omega (arith, h)))))

-- no row has a class from one on
pub none_of_classes : (d : Row) (sets : List (List Row)) (k : Kind) (n : ℕ) (q : Sought) (live : List Row) (told : AreToldApart live)
    (f : IsTied k n live sets) → 0 < n
    → (marks : ℕ) → AreMarked marks sets → (gap c : ℕ) → c + gap ≡ 64 → marks < 2 ^ c → NoneBelow (is_sought k q) c live
    → NoneBelow (is_sought k q) 64 live
none_of_classes d sets k n q live told f some marks marked zero c e small h = let e : c ≡ 64 = omega (arith, e) in subst (λ v. NoneBelow
    (is_sought k q) v live) e h
none_of_classes d sets k n q live told f some marks marked (suc gap) c e small h =
    none_of_classes d sets k n q live told f some marks marked gap (c + 1) (omega (arith, e)) (wider marks c small)
    (none_of_class d sets k n q live told f c some marks marked (none_from marks c c small (omega arith)) h)

-- WHERE IT STANDS

within_by : (test : Row → Bool) (way w : ℕ) (rows : List Row) (b : Bool) → cond b (Some way) (first_hit test (way + 1) rows) ≡ Some w
    → (first_hit test (way + 1) rows ≡ Some w → w < way + 1 + length rows) → w < way + suc (length rows)
within_by test way w rows true e rest = let k : way ≡ w = same_Some way w e in omega (arith, k)
within_by test way w rows false e rest = let k = rest e in omega (arith, k)

first_within : (test : Row → Bool) (way w : ℕ) (rows : List Row) → first_hit test way rows ≡ Some w → w < way + length rows
first_within test way w [] e = none_some w e
first_within test way w (r ∷ rows) e = within_by test way w rows (test r) e (first_within test (way + 1) w rows)

-- the first of a set stands where it was found
pub place_within : (sets : List (List Row)) (test : Row → Bool) (set w : ℕ) (one : List Row) → set < length sets → one ≡ get_or sets set one
    → first_hit test 0 one ≡ Some w → w < length (get_or sets set [])
place_within sets test set w one lt value e =
    let one_is : one ≡ get_or sets set [] = value ∙ get_or_default sets set one [] lt in
    let k = first_within test 0 w one e in
    let l = ap length one_is in omega (arith, k, l)
