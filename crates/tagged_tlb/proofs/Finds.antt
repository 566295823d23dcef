-- What a search by class and set finds.
use Rattle.std.proofs.Common.{◌≤◌, zero, ◌≡◌, ℕ, suc, ◌<◌, ◌+◌, Bool, true, false, cond}
use Rattle.std.proofs.Common.{◌&&◌, ◌||◌, List, [], ◌∷◌, length, get_or, take, inl, inr}
use Rattle.std.proofs.Common.{refl, ap, sym, ◌∙◌, subst, arith}
use Rattle.std.specs.Prelude.{filter, ◌==◌, ◌%◌, ◌/◌, ◌^◌, nat_lt}
use Rattle.std.proofs.lemmas.Bool.{cases_Bool, cases_eq, eq-eqb, eqb-true, ltb-true, and_from, and_parts, or_left, or_right}
use Rattle.std.proofs.lemmas.List.{get_or_default}
use Rattle.tagged_tlb.specs.declared.row.Kind.{Kind}
use Rattle.sysregs.specs.Equality.{same_fields}
use Rattle.fault_codes.specs.declared.fault.Stage.{Stage}
use Rattle.fault_codes.specs.declared.fault.Stage.TheVariants.{S1, S2}
use Rattle.tagged_tlb.specs.declared.row.Sought.{Sought}
use Rattle.tagged_tlb.specs.declared.row.Made.{Made}
use Rattle.tagged_tlb.specs.declared.row.Row.{Row}
use Rattle.tagged_tlb.specs.declared.found.Seen.{Seen}
use Rattle.tagged_tlb.specs.declared.found.Found.{Found}
use Rattle.tagged_tlb.specs.declared.found.Found.TheVariants.{Nothing, One, Two}
use Rattle.tagged_tlb.specs.Rows.{same_kind, holds, is_older, inserted, by_making, matching}
use Rattle.tagged_tlb.specs.Tied.{in_set, IsTied, AreToldApart, AreSmall, row_at, matches_by, is_sought}
use Rattle.tagged_tlb.specs.Slots.{hit, suits_asid, is_keyed_row, made_of_row}
use Rattle.tagged_tlb.specs.Found.{met, looked, seen_at, seen_row, found_rows, IsSeen, AllSeen, IsWithin, AreWithin}
use Rattle.tagged_tlb.specs.Classes.{is_marked, AreMarked}
use Rattle.tagged_tlb.proofs.Classes.{none_marked, none_from, wider, marked_at}
use Rattle.tagged_tlb.proofs.Ties.{kind_itself, kind_is}
use Rattle.tagged_tlb.proofs.Order.{lt_yes, runs, runs_adds, split, told_filter, two_with}

-- BOOLS AND FILTERS

same_from : (a b : Bool) → (a ≡ true → b ≡ true) → (b ≡ true → a ≡ true) → a ≡ b
same_from true true h k = refl
same_from true false h k = sym (h refl)
same_from false true h k = k refl
same_from false false h k = refl

filter_same : {X : Type 0} (p q : X → Bool) → ((x : X) → p x ≡ q x) → (xs : List X) → filter p xs ≡ filter q xs
filter_same p q h [] = refl
filter_same p q h (x ∷ xs) = ap (λ b. cond b (x ∷ filter p xs) (filter p xs)) (h x) ∙ ap (λ v. cond (q x) (x ∷ v) v) (filter_same p q h xs)

both_if : {X : Type 0} (p q : X → Bool) (x : X) (xs : List X) (b : Bool) → q x ≡ b → filter p (filter q xs) ≡ filter (λ y. q y && p y) xs
    → filter p (cond b (x ∷ filter q xs) (filter q xs)) ≡ cond (b && p x) (x ∷ filter (λ y. q y && p y) xs) (filter (λ y. q y && p y) xs)
both_if p q x xs true e rest = ap (λ v. cond (p x) (x ∷ v) v) rest
both_if p q x xs false e rest = rest

filter_both : {X : Type 0} (p q : X → Bool) (xs : List X) → filter p (filter q xs) ≡ filter (λ x. q x && p x) xs
filter_both p q [] = refl
filter_both p q (x ∷ xs) = both_if p q x xs (q x) refl (filter_both p q xs)

turn_two : (a b : Bool) → (a && b) ≡ (b && a)
turn_two true true = refl
turn_two true false = refl
turn_two false true = refl
turn_two false false = refl

regroup1 : (a b c d e : Bool) → (a && b && c && d && e) ≡ ((a && b) && (c && e && d))
regroup1 true true true d e = turn_two d e
regroup1 true true false d e = refl
regroup1 true false c d e = refl
regroup1 false b c d e = refl

regroup2 : (a b c d : Bool) → (a && b && c && d) ≡ ((a && b) && (c && true && d))
regroup2 true true true d = refl
regroup2 true true false d = refl
regroup2 true false c d = refl
regroup2 false b c d = refl

-- ONE MORE ROW THAT MATCHES

module _ (P : Seen → Type 0) (s : Seen) (here : P s) where
  one_each : (a : Seen) (b : Bool) → P a → AllSeen P (cond b (Two s a) (Two a s))
  one_each a true h = (here, h)
  one_each a false h = (h, here)

  two_each : (a b : Seen) (x y : Bool) → P a → P b → AllSeen P (cond x (Two s a) (cond y (Two a s) (Two a b)))
  two_each a b true y h k = (here, h)
  two_each a b false true h k = (h, here)
  two_each a b false false h k = (h, k)

  met_each : (found : Found) → AllSeen P found → AllSeen P (met found s)
  met_each Nothing h = here
  met_each (One a) h = one_each a (is_older s.made a.made) h
  met_each (Two a b) h = two_each a b (is_older s.made a.made) (is_older s.made b.made) h.0 h.1

-- WHERE ROWS WERE FOUND

module _ (sets : List (List Row)) (test : Row → Bool) (set : ℕ) (lt : set < length sets) where
  found_by : (way : ℕ) (made : Made) (found : Found) (b : Bool) → way < length (get_or sets set []) → AreWithin sets found
      → AreWithin sets (cond b (met found (seen_at set way made)) found)
  found_by way made found true within h = met_each (λ s. IsWithin sets s.slot) (seen_at set way made) (lt, within) found h
  found_by way made found false within h = h

  looked_from : (way : ℕ) (found : Found) (rows : List Row) → way + length rows ≤ length (get_or sets set []) → AreWithin sets found
      → AreWithin sets (looked test made_of_row set way found rows)
  looked_from way found [] le h = h
  looked_from way found (r ∷ rows) le h =
      looked_from (way + 1) (cond (test r) (met found (seen_at set way r.made)) found) rows (omega (arith, le))
      (found_by way r.made found (test r) (omega (arith, le)) h)

-- the rows of a set are found where they stand
pub looked_within : (sets : List (List Row)) (test : Row → Bool) (set : ℕ) (one : List Row) (found : Found) → set < length sets
    → one ≡ get_or sets set one
    → AreWithin sets found → AreWithin sets (looked test made_of_row set 0 found one)
looked_within sets test set one found lt value h =
    let one_is : one ≡ get_or sets set [] = value ∙ get_or_default sets set one [] lt in
    looked_from sets test set lt 0 found one (let e = ap length one_is in omega (arith, e)) h

module _ (d : Row) (sets : List (List Row)) where
  abbrev at : Seen → Row
  at s = seen_row d sets s

  module _ (s : Seen) (here : IsSeen d sets s) where
    older_is : (a : Seen) → IsSeen d sets a → is_older (at s).made (at a).made ≡ is_older s.made a.made
    older_is a h = rw (here, h) refl

    one_met : (a : Seen) (b : Bool) → is_older (at s).made (at a).made ≡ b
        → found_rows d sets (cond b (Two s a) (Two a s)) ≡ take 2 (inserted (at s) (at a ∷ []))
    one_met a true e = rw e refl
    one_met a false e = rw e refl

    two_met : (a b : Seen) (x y : Bool) → is_older (at s).made (at a).made ≡ x → is_older (at s).made (at b).made ≡ y
        → found_rows d sets (cond x (Two s a) (cond y (Two a s) (Two a b))) ≡ take 2 (inserted (at s) (at a ∷ at b ∷ []))
    two_met a b true y e f = rw e refl
    two_met a b false true e f = rw (e, f) refl
    two_met a b false false e f = rw (e, f) refl

    pub met_rows : (found : Found) → AllSeen (IsSeen d sets) found → found_rows d sets (met found s) ≡ take 2 (inserted (at s) (found_rows d sets found))
    met_rows Nothing h = refl
    met_rows (One a) h = one_met a (is_older s.made a.made) (older_is a h)
    met_rows (Two a b) h = two_met a b (is_older s.made a.made) (is_older s.made b.made) (older_is a h.0) (older_is b h.1)

  -- ONE SET

  -- what was found are the first two of some rows
  pub record IsBest (found : Found) (rows : List Row) : Type 0 where
    pub seen : AllSeen (IsSeen d sets) found
    pub are : found_rows d sets found ≡ take 2 rows

  -- the rows stand in a set from a place on
  abbrev StandAt : (set way : ℕ) (rows : List Row) → Type 0
  StandAt set way rows = (j : ℕ) → j < length rows → row_at sets set (way + j) d ≡ get_or rows j d

  module _ (test : Row → Bool) (set : ℕ) where
    next_best : (way : ℕ) (r : Row) (found : Found) (xs : List Row) → row_at sets set way d ≡ r → IsBest found xs
        → IsBest (met found (seen_at set way r.made)) (inserted r xs)
    next_best way r found xs e h =
        let here : IsSeen d sets (seen_at set way r.made) = ap (λ (v : Row). v.made) e in
        record {
          seen = met_each (IsSeen d sets) (seen_at set way r.made) here found h.seen;
          are = met_rows (seen_at set way r.made) here found h.seen ∙ ap (λ (v : Row). take 2 (inserted v (found_rows d sets found))) e
              ∙ ap (λ v. take 2 (inserted r v)) h.are ∙ two_with r xs;
        }

    look_by : (way : ℕ) (r : Row) (rows : List Row) (found : Found) (xs : List Row) (b : Bool) → row_at sets set way d ≡ r → IsBest found xs
        → ((found : Found) (xs : List Row) → IsBest found xs → IsBest (looked test made_of_row set (way + 1) found rows) (runs xs (filter test rows)))
        → IsBest (looked test made_of_row set (way + 1) (cond b (met found (seen_at set way r.made)) found) rows) (runs xs (cond b (r ∷ filter test rows)
        (filter test rows)))
    look_by way r rows found xs true e h rest = rest (met found (seen_at set way r.made)) (inserted r xs) (next_best way r found xs e h)
    look_by way r rows found xs false e h rest = rest found xs h

    later : (way : ℕ) (r : Row) (rows : List Row) → StandAt set way (r ∷ rows) → StandAt set (way + 1) rows
    later way r rows h j lt =
        let e : way + (j + 1) ≡ way + 1 + j = omega arith in
        let k : j + 1 ≡ suc j = omega arith in
        subst (λ v. row_at sets set v d ≡ get_or rows j d) e (subst (λ v. row_at sets set (way + v) d ≡ get_or rows j d) (sym k) (h (suc j) (omega
        (arith, lt))))

    first_is : (way : ℕ) (r : Row) (rows : List Row) → StandAt set way (r ∷ rows) → row_at sets set way d ≡ r
    first_is way r rows h = let e : way + 0 ≡ way = omega arith in subst (λ v. row_at sets set v d ≡ r) e (h 0 (omega arith))

    pub look_best : (way : ℕ) (rows : List Row) (found : Found) (xs : List Row) → StandAt set way rows → IsBest found xs
        → IsBest (looked test made_of_row set way found rows) (runs xs (filter test rows))
    look_best way [] found xs s h = h
    look_best way (r ∷ rows) found xs s h =
        look_by way r rows found xs (test r) (first_is way r rows s) h (λ found xs h. look_best (way + 1) rows found xs (later way r rows s) h)

  -- ONE CLASS

  module _ (k : Kind) (n : ℕ) (q : Sought) (live : List Row) (told : AreToldApart live) (f : IsTied k n live sets) where
    abbrev m : Row → Bool
    m r = is_sought k q r

    -- those of smaller classes
    abbrev pub below : ℕ → Row → Bool
    below c r = m r && nat_lt r.region.class c

    abbrev of_class : ℕ → Row → Bool
    of_class c r = m r && (r.region.class == c)

    -- what is sought, as the kind with the region, and the key
    split_by : (st : Stage) (r : Row) → matches_by st k q.key q.at r
        ≡ ((same_kind r.kind k && holds r.region q.at) &&
        ((r.key.vmid == q.key.vmid) && suits_asid st q.key.asid r.global r.key.asid && same_fields r.key.config q.key.config))
    split_by S1 r =
        regroup1 (same_kind r.kind k) (holds r.region q.at) (r.key.vmid == q.key.vmid) (same_fields r.key.config q.key.config) (r.global ||
        (r.key.asid == q.key.asid))
    split_by S2 r = regroup2 (same_kind r.kind k) (holds r.region q.at) (r.key.vmid == q.key.vmid) (same_fields r.key.config q.key.config)

    sought_parts : (r : Row) → m r ≡ true → ((same_kind r.kind k && holds r.region q.at) ≡ true) × (is_keyed_row q r ≡ true)
    sought_parts r h = and_parts (same_kind r.kind k && holds r.region q.at) (is_keyed_row q r) (sym (split_by q.stage r) ∙ h)

    sought_from : (r : Row) → (same_kind r.kind k && holds r.region q.at) ≡ true → is_keyed_row q r ≡ true → m r ≡ true
    sought_from r h e = split_by q.stage r ∙ and_from (same_kind r.kind k && holds r.region q.at) (is_keyed_row q r) h e

    kinds_turned : (a b : Kind) → same_kind a b ≡ true → same_kind b a ≡ true
    kinds_turned a b h = subst (λ v. same_kind v a ≡ true) (kind_is a b h) (kind_itself a)

    -- a row of the class that matches stands in the set that is looked at
    hit_is : (c : ℕ) (r : Row) → (in_set k n (q.at / 2 ^ c % n) r && hit q c (q.at / 2 ^ c) r) ≡ of_class c r
    hit_is c r = same_from (in_set k n (q.at / 2 ^ c % n) r && hit q c (q.at / 2 ^ c) r) (of_class c r)
        (λ h.
        let a = and_parts (in_set k n (q.at / 2 ^ c % n) r) (hit q c (q.at / 2 ^ c) r) h in
        let b = and_parts (same_kind k r.kind) (q.at / 2 ^ c % n == r.region.start % n) a.0 in
        let e = and_parts ((r.region.start == q.at / 2 ^ c) && (r.region.class == c)) (is_keyed_row q r) a.1 in
        let i = and_parts (r.region.start == q.at / 2 ^ c) (r.region.class == c) e.0 in
        let class : r.region.class ≡ c = eqb-true r.region.class c i.1 in
        let start : q.at / 2 ^ r.region.class ≡ r.region.start = ap (λ v. q.at / 2 ^ v) class ∙ sym (eqb-true r.region.start (q.at / 2 ^ c) i.0) in
        and_from (m r) (r.region.class == c)
        (sought_from r
        (and_from (same_kind r.kind k) (holds r.region q.at) (kinds_turned k r.kind b.0) (eq-eqb (q.at / 2 ^ r.region.class) r.region.start start)) e.1)
        i.1)
        (λ h.
        let a = and_parts (m r) (r.region.class == c) h in
        let e = sought_parts r a.0 in
        let i = and_parts (same_kind r.kind k) (holds r.region q.at) e.0 in
        let class : r.region.class ≡ c = eqb-true r.region.class c a.1 in
        let start : r.region.start ≡ q.at / 2 ^ c = sym (eqb-true (q.at / 2 ^ r.region.class) r.region.start i.1) ∙ ap (λ v. q.at / 2 ^ v) class in
        and_from (in_set k n (q.at / 2 ^ c % n) r) (hit q c (q.at / 2 ^ c) r)
        (and_from (same_kind k r.kind) (q.at / 2 ^ c % n == r.region.start % n) (kinds_turned r.kind k i.0) (eq-eqb (q.at / 2 ^ c % n)
        (r.region.start % n) (ap (λ v. v % n) (sym start))))
        (and_from ((r.region.start == q.at / 2 ^ c) && (r.region.class == c)) (is_keyed_row q r)
        (and_from (r.region.start == q.at / 2 ^ c) (r.region.class == c) (eq-eqb r.region.start (q.at / 2 ^ c) start) a.1) e.1))

    pub class_rows : (c : ℕ) → q.at / 2 ^ c % n < n → filter (hit q c (q.at / 2 ^ c)) (get_or sets (q.at / 2 ^ c % n) []) ≡ filter (of_class c) live
    class_rows c lt =
        ap (filter (hit q c (q.at / 2 ^ c))) (f.each (q.at / 2 ^ c % n) lt)
        ∙ filter_both (hit q c (q.at / 2 ^ c)) (in_set k n (q.at / 2 ^ c % n)) live
        ∙ filter_same (λ r. in_set k n (q.at / 2 ^ c % n) r && hit q c (q.at / 2 ^ c) r) (of_class c) (hit_is c) live

    apart : (c : ℕ) (r : Row) → below c r ≡ true → of_class c r ≡ false
    apart c r h = elim (cases_Bool (of_class c r)) [
      | inl t ↦
          let a : r.region.class < c = ltb-true r.region.class c (and_parts (m r) (nat_lt r.region.class c) h).1 in
          let b : r.region.class ≡ c = eqb-true r.region.class c (and_parts (m r) (r.region.class == c) t).1 in
          absurd (omega (arith, a, b))
      | inr e ↦ e
    ]

    one_class_by : (c : ℕ) (r : Row) (b : Bool) → ((b && nat_lt r.region.class c) || (b && (r.region.class == c))) ≡ (b && nat_lt r.region.class (c + 1))
    one_class_by c r false = refl
    one_class_by c r true = same_from (nat_lt r.region.class c || (r.region.class == c)) (nat_lt r.region.class (c + 1))
        (λ h. elim (cases_Bool (nat_lt r.region.class c)) [
          | inl t ↦ lt_yes r.region.class (c + 1) (let a = ltb-true r.region.class c t in omega (arith, a))
          | inr f2 ↦
              let e : (r.region.class == c) ≡ true = subst (λ v. (v || (r.region.class == c)) ≡ true) f2 h in
              lt_yes r.region.class (c + 1) (let a = eqb-true r.region.class c e in omega (arith, a))
        ])
        (λ h. elim (cases_eq r.region.class c) [
          | inl e ↦ or_right (nat_lt r.region.class c) (r.region.class == c) (eq-eqb r.region.class c e)
          | inr ne ↦ or_left (nat_lt r.region.class c) (r.region.class == c) (lt_yes r.region.class c (let a = ltb-true r.region.class (c + 1) h in omega
              (arith, a, ne)))
        ])

    class_comes : (c : ℕ) → q.at / 2 ^ c % n < n
        → runs (by_making (filter (below c) live)) (filter (hit q c (q.at / 2 ^ c)) (get_or sets (q.at / 2 ^ c % n) [])) ≡ by_making (filter (below
        (c + 1)) live)
    class_comes c lt =
        ap (runs (by_making (filter (below c) live))) (class_rows c lt)
        ∙ runs_adds (by_making (filter (below c) live)) (filter (of_class c) live) (told_filter (of_class c) live told)
        ∙ sym (split (below c) (of_class c) (apart c) live told)
        ∙ ap by_making (filter_same (λ r. below c r || of_class c r) (below (c + 1)) (λ r. one_class_by c r (m r)) live)

    -- one class more
    next_class : (c : ℕ) (found : Found) → q.at / 2 ^ c % n < n → IsBest found (by_making (filter (below c) live))
        → IsBest (looked (hit q c (q.at / 2 ^ c)) made_of_row (q.at / 2 ^ c % n) 0 found (get_or sets (q.at / 2 ^ c % n) [])) (by_making (filter (below
        (c + 1)) live))
    next_class c found lt h =
        subst (λ v. IsBest (looked (hit q c (q.at / 2 ^ c)) made_of_row (q.at / 2 ^ c % n) 0 found (get_or sets (q.at / 2 ^ c % n) [])) v) (class_comes c lt)
        (look_best (hit q c (q.at / 2 ^ c)) (q.at / 2 ^ c % n) 0 (get_or sets (q.at / 2 ^ c % n) []) found (by_making (filter (below c) live))
        (λ j lt. let e : 0 + j ≡ j = omega arith in subst (λ v. row_at sets (q.at / 2 ^ c % n) v d ≡ row_at sets (q.at / 2 ^ c % n) j d) (sym e) refl) h)

    -- one class more, of which there is no row
    pub no_class : (c marks : ℕ) (found : Found) → 0 < n → AreMarked marks sets → is_marked marks c ≡ false
        → IsBest found (by_making (filter (below c) live))
        → IsBest found (by_making (filter (below (c + 1)) live))
    no_class c marks found some marked no_mark h =
        let lt : q.at / 2 ^ c % n < n = omega (arith, some) in
        let none_here : filter (hit q c (q.at / 2 ^ c)) (get_or sets (q.at / 2 ^ c % n) []) ≡ [] =
        none_marked marks c no_mark q (q.at / 2 ^ c) (get_or sets (q.at / 2 ^ c % n) []) (marked_at marks sets (q.at / 2 ^ c % n) [] (subst
        (λ v. q.at / 2 ^ c % n < v) (sym f.count) lt) marked) in
        subst (IsBest found) (ap (runs (by_making (filter (below c) live))) (sym none_here) ∙ class_comes c lt) h

    -- no row has a class from one on
    pub no_classes : (gap c marks : ℕ) (found : Found) → c + gap ≡ 64 → 0 < n → AreMarked marks sets → marks < 2 ^ c
        → IsBest found (by_making (filter (below c) live)) → IsBest found (by_making (filter (below 64) live))
    no_classes zero c marks found e some marked small h = let e : c ≡ 64 = omega (arith, e) in
        subst (λ v. IsBest found (by_making (filter (below v) live))) e h
    no_classes (suc gap) c marks found e some marked small h =
        no_classes gap (c + 1) marks found (omega (arith, e)) some marked (wider marks c small)
        (no_class c marks found some marked (none_from marks c c small (omega arith)) h)

    -- no class is below 0
    none_by : (r : Row) (b : Bool) → (b && nat_lt r.region.class 0) ≡ false
    none_by r true = elim (cases_Bool (nat_lt r.region.class 0)) [ inl t ↦ absurd (let a = ltb-true r.region.class 0 t in omega (arith, a)) | inr e ↦ e ]
    none_by r false = refl

    none : (xs : List Row) → filter (below 0) xs ≡ []
    none [] = refl
    none (r ∷ xs) = ap (λ b. cond b (r ∷ filter (below 0) xs) (filter (below 0) xs)) (none_by r (m r)) ∙ none xs

    pub first_class : IsBest Nothing (by_making (filter (below 0) live))
    first_class = record { seen = tt; are = sym (ap (λ v. take 2 (by_making v)) (none live)) }

    -- nor below the first that may be there
    pub no_first : (c marks : ℕ) → 0 < n → AreMarked marks sets → ((k : ℕ) → k < c → is_marked marks k ≡ false)
        → IsBest Nothing (by_making (filter (below c) live))
    no_first zero marks some marked no_marks = first_class
    no_first (suc c) marks some marked no_marks =
        let e : c + 1 ≡ suc c = omega arith in
        subst (λ v. IsBest Nothing (by_making (filter (below v) live))) e
        (no_class c marks Nothing some marked (no_marks c (omega arith)) (no_first c marks some marked (λ k h. no_marks k (omega (arith, h)))))

    -- all classes are below 64
    all_by : (r : Row) (b : Bool) → r.region.class < 64 → (b && nat_lt r.region.class 64) ≡ b
    all_by r true h = lt_yes r.region.class 64 h
    all_by r false h = refl

    all_below : (xs : List Row) → AreSmall xs → filter (below 64) xs ≡ filter m xs
    all_below [] s = refl
    all_below (r ∷ xs) s = ap (λ b. cond b (r ∷ filter (below 64) xs) (filter (below 64) xs)) (all_by r (m r) s.0)
        ∙ ap (λ v. cond (m r) (r ∷ v) v) (all_below xs s.1)

    pub last_class : (found : Found) → AreSmall live → IsBest found (by_making (filter (below 64) live))
        → found_rows d sets found ≡ take 2 (matching m live)
    last_class found s h = h.are ∙ ap (λ v. take 2 (by_making v)) (all_below live s)

    -- the same for the set that was read
    pub next_here : (c : ℕ) (found : Found) (one : List Row) → 0 < n → one ≡ get_or sets (q.at / 2 ^ c % n) one
        → IsBest found (by_making (filter (below c) live))
        → IsBest (looked (hit q c (q.at / 2 ^ c)) made_of_row (q.at / 2 ^ c % n) 0 found one) (by_making (filter (below (c + 1)) live))
    next_here c found one some value h =
        let lt : q.at / 2 ^ c % n < n = omega (arith, some) in
        let one_is : one ≡ get_or sets (q.at / 2 ^ c % n) [] = value
        ∙ get_or_default sets (q.at / 2 ^ c % n) one [] (subst (λ v. q.at / 2 ^ c % n < v) (sym f.count) lt) in
        subst (λ v. IsBest (looked (hit q c (q.at / 2 ^ c)) made_of_row (q.at / 2 ^ c % n) 0 found v) (by_making (filter (below (c + 1)) live)))
        (sym one_is) (next_class c found lt h)
