-- Rows that come, leave and move: each row behind a step is one before or one that was made, and rows stay told apart.
use Rattle.std.proofs.Common.{◌≡◌, ℕ, ◌+◌, Bool, true, false, not, ◌&&◌, ◌||◌, cond, List, [], ◌∷◌}
use Rattle.std.proofs.Common.{◌++◌, length, ◌⊎◌, inl, inr, refl, sym, ap, ◌∙◌, subst}
use Rattle.std.specs.Prelude.{◌==◌, nat_le, fold, filter}
use Rattle.std.specs.List.{list_any}
use Rattle.std.proofs.lemmas.Bool.{eq-eqb, both_ways, or_parts, not-true}
use Rattle.std.proofs.lemmas.Option.{same_Some}
use Rattle.sysregs.specs.declared.regs.Regs.{Regs}
use Rattle.sysregs.specs.Equality.{same_bool, same_fields}
use Rattle.sysregs.proofs.Configs.{equal_self, same_bool_self, same_fields_self}
use Rattle.trace_lang.specs.declared.header.Policy.{Policy}
use Rattle.trace_lang.specs.declared.header.Policy.TheVariants.{Lru, Fifo, Random}
use Rattle.tagged_tlb.specs.declared.row.Key.{Key}
use Rattle.walk_spec.specs.declared.region.Region.{Region}
use Rattle.tagged_tlb.specs.declared.row.Kind.TheVariants.{Leaf1, Leaf2}
use Rattle.tagged_tlb.specs.Shapes.{shape_of}
use Rattle.machine_spec.specs.Header.{Header}
use Rattle.machine_spec.specs.Marks.{Mark, is_global}
use Rattle.tagged_tlb.specs.declared.row.Row.{Row}
use Rattle.tagged_tlb.specs.Rows.{same_kind, same_region, holds, matches1}
use Rattle.machine_spec.specs.Made.{Maker, key_of}
use Rattle.tagged_tlb.specs.Sets.{Cache, victim, without, same_set, same_key, added, is_row, to_end, touched}
use Rattle.machine_laws.proofs.Facts.{In, IsApart, IsApart1, IsApart2, AllApart}
use Rattle.machine_laws.proofs.Lists.{In-from_filter, In-push_cases, In-without}
use Rattle.machine_laws.proofs.Pairs.{pairs_filter, pairs_without, pairs_push}
use Rattle.machine_laws.proofs.Combined.{IsMade1}
use Rattle.machine_laws.proofs.Found.{apart_sym}
use Rattle.tagged_tlb.proofs.Ties.{kind_itself}
use Rattle.machine_laws.proofs.Sets.{In-added}

-- EQUAL KEYS

same_region_self : (r : Region) → same_region r r ≡ true
same_region_self r = rw (equal_self r.class, equal_self r.start) refl

-- rows of equal kinds, regions, keys and global flags would serve the same
pub same_key_from : (r x : Row) → r.kind ≡ x.kind → r.region ≡ x.region → r.key.vmid ≡ x.key.vmid → r.key.asid ≡ x.key.asid
    → r.global ≡ x.global
    → r.key.config ≡ x.key.config → same_key r x ≡ true
same_key_from r x kd rg vm ad gl cf =
    let a : same_kind r.kind x.kind ≡ true = subst (λ z. same_kind r.kind z ≡ true) kd (kind_itself r.kind) in
    let b : same_region r.region x.region ≡ true = subst (λ z. same_region r.region z ≡ true) rg (same_region_self r.region) in
    let c : same_bool r.global x.global ≡ true = subst (λ z. same_bool r.global z ≡ true) gl (same_bool_self r.global) in
    let d : same_fields r.key.config x.key.config ≡ true = subst (λ z. same_fields r.key.config z ≡ true) cf (same_fields_self r.key.config) in
    rw (a, b, eq-eqb r.key.vmid x.key.vmid vm, eq-eqb r.key.asid x.key.asid ad, c, d) refl

-- LISTS OF ROWS THAT ARE TOLD APART

-- any two rows of the list that aren't one, in whichever order they stand
pub apart_two : (xs : List Row) (r s : Row) → AllApart xs → In r xs → In s xs → (r ≡ s → ⊥) → IsApart r s
apart_two [] r s a i j n = absurd i
apart_two (x ∷ xs) r s a (inl e) (inl q) n = absurd (n (e ∙ sym q))
apart_two (x ∷ xs) r s a (inl e) (inr j) n = subst (λ v. IsApart v s) (sym e) (a.0 s j)
apart_two (x ∷ xs) r s a (inr i) (inl q) n = subst (λ v. IsApart r v) (sym q) (apart_sym x r (a.0 r i))
apart_two (x ∷ xs) r s a (inr i) (inr j) n = apart_two xs r s a.1 i j n

-- ROWS THAT SERVED

In-to_end : (rows : List Row) (r x : Row) → In x (to_end rows r) → In x rows ⊎ (x ≡ r)
In-to_end rows r x h =
    elim (In-push_cases (filter (λ y. not (is_row r y)) rows) r x h) [ inl i ↦ inl (In-from_filter (λ y. not (is_row r y)) rows x i).0 | inr e ↦ inr e ]

is_row_self : (r : Row) → is_row r r ≡ true
is_row_self r = rw (equal_self r.made.step, equal_self r.made.order) refl

-- olds: the rows before the step, told apart
module _ (olds : List Row) (apart : AllApart olds) where
  abbrev Within : List Row → Type 0
  Within rows = (x : Row) → In x rows → In x olds

  within_end : (rows : List Row) (r : Row) → Within rows → In r olds → Within (to_end rows r)
  within_end rows r w i x h = elim (In-to_end rows r x h) [ inl m ↦ w x m | inr e ↦ subst (λ z. In z olds) (sym e) i ]

  apart_end : (rows : List Row) (r : Row) → Within rows → In r olds → AllApart rows → AllApart (to_end rows r)
  apart_end rows r w i a =
      pairs_push IsApart (filter (λ y. not (is_row r y)) rows) r (λ x h.
      let p = In-from_filter (λ y. not (is_row r y)) rows x h in
      apart_two olds x r apart (w x p.0) i (λ e. both_ways (is_row r r) (subst (λ z. is_row r z ≡ false) e (not-true (is_row r x) p.1)) (is_row_self r)))
      (pairs_filter IsApart (λ y. not (is_row r y)) rows a)

  within_ends : (served rows : List Row) → Within served → Within rows → Within (fold to_end rows served)
  within_ends [] rows s w = w
  within_ends (r ∷ served) rows s w = within_ends served (to_end rows r) (λ x i. s x (inr i)) (within_end rows r w (s r (inl refl)))

  apart_ends : (served rows : List Row) → Within served → Within rows → AllApart rows → AllApart (fold to_end rows served)
  apart_ends [] rows s w a = a
  apart_ends (r ∷ served) rows s w a =
      apart_ends served (to_end rows r) (λ x i. s x (inr i)) (within_end rows r w (s r (inl refl))) (apart_end rows r w (s r (inl refl)) a)

  pub within_touched : (policy : Policy) (served : List Row) → Within served → Within (touched policy olds served)
  within_touched Lru served s = within_ends served olds s (λ x i. i)
  within_touched Fifo served s = λ x i. i
  within_touched (Random n) served s = λ x i. i

  pub apart_touched : (policy : Policy) (served : List Row) → Within served → AllApart (touched policy olds served)
  apart_touched Lru served s = apart_ends served olds s (λ x i. i) apart
  apart_touched Fifo served s = apart
  apart_touched (Random n) served s = apart

-- ROWS THAT ARE ADDED

-- by whether its key is live, and whether its set is full
abbrev added_by : Bool → Bool → Cache → (Row → Bool) → ℕ → Row → Cache
added_by b d l p n r = cond b l (cond d (record { rows = without p l.rows n ++ r ∷ []; evictions = l.evictions + 1 })
    (record l { rows = l.rows ++ r ∷ [] }))

any_not : (p : Row → Bool) (rows : List Row) (x : Row) → list_any p rows ≡ false → In x rows → p x ≡ false
any_not p [] x h i = absurd i
any_not p (y ∷ ys) x h (inl e) = ap p e ∙ (or_parts (p y) (list_any p ys) h).0
any_not p (y ∷ ys) x h (inr i) = any_not p ys x (or_parts (p y) (list_any p ys) h).1 i

-- rows of stage 2 leaves keep no ASID and aren't global
abbrev pub IsKeyed : Row → Type 0
IsKeyed r = r.kind ≡ Leaf2 → (r.key.asid ≡ 0) × (r.global ≡ false)

other_key : (r x : Row) → IsKeyed r → IsKeyed x → same_key r x ≡ false → IsApart2 x r
other_key r x kr kx h lx lr cf vm rg =
    let a = kr lr in
    let b = kx lx in
    both_ways (same_key r x) h (same_key_from r x (lr ∙ sym lx) (sym rg) (sym vm) (a.0 ∙ sym b.0) (a.1 ∙ sym b.1) (sym cf))

apart_one : (b d : Bool) (l : Cache) (p : Row → Bool) (n : ℕ) (r : Row) → list_any (same_key r) l.rows ≡ b
    → ((x : Row) → In x l.rows → same_key r x ≡ false → IsApart x r) → AllApart l.rows → AllApart (added_by b d l p n r).rows
apart_one true d l p n r e one a = a
apart_one false true l p n r e one a =
    pairs_push IsApart (without p l.rows n) r (λ x i. let m = In-without p l.rows n x i in one x m (any_not (same_key r) l.rows x e m))
    (pairs_without IsApart p l.rows n a)
apart_one false false l p n r e one a = pairs_push IsApart l.rows r (λ x i. one x i (any_not (same_key r) l.rows x e i)) a

module _ (h : Header) (c : ℕ) where
  abbrev is_full : Cache → Row → Bool
  is_full l r = nat_le (shape_of h.size r.kind).ways (length (filter (same_set (shape_of h.size r.kind) r) l.rows))

  abbrev place_in : Cache → Row → ℕ
  place_in l r = victim h.policy c l.evictions (shape_of h.size r.kind).ways

  -- olds: the rows before; news: all rows that were made
  module _ (olds news : List Row) (keyed_old : (x : Row) → In x olds → IsKeyed x) (keyed_new : (x : Row) → In x news → IsKeyed x)
      (alone : (y : Row) → In y news → y.kind ≡ Leaf1 → (x : Row) → In x olds → IsApart1 x y)
      (single : (x y : Row) → In x news → In y news → x.kind ≡ Leaf1 → y.kind ≡ Leaf1 → same_key y x ≡ true) where
    abbrev Known : List Row → Type 0
    Known rows = (x : Row) → In x rows → In x olds ⊎ In x news

    keyed : (x : Row) → In x olds ⊎ In x news → IsKeyed x
    keyed x (inl i) = keyed_old x i
    keyed x (inr i) = keyed_new x i

    one_apart : (y : Row) → In y news → (x : Row) → In x olds ⊎ In x news → same_key y x ≡ false → IsApart1 x y
    one_apart y iy x (inl i) n lx ly = alone y iy ly x i lx ly
    one_apart y iy x (inr i) n lx ly = absurd (both_ways (same_key y x) n (single x y i iy lx ly))

    known : (l : Cache) (y : Row) → In y news → Known l.rows → Known (added h c l y).rows
    known l y iy k x i = elim (In-added h c l y x i) [ inl m ↦ k x m | inr e ↦ inr (subst (λ z. In z news) (sym e) iy) ]

    pub apart_added : (made : List Row) (l : Cache) → ((x : Row) → In x made → In x news) → Known l.rows → AllApart l.rows
        → AllApart (fold (added h c) l made).rows
    apart_added [] l sub k a = a
    apart_added (y ∷ ys) l sub k a =
        let iy = sub y (inl refl) in
        apart_added ys (added h c l y) (λ x i. sub x (inr i)) (known l y iy k)
        (apart_one (list_any (same_key y) l.rows) (is_full l y) l (same_set (shape_of h.size y.kind) y) (place_in l y) y refl
        (λ x i n. (other_key y x (keyed_new y iy) (keyed x (k x i)) n, one_apart y iy x (k x i) n)) a)

-- COMBINED ROWS

by_parts : (a b c d e : Bool) → a ≡ true → b ≡ true → c ≡ true → d ≡ true → ((a && b && c && d) && e) ≡ false → e ≡ false
by_parts a b c d e p q r s h = sym (rw (p, q, r, s) refl) ∙ h

-- a combined row that didn't match is of another ASID, where it serves the same
pub other_asid : (g : Regs) (x : ℕ) (old new : Row) → matches1 Leaf1 (key_of g) x old ≡ false → new.key ≡ key_of g → holds new.region x ≡ true
    → IsApart1 old new
other_asid g x old new unmatched key held lo ln cf vm rg gl =
    let k : Key = key_of g in
    let a : same_kind old.kind Leaf1 ≡ true = subst (λ z. same_kind z Leaf1 ≡ true) (sym lo) refl in
    let b : holds old.region x ≡ true = subst (λ z. holds z x ≡ true) (sym rg) held in
    let v : (old.key.vmid == k.vmid) ≡ true = eq-eqb old.key.vmid k.vmid (vm ∙ ap (λ (z : Key). z.vmid) key) in
    let f : same_fields old.key.config k.config ≡ true =
    subst (λ z. same_fields old.key.config z ≡ true) (cf ∙ ap (λ (z : Key). z.config) key) (same_fields_self old.key.config) in
    let n = or_parts old.global (old.key.asid == k.asid)
    (by_parts (same_kind old.kind Leaf1) (holds old.region x) (old.key.vmid == k.vmid) (same_fields old.key.config k.config)
    (old.global || (old.key.asid == k.asid)) a b v f unmatched) in
    (n.0, λ e. both_ways (old.key.asid == k.asid) n.1 (eq-eqb old.key.asid k.asid (e ∙ ap (λ (z : Key). z.asid) key)))

-- two that were made in one step would serve the same
pub made_same : (k : Maker) (class x : ℕ) (ms : List Mark) (r s : Row) → r.kind ≡ s.kind → IsMade1 k class x ms r → IsMade1 k class x ms s
    → same_key r s ≡ true
made_same k class x ms r s kd a b =
    let key : r.key ≡ s.key = a.key_is ∙ sym b.key_is in
    same_key_from r s kd (a.region_is ∙ sym b.region_is) (ap (λ (z : Key). z.vmid) key) (ap (λ (z : Key). z.asid) key)
    (a.global_is ∙ ap (λ (z : Mark). is_global z.part) (same_Some a.mark_of b.mark_of (sym a.last_is ∙ b.last_is)) ∙ sym b.global_is)
    (ap (λ (z : Key). z.config) key)
