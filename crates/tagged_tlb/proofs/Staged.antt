-- Stages of which rows may be there, and rows that an operation of the other stage spares.
use Rattle.std.proofs.Common.{◌≡◌, ℕ, zero, suc, ◌<◌, Bool, true, false, not, cond, ◌&&◌, ◌||◌}
use Rattle.std.proofs.Common.{List, [], ◌∷◌, ◌++◌, length, get_or, set, map, replicate}
use Rattle.std.proofs.Common.{refl, ap, sym, subst, arith, inl, inr}
use Rattle.std.specs.Prelude.{filter}
use Rattle.std.specs.List.{remove}
use Rattle.std.proofs.lemmas.Bool.{both_ways, or_parts}
use Rattle.sysregs.specs.declared.ops.Scope.{Scope}
use Rattle.sysregs.specs.declared.ops.Scope.TheVariants.{All, Vmid, Stage1, Asid, PageVa, PageIpa, RangeVa, RangeIpa}
use Rattle.sysregs.specs.declared.ops.OpForm.{OpForm}
use Rattle.sysregs.specs.Ops.{form_of}
use Rattle.fault_codes.specs.declared.fault.Stage.{Stage}
use Rattle.fault_codes.specs.declared.fault.Stage.TheVariants.{S1, S2}
use Rattle.tlbi_ops.specs.declared.inval.Inval.{Inval}
use Rattle.tlbi_ops.specs.declared.inval.Tag.{Tag}
use Rattle.tlbi_ops.specs.Covers.{is_stage1, is_of_granule, is_in, suits_vmid, takes, covers}
use Rattle.tagged_tlb.specs.declared.row.Row.{Row}
use Rattle.tagged_tlb.specs.declared.stages.Stages.{Stages}
use Rattle.tagged_tlb.specs.Slots.{IsFilled}
use Rattle.tagged_tlb.specs.Stages.{may_have, with_stage, AllStaged, AreStaged, takes_stage1, takes_stage2, may_take}

-- LISTS

module _ (s : Stages) where
  staged_append : (xs ys : List Row) → AllStaged s xs → AllStaged s ys → AllStaged s (xs ++ ys)
  staged_append [] ys a b = b
  staged_append (x ∷ xs) ys a b = (a.0, staged_append xs ys a.1 b)

  staged_remove : (xs : List Row) (i : ℕ) → AllStaged s xs → AllStaged s (remove xs i)
  staged_remove [] zero a = tt
  staged_remove [] (suc i) a = tt
  staged_remove (x ∷ xs) zero a = a.1
  staged_remove (x ∷ xs) (suc i) a = (a.0, staged_remove xs i a.1)

  staged_get : (xs : List Row) (i : ℕ) (d : Row) → i < length xs → AllStaged s xs → may_have s (get_or xs i d).tag.stage ≡ true
  staged_get [] i d h a = absurd (omega (arith, h))
  staged_get (x ∷ xs) zero d h a = a.0
  staged_get (x ∷ xs) (suc i) d h a = staged_get xs i d (omega (arith, h)) a.1

  staged_if : (x : Row) (xs : List Row) (b : Bool) → may_have s x.tag.stage ≡ true → AllStaged s xs → AllStaged s (cond b (x ∷ xs) xs)
  staged_if x xs true h a = (h, a)
  staged_if x xs false h a = a

  staged_filter : (keep : Row → Bool) (xs : List Row) → AllStaged s xs → AllStaged s (filter keep xs)
  staged_filter keep [] a = tt
  staged_filter keep (x ∷ xs) a = staged_if x (filter keep xs) (keep x) a.0 (staged_filter keep xs a.1)

  pub staged_kills : (keep : Row → Bool) (sets : List (List Row)) → AreStaged s sets → AreStaged s (map (filter keep) sets)
  staged_kills keep [] a = tt
  staged_kills keep (rows ∷ sets) a = (staged_filter keep rows a.0, staged_kills keep sets a.1)

  pub staged_opened : (n : ℕ) → AreStaged s (replicate n [])
  staged_opened zero = tt
  staged_opened (suc n) = (tt, staged_opened n)

  staged_set : (sets : List (List Row)) (i : ℕ) (new : List Row) → AreStaged s sets → AllStaged s new → AreStaged s (set sets i new)
  staged_set [] i new a b = tt
  staged_set (rows ∷ sets) zero new a b = (b, a.1)
  staged_set (rows ∷ sets) (suc i) new a b = (a.0, staged_set sets i new a.1 b)

  staged_at : (sets : List (List Row)) (i : ℕ) (d : List Row) → i < length sets → AreStaged s sets → AllStaged s (get_or sets i d)
  staged_at [] i d h a = absurd (omega (arith, h))
  staged_at (rows ∷ sets) zero d h a = a.0
  staged_at (rows ∷ sets) (suc i) d h a = staged_at sets i d (omega (arith, h)) a.1

  -- a row of a set goes last in it
  pub touched_staged : (sets : List (List Row)) (i way : ℕ) (one new : List Row) → i < length sets → one ≡ get_or sets i one → way < length one
      → AreStaged s sets → ((d : Row) → new ≡ remove one way ++ get_or one way d ∷ []) → AreStaged s (set sets i new)
  touched_staged sets i way [] new lt value within a e = absurd (omega (arith, within))
  touched_staged sets i way (x ∷ xs) new lt value within a e =
      let b : AllStaged s (x ∷ xs) = subst (AllStaged s) (sym value) (staged_at sets i (x ∷ xs) lt a) in
      staged_set sets i new a
      (subst (AllStaged s) (sym (e x)) (staged_append (remove (x ∷ xs) way) (get_or (x ∷ xs) way x ∷ []) (staged_remove (x ∷ xs) way b)
      (staged_get (x ∷ xs) way x within b, tt)))

-- ONE STAGE MORE

own_staged : (s : Stages) (t : Stage) → may_have (with_stage s t) t ≡ true
own_staged s S1 = refl
own_staged s S2 = refl

still_staged : (s : Stages) (t u : Stage) → may_have s u ≡ true → may_have (with_stage s t) u ≡ true
still_staged s S1 S1 h = refl
still_staged s S1 S2 h = h
still_staged s S2 S1 h = h
still_staged s S2 S2 h = refl

module _ (s : Stages) (t : Stage) where
  still_all : (xs : List Row) → AllStaged s xs → AllStaged (with_stage s t) xs
  still_all [] a = tt
  still_all (x ∷ xs) a = (still_staged s t x.tag.stage a.0, still_all xs a.1)

  still_are : (sets : List (List Row)) → AreStaged s sets → AreStaged (with_stage s t) sets
  still_are [] a = tt
  still_are (rows ∷ sets) a = (still_all rows a.0, still_are sets a.1)

filled_by : (s : Stages) (r : Row) (one new : List Row) → AllStaged s one → IsFilled one r new → AllStaged (with_stage s r.tag.stage) new
filled_by s r one new a (inl f) =
    let m : Stages = with_stage s r.tag.stage in
    subst (AllStaged m) (sym f) (staged_append m one (r ∷ []) (still_all s r.tag.stage one a) (own_staged s r.tag.stage, tt))
filled_by s r one new a (inr f) =
    let m : Stages = with_stage s r.tag.stage in
    subst (AllStaged m) (sym f.2)
    (staged_append m (remove one f.0) (r ∷ []) (staged_remove m one f.0 (still_all s r.tag.stage one a)) (own_staged s r.tag.stage, tt))

-- a set that got a row of the stage
pub filled_staged : (s : Stages) (r : Row) (sets : List (List Row)) (i : ℕ) (one new : List Row) → i < length sets → one ≡ get_or sets i one
    → AreStaged s sets → IsFilled one r new → AreStaged (with_stage s r.tag.stage) (set sets i new)
filled_staged s r sets i one new lt value a f =
    staged_set (with_stage s r.tag.stage) sets i new (still_are s r.tag.stage sets a)
    (filled_by s r one new (subst (AllStaged s) (sym value) (staged_at s sets i one lt a)) f)

-- NO ROW OF A STAGE

and_no : (b : Bool) → (b && false) ≡ false
and_no true = refl
and_no false = refl

-- an operation of a scope may take rows of a stage
abbrev takes_stage : Scope → Stage → Bool
takes_stage scope S1 = takes_stage1 scope
takes_stage scope S2 = takes_stage2 scope

out_by : (scope : Scope) (t : Stage) (i : Inval) (tag : Tag) → tag.stage ≡ t → takes_stage scope t ≡ false → is_in scope i tag ≡ false
out_by All S1 i tag e h = absurd (both_ways true h refl)
out_by All S2 i tag e h = absurd (both_ways true h refl)
out_by Vmid S1 i tag e h = absurd (both_ways true h refl)
out_by Vmid S2 i tag e h = absurd (both_ways true h refl)
out_by Stage1 S1 i tag e h = absurd (both_ways true h refl)
out_by Stage1 S2 i tag e h = ap is_stage1 e
out_by Asid S1 i tag e h = absurd (both_ways true h refl)
out_by Asid S2 i tag e h = rw (ap is_stage1 e) refl
out_by PageVa S1 i tag e h = absurd (both_ways true h refl)
out_by PageVa S2 i tag e h = rw (ap is_stage1 e) refl
out_by PageIpa S1 i tag e h = rw (ap is_stage1 e) refl
out_by PageIpa S2 i tag e h = absurd (both_ways true h refl)
out_by RangeVa S1 i tag e h = absurd (both_ways true h refl)
out_by RangeVa S2 i tag e h = rw (ap is_stage1 e) (and_no (is_of_granule i.granule tag))
out_by RangeIpa S1 i tag e h = rw (ap is_stage1 e) (and_no (is_of_granule i.granule tag))
out_by RangeIpa S2 i tag e h = absurd (both_ways true h refl)

takes_no : (form : OpForm) (i : Inval) (tag : Tag) → is_in form.scope i tag ≡ false → (suits_vmid form.scope i tag && takes form i tag) ≡ false
takes_no f i tag h = rw h (and_no (suits_vmid f.scope i tag))

-- it covers no row of a stage that it doesn't take
spares : (i : Inval) (tag : Tag) → takes_stage (form_of i.op).scope tag.stage ≡ false → covers i tag ≡ false
unfolding covers
spares i tag h = takes_no (form_of i.op) i tag (out_by (form_of i.op).scope tag.stage i tag refl h)

out_stage : (s : Stages) (scope : Scope) (t : Stage) → ((s.stage1 && takes_stage1 scope) || (s.stage2 && takes_stage2 scope)) ≡ false
    → may_have s t ≡ true → takes_stage scope t ≡ false
out_stage s scope S1 h e =
    subst (λ b. (b && takes_stage1 scope) ≡ false) e (or_parts (s.stage1 && takes_stage1 scope) (s.stage2 && takes_stage2 scope) h).0
out_stage s scope S2 h e =
    subst (λ b. (b && takes_stage2 scope) ≡ false) e (or_parts (s.stage1 && takes_stage1 scope) (s.stage2 && takes_stage2 scope) h).1

module _ (s : Stages) (i : Inval) (no_stage : may_take s i ≡ false) where
  spared : (xs : List Row) → AllStaged s xs → filter (λ r. not (covers i r.tag)) xs ≡ xs
  spared [] a = refl
  spared (x ∷ xs) a =
      rw (spares i x.tag (out_stage s (form_of i.op).scope x.tag.stage no_stage a.0)) (ap (λ v. x ∷ v) (spared xs a.1))

  -- no row goes
  pub all_spared : (sets : List (List Row)) → AreStaged s sets → map (filter (λ r. not (covers i r.tag))) sets ≡ sets
  all_spared [] a = refl
  all_spared (rows ∷ sets) a = rw (spared rows a.0, all_spared sets a.1) refl
