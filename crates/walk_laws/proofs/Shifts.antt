-- The laws as they are stated, from walks in step.
use Rattle.std.proofs.Common.{◌+◌, ◌-◌, ◌≡◌, ℕ, ◌/◌, ◌%◌, ◌^◌, ◌≤◌, List}
use Rattle.std.proofs.Common.{[], refl, sym, ap, ◌∙◌, arith, Bool, false, subst}
use Rattle.std.specs.Prelude.{◌==◌, if◌then◌else◌}
use Rattle.bitwords.specs.Fields.{bit, bits_of}
use Rattle.geometry.specs.Tables.{class_of}
use Rattle.geometry.proofs.Indices.{field_at}
use Rattle.table_reads.specs.Numbers.{sizes1}
use Rattle.sysregs.specs.declared.regs.Side.TheVariants.{Low, High}
use Rattle.sysregs.specs.Sides.{side_of}
use Rattle.trails.specs.declared.item.Item.{Item}
use Rattle.trails.specs.declared.outcome.Access.{Access}
use Rattle.walk_spec.specs.Steps.{End, reaches}
use Rattle.walk_spec.specs.BothStages.{Landing, walk, walk_by}
use Rattle.walk_laws.specs.Moved.{moved}
use Rattle.walk_laws.proofs.Numbers.{coarser, goes_to_low}
use Rattle.walk_laws.proofs.Stage1.{under}
use Rattle.walk_laws.proofs.Landings.{walk_in_step}
use Rattle.sysregs.specs.declared.regs.Config.{Config}
use Rattle.sysregs.specs.declared.regs.Side.{Side}
use Rattle.walk_spec.specs.Ask.{Stands, ends, on}
use Rattle.walk_spec.specs.Needs.{Need, fits, regime_of}
use Rattle.walk_spec.specs.Stage2.{walk2}
use Rattle.walk_spec.specs.Stage1.{untagged, asked2}
use Rattle.walk_laws.specs.Regions.{region_met, regions_met}
use Rattle.walk_laws.specs.Shift.{Stage2Shifts, Table2Shifts, NeedsWord, WalkShifts, IsOpen, Table1Shifts, regions}
use Rattle.walk_laws.proofs.Stepping.{last_here, takes_ends, step_stands, step_met}
use Rattle.walk_laws.proofs.Places.{SameRegion}
use Rattle.walk_laws.proofs.Sound.{IsOfFields}
use Rattle.walk_laws.proofs.Stage2.{reached2}
use Rattle.walk_laws.proofs.Tables1.{tables1_in_step, is_open}
use Rattle.walk_laws.proofs.Tables2.{tables2_in_step, needs_word}

pub of_fields : (c : Config) (s : Side) → IsOfFields (regime_of c s)
of_fields c s = record { stage1 = refl; stage2 = refl }

pub stage2_shifts : Stage2Shifts
stage2_shifts c s p x y items l h m =
    let t = takes_ends (fits (regime_of c s)) (walk2 (asked2 (regime_of c s) p x)) items _ h in
    let i = (reached2 (regime_of c s) p x y (of_fields c s) items l t).shift m in (
      step_stands (fits (regime_of c s)) (SameRegion (regime_of c s)) _ _ items _ _ i,
      step_met (fits (regime_of c s)) (region_met (regime_of c s)) _ _ items _ _
          i,
    )

pub table2_shifts : Table2Shifts
table2_shifts c s p x y items left value next e m h same =
    let t = tables2_in_step (regime_of c s) p x y (of_fields c s) items e.item left next (rw e.last (last_here e.front e.item)) e.what e.level (rw e.has m) same
    h in
    let n : NeedsWord (on (fits (regime_of c s)) t.1 []) = needs_word (fits (regime_of c s)) t.1 t.4 in (
      rw (step_stands (fits (regime_of c s)) (SameRegion (regime_of c s)) _ _ items _ _ t.2) n,
      step_met (fits (regime_of c s)) (region_met (regime_of c s)) _ _
          items _ _ t.2,
    )

side_by : (b b' : Bool) → b ≡ b' → (if b then High else Low) ≡ (if b' then High else Low)
side_by b b' h = ap (λ z. if z then High else Low) h

-- what equal bits from 55 down say of addresses without their tags
pub same_untagged : (x y k : ℕ) → k ≤ 55 → bits_of x 55 k ≡ bits_of y 55 k → untagged x / 2 ^ k ≡ untagged y / 2 ^ k
same_untagged x y k l h =
    let e : 55 - k + 1 ≡ 56 - k = omega arith in
    field_at x 56 k (omega arith) ∙ (rw e at h) ∙ sym (field_at y 56 k (omega arith))

moved_untagged : (n : Landing) (x : ℕ) → n.class ≤ 52 → moved n (untagged x) ≡ moved n x
moved_untagged n x l = let g : ℕ → Landing = λ z. record n { pa = z } in ap g (goes_to_low n.pa n.class 56 x (omega arith))

-- addresses with equal bits from 55 or below are of one side
pub same_side : (x y k : ℕ) → k ≤ 55 → untagged x / 2 ^ k ≡ untagged y / 2 ^ k → side_of x ≡ side_of y
same_side x y k l h =
    let t = coarser (untagged x) (untagged y) k 55 l h in
    let e : x / 2 ^ 55 % 2 ^ 1 ≡ y / 2 ^ 55 % 2 ^ 1 = sym (field_at x 56 55 (omega arith)) ∙ t ∙ field_at y 56 55 (omega arith) in
    side_by (bit x 55) (bit y 55) (ap (λ n. n == 1) e)

-- what the law says of the other access, by the side under which it walks
abbrev Shifted : (c : Config) (j : Bool) (a b : Access) (items : List Item) (says : Stands Need Item (End Landing) → Type 0) (s : Side) → Type 0
Shifted c j a b items says s =
    says (on (fits (regime_of c s)) (walk_by (under (regime_of c s) j b)) items)
    × (regions c j a items ≡ regions_met (regime_of c s) (walk_by (under (regime_of c s) j b)) items)

abbrev lands_at : (landing : Landing) → Stands Need Item (End Landing)
lands_at n = ends (reaches n) []

pub walk_shifts : WalkShifts
walk_shifts c a b items n m h bits ok =
    let t = takes_ends (fits (regime_of c (side_of a.va))) (walk c false a) items _ h in
    let d = walk_in_step (regime_of c (side_of a.va)) (of_fields c (side_of a.va)) a b m refl items n t in
    let l = d.most in
    let same = same_untagged a.va b.va n.class (omega (arith, l)) bits in
    let i = d.shift same ok in
    let e : side_of a.va ≡ side_of b.va = same_side a.va b.va n.class (omega (arith, l)) same in
    let q : lands_at (moved n (untagged b.va)) ≡ lands_at (moved n b.va) = ap lands_at (moved_untagged n b.va l) in
    subst (Shifted c false a b items (λ z. z ≡ lands_at (moved n b.va))) e (
      step_stands (fits (regime_of c (side_of a.va))) (SameRegion (regime_of c (side_of a.va))) _ _ items _ _ i
          ∙ q,
      step_met (fits (regime_of c (side_of a.va))) (region_met (regime_of c (side_of a.va))) _ _ items _ _ i,
    )

pub table1_shifts : Table1Shifts
table1_shifts c j a b items left value next bits e m h equal ok =
    let d = tables1_in_step (regime_of c (side_of a.va)) j a b items e.item left next bits (of_fields c (side_of a.va)) refl
    (rw e.last (last_here e.front e.item)) e.is_of e.what e.level (rw e.has m) h in
    let l = d.most in
    let same = same_untagged a.va b.va (class_of (sizes1 c (side_of a.va)).granule left) (omega (arith, l)) equal in
    let t = d.shift same ok in
    let q : side_of a.va ≡ side_of b.va = same_side a.va b.va (class_of (sizes1 c (side_of a.va)).granule left) (omega (arith, l)) same in
    let n : IsOpen (on (fits (regime_of c (side_of a.va))) t.1 []) = is_open (fits (regime_of c (side_of a.va))) t.1 t.4 in
    subst (Shifted c j a b items IsOpen) q (
      rw (step_stands (fits (regime_of c (side_of a.va))) (SameRegion (regime_of c (side_of a.va))) _ _ items _ _ t.2) n,
      step_met
          (fits (regime_of c (side_of a.va))) (region_met (regime_of c (side_of a.va))) _ _ items _ _ t.2,
    )
