-- The size of a start table, and bases that fit.
use Rattle.std.proofs.Common.{◌≡◌, ℕ, ◌*◌, ◌/◌, ◌%◌, ◌^◌, ◌<◌, ◌≤◌, arith}
use Rattle.std.proofs.Common.{Bool, true, false, refl, sym, ap, ◌∙◌, ◌-◌}
use Rattle.std.specs.Prelude.{◌&&◌}
use Rattle.std.proofs.Math.Nat.{div-add-mod, mul-mod_right}
use Rattle.std.proofs.Math.Pow.{pow_mono}
use Rattle.std.proofs.lemmas.Bool.{eqb-true, leb-true}
use Rattle.geometry.specs.Tables.{class_of}
use Rattle.fault_codes.specs.declared.fault.Stage.{Stage}
use Rattle.fault_codes.specs.declared.fault.Stage.TheVariants.{S1, S2}
use Rattle.trails.specs.declared.item.Item.{Item}
use Rattle.table_reads.specs.declared.sizes.Sizes.{Sizes}
use Rattle.walk_spec.specs.Needs.{Regime, stage1_base, stage2_base, fits, fits_base}

pub size_small : (k : ℕ) → k ≤ 52 → 8 * 2 ^ k < 2 ^ 56
size_small k l =
    let most : 2 ^ k ≤ 2 ^ 52 = pow_mono l in
    omega arith

both_true : (a b : Bool) → (a && b) ≡ true → (a ≡ true) × (b ≡ true)
both_true true b h = (refl, h)
both_true false b h = absurd cc

eights : (v n : ℕ) → v % (8 * n) ≡ 0 → v % 8 ≡ 0
eights v n h =
    let q : v ≡ 8 * (n * (v / (8 * n))) = omega (arith, div-add-mod v (8 * n)) in
    ap (λ z. z % 8) q ∙ mul-mod_right 8 (n * (v / (8 * n)))

-- a base that fits may be read from
base_sound : (n : Sizes) (s : Stage) (i : Item) → fits_base n s i ≡ true → (i.value < 2 ^ 52) × (i.value % 8 ≡ 0)
base_sound n s i h =
    let a = both_true _ _ h in
    let b = both_true _ _ a.0 in
    (leb-true _ _ a.1, eights i.value (2 ^ (n.input - class_of n.granule n.start)) (eqb-true _ _ b.1))

pub base1_sound : (r : Regime) (i : Item) → true ≡ fits r stage1_base i → (i.value < 2 ^ 52) × (i.value % 8 ≡ 0)
unfolding fits
base1_sound r i h = base_sound r.stage1 S1 i (sym h)

pub base2_sound : (r : Regime) (ipa : ℕ) (i : Item) → true ≡ fits r (stage2_base ipa) i → (i.value < 2 ^ 52) × (i.value % 8 ≡ 0)
unfolding fits
base2_sound r ipa i h = base_sound r.stage2 S2 i (sym h)
