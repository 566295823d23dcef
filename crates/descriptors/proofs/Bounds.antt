-- Every meaning of a word keeps to its bounds.
use Rattle.std.proofs.Common.{◌≡◌, ℕ, ◌+◌, ◌-◌, ◌*◌, ◌/◌, ◌%◌, ◌^◌, ◌<◌, ◌≤◌}
use Rattle.std.proofs.Common.{Bool, true, false, eqb, arith, ap, ◌∙◌, refl, inl, inr, cond}
use Rattle.std.specs.Prelude.{◌⊎◌}
use Rattle.std.proofs.lemmas.Bool.Decides.{nat_tests}
use Rattle.std.proofs.lemmas.Nat.{mod_below, pow_pos, pow-add, shl_below}
use Rattle.std.proofs.Math.Nat.{mul-mod_right}
use Rattle.bitwords.specs.Fields.{bits_of, bit}
use Rattle.geometry.specs.Tables.{IsGranule, class_of, has_block}
use Rattle.sysregs.specs.declared.regs.Config.{Config}
use Rattle.sysregs.specs.declared.regs.Side.{Side}
use Rattle.sysregs.specs.Registers.{granule_of}
use Rattle.sysregs.specs.Sides.{tg_of, hpd_of}
use Rattle.descriptors.specs.declared.words.Shape.{Shape}
use Rattle.descriptors.specs.declared.words.Shape.TheVariants.{Nothing, Pointer, Mapping}
use Rattle.descriptors.specs.Meaning.{shape_of, address_in, kind1_of, kind2_of, means1_of, means2_of}
use Rattle.descriptors.specs.Bounds.{IsBounded1, IsBounded2}
use Rattle.descriptors.proofs.Granules.{granule_of_is_granule}

-- a field is below 2 to its bits
field_small : (w hi lo : ℕ) → bits_of w hi lo < 2 ^ (hi - lo + 1)
field_small w hi lo = mod_below (w / 2 ^ lo) (2 ^ (hi - lo + 1)) (pow_pos (hi - lo + 1))

low_below : (w n : ℕ) → n ≤ 47 → bits_of w 47 n * 2 ^ n < 2 ^ 48
low_below w n h =
    let width : (47 - n + 1) + n ≡ 48 = omega arith in
    rw width at (shl_below (bits_of w 47 n) (47 - n + 1) n (field_small w 47 n))

address_below : (g w n : ℕ) → n ≤ 47 → address_in g w n < 2 ^ 52
address_below g w n h =
    let l = low_below w n h in
    let f = field_small w 15 12 in
    grind (arith, nat_tests)

times_eight : (q n : ℕ) → 3 ≤ n → q * 2 ^ n % 8 ≡ 0
times_eight q n h =
    let e : n ≡ 3 + (n - 3) = omega arith in
    let p : 2 ^ n ≡ 8 * 2 ^ (n - 3) = ap (λ m. 2 ^ m) e ∙ pow-add 2 3 (n - 3) in
    let s : q * 2 ^ n ≡ 8 * (q * 2 ^ (n - 3)) = omega (arith, ap (λ m. q * m) p) in
    rw s (mul-mod_right 8 (q * 2 ^ (n - 3)))

address_aligned : (g w n : ℕ) → 3 ≤ n → address_in g w n % 8 ≡ 0
address_aligned g w n h =
    let t = times_eight (bits_of w 47 n) n h in
    grind (arith, nat_tests)

shaped : Bool → Bool → Bool → Bool → Shape
shaped a b last block = cond a (cond b (cond last Mapping Pointer) (cond block Mapping Nothing)) Nothing

pointer_above : (a b last block : Bool) → shaped a b last block ≡ Pointer → last ≡ false
unfolding shaped
pointer_above true true true block h = absurd cc
pointer_above true true false block h = refl
pointer_above true false last true h = absurd cc
pointer_above true false last false h = absurd cc
pointer_above false b last block h = absurd cc

mapping_where : (a b last block : Bool) → shaped a b last block ≡ Mapping → (last ≡ true) ⊎ (block ≡ true)
unfolding shaped
mapping_where true true true block h = inl refl
mapping_where true true false block h = absurd cc
mapping_where true false last true h = inr refl
mapping_where true false last false h = absurd cc
mapping_where false b last block h = absurd cc

-- a table has a level below it
pub pointer_left : (g left w : ℕ) → shape_of g left w ≡ Pointer → 0 < left
unfolding shaped
pointer_left g left w h = let z = pointer_above (bit w 0) (bit w 1) (eqb left 0) (has_block g left) h in grind (arith, nat_tests)

class_last : (g left : ℕ) → IsGranule g → eqb left 0 ≡ true → class_of g left ≤ 47
class_last g left h z = grind (arith, nat_tests)

class_block : (g left : ℕ) → IsGranule g → has_block g left ≡ true → class_of g left ≤ 47
class_block g left h z = grind (arith, nat_tests)

-- the class of a leaf's entry
pub mapping_class : (g left w : ℕ) → IsGranule g → shape_of g left w ≡ Mapping → class_of g left ≤ 47
unfolding shaped
mapping_class g left w h e =
    elim (mapping_where (bit w 0) (bit w 1) (eqb left 0) (has_block g left) e) [ inl z ↦ class_last g left h z | inr z ↦ class_block g left h z ]

granule_class : (g : ℕ) → IsGranule g → (3 ≤ g) × (g ≤ 47)
granule_class g h = (grind arith, grind arith)

bounded1_at : (g : ℕ) (hpd : Bool) (left w : ℕ) (s : Shape) → IsGranule g → shape_of g left w ≡ s → IsBounded1 left (kind1_of g hpd left w s)
bounded1_at g hpd left w Nothing h e = tt
bounded1_at g hpd left w Pointer h e = let k = granule_class g h in (pointer_left g left w e, address_below g w g k.1, address_aligned g w g k.0)
bounded1_at g hpd left w Mapping h e = (address_below g w (class_of g left) (mapping_class g left w h e), field_small w 4 2, field_small w 9 8)

pub bounded1 : (c : Config) (s : Side) (left w : ℕ) → IsBounded1 left (means1_of c s left w)
unfolding means1_of
bounded1 c s left w = let g = granule_of (tg_of c s) in bounded1_at g (hpd_of c s) left w (shape_of g left w) (granule_of_is_granule (tg_of c s)) refl

bounded2_at : (g left w : ℕ) (s : Shape) → IsGranule g → shape_of g left w ≡ s → IsBounded2 left (kind2_of g left w s)
bounded2_at g left w Nothing h e = tt
bounded2_at g left w Pointer h e = let k = granule_class g h in (pointer_left g left w e, address_below g w g k.1, address_aligned g w g k.0)
bounded2_at g left w Mapping h e = (address_below g w (class_of g left) (mapping_class g left w h e), field_small w 5 2, field_small w 54 53, field_small w 9 8)

pub bounded2 : (c : Config) (left w : ℕ) → IsBounded2 left (means2_of c left w)
unfolding means2_of
bounded2 c left w = let g = granule_of c.tg2 in bounded2_at g left w (shape_of g left w) (granule_of_is_granule c.tg2) refl
