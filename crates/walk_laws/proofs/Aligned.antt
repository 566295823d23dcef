-- Tables that begin with whole runs.
use Rattle.std.proofs.Common.{◌≡◌, ℕ, ◌+◌, ◌-◌, ◌*◌, ◌/◌, ◌%◌, ◌^◌, ◌≤◌}
use Rattle.std.proofs.Common.{refl, sym, ap, ◌∙◌, arith, Bool, true, false, cond, eqb}
use Rattle.std.proofs.lemmas.Nat.{pow-add, div-add-mod'}
use Rattle.bitwords.specs.Fields.{bits_of, bit}
use Rattle.geometry.specs.Tables.{IsGranule, class_of, table_size, has_block}
use Rattle.sysregs.specs.declared.regs.Config.{Config}
use Rattle.sysregs.specs.declared.regs.Side.{Side}
use Rattle.sysregs.specs.Registers.{granule_of}
use Rattle.sysregs.specs.Sides.{tg_of, hpd_of}
use Rattle.permissions.specs.declared.bits.TableBits.{TableBits}
use Rattle.descriptors.specs.declared.kinds.Kind1.{Kind1}
use Rattle.descriptors.specs.declared.kinds.Kind1.TheVariants.{Invalid, Table}
use Rattle.descriptors.specs.declared.kinds.Kind2.{Kind2}
use Rattle.descriptors.specs.declared.kinds.Kind2.TheVariants.{Invalid as Invalid2, Table as Table2}
use Rattle.descriptors.specs.Meaning.{address_in, kind1_of, kind2_of, means1_of, means2_of}
use Rattle.descriptors.proofs.Granules.{granule_of_is_granule}
use Rattle.table_reads.specs.declared.sizes.Sizes.{Sizes}
use Rattle.walk_laws.proofs.Numbers.{multiple}
use Rattle.walk_laws.proofs.Places.{run_bits, line_of, line_within, run_within, IsAligned}

-- a multiple of a power is one of each smaller power
thinner : (t a b : ℕ) → b ≤ a → t % 2 ^ a ≡ 0 → t % 2 ^ b ≡ 0
thinner t a b l h =
    let e : t / 2 ^ a * 2 ^ a + t % 2 ^ a ≡ t = div-add-mod' t (2 ^ a) in
    let s : t ≡ t / 2 ^ a * 2 ^ a = omega (arith, e, h) in
    ap (λ n. n % 2 ^ b) s ∙ multiple (t / 2 ^ a) a b l

line_is : (g left : ℕ) → line_of g left ≡ 2 ^ (3 + run_bits g left)
line_is g left = sym (pow-add 2 3 (run_bits g left))

-- a table at a multiple of 4 KB begins with whole runs
pub aligned_page : (g left t : ℕ) → IsGranule g → t % 2 ^ 12 ≡ 0 → t % line_of g left ≡ 0
aligned_page g left t h e = rw (line_is g left) (thinner t 12 (3 + run_bits g left) (line_within g left h) e)

-- a base at a multiple of its table's size does, where the runs are no larger than the input range
pub aligned_start : (n : Sizes) (t : ℕ) → IsGranule n.granule → t % table_size n.granule n.input n.start ≡ 0 → IsAligned n n.start t
aligned_start n t h e = λ l.
    let w = run_within n.granule n.start h in
    let b : run_bits n.granule n.start ≤ n.input - class_of n.granule n.start = omega (arith, w.0, l) in
    let s : t % 2 ^ (3 + (n.input - class_of n.granule n.start)) ≡ 0 = rw (pow-add 2 3 (n.input - class_of n.granule n.start)) e in
    rw (line_is n.granule n.start) (thinner t (3 + (n.input - class_of n.granule n.start)) (3 + run_bits n.granule n.start) (omega arith) s)

sum_multiple : (a b m n : ℕ) → 12 ≤ m → 12 ≤ n → (a * 2 ^ m + b * 2 ^ n) % 2 ^ 12 ≡ 0
sum_multiple a b m n h l =
    let p : a * 2 ^ m % 2 ^ 12 ≡ 0 = multiple a m 12 h in
    let q : b * 2 ^ n % 2 ^ 12 ≡ 0 = multiple b n 12 l in
    omega (arith, p, q)

granule_least : (g : ℕ) → IsGranule g → 12 ≤ g
granule_least g h = grind arith

address_page : (g w : ℕ) → IsGranule g → address_in g w g % 2 ^ 12 ≡ 0
address_page g w h =
    let l = granule_least g h in
    elim (eqb g 16) as (λ b. cond b (bits_of w 15 12 * 2 ^ 48 + bits_of w 47 g * 2 ^ g) (bits_of w 47 g * 2 ^ g) % 2 ^ 12 ≡ 0) [
      | true ↦
          sum_multiple (bits_of w 15 12) (bits_of w 47 g) 48 g (omega arith) l
      | false ↦ multiple (bits_of w 47 g) g 12 l
    ]

-- which words are tables, by their lowest bits and level
table2_where : {S : Type 0} (k : S → Kind2) (nothing pointer mapping : S) (b0 b1 b2 b3 : Bool) (a next : ℕ) →
    k (cond b0 (cond b1 (cond b2 mapping pointer) (cond b3 mapping nothing)) nothing) ≡ Table2 next → k nothing ≡ Invalid2 → k pointer ≡ Table2 a →
    (k mapping ≡ Table2 next → ⊥) → next ≡ a
table2_where k nothing pointer mapping false b1 b2 b3 a next e n p m = absurd cc
table2_where k nothing pointer mapping true true true b3 a next e n p m = absurd (m e)
table2_where k nothing pointer mapping true true false b3 a next e n p m = cc
table2_where k nothing pointer mapping true false b2 true a next e n p m = absurd (m e)
table2_where k nothing pointer mapping true false b2 false a next e n p m = absurd cc

table1_where : {S : Type 0} (k : S → Kind1) (nothing pointer mapping : S) (b0 b1 b2 b3 : Bool) (a next : ℕ) (bits bits' : TableBits) →
    k (cond b0 (cond b1 (cond b2 mapping pointer) (cond b3 mapping nothing)) nothing) ≡ Table next bits → k nothing ≡ Invalid
    → k pointer ≡ Table a bits' →
    (k mapping ≡ Table next bits → ⊥) → next ≡ a
table1_where k nothing pointer mapping false b1 b2 b3 a next bits bits' e n p m = absurd cc
table1_where k nothing pointer mapping true true true b3 a next bits bits' e n p m = absurd (m e)
table1_where k nothing pointer mapping true true false b3 a next bits bits' e n p m = cc
table1_where k nothing pointer mapping true false b2 true a next bits bits' e n p m = absurd (m e)
table1_where k nothing pointer mapping true false b2 false a next bits bits' e n p m = absurd cc

-- the next table stands at a multiple of 4 KB
pub table2_page : (c : Config) (left w next : ℕ) → means2_of c left w ≡ Table2 next → next % 2 ^ 12 ≡ 0
unfolding means2_of
table2_page c left w next e =
    let q : next ≡ address_in (granule_of c.tg2) w (granule_of c.tg2) =
    table2_where (kind2_of (granule_of c.tg2) left w) _ _ _ (bit w 0) (bit w 1) (eqb left 0)
    (has_block (granule_of c.tg2) left) _ next e refl refl (λ h. cc) in
    rw q (address_page (granule_of c.tg2) w (granule_of_is_granule c.tg2))

pub table1_page : (c : Config) (s : Side) (left w next : ℕ) (bits : TableBits) → means1_of c s left w ≡ Table next bits → next % 2 ^ 12 ≡ 0
unfolding means1_of
table1_page c s left w next bits e =
    let q : next ≡ address_in (granule_of (tg_of c s)) w (granule_of (tg_of c s)) =
    table1_where (kind1_of (granule_of (tg_of c s)) (hpd_of c s) left w) _ _ _ (bit w 0) (bit w 1) (eqb left 0) (has_block (granule_of (tg_of c s)) left) _ next
    bits _ e refl refl (λ h. cc) in
    rw q (address_page (granule_of (tg_of c s)) w (granule_of_is_granule (tg_of c s)))
