-- The bits of table descriptors, by the bits of all their words.
use Rattle.std.proofs.Common.{◌≡◌, ℕ, zero, suc, ◌+◌, ◌-◌, ◌/◌, ◌%◌, ◌^◌, ◌<◌, Bool}
use Rattle.std.proofs.Common.{true, false, not, refl, sym, ap, ◌∙◌, arith, inl, inr}
use Rattle.std.proofs.lemmas.Bool.{cases_Bool}
use Rattle.geometry.specs.Tables.{has_block}
use Rattle.std.specs.Prelude.{◌==◌, ◌&&◌, ◌||◌, bit_or}
use Rattle.std.proofs.lemmas.Nat.{or_shr, or_mod, mod_below}
use Rattle.bitwords.specs.Fields.{bit}
use Rattle.permissions.specs.declared.bits.TableBits.{TableBits}
use Rattle.permissions.specs.Rights.{joined}
use Rattle.descriptors.specs.declared.kinds.Kind1.TheVariants.{Table}
use Rattle.descriptors.specs.Meaning.{table_bits, means1_of}
use Rattle.sysregs.specs.declared.regs.Config.{Config}
use Rattle.sysregs.specs.declared.regs.Side.{Side}
use Rattle.sysregs.specs.Registers.{granule_of}
use Rattle.sysregs.specs.Sides.{tg_of, hpd_of}
use Rattle.table_reads.specs.declared.lead.Lead.TheVariants.{Down}
use Rattle.table_reads.specs.Places.{is_too_large}
use Rattle.walk_spec.specs.declared.entry.Table1.{Table1}
use Rattle.walk_spec.specs.declared.entry.Entry1.{Entry1}
use Rattle.walk_spec.specs.Stage1.{Asked, step1}
use Rattle.stage1_walk.specs.SoundSteps.{below}

pair_of : (a c : ℕ) (b d : TableBits) → Table a b ≡ Table c d → d ≡ b
pair_of a c b d e = cc

-- the bits of a table are those of its descriptor
pub own_bits : (c : Config) (s : Side) (left w a : ℕ) (b : TableBits) → means1_of c s left w ≡ Table a b → b ≡ table_bits (hpd_of c s) w
unfolding means1_of
own_bits c s left w a b e =
    let g = granule_of (tg_of c s) in
    elim (cases_Bool (bit w 0)) [
      | inl x ↦ elim (cases_Bool (bit w 1)) [
        | inl y ↦ elim (cases_Bool (left == 0)) [ inl z ↦ (let f = rw (x, y, z) at e in absurd cc) | inr z ↦ pair_of _ _ _ _ (rw (x, y, z) at e) ]
        | inr y ↦ elim (cases_Bool (has_block g left)) [
          | inl z ↦ (let f = rw (x, y, z) at e in absurd cc)
          | inr z ↦ (let f = rw (x, y, z) at e in
              absurd cc)
        ]
      ]
      | inr x ↦ (let f = rw x at e in absurd cc)
    ]

one_of : (a b : ℕ) → a < 2 → b < 2 → (bit_or a b == 1) ≡ ((a == 1) || (b == 1))
one_of zero zero h k = refl
one_of zero (suc zero) h k = refl
one_of (suc zero) zero h k = refl
one_of (suc zero) (suc zero) h k = refl
one_of zero (suc (suc b)) h k = absurd (omega (arith, k))
one_of (suc zero) (suc (suc b)) h k = absurd (omega (arith, k))
one_of (suc (suc a)) b h k = absurd (omega (arith, h))

-- a bit of two words together
either : (v w n : ℕ) → bit (bit_or v w) n ≡ (bit v n || bit w n)
either v w n =
    let e : bit_or v w / 2 ^ n % 2 ^ (n - n + 1) ≡ bit_or (v / 2 ^ n % 2 ^ (n - n + 1)) (w / 2 ^ n % 2 ^ (n - n + 1)) =
    ap (λ z. z % 2 ^ (n - n + 1)) (or_shr v w n) ∙ or_mod (v / 2 ^ n) (w / 2 ^ n) (n - n + 1) in
    let o : n - n + 1 ≡ 1 = omega arith in
    let a : v / 2 ^ n % 2 ^ (n - n + 1) < 2 = rw o (mod_below (v / 2 ^ n) 2 (omega arith)) in
    let b : w / 2 ^ n % 2 ^ (n - n + 1) < 2 = rw o (mod_below (w / 2 ^ n) 2 (omega arith)) in
    ap (λ z. z == 1) e ∙ one_of (v / 2 ^ n % 2 ^ (n - n + 1)) (w / 2 ^ n % 2 ^ (n - n + 1)) a b

part : (a v w h : Bool) → ((a || (v && h)) || (w && h)) ≡ (a || ((v || w) && h))
part true v w h = refl
part false true true true = refl
part false true true false = refl
part false true false true = refl
part false true false false = refl
part false false true true = refl
part false false true false = refl
part false false false true = refl
part false false false false = refl

part_of : (a h : Bool) (v w n : ℕ) → ((a || (bit v n && h)) || (bit w n && h)) ≡ (a || (bit (bit_or v w) n && h))
part_of a h v w n = part a (bit v n) (bit w n) h ∙ ap (λ z. a || (z && h)) (sym (either v w n))

-- one more descriptor is joined
pub one_more : (a : TableBits) (hpd : Bool) (v w : ℕ) → joined (joined a (table_bits hpd v)) (table_bits hpd w) ≡ joined a (table_bits hpd (bit_or v w))
one_more a hpd v w = λ i. record {
  no_el0 = part_of a.no_el0 (not hpd) v w 61 i;
  read_only = part_of a.read_only (not hpd) v w 62 i;
  pxn = part_of a.pxn (not hpd) v w 59 i;
  uxn = part_of a.uxn (not hpd) v w 60 i;
}

none_of : (a h : Bool) → a ≡ (a || (false && h))
none_of true h = refl
none_of false h = refl

-- no descriptor is joined
pub none_yet : (t : Table1) (hpd : Bool) → t ≡ record { address = t.address; bits = joined t.bits (table_bits hpd 0) }
none_yet t hpd = λ i. record {
  address = t.address;
  bits = record {
    no_el0 = none_of t.bits.no_el0 (not hpd) i;
    read_only = none_of t.bits.read_only (not hpd) i;
    pxn = none_of t.bits.pxn (not hpd) i;
    uxn = none_of t.bits.uxn (not hpd) i;
  };
}

-- a word of a table that isn't too large leads down to it
pub goes_down
    : (q : Asked) (e : Entry1) (w a : ℕ) (b d : TableBits) → means1_of q.regime.config q.regime.side e.left w ≡ Table a b → b ≡ d
    → is_too_large q.regime.stage1 a ≡ false → (place : ℕ) → Down (below e d a) ≡ step1 q e place w
unfolding step1
goes_down q e w a b d m same l place = rw (m, l, same) refl
