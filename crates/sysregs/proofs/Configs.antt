-- The test for equal register fields is what it says.
use Rattle.std.proofs.Common.{◌≡◌, ◌↔◌, ℕ, Bool, true, false, refl, sym, subst, arith}
use Rattle.std.specs.Prelude.{◌==◌, ◌&&◌, IsTrue}
use Rattle.std.proofs.lemmas.Bool.{both_ways, eq-eqb, and_parts}
use Rattle.sysregs.specs.declared.regs.Config.{Config}
use Rattle.sysregs.specs.declared.regs.Tg.{Tg}
use Rattle.sysregs.specs.declared.regs.Tg.TheVariants.{K4, K16, K64}
use Rattle.sysregs.specs.Registers.{granule_of}
use Rattle.sysregs.specs.Equality.{same_bool, same_numbers, same_granules, same_low, same_high, same_rest, same_fields}

-- FROM THE TEST

bool_same : (a b : Bool) → same_bool a b ≡ true → a ≡ b
bool_same true true h = refl
bool_same true false h = sym h
bool_same false true h = h
bool_same false false h = refl

granule_same : (a b : Tg) → (granule_of a == granule_of b) ≡ true → a ≡ b
granule_same K4 K4 h = refl
granule_same K16 K16 h = refl
granule_same K64 K64 h = refl
granule_same K4 K16 h = absurd (both_ways false refl h)
granule_same K4 K64 h = absurd (both_ways false refl h)
granule_same K16 K4 h = absurd (both_ways false refl h)
granule_same K16 K64 h = absurd (both_ways false refl h)
granule_same K64 K4 h = absurd (both_ways false refl h)
granule_same K64 K16 h = absurd (both_ways false refl h)

five_parts : (a b c d e : Bool) → (a && b && c && d && e) ≡ true → (a ≡ true) × (b ≡ true) × (c ≡ true) × (d ≡ true) × (e ≡ true)
five_parts a b c d e h = grind arith

ten_parts : (a b c d e p q r s t : Bool) → (a && b && c && d && e && p && q && r && s && t) ≡ true
    → (a ≡ true) × (b ≡ true) × (c ≡ true) × (d ≡ true) × (e ≡ true)
    × (p ≡ true) × (q ≡ true) × (r ≡ true) × (s ≡ true) × (t ≡ true)
ten_parts a b c d e p q r s t h = grind arith

numbers_same : (a b : Config) → same_numbers a b ≡ true
    → (a.t0sz ≡ b.t0sz) × (a.t1sz ≡ b.t1sz) × (a.sh0 ≡ b.sh0) × (a.sh1 ≡ b.sh1) × (a.ips ≡ b.ips)
    × (a.t2sz ≡ b.t2sz) × (a.sl0 ≡ b.sl0) × (a.sl2 ≡ b.sl2) × (a.ps ≡ b.ps) × (a.mair ≡ b.mair)
numbers_same a b h = grind arith

granules_same : (a b : Config) → same_granules a b ≡ true → (a.tg0 ≡ b.tg0) × (a.tg1 ≡ b.tg1) × (a.tg2 ≡ b.tg2)
granules_same a b h =
    let q = and_parts ((granule_of a.tg0 == granule_of b.tg0) && (granule_of a.tg1 == granule_of b.tg1)) (granule_of a.tg2 == granule_of b.tg2) h in
    let r = and_parts (granule_of a.tg0 == granule_of b.tg0) (granule_of a.tg1 == granule_of b.tg1) q.0 in
    (granule_same a.tg0 b.tg0 r.0, granule_same a.tg1 b.tg1 r.1, granule_same a.tg2 b.tg2 q.1)

low_same : (a b : Config) → same_low a b ≡ true
    → (a.epd0 ≡ b.epd0) × (a.tbi0 ≡ b.tbi0) × (a.tbid0 ≡ b.tbid0) × (a.e0pd0 ≡ b.e0pd0) × (a.hpd0 ≡ b.hpd0)
low_same a b h = grind (arith, bool_same)

high_same : (a b : Config) → same_high a b ≡ true
    → (a.epd1 ≡ b.epd1) × (a.tbi1 ≡ b.tbi1) × (a.tbid1 ≡ b.tbid1) × (a.e0pd1 ≡ b.e0pd1) × (a.hpd1 ≡ b.hpd1)
high_same a b h = grind (arith, bool_same)

rest_same : (a b : Config) → same_rest a b ≡ true
    → (a.m ≡ b.m) × (a.i ≡ b.i) × (a.wxn ≡ b.wxn) × (a.epan ≡ b.epan) × (a.ha1 ≡ b.ha1)
    × (a.hd1 ≡ b.hd1) × (a.vm ≡ b.vm) × (a.ptw ≡ b.ptw) × (a.ha2 ≡ b.ha2) × (a.hd2 ≡ b.hd2)
rest_same a b h =
    let p =
    ten_parts (same_bool a.m b.m) (same_bool a.i b.i) (same_bool a.wxn b.wxn) (same_bool a.epan b.epan) (same_bool a.ha1 b.ha1)
    (same_bool a.hd1 b.hd1) (same_bool a.vm b.vm) (same_bool a.ptw b.ptw) (same_bool a.ha2 b.ha2) (same_bool a.hd2 b.hd2) h in (
      bool_same a.m b.m p.0,
      bool_same a.i b.i p.1,
      bool_same a.wxn b.wxn p.2,
      bool_same a.epan b.epan p.3,
      bool_same a.ha1 b.ha1 p.4,
      bool_same a.hd1 b.hd1 p.5,
      bool_same a.vm b.vm p.6,
      bool_same a.ptw b.ptw p.7,
      bool_same a.ha2 b.ha2 p.8,
      bool_same a.hd2 b.hd2 p.9,
    )

pub fields_same : (a b : Config) → same_fields a b ≡ true → a ≡ b
unfolding same_fields
fields_same a b h =
    let p = five_parts (same_numbers a b) (same_granules a b) (same_low a b) (same_high a b) (same_rest a b) h in
    let n = numbers_same a b p.0 in
    let g = granules_same a b p.1 in
    let l = low_same a b p.2 in
    let u = high_same a b p.3 in
    let r = rest_same a b p.4 in
    λ j. record {
      t0sz = n.0 j;
      t1sz = n.1 j;
      sh0 = n.2 j;
      sh1 = n.3 j;
      ips = n.4 j;
      t2sz = n.5 j;
      sl0 = n.6 j;
      sl2 = n.7 j;
      ps = n.8 j;
      mair = n.9 j;
      tg0 = g.0 j;
      tg1 = g.1 j;
      tg2 = g.2 j;
      epd0 = l.0 j;
      tbi0 = l.1 j;
      tbid0 = l.2 j;
      e0pd0 = l.3 j;
      hpd0 = l.4 j;
      epd1 = u.0 j;
      tbi1 = u.1 j;
      tbid1 = u.2 j;
      e0pd1 = u.3 j;
      hpd1 = u.4 j;
      m = r.0 j;
      i = r.1 j;
      wxn = r.2 j;
      epan = r.3 j;
      ha1 = r.4 j;
      hd1 = r.5 j;
      vm = r.6 j;
      ptw = r.7 j;
      ha2 = r.8 j;
      hd2 = r.9 j;
    }

-- TO THE TEST

pub same_bool_self : (b : Bool) → same_bool b b ≡ true
same_bool_self true = refl
same_bool_self false = refl

pub equal_self : (n : ℕ) → (n == n) ≡ true
equal_self n = eq-eqb n n refl

numbers_self : (c : Config) → same_numbers c c ≡ true
numbers_self c = rw (
  equal_self c.t0sz,
  equal_self c.t1sz,
  equal_self c.sh0,
  equal_self c.sh1,
  equal_self c.ips,
  equal_self c.t2sz,
  equal_self c.sl0,
  equal_self c.sl2,
  equal_self c.ps,
  equal_self c.mair,
) refl

granules_self : (c : Config) → same_granules c c ≡ true
granules_self c = rw (equal_self (granule_of c.tg0), equal_self (granule_of c.tg1), equal_self (granule_of c.tg2)) refl

low_self : (c : Config) → same_low c c ≡ true
low_self c = rw (same_bool_self c.epd0, same_bool_self c.tbi0, same_bool_self c.tbid0, same_bool_self c.e0pd0, same_bool_self c.hpd0) refl

high_self : (c : Config) → same_high c c ≡ true
high_self c = rw (same_bool_self c.epd1, same_bool_self c.tbi1, same_bool_self c.tbid1, same_bool_self c.e0pd1, same_bool_self c.hpd1) refl

rest_self : (c : Config) → same_rest c c ≡ true
rest_self c = rw (
  same_bool_self c.m,
  same_bool_self c.i,
  same_bool_self c.wxn,
  same_bool_self c.epan,
  same_bool_self c.ha1,
  same_bool_self c.hd1,
  same_bool_self c.vm,
  same_bool_self c.ptw,
  same_bool_self c.ha2,
  same_bool_self c.hd2,
) refl

pub same_fields_self : (c : Config) → same_fields c c ≡ true
unfolding same_fields
same_fields_self c = rw (numbers_self c, granules_self c, low_self c, high_self c, rest_self c) refl

-- the test holds of equal fields alone
pub equal_configs : (a b : Config) → IsTrue (same_fields a b) ↔ (a ≡ b)
equal_configs a b = (fields_same a b, λ e. subst (λ c. same_fields a c ≡ true) e (same_fields_self a))
