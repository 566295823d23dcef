-- What the register fields give for the numbers of both stages, where an address is not refused.
use Rattle.std.proofs.Common.{◌≡◌, ℕ, ◌/◌, ◌^◌, ◌<◌, ◌≤◌, refl, arith, Bool, true, false, ◌&&◌, ◌||◌}
use Rattle.std.specs.Prelude.{not, nat_lt, Option, Some, None, unwrap_or}
use Rattle.std.proofs.lemmas.Bool.Decides.{nat_tests}
use Rattle.std.proofs.lemmas.Bool.{ltb-true}
use Rattle.geometry.specs.Tables.{IsGranule, most_left, class_of, input_size, start_left2}
use Rattle.geometry.proofs.Sizes.{input_more, input_most, start_within, start_below, start2_within, suited_below}
use Rattle.sysregs.specs.declared.regs.Config.{Config}
use Rattle.sysregs.specs.declared.regs.Side.{Side}
use Rattle.sysregs.specs.Registers.{granule_of}
use Rattle.sysregs.specs.Sides.{side_of, tg_of, txsz_of}
use Rattle.sysregs.proofs.Granules.{output_most}
use Rattle.descriptors.proofs.Granules.{granule_of_is_granule}
use Rattle.trails.specs.declared.outcome.Access.{Access}
use Rattle.table_reads.specs.Numbers.{sizes1, sizes2, is_sized1, is_sized2, is_suited_start, AreSound}
use Rattle.walk_spec.specs.Needs.{Regime}
use Rattle.walk_spec.specs.Stage2.{is_refused2}
use Rattle.walk_spec.specs.BothStages.{is_refused1}
use Rattle.walk_laws.proofs.Numbers.{in_range}
use Rattle.walk_laws.proofs.Places.{first_of_and, second_of_and}

-- the numbers of a regime are those of its register fields and side
pub record IsOfFields (regime : Regime) : Type 0 where
  pub stage1 : regime.stage1 ≡ sizes1 regime.config regime.side
  pub stage2 : regime.stage2 ≡ sizes2 regime.config

sized1_granule : (c : Config) (s : Side) → IsGranule (sizes1 c s).granule
unfolding sizes1
sized1_granule c s = granule_of_is_granule (tg_of c s)

sized2_granule : (c : Config) → IsGranule (sizes2 c).granule
unfolding sizes2
sized2_granule c = granule_of_is_granule c.tg2

pub granule1 : (r : Regime) → IsOfFields r → IsGranule r.stage1.granule
granule1 r f = rw f.stage1 (sized1_granule r.config r.side)

pub granule2 : (r : Regime) → IsOfFields r → IsGranule r.stage2.granule
granule2 r f = rw f.stage2 (sized2_granule r.config)

sound1_by : (c : Config) (s : Side) → is_sized1 c s ≡ true → AreSound (sizes1 c s)
unfolding sizes1
sound1_by c s h =
    let g = granule_of_is_granule (tg_of c s) in
    record {
      granule = g;
      start = start_within (granule_of (tg_of c s)) (txsz_of c s) g h;
      wide = input_more (granule_of (tg_of c s)) (txsz_of c s) g h;
      input = input_most (granule_of (tg_of c s)) (txsz_of c s) g h;
      output = output_most (granule_of (tg_of c s)) c.ips;
      entries = start_below (granule_of (tg_of c s)) (input_size (txsz_of c s)) g (input_more (granule_of (tg_of c s)) (txsz_of c s) g h);
    }

abbrev StartsBelow : (g input : ℕ) → Option ℕ → Type 0
StartsBelow g input o = (unwrap_or o 0 ≤ most_left) × (class_of g (unwrap_or o 0) < input)

starts_below : (g sl0 input : ℕ) (o : Option ℕ) → start_left2 g sl0 ≡ o → is_suited_start g o input ≡ true → StartsBelow g input o
starts_below g sl0 input None e h = absurd cc
starts_below g sl0 input (Some left) e h = (start2_within g sl0 left e, suited_below g left input h)

sound2_by : (c : Config) → is_sized2 c ≡ true → AreSound (sizes2 c)
unfolding sizes2
sound2_by c h =
    let g = granule_of_is_granule c.tg2 in
    let t = first_of_and _ _ h in
    let s = starts_below (granule_of c.tg2) c.sl0 (input_size c.t2sz) (start_left2 (granule_of c.tg2) c.sl0) refl (second_of_and _ _ h) in
    record {
      granule = g;
      start = s.0;
      wide = input_more (granule_of c.tg2) c.t2sz g t;
      input = input_most (granule_of c.tg2) c.t2sz g t;
      output = output_most (granule_of c.tg2) c.ps;
      entries = s.1;
    }

not_false : (b : Bool) → not b ≡ false → b ≡ true
not_false true h = refl
not_false false h = absurd cc

first_of_or : (a b : Bool) → (a || b) ≡ false → a ≡ false
first_of_or true b h = absurd cc
first_of_or false b h = refl

-- an access that is not refused has numbers that suit
pub sound1 : (r : Regime) (a : Access) → IsOfFields r → r.side ≡ side_of a.va → is_refused1 r.config a ≡ false → AreSound r.stage1
unfolding is_refused1
sound1 r a f s h =
    let t = not_false _ (first_of_or _ _ (first_of_or _ _ (first_of_or _ _ h))) in
    rw (f.stage1, s) (sound1_by r.config (side_of a.va) t)

sized2_input : (c : Config) → (sizes2 c).input ≡ input_size c.t2sz
unfolding sizes2
sized2_input c = refl

-- so has an IPA that is not refused, and it is in range
pub sound2 : (r : Regime) (x : ℕ) → IsOfFields r → is_refused2 r.config x ≡ false → AreSound r.stage2 × (x < 2 ^ r.stage2.input)
unfolding is_refused2
sound2 r x f h =
    let t = not_false _ h in (
      rw f.stage2 (sound2_by r.config (first_of_and _ _ t)),
      rw (f.stage2, sized2_input r.config)
          (ltb-true x (2 ^ input_size r.config.t2sz) (second_of_and _ _ t)),
    )

in_range_with : (s : Bool) (x y input : ℕ) → not (s && nat_lt x (2 ^ input)) ≡ false → (x < 2 ^ input → y < 2 ^ input)
    → not (s && nat_lt y (2 ^ input)) ≡ false
in_range_with true x y input h f = let l : x < 2 ^ input = ltb-true x (2 ^ input) (not_false _ h) in let m = f l in grind (arith, nat_tests)
in_range_with false x y input h f = absurd cc

-- an IPA of the region of one that is not refused is not refused
pub range2 : (r : Regime) (x y k : ℕ) → IsOfFields r → k ≤ r.stage2.input → x / 2 ^ k ≡ y / 2 ^ k → is_refused2 r.config x ≡ false →
    is_refused2 r.config y ≡ false
unfolding is_refused2
range2 r x y k f l s h =
    let e : k ≤ input_size r.config.t2sz = rw (f.stage2, sized2_input r.config) at l in
    in_range_with (is_sized2 r.config) x y (input_size r.config.t2sz) h (in_range x y k (input_size r.config.t2sz) e s)
