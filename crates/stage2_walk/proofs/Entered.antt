-- What the test of an IPA against the numbers of stage 2 tells.
use Rattle.std.proofs.Common.{◌≡◌, ℕ, ◌≤◌, ◌<◌, ◌^◌, Bool, true, false, not, arith, refl, ap, Some, None, Ok, Err}
use Rattle.std.specs.Prelude.{◌&&◌, nat_lt, if◌then◌else◌}
use Rattle.std.proofs.lemmas.Bool.Decides.{nat_tests}
use Rattle.geometry.specs.Tables.{most_left, input_size}
use Rattle.sysregs.specs.Registers.{granule_of}
use Rattle.sysregs.specs.declared.regs.Config.{Config}
use Rattle.fault_codes.specs.declared.fault.Stage.TheVariants.{S2}
use Rattle.fault_codes.specs.declared.fault.Class.TheVariants.{Translation}
use Rattle.fault_codes.specs.declared.fault.Fault.{Fault}
use Rattle.table_reads.specs.declared.sizes.Sizes.{Sizes}
use Rattle.table_reads.specs.Numbers.{is_sized2, sizes2}
use Rattle.table_reads.specs.Items.{fault_at}
use Rattle.walk_spec.specs.Stage2.{is_refused2}
use Rattle.stage2_walk.specs.Entered.{IsSized2, enter2_of}

in_by : (s l : Bool) → s ≡ true → l ≡ true → (e : Fault) (n m : Sizes) → n ≡ m → Ok n ≡ (if not (s && l) then Err e else Ok m)
in_by true true h k e n m q = ap Ok q
in_by true false h k e n m q = absurd cc
in_by false l h k e n m q = absurd cc

past_by : (s l : Bool) → l ≡ false → (e : Fault) (m : Sizes) → Err e ≡ (if not (s && l) then Err e else Ok m)
past_by true true h e m = absurd cc
past_by true false h e m = refl
past_by false l h e m = refl

none_by : (s l : Bool) → s ≡ false → (e : Fault) (m : Sizes) → Err e ≡ (if not (s && l) then Err e else Ok m)
none_by true l h e m = absurd cc
none_by false l h e m = refl

lt_true : (a b : ℕ) → a < b → nat_lt a b ≡ true
lt_true a b h = grind (arith, nat_tests)

lt_false : (a b : ℕ) → b ≤ a → nat_lt a b ≡ false
lt_false a b h = grind (arith, nat_tests)

input_is : (c : Config) (n : Sizes) → n ≡ sizes2 c → n.input ≡ input_size c.t2sz
unfolding sizes2
input_is c n h = ap (λ z. z.input) h

module _ (c : Config) (ipa : ℕ) (p : Bool) where
  -- the IPA is in range
  pub entered_in : (n : Sizes) → IsSized2 c (Some n) → ipa < 2 ^ n.input → Ok n ≡ enter2_of c ipa p
  unfolding is_refused2
  entered_in n h l =
      let k : ipa < 2 ^ input_size c.t2sz = rw (← input_is c n h.1) l in
      in_by (is_sized2 c) (nat_lt ipa (2 ^ input_size c.t2sz)) h.0 (lt_true ipa (2 ^ input_size c.t2sz) k) (fault_at S2 p Translation most_left) n (sizes2 c)
      h.1

  -- it is not
  pub entered_past : (n : Sizes) → IsSized2 c (Some n) → 2 ^ n.input ≤ ipa → Err (fault_at S2 p Translation most_left) ≡ enter2_of c ipa p
  unfolding is_refused2
  entered_past n h l =
      let k : 2 ^ input_size c.t2sz ≤ ipa = rw (← input_is c n h.1) l in
      past_by (is_sized2 c) (nat_lt ipa (2 ^ input_size c.t2sz)) (lt_false ipa (2 ^ input_size c.t2sz) k) (fault_at S2 p Translation most_left) (sizes2 c)

  -- there are no numbers
  pub entered_none : IsSized2 c None → Err (fault_at S2 p Translation most_left) ≡ enter2_of c ipa p
  unfolding is_refused2
  entered_none h = none_by (is_sized2 c) (nat_lt ipa (2 ^ input_size c.t2sz)) h (fault_at S2 p Translation most_left) (sizes2 c)

  ok_by : (b : Bool) (e : Fault) (n m : Sizes) → Ok n ≡ (if b then Err e else Ok m) → (b ≡ false) × (n ≡ m)
  ok_by true e n m h = absurd cc
  ok_by false e n m h = (refl, cc)

  err_by : (b : Bool) (e f : Fault) (m : Sizes) → Err f ≡ (if b then Err e else Ok m) → (b ≡ true) × (f ≡ e)
  err_by true e f m h = (refl, cc)
  err_by false e f m h = absurd cc

  -- an IPA is not refused, and has these numbers
  pub entered : (n : Sizes) → Ok n ≡ enter2_of c ipa p → (is_refused2 c ipa ≡ false) × (n ≡ sizes2 c)
  entered n h = ok_by (is_refused2 c ipa) (fault_at S2 p Translation most_left) n (sizes2 c) h

  -- an IPA is refused
  pub refused : (f : Fault) → Err f ≡ enter2_of c ipa p → (is_refused2 c ipa ≡ true) × (f ≡ fault_at S2 p Translation most_left)
  refused f h = err_by (is_refused2 c ipa) (fault_at S2 p Translation most_left) f (sizes2 c) h

-- the granule of these numbers is stage 2's
pub granule_is : (c : Config) (n : Sizes) → n ≡ sizes2 c → n.granule ≡ granule_of c.tg2
unfolding sizes2
granule_is c n h = ap (λ z. z.granule) h
