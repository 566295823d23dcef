-- What stages check before their bases, by numbers that are at hand.
use Rattle.std.proofs.Common.{◌≡◌, ℕ, ◌<◌, ◌%◌, ◌^◌, Bool, true, false, not, List, Option}
use Rattle.std.proofs.Common.{Some, None, Result, Ok, Err, refl, sym, ap, ◌∙◌, subst}
use Rattle.std.specs.Prelude.{◌&&◌, ◌||◌, ℤ, if◌then◌else◌}
use Rattle.geometry.specs.Tables.{level_of, input_size}
use Rattle.sysregs.specs.declared.regs.Regs.{Regs}
use Rattle.sysregs.specs.declared.regs.Config.{Config}
use Rattle.sysregs.specs.declared.regs.Side.{Side}
use Rattle.sysregs.specs.Registers.{config_of}
use Rattle.sysregs.specs.Sides.{side_of, txsz_of, epd_of, e0pd_of}
use Rattle.fault_codes.specs.declared.fault.Fault.{Fault}
use Rattle.fault_codes.specs.declared.fault.Stage.TheVariants.{S1}
use Rattle.fault_codes.specs.declared.fault.Class.TheVariants.{Translation, AddressSize}
use Rattle.trails.specs.declared.item.Item.{Item}
use Rattle.trails.specs.declared.outcome.Access.{Access}
use Rattle.trails.specs.declared.outcome.Stop.{Stop}
use Rattle.table_reads.specs.declared.sizes.Sizes.{Sizes}
use Rattle.table_reads.specs.Numbers.{AreSound, is_sized1, is_sized2, sizes1, sizes2}
use Rattle.walk_spec.specs.declared.entry.Table1.{Table1}
use Rattle.walk_spec.specs.declared.leaf.Leaf1.{Leaf1}
use Rattle.walk_spec.specs.Needs.{regime_with}
use Rattle.walk_spec.specs.Stage2.{is_refused2}
use Rattle.walk_spec.specs.BothStages.{asked, is_in_range, is_el0, is_refused1, is_refused_off}
use Rattle.walk_spec.specs.Fresh.{start_base1, start_base2}
use Rattle.stage1_walk.specs.declared.under.Under1.{Under1}
use Rattle.stage1_walk.specs.Under.{IsUnderFor, asked_under}
use Rattle.stage1_walk.specs.Gave.{Walked1}
use Rattle.stage1_walk.specs.Sized.{IsSized1}
use Rattle.stage2_walk.specs.Entered.{IsSized2, enter2_of}
use Rattle.stage2_walk.proofs.Entered.{entered, refused}
use Rattle.translate.specs.declared.begin.Begin1.{Begin1}
use Rattle.translate.specs.declared.begin.Begin1.TheVariants.{Off}
use Rattle.translate.specs.declared.start.Start.{Start}
use Rattle.translate.specs.Checked.{HasBase, IsStart1, IsStart2}
use Rattle.translate.specs.Parts.{refusal, off1_of, enter1_of, begin1_on, begin1_of, begin2_of}
use Rattle.translate.proofs.Choices.{on_with, off_with, ok_by, err_by}

input_is : (c : Config) (s : Side) (n : Sizes) → n ≡ sizes1 c s → n.input ≡ input_size (txsz_of c s)
unfolding sizes1
input_is c s n h = ap (λ z. z.input) h

rest_by : (b r t u : Bool) → b ≡ true → ((r || t) || u) ≡ (((not b || r) || t) || u)
rest_by true r t u h = refl
rest_by false r t u h = absurd cc

all_by : (b r t u : Bool) → b ≡ false → (((not b || r) || t) || u) ≡ true
all_by true r t u h = absurd cc
all_by false r t u h = refl

module _ (c : Config) (a : Access) where
  -- what is tested where TxSZ is in range
  pub refused_by : (s : Side) (n : Sizes) → s ≡ side_of a.va → is_sized1 c s ≡ true → n ≡ sizes1 c s
      → ((not (is_in_range c a n.input) || (is_el0 a.el && e0pd_of c s)) || epd_of c s) ≡ is_refused1 c a
  unfolding is_refused1
  refused_by s n e h k =
      let sized : is_sized1 c (side_of a.va) ≡ true = rw e at h in
      let numbers : n ≡ sizes1 c (side_of a.va) = rw e at k in
      rw (input_is c (side_of a.va) n numbers, e) (rest_by (is_sized1 c (side_of a.va)) _ _ _ sized)

  -- TxSZ is out of range
  pub unsized_refused : is_sized1 c (side_of a.va) ≡ false → is_refused1 c a ≡ true
  unfolding is_refused1
  unsized_refused h = all_by (is_sized1 c (side_of a.va)) _ _ _ h

  -- an access is refused
  pub enter1_refused : is_refused1 c a ≡ true → Err (refusal S1 false Translation) ≡ enter1_of c a
  enter1_refused h = sym (on_with (is_refused1 c a) h _ _)

  -- an access is not refused, and has these numbers
  pub entered1 : (n : Sizes) → Ok n ≡ enter1_of c a → (is_refused1 c a ≡ false) × (n ≡ sizes1 c (side_of a.va))
  entered1 n h = ok_by (is_refused1 c a) (refusal S1 false Translation) (sizes1 c (side_of a.va)) n h

  on_begins : (r : Result Begin1 Fault) → c.m ≡ true → r ≡ begin1_on c a → r ≡ begin1_of c a
  on_begins r m h = h ∙ sym (on_with c.m m _ _)

  off_begins : (r : Result Begin1 Fault) → c.m ≡ false
      → r ≡ (if is_refused_off c a then Err (refusal S1 false AddressSize) else Ok (Off (a.va % 2 ^ 52))) → r ≡ begin1_of c a
  off_begins r m h = h ∙ sym (off_with c.m m _ _)

  -- stage 1 begins as it is entered
  pub begins_refused : (f : Fault) → c.m ≡ true → Err f ≡ enter1_of c a → Err f ≡ begin1_of c a
  begins_refused f m h =
      let e = err_by (is_refused1 c a) (refusal S1 false Translation) f (sizes1 c (side_of a.va)) h in
      on_begins (Err f) m (ap Err e.1 ∙ sym (on_with (is_refused1 c a) e.0 _ _))

  pub begins_off : (ipa : ℕ) → c.m ≡ false → Ok ipa ≡ off1_of c a → Ok (Off ipa) ≡ begin1_of c a
  begins_off ipa m h =
      let e = ok_by (is_refused_off c a) (refusal S1 false AddressSize) (a.va % 2 ^ 52) ipa h in
      off_begins (Ok (Off ipa)) m (ap (λ z. Ok (Off z)) e.1 ∙ sym (off_with (is_refused_off c a) e.0 _ _))

  pub begins_refused_off : (f : Fault) → c.m ≡ false → Err f ≡ off1_of c a → Err f ≡ begin1_of c a
  begins_refused_off f m h =
      let e = err_by (is_refused_off c a) (refusal S1 false AddressSize) f (a.va % 2 ^ 52) h in
      off_begins (Err f) m (ap Err e.1 ∙ sym (on_with (is_refused_off c a) e.0 _ _))

  -- what a walk is done under is what is asked
  asked_is : (w : Under1) → IsUnderFor c a w → asked_under w ≡ asked c true a
  asked_is w h = λ i. record { regime = regime_with (h.config i) (h.side i) (h.sizes i); judged = true; access = h.access i }

  -- (More than six parameters: those of what is said of the walk.)
  pub walked_as : {S : Type 0} (gives : S → ℤ → ℕ → List Item → Result ℕ Stop → S → Type 0) (w : Under1) → IsUnderFor c a w
      → (left : ℕ) (table : Table1) (before : S) (old new : List Item) (r : Result Leaf1 Stop) (after : S)
      → Walked1 gives (asked_under w) left table before old new r after → Walked1 gives (asked c true a) left table before old new r after
  walked_as gives w h left table before old new r after k =
      subst (λ q. Walked1 gives q left table before old new r after) (asked_is w h) k

-- stage 2 begins as it is entered
pub begins2 : (c : Config) (ipa : ℕ) (p : Bool) (n : Sizes) → Ok n ≡ enter2_of c ipa p → Ok (level_of n.start) ≡ begin2_of c ipa p
begins2 c ipa p n h =
    let e = entered c ipa p n h in
    ap (λ z. Ok (level_of z.start)) e.1 ∙ sym (off_with (is_refused2 c ipa) e.0 _ _)

pub begins2_refused : (c : Config) (ipa : ℕ) (p : Bool) (f : Fault) → Err f ≡ enter2_of c ipa p → Err f ≡ begin2_of c ipa p
begins2_refused c ipa p f h =
    let e = refused c ipa p f h in
    ap Err e.1 ∙ sym (on_with (is_refused2 c ipa) e.0 _ _)

there1 : (regs : Regs) (s : Side) (o : Option Sizes) (kept base : ℕ) → IsSized1 (config_of regs) s o → HasBase o kept base
    → is_sized1 (config_of regs) s ≡ true → (kept ≡ base) × (kept < 2 ^ 52) × (kept % 8 ≡ 0)
there1 regs s None kept base h b e = absurd cc
there1 regs s (Some n) kept base h b e = (b.1, b.2, b.3)

there2 : (regs : Regs) (o : Option Sizes) (kept base : ℕ) → IsSized2 (config_of regs) o → HasBase o kept base → is_sized2 (config_of regs) ≡ true
    → (kept ≡ base) × (kept < 2 ^ 52) × (kept % 8 ≡ 0)
there2 regs None kept base h b e = absurd cc
there2 regs (Some n) kept base h b e = (b.1, b.2, b.3)

-- the base that is kept, where there are numbers
pub base_there1 : (regs : Regs) (s : Side) (start : Start) → IsStart1 regs s start → is_sized1 (config_of regs) s ≡ true
    → (start.base ≡ start_base1 regs s) × (start.base < 2 ^ 52) × (start.base % 8 ≡ 0)
base_there1 regs s start h e = there1 regs s start.sizes start.base (start_base1 regs s) h.sized h.base e

pub base_there2 : (regs : Regs) (start : Start) → IsStart2 regs start → is_sized2 (config_of regs) ≡ true
    → (start.base ≡ start_base2 regs) × (start.base < 2 ^ 52) × (start.base % 8 ≡ 0)
base_there2 regs start h e = there2 regs start.sizes start.base (start_base2 regs) h.sized h.base e

-- numbers that are in range are there
pub none_sized1 : (c : Config) (s : Side) → IsSized1 c s None → is_sized1 c s ≡ true → ⊥
none_sized1 c s h e = absurd cc

pub none_sized2 : (c : Config) → IsSized2 c None → is_sized2 c ≡ true → ⊥
none_sized2 c h e = absurd cc

some_by : (c : Config) (o : Option Sizes) (kept base : ℕ) → IsSized2 c o → HasBase o kept base → (n : Sizes) → o ≡ Some n
    → (n ≡ sizes2 c) × AreSound n
some_by c o kept base h b n e = let k : IsSized2 c (Some n) = rw e at h in let d : HasBase (Some n) kept base = rw e at b in (k.1, d.0)

-- the numbers that are there
pub some_sized2 : (regs : Regs) (start : Start) → IsStart2 regs start → (n : Sizes) → start.sizes ≡ Some n
    → (n ≡ sizes2 (config_of regs)) × AreSound n
some_sized2 regs start h n e = some_by (config_of regs) start.sizes start.base (start_base2 regs) h.sized h.base n e
