-- How stage 1 is walked from its base, on or off.
use Rattle.std.proofs.Common.{◌≡◌, ℕ, List, [], ◌∷◌, Bool, true, false, None, refl, sym, ap}
use Rattle.std.proofs.Common.{subst, Result, Ok, Err, ◌%◌, ◌^◌, if◌then◌else◌}
use Rattle.geometry.specs.Tables.{most_left}
use Rattle.sysregs.specs.declared.regs.Config.{Config}
use Rattle.sysregs.specs.Registers.{config_of}
use Rattle.sysregs.specs.Sides.{side_of}
use Rattle.permissions.specs.Rights.{no_bits}
use Rattle.fault_codes.specs.declared.fault.Stage.TheVariants.{S1}
use Rattle.fault_codes.specs.declared.fault.Class.TheVariants.{Translation, AddressSize}
use Rattle.fault_codes.specs.declared.fault.Fault.{Fault}
use Rattle.trails.specs.declared.item.Item.{Item}
use Rattle.trails.specs.declared.outcome.Access.{Access}
use Rattle.trails.specs.declared.outcome.Stop.{Stop}
use Rattle.trails.specs.declared.outcome.Stop.TheVariants.{Fault as FaultStop}
use Rattle.table_reads.specs.Numbers.{sizes1}
use Rattle.table_reads.specs.Places.{is_too_large}
use Rattle.table_reads.specs.Items.{base_item}
use Rattle.table_reads.specs.Memory.{Told}
use Rattle.walk_spec.specs.declared.leaf.Leaf1.{Leaf1}
use Rattle.walk_spec.specs.Ask.{done, ask}
use Rattle.walk_spec.specs.Needs.{Need, stage1_base, stage2_base, word}
use Rattle.walk_spec.specs.Steps.{End, stops, reaches}
use Rattle.walk_spec.specs.Stage1.{Asked, fault1}
use Rattle.walk_spec.specs.BothStages.{is_refused1, is_refused_off, stage1_behind, stage1_on, stage1_off, off_leaf, asked}
use Rattle.walk_spec.specs.Fresh.{start_base1}
use Rattle.walk_spec.specs.Walked.{ReadsNow, Walked}
use Rattle.walk_spec.proofs.Walks.{walked_done, walked_ends, walked_goes, walked_weaker}
use Rattle.translate.specs.declared.begin.Begin1.TheVariants.{Off}
use Rattle.translate.specs.declared.stage1.Output1.{Output1}
use Rattle.translate.specs.Checked.{RegsAt}
use Rattle.translate.specs.Parts.{refusal, begin1_on, begin1_of}
use Rattle.translate.specs.Deep.{Reads2, WalkedFrom1, WalkedOn1, WalkedStage1, leaf_answer}
use Rattle.translate.proofs.Choices.{on_with, off_with, ok_by, err_by}

is_off_at : (m : Bool) (c : Config) (a : Access) (ipa : ℕ) → c.m ≡ m
    → Ok (Off ipa) ≡ (if m then begin1_on c a else (if is_refused_off c a then Err (refusal S1 false AddressSize) else Ok (Off (a.va % 2 ^ 52))))
    → (c.m ≡ false) × (is_refused_off c a ≡ false)
is_off_at true c a ipa e h = let k = ok_by (is_refused1 c a) (refusal S1 false Translation) _ _ h in let f = k.1 in absurd cc
is_off_at false c a ipa e h = let k = ok_by (is_refused_off c a) (refusal S1 false AddressSize) _ _ h in (e, k.0)

-- stage 1 is off, and gives an IPA
pub is_off : (c : Config) (a : Access) (ipa : ℕ) → Ok (Off ipa) ≡ begin1_of c a → (c.m ≡ false) × (is_refused_off c a ≡ false)
is_off c a ipa h = is_off_at c.m c a ipa refl h

module _ (under : RegsAt) (a : Access) (m : Told) where
  abbrev pub q : Asked
  q = asked (config_of under.regs) true a

  abbrev pub reads : Need → Item → Type 0
  reads = ReadsNow under.regs (side_of a.va) under.moment m

  abbrev first_item : Item
  first_item = base_item under.moment S1 (sizes1 (config_of under.regs) (side_of a.va)) (start_base1 under.regs (side_of a.va))

  -- what is read behind the base of stage 1 is read now
  pub read_now : (n : Need) (i : Item) → Reads2 under m n i → reads n i
  read_now stage1_base i h = absurd h
  read_now (stage2_base _) i h = h
  read_now (word w) i h = h

  module _ (ok : is_refused1 (config_of under.regs) a ≡ false) (mid : List Item) (kept : mid ≡ first_item ∷ []) where
    asks : stage1_on q ≡ ask stage1_base (λ i. stage1_behind q i.value)
    asks = off_with (is_refused1 (config_of under.regs) a) ok (done (stops (fault1 Translation most_left))) (ask stage1_base (λ i. stage1_behind q i.value))

    -- the base is too large
    pub walked_large1 : (F : Type 0) (s : Result Leaf1 Stop)
        → is_too_large (sizes1 (config_of under.regs) (side_of a.va)) (start_base1 under.regs (side_of a.va)) ≡ true
        → s ≡ Err (FaultStop (refusal S1 false AddressSize)) → WalkedOn1 m F under a mid s
    walked_large1 F s h e = walked_ends reads m F _ stage1_base _ first_item (stops (fault1 AddressSize most_left)) [] mid s asks kept refl (on_with _ h _ _) e

    -- the walk goes on from the base
    pub walked_from1 : (F : Type 0) (new : List Item) (s : Result Leaf1 Stop)
        → is_too_large (sizes1 (config_of under.regs) (side_of a.va)) (start_base1 under.regs (side_of a.va)) ≡ false
        → WalkedFrom1 m F under a (sizes1 (config_of under.regs) (side_of a.va)).start record
        { address = start_base1 under.regs (side_of a.va); bits = no_bits } mid new s → WalkedOn1 m F under a new s
    walked_from1 F new s h w =
        walked_goes reads m F F _ stage1_base _ first_item _ [] mid new s asks kept refl (off_with _ h _ _) (λ f. f)
        (walked_weaker (Reads2 under m) reads m F read_now _ mid new s w)

  -- stage 1 is refused
  refused_at : (F : Type 0) (old new : List Item) (f : Fault) (b : Bool)
      → Err f ≡
      (if b then begin1_on (config_of under.regs) a else
      (if is_refused_off (config_of under.regs) a then Err (refusal S1 false AddressSize) else Ok (Off (a.va % 2 ^ 52)))) → new ≡ old
      → Walked reads m F (if b then stage1_on q else stage1_off q) old new (Err (FaultStop f))
  refused_at F old new f true h n =
      let k = err_by (is_refused1 (config_of under.regs) a) (refusal S1 false Translation) f _ h in
      subst (λ t. Walked reads m F t old new (Err (FaultStop f)))
      (sym (on_with (is_refused1 (config_of under.regs) a) k.0 (done (stops (fault1 Translation most_left))) (ask stage1_base (λ i. stage1_behind q i.value))))
      (walked_done reads m F (stops (fault1 Translation most_left)) old new (Err (FaultStop f)) n (ap (λ x. Err (FaultStop x)) k.1))
  refused_at F old new f false h n =
      let k = err_by (is_refused_off (config_of under.regs) a) (refusal S1 false AddressSize) f _ h in
      subst (λ (t : End Leaf1). Walked reads m F (done t) old new (Err (FaultStop f)))
      (sym (on_with (is_refused_off (config_of under.regs) a) k.0 (stops (fault1 AddressSize most_left)) (reaches (off_leaf (config_of under.regs) a))))
      (walked_done reads m F (stops (fault1 AddressSize most_left)) old new (Err (FaultStop f)) n (ap (λ x. Err (FaultStop x)) k.1))

  pub stage_refused : (F : Type 0) (new : List Item) (f : Fault) → Err f ≡ begin1_of (config_of under.regs) a → new ≡ []
      → WalkedStage1 m F under a new (Err (FaultStop f))
  stage_refused F new f h n = refused_at F [] new f (config_of under.regs).m h n

  -- stage 1 is off
  pub stage_off : (F : Type 0) (new : List Item) (out : ℕ) → ((config_of under.regs).m ≡ false) × (is_refused_off (config_of under.regs) a ≡ false)
      → new ≡ [] → WalkedStage1 m F under a new (Ok record { out = out; leaf = None })
  stage_off F new out h n =
      let s : stage1_off q ≡ done (reaches (off_leaf (config_of under.regs) a)) =
      ap done (off_with (is_refused_off (config_of under.regs) a) h.1 (stops (fault1 AddressSize most_left))
      (reaches (off_leaf (config_of under.regs) a))) in
      let t = off_with (config_of under.regs).m h.0 (stage1_on q) (stage1_off q) in
      subst (λ t. Walked reads m F t [] new (Ok (off_leaf (config_of under.regs) a))) (sym t)
      (subst (λ t. Walked reads m F t [] new (Ok (off_leaf (config_of under.regs) a))) (sym s)
      (walked_done reads m F (reaches (off_leaf (config_of under.regs) a)) [] new (Ok (off_leaf (config_of under.regs) a)) n refl))

  -- stage 1 is on
  pub stage_on : (F : Type 0) (new : List Item) (r : Result Leaf1 Stop) (s : Result Output1 Stop) → (config_of under.regs).m ≡ true
      → leaf_answer (config_of under.regs) a s ≡ r → WalkedOn1 m F under a new r → WalkedStage1 m F under a new s
  stage_on F new r s h e w =
      subst (λ t. Walked reads m F t [] new (leaf_answer (config_of under.regs) a s)) (sym (on_with (config_of under.regs).m h (stage1_on q) (stage1_off q)))
      (subst (λ r. Walked reads m F (stage1_on q) [] new r) (sym e) w)
