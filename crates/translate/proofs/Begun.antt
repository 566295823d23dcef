-- How stage 2 is walked from its base.
use Rattle.std.proofs.Common.{◌≡◌, ℕ, List, [], ◌∷◌, ◌++◌, Bool, true, false, refl, sym, subst, Result, Ok, Err}
use Rattle.geometry.specs.Tables.{most_left}
use Rattle.sysregs.specs.Registers.{config_of}
use Rattle.fault_codes.specs.declared.fault.Stage.TheVariants.{S2}
use Rattle.fault_codes.specs.declared.fault.Class.TheVariants.{Translation, AddressSize}
use Rattle.trails.specs.declared.item.Item.{Item}
use Rattle.trails.specs.declared.outcome.Stop.{Stop}
use Rattle.trails.specs.declared.outcome.Stop.TheVariants.{Fault as FaultStop}
use Rattle.table_reads.specs.Numbers.{is_sized2, sizes2}
use Rattle.table_reads.specs.Places.{is_too_large}
use Rattle.table_reads.specs.Items.{base_item}
use Rattle.table_reads.specs.Memory.{Told}
use Rattle.walk_spec.specs.declared.leaf.Leaf2.{Leaf2}
use Rattle.walk_spec.specs.Ask.{done, ask}
use Rattle.walk_spec.specs.Needs.{Need, stage1_base, stage2_base, word}
use Rattle.walk_spec.specs.Steps.{stops}
use Rattle.walk_spec.specs.Stage2.{Asked2, fault2, step2, is_refused2, walk2_from, walk2_behind, walk2}
use Rattle.walk_spec.specs.Fresh.{start_base2}
use Rattle.walk_spec.specs.Walked.{ReadsWord, Walked}
use Rattle.walk_spec.proofs.Walks.{walked_done, walked_ends, walked_goes, walked_weaker}
use Rattle.stage2_walk.specs.declared.under.Under2.{Under2}
use Rattle.stage2_walk.specs.declared.step.Last2.{Last2}
use Rattle.stage2_walk.specs.Under.{asked_under}
use Rattle.stage2_walk.specs.SoundSteps.{IsLast, EndsIn}
use Rattle.stage2_walk.specs.Clauses.{answer_of, WalkedLeft, CameDown}
use Rattle.translate.specs.Checked.{RegsAt}
use Rattle.translate.specs.Parts.{refusal}
use Rattle.translate.specs.Deep.{Reads2, asked2_of, Walked2, Came2}
use Rattle.translate.proofs.Choices.{on_with, off_with}

module _ (under : RegsAt) (m : Told) (p : Bool) (ipa : ℕ) where
  abbrev q : Asked2
  q = asked2_of under.regs p ipa

  abbrev base : Item
  base = base_item under.moment S2 (sizes2 (config_of under.regs)) (start_base2 under.regs)

  word_reads : (n : Need) (i : Item) → ReadsWord under.moment m n i → Reads2 under m n i
  word_reads stage1_base i h = absurd h
  word_reads (stage2_base _) i h = absurd h
  word_reads (word w) i h = h

  -- the IPA is refused
  pub walked_refused2 : (F : Type 0) (old new : List Item) (s : Result Leaf2 Stop) → is_refused2 (config_of under.regs) ipa ≡ true → new ≡ old
      → s ≡ Err (FaultStop (refusal S2 p Translation)) → Walked2 m F under p ipa old new s
  walked_refused2 F old new s h n e =
      subst (λ t. Walked (Reads2 under m) m F t old new s)
      (sym (on_with (is_refused2 (config_of under.regs) ipa) h (done (stops (fault2 q Translation most_left)))
      (ask (stage2_base ipa) (λ i. walk2_behind q i.value)))) (walked_done (Reads2 under m) m F (stops (fault2 q Translation most_left)) old new s n e)

  module _ (ok : is_refused2 (config_of under.regs) ipa ≡ false) (old mid : List Item) (kept : mid ≡ old ++ base ∷ []) where
    asks : walk2 q ≡ ask (stage2_base ipa) (λ i. walk2_behind q i.value)
    asks = off_with (is_refused2 (config_of under.regs) ipa) ok (done (stops (fault2 q Translation most_left)))
        (ask (stage2_base ipa) (λ i. walk2_behind q i.value))

    -- the base is too large
    pub walked_large2 : (F : Type 0) (s : Result Leaf2 Stop) → is_too_large (sizes2 (config_of under.regs)) (start_base2 under.regs) ≡ true
        → s ≡ Err (FaultStop (refusal S2 p AddressSize)) → Walked2 m F under p ipa old mid s
    walked_large2 F s h e =
        walked_ends (Reads2 under m) m F _ (stage2_base ipa) _ base (stops (fault2 q AddressSize most_left)) old mid s asks kept refl (on_with _ h _ _) e

    -- the walk goes on from the base
    pub walked_from2 : (F : Type 0) (new : List Item) (s : Result Leaf2 Stop) → is_too_large (sizes2 (config_of under.regs))
        (start_base2 under.regs) ≡ false
        → Walked (ReadsWord under.moment m) m F (walk2_from q (sizes2 (config_of under.regs)).start (start_base2 under.regs)) mid new s
        → Walked2 m F under p ipa old new s
    walked_from2 F new s h w =
        walked_goes (Reads2 under m) m F F _ (stage2_base ipa) _ base _ old mid new s asks kept refl (off_with _ h _ _) (λ f. f)
        (walked_weaker (ReadsWord under.moment m) (Reads2 under m) m F word_reads _ mid new s w)

    -- what a walk under these numbers asks is what is asked of stage 2
    walked_for : (u : Under2) (left table : ℕ) → asked_under u ≡ q → u.moment ≡ under.moment → left ≡ (sizes2 (config_of under.regs)).start
        → table ≡ start_base2 under.regs → (F : Type 0) (new : List Item) (s : Result Leaf2 Stop) → WalkedLeft m F u left table mid new s
        → Walked (ReadsWord under.moment m) m F (walk2_from q (sizes2 (config_of under.regs)).start (start_base2 under.regs)) mid new s
    walked_for u left table a k l t F new s w =
        subst (λ z. Walked (ReadsWord under.moment m) m F (walk2_from q (sizes2 (config_of under.regs)).start z) mid new s) t
        (subst (λ z. Walked (ReadsWord under.moment m) m F (walk2_from q z table) mid new s) l
        (subst (λ z. Walked (ReadsWord z m) m F (walk2_from q left table) mid new s) k
        (subst (λ z. Walked (ReadsWord u.moment m) m F (walk2_from z left table) mid new s) a w)))

    -- the walk goes on from the base to its last word
    pub came_from2 : (u : Under2) (left table : ℕ) → asked_under u ≡ q → u.moment ≡ under.moment → left ≡ (sizes2 (config_of under.regs)).start
        → table ≡ start_base2 under.regs → is_sized2 (config_of under.regs) ≡ true
        → is_too_large (sizes2 (config_of under.regs)) (start_base2 under.regs) ≡ false → (F : Type 0) (new : List Item) (s : Result Last2 Stop)
        → CameDown m F u left table mid new s → Came2 m F under p ipa old new s
    came_from2 u left table a k l t sized h F new (Ok last) w = (
      record { sized = sized; word = subst (λ z. IsLast z last) a w.0 },
      λ e ends. walked_from2 F new (answer_of e) h
          (walked_for u left table a k l t F new (answer_of e) (w.1 e (subst (λ z. EndsIn (step2 z last.left last.place last.word) e) (sym a) ends))),
    )
    came_from2 u left table a k l t sized h F new (Err x) w = walked_from2 F new (Err x) h (walked_for u left table a k l t F new (Err x) w)
