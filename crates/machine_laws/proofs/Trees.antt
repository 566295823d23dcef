-- Walks as trees of questions on which a list stands, and as plans: questions of stage 1, and whole chains of stage 2.
use Rattle.std.proofs.Common.{◌≡◌, ℕ, Bool, true, false, List, [], ◌∷◌}
use Rattle.std.specs.Prelude.{Result, Ok, Err}
use Rattle.fault_codes.specs.declared.fault.Fault.{Fault}
use Rattle.trails.specs.declared.item.Item.{Item}
use Rattle.walk_spec.specs.declared.leaf.Leaf2.{Leaf2}
use Rattle.tlbi_ops.specs.Covers.{is_stage1}
use Rattle.walk_spec.specs.Ask.{Ask, done, ask, after}
use Rattle.walk_spec.specs.Needs.{Regime, Need, stage1_base, stage2_base, word, fits}
use Rattle.walk_spec.specs.Steps.{End, stops, reaches}
use Rattle.walk_spec.specs.Stage2.{is_refused2, walk2_behind}
use Rattle.walk_spec.specs.Stage1.{asked2}
use Rattle.walk_spec.specs.BothStages.{Landing}
use Rattle.machine_spec.specs.Marks.{Mark, is_first}
use Rattle.machine_spec.specs.Allowed.{is_of_word}
use Rattle.machine_laws.specs.Standing.{IsOn}

-- a need of stage 1
abbrev pub is_need1 : Need → Bool
is_need1 stage1_base = true
is_need1 (stage2_base x) = false
is_need1 (word w) = is_stage1 w.stage

-- a base is needed
abbrev pub needs_base : Need → Bool
needs_base stage1_base = true
needs_base (stage2_base x) = true
needs_base (word w) = false

-- stage 2 for an IPA that it doesn't refuse
abbrev pub chain : Regime → Bool → ℕ → Ask Need Item (End Leaf2)
chain r p x = ask (stage2_base x) (λ i. walk2_behind (asked2 r p x) i.value)

-- a walk: an end, a question of stage 1, or a whole chain of stage 2 (with its mark s1ptw and its IPA), behind which comes a
-- question of stage 1 or the end
pub data Plan : Type 0 where
  fin : End Landing → Plan
  own : Need → (Item → Plan) → Plan
  via : Bool → ℕ → (End Leaf2 → Result Need (End Landing)) → (Item → Plan) → Plan

abbrev pub joined : Result Need (End Landing) → (Item → Ask Need Item (End Landing)) → Ask Need Item (End Landing)
joined (Err e) k = done e
joined (Ok n) k = ask n k

-- the tree of a plan
abbrev pub flat : Regime → Plan → Ask Need Item (End Landing)
flat r (fin e) = done e
flat r (own n k) = ask n (λ i. flat r (k i))
flat r (via p x next k) = after (chain r p x) (λ e. joined (next e) (λ i. flat r (k i)))

-- what a plan goes on by behind a chain
abbrev pub rest_by : Result Need (End Landing) → (Item → Plan) → Plan
rest_by (Err e) k = fin e
rest_by (Ok n) k = own n k

-- what the walks' plans are like
abbrev pub IsSound : Regime → Plan → Type 0
IsSound r (fin e) = Unit {0}
IsSound r (own n k) =
    (is_need1 n ≡ true) × (needs_base n ≡ true → (i : Item) (l : Landing) → k i ≡ fin (reaches l) → ⊥) × ((i : Item) → IsSound r (k i))
IsSound r (via p x next k) =
    (is_refused2 r.config x ≡ false)
    × ((l : Leaf2) (f : Fault) → next (reaches l) ≡ Err (stops f) → is_of_word f.class ≡ false)
    × ((e : End Leaf2) (n : Need) → next e ≡ Ok n → (is_need1 n ≡ true) × (needs_base n ≡ false))
    × ((i : Item) → IsSound r (k i))
    × ((f : Fault) (l : Landing) → next (stops f) ≡ Err (reaches l) → ⊥)

-- all questions are of stage 2
abbrev pub IsSecond : {A : Type 0} → Ask Need Item A → Type 0
IsSecond (done a) = Unit {0}
IsSecond (ask n k) = (is_need1 n ≡ false) × ((i : Item) → IsSecond (k i))

-- all questions are words of stage 2
abbrev pub IsWords : {A : Type 0} → Ask Need Item A → Type 0
IsWords (done a) = Unit {0}
IsWords (ask n k) = (is_need1 n ≡ false) × (needs_base n ≡ false) × ((i : Item) → IsWords (k i))

-- all marks are of stage 2
abbrev pub AllSecond : List Mark → Type 0
AllSecond [] = Unit {0}
AllSecond (m ∷ ms) = (is_first m ≡ false) × AllSecond ms

-- a mark of a word
abbrev pub IsWord : Mark → Type 0
IsWord m = m.base ≡ false
