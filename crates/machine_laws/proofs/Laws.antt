-- What the walk promises to the machine.
use Rattle.std.proofs.Common.{◌≡◌, ℕ, ◌/◌, ◌^◌, Bool, true, false, List, [], ◌∷◌, ◌++◌, ◌⊎◌, Some}
use Rattle.sysregs.specs.declared.regs.Config.{Config}
use Rattle.sysregs.specs.declared.regs.Side.{Side}
use Rattle.fault_codes.specs.declared.fault.Fault.{Fault}
use Rattle.trails.specs.declared.item.Item.{Item}
use Rattle.trails.specs.declared.outcome.Access.{Access}
use Rattle.tlbi_ops.specs.Covers.{is_stage1}
use Rattle.walk_spec.specs.declared.leaf.Leaf2.{Leaf2}
use Rattle.walk_spec.specs.Ask.{Ask, done, ask}
use Rattle.walk_spec.specs.Needs.{Regime, regime_of, Need}
use Rattle.walk_spec.specs.Steps.{End, stops, reaches}
use Rattle.walk_spec.specs.Stage2.{is_refused2}
use Rattle.walk_spec.specs.Stage1.{untagged}
use Rattle.walk_spec.specs.BothStages.{Landing, walk, is_refused1}
use Rattle.machine_spec.specs.Marks.{table, leaf_of_stage2, Mark, marks, is_first, is_global}
use Rattle.machine_spec.specs.Uses.{LastIs}
use Rattle.machine_spec.specs.Allowed.{is_of_word, last_entry, last_entry1}
use Rattle.tagged_tlb.specs.Rows.{holds}
use Rattle.machine_spec.specs.Made.{last_first}
use Rattle.machine_laws.specs.Standing.{IsOn}
use Rattle.machine_laws.proofs.Trees.{chain, Plan, fin, flat, IsSound, IsWords, IsWord, AllSecond}
use Rattle.machine_laws.proofs.Facts.{regime_for}

-- a trail of stage 2 that reaches a leaf for another IPA, and meets the same
pub record ChainLeaf (r : Regime) (p : Bool) (trail : List Item) (ms : List Mark) (class y : ℕ) : Type 0 where
  pub leaf_at : Leaf2
  pub on : IsOn r (chain r p y) trail (done (reaches leaf_at))
  pub class_is : leaf_at.class ≡ class
  pub same : marks r (chain r p y) trail ≡ ms

-- one that ends in a table
pub record ChainTable (r : Regime) (p : Bool) (trail : List Item) (ms : List Mark) (y : ℕ) : Type 0 where
  pub need : Need
  pub go : Item → Ask Need Item (End Leaf2)
  pub words : IsWords (ask need go)
  pub on : IsOn r (chain r p y) trail (ask need go)
  pub same : marks r (chain r p y) trail ≡ ms

-- a trail up to a table of stage 1, for another access
pub record FirstTable (c : Config) (trail : List Item) (ms : List Mark) (b : Access) : Type 0 where
  pub plan : Plan
  pub on : IsOn (regime_for c b) (walk c true b) trail (flat (regime_for c b) plan)
  pub sound : IsSound (regime_for c b) plan
  pub late : (f : Fault) → plan ≡ fin (stops f) → is_stage1 f.stage ≡ false
  pub same : marks (regime_for c b) (walk c true b) trail ≡ ms

-- a trail that leads to a translation, for another access
pub record FirstLeaf (c : Config) (trail : List Item) (ms : List Mark) (class : ℕ) (b : Access) : Type 0 where
  pub landing : Landing
  pub on : IsOn (regime_for c b) (walk c false b) trail (done (reaches landing))
  pub class_is : landing.class ≡ class
  pub same : marks (regime_for c b) (walk c false b) trail ≡ ms

-- the marks are the same, or cut behind an item of stage 1 that is followed by stage 2 alone
abbrev pub IsCut : List Mark → List Mark → Type 0
IsCut ms cut = (ms ≡ cut)
    ⊎ ((pre : List Mark) × (m : Mark) × (out : List Mark) × (is_first m ≡ true) × (m.base ≡ false) × AllSecond out × (ms ≡ pre ++ m ∷ out)
    × (cut ≡ pre ++ m ∷ []))

-- what judging makes of a trail that leads to a translation
pub record Judged (c : Config) (trail : List Item) (a : Access) : Type 0 where
  pub front : List Item
  pub rest : List Item
  pub is : trail ≡ front ++ rest
  pub end : End Landing
  pub on : IsOn (regime_for c a) (walk c true a) front (done end)
  pub fine : (f : Fault) → end ≡ stops f → is_of_word f.class ≡ false
  pub cut : IsCut (marks (regime_for c a) (walk c false a) trail) (marks (regime_for c a) (walk c true a) front)

pub record Laws : Type 0 where
  -- a walk is a sound plan
  pub plan : Config → Bool → Access → Plan
  pub plan_is : (c : Config) (j : Bool) (a : Access) → flat (regime_for c a) (plan c j a) ≡ walk c j a
  pub sound : (c : Config) (j : Bool) (a : Access) → IsSound (regime_for c a) (plan c j a)
  -- a chain has words of stage 2 behind its base
  pub behind_words : (r : Regime) (p : Bool) (x base : ℕ)
      → IsWords (Rattle.walk_spec.specs.Stage2.walk2_behind (Rattle.walk_spec.specs.Stage1.asked2 r p x) base)
  -- and reaches a leaf by a word
  pub chain_word : (r : Regime) (p : Bool) (x : ℕ) (i : Item) (is : List Item) (l : Leaf2) → IsOn r (chain r p x) (i ∷ is) (done (reaches l))
      → LastIs IsWord (marks r (chain r p x) (i ∷ is))
  -- without stage 1 all is of stage 2
  pub no_stage1 : (c : Config) (a : Access) (items : List Item) → (c.m ≡ true → is_refused1 c a ≡ true)
      → AllSecond (marks (regime_for c a) (walk c true a) items)
  -- what a row promises of the other addresses of its region
  pub chain_leaf : (c : Config) (s t : Side) (p q : Bool) (x y : ℕ) (trail : List Item) (u : Ask Need Item (End Leaf2)) (pre : List Mark) (m : Mark) →
      is_refused2 c x ≡ false → IsOn (regime_of c s) (chain (regime_of c s) p x) trail u
      → marks (regime_of c s) (chain (regime_of c s) p x) trail ≡ pre ++ m ∷ [] →
      m.part ≡ leaf_of_stage2 true → holds m.region y ≡ true → ChainLeaf (regime_of c t) q trail (pre ++ m ∷ []) m.region.class y
  pub chain_table : (c : Config) (s t : Side) (p q : Bool) (x y : ℕ) (trail : List Item) (u : Ask Need Item (End Leaf2)) (pre : List Mark) (m : Mark) →
      is_refused2 c x ≡ false → IsOn (regime_of c s) (chain (regime_of c s) p x) trail u
      → marks (regime_of c s) (chain (regime_of c s) p x) trail ≡ pre ++ m ∷ [] →
      m.part ≡ table true → holds m.region y ≡ true → ChainTable (regime_of c t) q trail (pre ++ m ∷ []) y
  pub first_table : (c : Config) (a b : Access) (trail : List Item) (u : Ask Need Item (End Landing)) (pre : List Mark) (m : Mark) →
      c.m ≡ true → is_refused1 c b ≡ false → IsOn (regime_for c a) (walk c true a) trail u
      → marks (regime_for c a) (walk c true a) trail ≡ pre ++ m ∷ [] →
      is_first m ≡ true → m.part ≡ table true → holds m.region (untagged b.va) ≡ true → FirstTable c trail (pre ++ m ∷ []) b
  pub first_leaf : (c : Config) (a b : Access) (trail : List Item) (l : Landing) →
      c.m ≡ true → is_refused1 c b ≡ false → IsOn (regime_for c a) (walk c true a) trail (done (reaches l)) →
      untagged b.va / 2 ^ l.class ≡ untagged a.va / 2 ^ l.class → FirstLeaf c trail (marks (regime_for c a) (walk c true a) trail) l.class b
  -- a trail that leads to a translation ends in a word
  pub mapped_last : (c : Config) (j : Bool) (a : Access) (trail : List Item) (l : Landing) → IsOn (regime_for c a) (walk c j a) trail (done (reaches l)) →
      LastIs IsWord (marks (regime_for c a) (walk c j a) trail)
  pub judged : (c : Config) (a : Access) (trail : List Item) (l : Landing) → c.m ≡ true → is_refused1 c a ≡ false →
      IsOn (regime_for c a) (walk c false a) trail (done (reaches l)) → Judged c trail a
  -- the last items of two trails tell their classes and global flags
  pub keys : (c : Config) (a : Access) (xs ys : List Item) (l m : Landing) (n o : Mark) →
      c.m ≡ true → is_refused1 c a ≡ false →
      IsOn (regime_for c a) (walk c false a) xs (done (reaches l)) → IsOn (regime_for c a) (walk c false a) ys (done (reaches m)) →
      last_first (marks (regime_for c a) (walk c false a) xs) ≡ Some n → last_first (marks (regime_for c a) (walk c false a) ys) ≡ Some o →
      last_entry1 xs ≡ last_entry1 ys → last_entry xs ≡ last_entry ys → (l.class ≡ m.class) × (is_global n.part ≡ is_global o.part)
  -- such a trail has an item of stage 1
  pub has_first : (c : Config) (a : Access) (xs : List Item) (l : Landing) → c.m ≡ true → is_refused1 c a ≡ false →
      IsOn (regime_for c a) (walk c false a) xs (done (reaches l)) → (m : Mark) × (last_first (marks (regime_for c a) (walk c false a) xs) ≡ Some m)
  pub keys2 : (r : Regime) (p : Bool) (x : ℕ) (xs ys : List Item) (l m : Leaf2) →
      IsOn r (chain r p x) xs (done (reaches l)) → IsOn r (chain r p x) ys (done (reaches m)) → last_entry xs ≡ last_entry ys → l.class ≡ m.class
