-- The leaf of a kept chain keeps the address's place among eight bytes, and has a level from 0 to 3.
use Rattle.std.proofs.Common.{◌≡◌, ℕ, zero, suc, ◌≤◌, ◌%◌, Bool, true, false, cond, List, [], ◌∷◌, sym, ap, ◌∙◌, subst, arith}
use Rattle.geometry.specs.Tables.{most_left}
use Rattle.geometry.proofs.Leaves.{goes_to_eights}
use Rattle.sysregs.specs.declared.regs.Config.{Config}
use Rattle.sysregs.specs.declared.regs.Side.{Side}
use Rattle.fault_codes.specs.declared.fault.Fault.{Fault}
use Rattle.fault_codes.specs.declared.fault.Class.TheVariants.{Translation, AddressSize, Permission}
use Rattle.fault_codes.specs.Status.{HasLevel}
use Rattle.trails.specs.declared.item.Item.{Item}
use Rattle.table_reads.specs.Places.{is_too_large}
use Rattle.walk_spec.specs.declared.leaf.Leaf2.{Leaf2}
use Rattle.walk_spec.specs.Ask.{Ask, done, ends}
use Rattle.walk_spec.specs.Needs.{Regime, regime_of, Need, fits}
use Rattle.walk_spec.specs.Steps.{End, stops, reaches, step_then}
use Rattle.walk_spec.specs.Stage2.{Asked2, fault2, leaf2_of, step2, walk2, walk2_from}
use Rattle.walk_spec.specs.Stage1.{asked2, stands2}
use Rattle.walk_laws.proofs.Stage2.{Turn2, table, leaf, fault, turn2, reached2}
use Rattle.walk_laws.proofs.Stepping.{takes_ends}
use Rattle.walk_laws.proofs.Sound.{sound2}
use Rattle.walk_laws.proofs.Shifts.{of_fields}
use Rattle.stage2_walk.specs.SoundSteps.{IsSoundLeaf}
use Rattle.stage2_walk.proofs.Levels.{has_level}
use Rattle.machine_spec.specs.Served.{halts, clash}
use Rattle.machine_laws.specs.Standing.{IsOn}
use Rattle.machine_laws.proofs.Trees.{chain}
use Rattle.served_walk.proofs.Chains.{chain_leaf}

module _ (c : Config) (s : Side) (x : ℕ) where
  abbrev r : Regime
  r = regime_of c s

  abbrev q2 : Asked2
  q2 = asked2 r false x

  abbrev From : ℕ → ℕ → Ask Need Item (End Leaf2)
  From left t = walk2_from q2 left t

  done_is : (m l : Leaf2) (rest : List Item) → IsOn r (done (reaches m)) rest (done (reaches l)) → l ≡ m
  done_is m l [] h = cc
  done_is m l (i ∷ rest) h = absurd h

  done_not : (f : Fault) (l : Leaf2) (rest : List Item) → IsOn r (done (stops f)) rest (done (reaches l)) → ⊥
  done_not f l [] h = absurd cc
  done_not f l (i ∷ rest) h = h

  at_turn : (left : ℕ) (i : Item) (rest : List Item) (l : Leaf2) (below : ℕ → Ask Need Item (End Leaf2)) → left ≤ most_left
      → ((next : ℕ) → IsOn r (below next) rest (done (reaches l)) → HasLevel Permission l.level) → Turn2 r left i
      → IsOn r (step_then below (step2 q2 left i.pa i.value)) rest (done (reaches l)) → HasLevel Permission l.level
  at_turn left i rest l below most rec (table next a d) h = rec next (rw (d false x) at h)
  at_turn left i rest l below most rec (leaf f n d) h =
      let e : l ≡ leaf2_of q2 left i.pa f = done_is (leaf2_of q2 left i.pa f) l rest (rw (d false x) at h) in
      subst (λ z. HasLevel Permission z.level) (sym e) (has_level left most)
  at_turn left i rest l below most rec (fault n d) h = absurd (done_not (fault2 q2 n left) l rest (rw (d false x) at h))

  from_level : (left t : ℕ) (items : List Item) (l : Leaf2) → left ≤ most_left → IsOn r (From left t) items (done (reaches l))
      → HasLevel Permission l.level
  from_level zero t [] l most h = absurd cc
  from_level (suc left) t [] l most h = absurd cc
  from_level zero t (i ∷ rest) l most h =
      at_turn 0 i rest l (λ _. done (stops (fault2 q2 Translation 0))) most (λ next o. absurd (done_not (fault2 q2 Translation 0) l rest o)) (turn2 r 0 i) h.1
  from_level (suc left) t (i ∷ rest) l most h =
      at_turn (suc left) i rest l (From left) most (λ next o. from_level left next rest l (omega (arith, most)) o) (turn2 r (suc left) i) h.1

  behind_level : (big : Bool) (base : ℕ) (items : List Item) (l : Leaf2) → r.stage2.start ≤ most_left
      → IsOn r (cond big (done (stops (fault2 q2 AddressSize most_left))) (From r.stage2.start base)) items (done (reaches l)) → HasLevel Permission l.level
  behind_level true base items l most h = absurd (done_not (fault2 q2 AddressSize most_left) l items h)
  behind_level false base items l most h = from_level r.stage2.start base items l most h

  chain_level : (items : List Item) (l : Leaf2) → r.stage2.start ≤ most_left → IsOn r (chain r false x) items (done (reaches l))
      → HasLevel Permission l.level
  chain_level [] l most h = absurd cc
  chain_level (i ∷ rest) l most h = behind_level (is_too_large r.stage2 i.value) i.value rest l most h.1

  pub leaf_sound : (items : List Item) (l : Leaf2) → stands2 c s false x items ≡ ends (reaches l) [] → IsSoundLeaf x l
  leaf_sound items l h =
      let t = takes_ends (fits r) (walk2 q2) items _ h in
      let d = reached2 r false x x (of_fields c s) items l t in
      let e = chain_leaf c s false x (λ n. halts (clash [] [])) items l h in (
        ap (λ n. n % 8) d.here ∙ goes_to_eights l.pa l.class x (omega (arith, d.least)),
        chain_level items l (sound2 r x (of_fields c s) e.0).0.start e.1,
      )
