-- Stage 2 for one IPA with another mark s1ptw and another side: it meets the same items and the same marks.
use Rattle.std.proofs.Common.{◌≡◌, ℕ, zero, suc, Bool, true, false, cond, List, [], ◌∷◌, refl, sym, ap, ◌∙◌, subst}
use Rattle.geometry.specs.Tables.{most_left}
use Rattle.sysregs.specs.declared.regs.Config.{Config}
use Rattle.sysregs.specs.declared.regs.Side.{Side}
use Rattle.fault_codes.specs.declared.fault.Stage.TheVariants.{S2}
use Rattle.fault_codes.specs.declared.fault.Class.TheVariants.{Translation, AddressSize}
use Rattle.trails.specs.declared.item.Item.{Item}
use Rattle.table_reads.specs.Places.{place_of, is_too_large}
use Rattle.walk_spec.specs.declared.leaf.Leaf2.{Leaf2}
use Rattle.walk_spec.specs.Ask.{Ask, done, ask}
use Rattle.walk_spec.specs.Needs.{Regime, regime_of, Need, stage2_base, fits}
use Rattle.walk_spec.specs.Steps.{End, stops, reaches, step_then}
use Rattle.walk_spec.specs.Stage2.{fault2, step2, walk2_from}
use Rattle.walk_spec.specs.Stage1.{asked2}
use Rattle.walk_laws.proofs.Places.{word_at}
use Rattle.walk_laws.proofs.Stage2.{Turn2, table, leaf, fault, turn2}
use Rattle.machine_spec.specs.Marks.{mark, marks}
use Rattle.machine_laws.specs.Standing.{IsOn}
use Rattle.machine_laws.proofs.Trees.{chain}
use Rattle.machine_laws.proofs.Stands.{marks_nil}

-- two chains under two regimes ask alike and reach one leaf
abbrev pub Twin : (r r' : Regime) → Ask Need Item (End Leaf2) → Ask Need Item (End Leaf2) → Type 0
Twin r r' (done (reaches l)) (done (reaches m)) = m ≡ l
Twin r r' (done (reaches l)) (done (stops g)) = ⊥
Twin r r' (done (reaches l)) (ask n k) = ⊥
Twin r r' (done (stops f)) (done (reaches m)) = ⊥
Twin r r' (done (stops f)) (done (stops g)) = Unit {0}
Twin r r' (done (stops f)) (ask n k) = ⊥
Twin r r' (ask n k) (done e) = ⊥
Twin r r' (ask m k) (ask n l) = ((i : Item) → fits r' n i ≡ fits r m i) × ((i : Item) → mark r' n i ≡ mark r m i)
    × ((i : Item) → Twin r r' (k i) (l i))

-- how the twin stands on the items
pub record TwinOn (r r' : Regime) (t t' : Ask Need Item (End Leaf2)) (u : Ask Need Item (End Leaf2)) (xs : List Item) : Type 0 where
  pub left : Ask Need Item (End Leaf2)
  pub on : IsOn r' t' xs left
  pub twin : Twin r r' u left
  pub same : marks r' t' xs ≡ marks r t xs

pub twin_on : (r r' : Regime) (t t' u : Ask Need Item (End Leaf2)) (xs : List Item) → Twin r r' t t' → IsOn r t xs u → TwinOn r r' t t' u xs
twin_on r r' t t' u [] w h = record { left = t'; on = refl; twin = subst (λ z. Twin r r' z t') (sym h) w; same = marks_nil r' t' ∙ sym (marks_nil r t) }
twin_on r r' (done e) t' u (x ∷ xs) w h = absurd h
twin_on r r' (ask m k) (done e) u (x ∷ xs) w h = absurd w
twin_on r r' (ask m k) (ask n l) u (x ∷ xs) w h =
    let d = twin_on r r' (k x) (l x) u xs (w.2 x) h.1 in
    record {
      left = d.left;
      on = (w.0 x ∙ h.0, d.on);
      twin = d.twin;
      same = ap (λ v. v ∷ marks r' (l x) xs) (w.1 x)
          ∙ ap (λ ms. mark r m x ∷ ms) d.same;
    }

module _ (c : Config) (s t : Side) (p q : Bool) (x : ℕ) where
  abbrev R : Regime
  R = regime_of c s

  abbrev R' : Regime
  R' = regime_of c t

  same_base_fits : (i : Item) → fits R' (stage2_base x) i ≡ fits R (stage2_base x) i
  unfolding fits
  same_base_fits i = refl

  same_base_mark : (i : Item) → mark R' (stage2_base x) i ≡ mark R (stage2_base x) i
  unfolding mark
  same_base_mark i = refl

  same_fits : (left place z : ℕ) (i : Item) → fits R' (word_at S2 left place q x z) i ≡ fits R (word_at S2 left place p x z) i
  unfolding fits
  same_fits left place z i = refl

  same_mark2 : (left place z : ℕ) (i : Item) → mark R' (word_at S2 left place q x z) i ≡ mark R (word_at S2 left place p x z) i
  unfolding mark
  same_mark2 left place z i = refl

  abbrev One : Bool → Regime → (ℕ → Ask Need Item (End Leaf2)) → ℕ → Item → Ask Need Item (End Leaf2)
  One b r below left i = step_then below (step2 (asked2 r b x) left i.pa i.value)

  twin_step : (below below' : ℕ → Ask Need Item (End Leaf2)) → ((n : ℕ) → Twin R R' (below n) (below' n)) → (left : ℕ) (i : Item)
      → Turn2 R left i
      → Twin R R' (One p R below left i) (One q R' below' left i)
  twin_step below below' w left i (table next a d) = rw (d p x, d q x) (w next)
  twin_step below below' w left i (leaf f m d) = rw (d p x, d q x) refl
  twin_step below below' w left i (fault k d) = rw (d p x, d q x) tt

  twin_from : (left n : ℕ) → Twin R R' (walk2_from (asked2 R p x) left n) (walk2_from (asked2 R' q x) left n)
  twin_from zero n = (
    same_fits 0 (place_of R.stage2 0 n x) n,
    same_mark2 0 (place_of R.stage2 0 n x) n,
    λ i. twin_step (λ _. done (stops (fault2 (asked2 R p x) Translation 0))) (λ _. done (stops (fault2 (asked2 R' q x) Translation 0))) (λ z. tt) 0 i
        (turn2 R 0 i),
  )
  twin_from (suc left) n = (
    same_fits (suc left) (place_of R.stage2 (suc left) n x) n,
    same_mark2 (suc left) (place_of R.stage2 (suc left) n x) n,
    λ i. twin_step (walk2_from (asked2 R p x) left) (walk2_from (asked2 R' q x) left) (twin_from left) (suc left) i (turn2 R (suc left) i),
  )

  twin_behind : (b : Bool) (base : ℕ)
      → Twin R R' (cond b (done (stops (fault2 (asked2 R p x) AddressSize most_left))) (walk2_from (asked2 R p x) R.stage2.start base))
      (cond b (done (stops (fault2 (asked2 R' q x) AddressSize most_left))) (walk2_from (asked2 R' q x) R'.stage2.start base))
  twin_behind true base = tt
  twin_behind false base = twin_from R.stage2.start base

  -- chains of one IPA are twins, whatever the side and the mark
  pub twin_chain : Twin R R' (chain R p x) (chain R' q x)
  twin_chain = (same_base_fits, same_base_mark, λ i. twin_behind (is_too_large R.stage2 i.value) i.value)
