-- What a kept trail gives, by how the walk stands on it.
use Rattle.std.proofs.Common.{◌≡◌, ℕ, zero, suc, inl, inr, ◌<◌, ◌≤◌, List, [], ◌++◌, length}
use Rattle.std.proofs.Common.{length-append, drop, refl, sym, ap, ◌∙◌, true, false, arith}
use Rattle.std.specs.Prelude.{◌⊎◌}
use Rattle.std.proofs.lemmas.List.{length-drop}
use Rattle.sysregs.specs.declared.regs.Config.{Config}
use Rattle.sysregs.specs.Sides.{side_of}
use Rattle.fault_codes.specs.declared.fault.Fault.{Fault}
use Rattle.trails.specs.declared.item.Item.{Item}
use Rattle.trails.specs.declared.outcome.Access.{Access}
use Rattle.trails.specs.declared.outcome.Outcome.{Outcome}
use Rattle.walk_spec.specs.declared.leaf.Leaf1.{Leaf1}
use Rattle.walk_spec.specs.declared.leaf.Leaf2.{Leaf2}
use Rattle.walk_spec.specs.Ask.{done, after, Stands, needs, bad, ends, on}
use Rattle.walk_spec.specs.Needs.{Need, Regime, fits, regime_of}
use Rattle.walk_spec.specs.Steps.{End, stops, reaches}
use Rattle.walk_spec.specs.Stage2.{walk2}
use Rattle.walk_spec.specs.Stage1.{Asked, asked2}
use Rattle.walk_spec.specs.BothStages.{Landing, asked, stage1, stage2_behind, judged2, landed, outcome_of}
use Rattle.walk_spec.proofs.Standing.{on_after, then_on, on_ends_append, on_split}
use Rattle.translate.specs.declared.replayed.Replay.TheVariants.{Ended, More, Other}
use Rattle.translate.specs.Standing.{EndsAtTop}
use Rattle.translate.specs.Replayed.{stands_stage1, stands_whole, EndsOn, IsReplayed}
use Rattle.std.specs.Prelude.{Option, Some, None}
use Rattle.geometry.specs.Tables.{left_below}
use Rattle.trails.specs.declared.outcome.Outcome.TheVariants.{Faulted}
use Rattle.walk_spec.specs.Stage1.{stage1_from}
use Rattle.stage1_walk.specs.declared.walk.From1.{From1}
use Rattle.stage1_walk.specs.Clauses.{table_from}
use Rattle.translate.specs.declared.stand.Stood1.TheVariants.{AtTable}
use Rattle.translate.specs.Replayed.{IsStoodOn}
use Rattle.translate.specs.Parts.{leaf1_or_off, out_of, finish_of}
use Rattle.translate.proofs.BothStages.{out_same}
use Rattle.translate.proofs.Choices.{on_with, off_with}
use Rattle.translate.proofs.Deeper.{needs_deep, walk2_only, deep_end}

le_cases : (m n : ℕ) → m ≤ n → (m ≡ n) ⊎ (m < n)
le_cases zero zero h = inl refl
le_cases zero (suc n) h = inr (omega arith)
le_cases (suc m) zero h = absurd (omega (arith, h))
le_cases (suc m) (suc n) h =
    elim (le_cases m n (omega (arith, h))) as (λ _. (suc m ≡ suc n) ⊎ (suc m < suc n)) [ inl e ↦ inl (ap suc e) | inr l ↦ inr (omega (arith, l)) ]

module _ (c : Config) (a : Access) where
  abbrev pub r : Regime
  r = regime_of c (side_of a.va)

  abbrev pub q : Asked
  q = asked c true a

  -- it ended with these items left over
  pub ended_at : (items : List Item) (at : ℕ) (e : End Landing) (o : Outcome) → at ≤ length items → stands_whole c a items ≡ ends e (drop at items)
      → o ≡ outcome_of e → IsReplayed c a items (Ended at o)
  ended_at items at e o l h p =
      let d = on_split (fits r) (after (stage1 q) (stage2_behind q)) items e (drop at items) h in
      let n : at ≡ length d.0 = omega (arith, l, ap length d.1, length-append d.0 (drop at items), length-drop at items) in
      (e, d.0, drop at items, d.1, n, d.2, p)

  no_end_bad : (s : Stands Need Item (End Landing)) (e : End Landing) (rest : List Item) → s ≡ bad → s ≡ ends e rest → ⊥
  no_end_bad s e rest h k = absurd cc

  no_end_needs : (s : Stands Need Item (End Landing)) (n : Need) (e : End Landing) (rest : List Item) → s ≡ needs n → s ≡ ends e rest → ⊥
  no_end_needs s n e rest h k = absurd cc

  no_needs_bad : (s : Stands Need Item (End Landing)) (n : Need) → s ≡ bad → s ≡ needs n → ⊥
  no_needs_bad s n h k = absurd cc

  whole_ends : (items : List Item) (len : ℕ) (o : Outcome) (d : EndsOn c a items len o) → stands_whole c a items ≡ ends d.0 d.2
  whole_ends items len o d = ap (λ z. stands_whole c a z) d.3 ∙ on_ends_append (fits r) (after (stage1 q) (stage2_behind q)) d.1 d.2 d.0 [] d.5

  -- an item doesn't fit
  pub other_bad : (items : List Item) → stands_whole c a items ≡ bad → IsReplayed c a items Other
  other_bad items h = (λ len o d. no_end_bad _ d.0 d.2 h (whole_ends items len o d), λ m. no_needs_bad _ m.0.0 h m.0.1)

  -- something is needed elsewhere
  pub other_needs : (items : List Item) (n : Need) → stands_whole c a items ≡ needs n → (EndsAtTop c (side_of a.va) items → ⊥)
      → IsReplayed c a items Other
  other_needs items n h t = (λ len o d. no_end_needs _ n d.0 d.2 h (whole_ends items len o d), λ m. t m.1)

  -- the whole stands by how stage 1 stands
  pub by_stage1 : (items : List Item) (s : Stands Need Item (End Leaf1)) → stands_stage1 c a items ≡ s
      → stands_whole c a items ≡ then_on s (λ d rest. on (fits r) (stage2_behind q d) rest)
  by_stage1 items s h = on_after (fits r) (stage1 q) (stage2_behind q) items ∙ ap (λ z. then_on z (λ d rest. on (fits r) (stage2_behind q d) rest)) h

  module _ (items : List Item) (l : Leaf1) (rest : List Item) (h : stands_stage1 c a items ≡ ends (reaches l) rest) where
    -- stage 2 is off
    pub landed_at : c.vm ≡ false → stands_whole c a items ≡ ends (reaches (landed l)) rest
    landed_at v =
        by_stage1 items _ h
        ∙ ap (λ t. on (fits r) t rest) (off_with c.vm v (after (walk2 (asked2 r false l.out)) (λ e. done (judged2 true a l e))) (done (reaches (landed l))))

    -- stage 2 is on
    pub by_output : c.vm ≡ true → (s : Stands Need Item (End Leaf2)) → on (fits r) (walk2 (asked2 r false l.out)) rest ≡ s
        → stands_whole c a items ≡ then_on s (λ e more. ends (judged2 true a l e) more)
    by_output v s k =
        by_stage1 items _ h
        ∙ ap (λ t. on (fits r) t rest) (on_with c.vm v (after (walk2 (asked2 r false l.out)) (λ e. done (judged2 true a l e))) (done (reaches (landed l))))
        ∙ on_after (fits r) (walk2 (asked2 r false l.out)) (λ e. done (judged2 true a l e)) rest
        ∙ ap (λ z. then_on z (λ e more. ends (judged2 true a l e) more)) k

  -- behind stage 1, items that are needed for the output leave no table of stage 1 last
  pub output_untop : (items : List Item) (at out : ℕ) (n : Need) → at ≤ length items → (at ≡ length items → EndsAtTop c (side_of a.va) items
      → ⊥)
      → on (fits r) (walk2 (asked2 r false out)) (drop at items) ≡ needs n → EndsAtTop c (side_of a.va) items → ⊥
  output_untop items at out n l untop h t =
      elim (le_cases at (length items) l) as (λ _. ⊥) [
        | inl e ↦ untop e t
        | inr less ↦
            deep_end c (side_of a.va) items at less (needs_deep r (walk2 (asked2 r false out)) (walk2_only r (asked2 r false out)) (drop at items) n h) t
      ]

module _ (c : Config) (a : Access) (items : List Item) (at : ℕ) (o1 : Option Leaf1) (few : at ≤ length items)
    (h : stands_stage1 c a items ≡ ends (reaches (leaf1_or_off c a o1)) (drop at items)) where
  -- stage 2 is off
  pub line_flat : c.vm ≡ false → (o : Outcome) → o ≡ finish_of c a o1 None → IsReplayed c a items (Ended at o)
  line_flat v o e = ended_at c a items at (reaches (landed (leaf1_or_off c a o1))) o few (landed_at c a items (leaf1_or_off c a o1) (drop at items) h v) e

  module _ (v : c.vm ≡ true) (out : ℕ) (e : out ≡ out_of a o1) where
    by_out : (s : Stands Need Item (End Leaf2)) → on (fits (r c a)) (walk2 (asked2 (r c a) false out)) (drop at items) ≡ s
        → stands_whole c a items ≡ then_on s (λ d more. ends (judged2 true a (leaf1_or_off c a o1) d) more)
    by_out s k =
        let own : (leaf1_or_off c a o1).out ≡ out = sym (e ∙ out_same c a o1) in
        by_output c a items (leaf1_or_off c a o1) (drop at items) h v s (ap (λ x. on (fits (r c a)) (walk2 (asked2 (r c a) false x)) (drop at items)) own
        ∙ k)

    pub line_found : (m : Leaf2) (len : ℕ) (o : Outcome) → len ≤ length items
        → on (fits (r c a)) (walk2 (asked2 (r c a) false out)) (drop at items) ≡ ends (reaches m) (drop len items) → o ≡ finish_of c a o1 (Some m)
        → IsReplayed c a items (Ended len o)
    line_found m len o l k p = ended_at c a items len (judged2 true a (leaf1_or_off c a o1) (reaches m)) o l (by_out _ k) p

    pub line_refused : (f : Fault) (len : ℕ) → len ≤ length items
        → on (fits (r c a)) (walk2 (asked2 (r c a) false out)) (drop at items) ≡ ends (stops f) (drop len items)
        → IsReplayed c a items (Ended len (Faulted f))
    line_refused f len l k = ended_at c a items len (stops f) (Faulted f) l (by_out _ k) refl

    pub line_needs : (n : Need) → (at ≡ length items → EndsAtTop c (side_of a.va) items → ⊥)
        → on (fits (r c a)) (walk2 (asked2 (r c a) false out)) (drop at items) ≡ needs n → IsReplayed c a items Other
    line_needs n untop k = other_needs c a items n (by_out _ k) (output_untop c a items at out n few untop k)

    pub line_bad : on (fits (r c a)) (walk2 (asked2 (r c a) false out)) (drop at items) ≡ bad → IsReplayed c a items Other
    line_bad k = other_bad c a items (by_out _ k)

module _ (c : Config) (a : Access) (items : List Item) where
  pub on_refused : (f : Fault) (at : ℕ) → at ≤ length items → stands_stage1 c a items ≡ ends (stops f) (drop at items)
      → IsReplayed c a items (Ended at (Faulted f))
  on_refused f at l h = ended_at c a items at (stops f) (Faulted f) l (by_stage1 c a items _ h) refl

  pub on_more : (from : From1) → IsStoodOn c a items (AtTable from) → IsReplayed c a items (More from)
  on_more from d = (
    ((d.0.0, by_stage1 c a items _ d.0.1), d.1),
    λ more. by_stage1 c a (items ++ more) _ (d.2 more)
        ∙ sym (on_after (fits (r c a)) (stage1_from (q c a) (left_below from.level) (table_from from)) (stage2_behind (q c a)) more),
  )

  pub on_needs : (n : Need) → stands_stage1 c a items ≡ needs n → (EndsAtTop c (side_of a.va) items → ⊥) → IsReplayed c a items Other
  on_needs n h t = other_needs c a items n (by_stage1 c a items _ h) t

  pub on_bad : stands_stage1 c a items ≡ bad → IsReplayed c a items Other
  on_bad h = other_bad c a items (by_stage1 c a items _ h)
