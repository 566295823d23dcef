-- Both stages for two accesses of one piece, side by side.
use Rattle.std.proofs.Common.{◌≡◌, ℕ, ◌/◌, ◌^◌, ◌≤◌, List, [], ◌++◌, sym, ap, ◌∙◌, arith, Bool, true, false, cond, inl, inr}
use Rattle.geometry.specs.Runs.{goes_to}
use Rattle.sysregs.specs.Sides.{side_of}
use Rattle.trails.specs.declared.item.Item.{Item}
use Rattle.trails.specs.declared.outcome.Access.{Access}
use Rattle.walk_spec.specs.declared.leaf.Leaf1.{Leaf1}
use Rattle.walk_spec.specs.declared.leaf.Leaf2.{Leaf2}
use Rattle.walk_spec.specs.Ask.{Ask, done, ask, after}
use Rattle.walk_spec.specs.Needs.{Regime, Need, fits}
use Rattle.walk_spec.specs.Steps.{End, stops, reaches}
use Rattle.walk_spec.specs.Stage2.{walk2}
use Rattle.walk_spec.specs.Stage1.{untagged, asked2}
use Rattle.walk_spec.specs.BothStages.{Landing, landed, smaller, piece, judged2, stage2_behind, is_refused1, stage1_on, stage1_off, walk_by}
use Rattle.walk_laws.specs.Moved.{moved, moved1, moved2}
use Rattle.walk_laws.proofs.Numbers.{coarser, goes_to_piece, goes_to_piece_same, smaller_left}
use Rattle.walk_laws.proofs.Stepping.{Takes, InStep, done_takes, takes_after, step_on, step_after}
use Rattle.walk_laws.proofs.Places.{SameRegion}
use Rattle.walk_laws.proofs.Sound.{IsOfFields}
use Rattle.walk_laws.proofs.Stage2.{reached2}
use Rattle.walk_laws.proofs.Stage1.{under, Same1, reached1}

module _ (r : Regime) (f : IsOfFields r) (a b : Access) where
  module _ (l : Leaf1) (here : l.out ≡ goes_to l.out l.class (untagged a.va)) (n : Landing) where
    -- the output of stage 1 for the other access
    abbrev other : ℕ
    other = goes_to l.out l.class (untagged b.va)

    -- stage 2 of an output, on or off
    abbrev Output : Bool → Access → Leaf1 → Ask Need Item (End Landing)
    Output vm z k = cond vm (after (walk2 (asked2 r false k.out)) (λ e. done (judged2 false z k e))) (done (reaches (landed k)))

    -- the piece is no larger than the first leaf, and stage 2 of both outputs goes in step
    abbrev Goes : Bool → List Item → Type 0
    Goes vm items = (n.class ≤ l.class)
        × (Same1 r false a b n.class → InStep (fits r) (SameRegion r) (Output vm a l) (Output vm b (moved1 l (untagged b.va))) items (done (reaches n))
        (done (reaches (moved n (untagged b.va)))))

    piece_again : (m : Leaf2) → m.pa ≡ goes_to m.pa m.class l.out → piece (moved1 l (untagged b.va)) (moved2 m other) ≡ moved (piece l m)
        (untagged b.va)
    piece_again m e = let g : ℕ → Landing = λ z. record (piece l m) { pa = z } in ap g (goes_to_piece l.out m.pa l.class m.class (untagged b.va) e)

    output_deep : (front rest : List Item) (e : End Leaf2) → Takes (fits r) (walk2 (asked2 r false l.out)) front (done e) →
        Takes (fits r) (done (judged2 false a l e)) rest (done (reaches n)) → Goes true (front ++ rest)
    output_deep front rest (stops d) w h =
        (let q : done (reaches n) ≡ done (stops d) = (done_takes (fits r) (stops d) rest (done (reaches n)) h).1 in absurd cc)
    output_deep front rest (reaches m) w h =
        let t = done_takes (fits r) (reaches (piece l m)) rest (done (reaches n)) h in
        let q : done (reaches n) ≡ done (reaches (piece l m)) = t.1 in
        let e : n ≡ piece l m = cc in
        let d = reached2 r false l.out other f front m w in
        let k : n.class ≡ smaller l.class m.class = ap (λ z. z.class) e in
        let u = smaller_left l.class m.class in (
          omega (arith, k, u),
          λ s. (
              let o : l.out / 2 ^ m.class ≡ other / 2 ^ m.class = goes_to_piece_same l.out l.class m.class (untagged a.va) (untagged b.va) here (rw k at s) in
              let v = step_after (fits r) (SameRegion r) (walk2 (asked2 r false l.out)) (walk2 (asked2 r false other)) (λ e. done (judged2 false a l e)) (λ e.
              done (judged2 false b (moved1 l (untagged b.va)) e)) front _ _ (d.shift o) in
              rw t.0 (step_on (fits r) (SameRegion r) _ _ front [] _ _ _ _ v (
                ap (λ z. done (reaches z)) e,
                ap (λ z. done (reaches (moved z (untagged b.va)))) e
                    ∙ sym (ap (λ z. done (reaches z)) (piece_again m d.here)),
              ))),
        )

    output : (vm : Bool) (items : List Item) → Takes (fits r) (Output vm a l) items (done (reaches n)) → Goes vm items
    output false items h =
        let t = done_takes (fits r) (reaches (landed l)) items (done (reaches n)) h in
        let q : done (reaches n) ≡ done (reaches (landed l)) = t.1 in
        let e : n ≡ landed l = cc in
        let k : n.class ≡ l.class = ap (λ z. z.class) e in
        (omega (arith, k), λ s. rw t.0 (ap (λ z. done (reaches z)) e, ap (λ z. done (reaches (moved z (untagged b.va)))) e))
    output true items h =
        elim (takes_after (fits r) (walk2 (asked2 r false l.out)) (λ e. done (judged2 false a l e)) items (done (reaches n)) h) as (λ _. Goes true items) [
          | inl w ↦ (let z : done (reaches n) ≡ ask w.0 (λ i. after (w.1 i) (λ e. done (judged2 false a l e))) = w.3 in absurd cc)
          | inr w ↦ rw w.3 (output_deep w.1 w.2 w.0 w.4 w.5)
        ]

  -- a whole walk with stage 1 on or off
  abbrev Whole : Bool → Access → Ask Need Item (End Landing)
  Whole m z = after (cond m (stage1_on (under r false z)) (stage1_off (under r false z))) (stage2_behind (under r false z))

  -- what is known of a landing
  abbrev Lands : Bool → List Item → Landing → Type 0
  Lands m items n = (n.class ≤ 52)
      × (Same1 r false a b n.class → is_refused1 r.config b ≡ false →
      InStep (fits r) (SameRegion r) (Whole m a) (Whole m b) items (done (reaches n)) (done (reaches (moved n (untagged b.va)))))

  lands_behind : r.side ≡ side_of a.va → (front rest : List Item) (e : End Leaf1) (n : Landing)
      → Takes (fits r) (stage1_on (under r false a)) front (done e) →
      Takes (fits r) (stage2_behind (under r false a) e) rest (done (reaches n)) → Lands true (front ++ rest) n
  lands_behind side front rest (stops d) n w h =
      (let q : done (reaches n) ≡ done (stops d) = (done_takes (fits r) (stops d) rest (done (reaches n)) h).1 in absurd cc)
  lands_behind side front rest (reaches l) n w h =
      let d = reached1 r a b f side front l w in
      let o = output l d.here n r.config.vm rest h in
      let m = d.most in
      let u = o.0 in (
        omega (arith, m, u),
        λ s ok. (
            let v = step_after (fits r) (SameRegion r) (stage1_on (under r false a)) (stage1_on (under r false b)) (stage2_behind (under r false a))
            (stage2_behind (under r false b)) front _ _ (d.shift (coarser (untagged a.va) (untagged b.va) n.class l.class u s) ok) in
            step_on (fits r) (SameRegion r) _ _ front rest _ _ _ _ v (o.1 s)),
      )

  lands_on : r.side ≡ side_of a.va → (items : List Item) (n : Landing) → Takes (fits r) (Whole true a) items (done (reaches n)) → Lands true items n
  lands_on side items n h =
      elim (takes_after (fits r) (stage1_on (under r false a)) (stage2_behind (under r false a)) items (done (reaches n)) h) as (λ _. Lands true items n) [
        | inl w ↦ (let z : done (reaches n) ≡ ask w.0 (λ i. after (w.1 i) (stage2_behind (under r false a))) = w.3 in absurd cc)
        | inr w ↦ rw w.3 (lands_behind side w.1 w.2 w.0 n w.4 w.5)
      ]

  lands_by : (m : Bool) → m ≡ true → r.side ≡ side_of a.va → (items : List Item) (n : Landing)
      → Takes (fits r) (Whole m a) items (done (reaches n)) →
      Lands m items n
  lands_by true e side items n h = lands_on side items n h
  lands_by false e side items n h = absurd cc

  -- What is known of a walk that landed: the class of its piece is small, and the walk of each access of the piece that is
  -- not refused goes in step with it, to its own offset in the same bytes.
  pub record Landed (items : List Item) (n : Landing) : Type 0 where
    pub most : n.class ≤ 52
    pub shift : Same1 r false a b n.class → is_refused1 r.config b ≡ false →
        InStep (fits r) (SameRegion r) (walk_by (under r false a)) (walk_by (under r false b)) items (done (reaches n))
        (done (reaches (moved n (untagged b.va))))

  pub walk_in_step : r.config.m ≡ true → r.side ≡ side_of a.va → (items : List Item) (n : Landing) →
      Takes (fits r) (walk_by (under r false a)) items (done (reaches n)) → Landed items n
  walk_in_step m side items n h = let d = lands_by r.config.m m side items n h in record { most = d.0; shift = d.1 }
