-- The supply walks for each entry: together stage 1 and the stage 2 of its words are the finer walk.
use Rattle.std.proofs.Common.{◌≡◌, ℕ, ◌≤◌, List, [], ◌∷◌, ◌++◌, refl, ap, ◌∙◌, arith, Ok, Err, Result, true}
use Rattle.std.specs.Prelude.{ℤ, IfErr}
use Rattle.bitwords.specs.Causes.{Rose}
use Rattle.sysregs.specs.declared.regs.Side.{Side}
use Rattle.sysregs.specs.Registers.{config_of}
use Rattle.sysregs.specs.Sides.{side_of}
use Rattle.fault_codes.specs.declared.fault.Fault.{Fault}
use Rattle.trails.specs.declared.item.Item.{Item}
use Rattle.trails.specs.declared.outcome.Access.{Access}
use Rattle.trails.specs.declared.outcome.Stop.{Stop}
use Rattle.trails.specs.declared.outcome.Stop.TheVariants.{Fault as FaultStop, Absent, Conflict}
use Rattle.trails.specs.Printed.{HasTextStop}
use Rattle.table_reads.specs.Memory.{Told}
use Rattle.table_reads.proofs.Weaker.{misses_weaker, rose_weaker}
use Rattle.walk_spec.specs.declared.entry.Entry1.{Entry1}
use Rattle.walk_spec.specs.declared.entry.Table1.{Table1}
use Rattle.walk_spec.specs.declared.leaf.Leaf1.{Leaf1}
use Rattle.walk_spec.specs.Ask.{Ask, Fed, ended, lacks, Took}
use Rattle.walk_spec.specs.Needs.{Need, stage1_base, stage2_base, word, regime_of}
use Rattle.walk_spec.specs.Steps.{End, stops, reaches}
use Rattle.walk_spec.specs.Stage1.{word_of}
use Rattle.walk_spec.specs.BothStages.{asked}
use Rattle.walk_spec.specs.Walked.{LacksFor, result_of, HasLineStop}
use Rattle.walk_spec.proofs.Finer.{Walks, StopsBy, TellsEnd, ran_finer, Keeps, ran_keeps}
use Rattle.stage1_walk.specs.Gave.{by_entry, Walked1, answer_of}
use Rattle.stage1_walk.proofs.OnEntries.{last_same}
use Rattle.translate.specs.Checked.{RegsAt}
use Rattle.translate.specs.Deep.{Reads2, StopTells, DeepGave, WalkedFrom1}
use Rattle.translate.specs.declared.deep.Deep.{Deep}

module _ {S : Type 0} (memory : S → Told) (faults : S → ℕ) (keeps : S → S → Type 0) where
  abbrev pub gives : Deep S → ℤ → ℕ → List Item → Result ℕ Stop → Deep S → Type 0
  gives = DeepGave memory faults keeps

  -- what each answer keeps
  pub record Stays (s t : Deep S) : Type 0 where
    pub same_under : t.under.now ≡ s.under.now
    pub same_reference : t.supply.ghost_name ≡ s.supply.ghost_name
    pub same : memory t.supply.now ≡ memory s.supply.now
    pub later : faults s.supply.now ≤ faults t.supply.now
    pub kept : keeps s.supply.now t.supply.now

  stays_keeps : ((s : S) → keeps s s) → ((a b c : S) → keeps a b → keeps b c → keeps a c) → Keeps (by_entry gives) Stays
  stays_keeps here then = record {
    here = λ s. record { same_under = refl; same_reference = refl; same = refl; later = omega arith; kept = here s.supply.now };
    then = λ a b d h k.
        record {
          same_under = k.same_under ∙ h.same_under;
          same_reference = k.same_reference ∙ h.same_reference;
          same = k.same ∙ h.same;
          later = omega (arith, h.later, k.later);
          kept = then a.supply.now b.supply.now d.supply.now h.kept k.kept;
        };
    each = λ s e items r t h. record { same_under = h.same_under; same_reference = h.same_reference; same = h.same; later = h.later; kept = h.kept };
  }

  -- what a walk over the supply keeps of it
  pub deep_stays : ((s : S) → keeps s s) → ((a b c : S) → keeps a b → keeps b c → keeps a c)
      → (under : RegsAt) (a : Access) (left : ℕ) (table : Table1) (s t : Deep S) (old new : List Item) (r : Result Leaf1 Stop)
      → Walked1 gives (asked (config_of under.regs) true a) left table s old new r t → Stays s t
  deep_stays here then under a left table s t old new r w = ran_keeps (λ i. i.value) (by_entry gives) Stays (stays_keeps here then) _ s w.more w.end t w.ran

  module _ (under : RegsAt) (side : Side) (m : Told) (f0 : ℕ) where
    abbrev pub how : Entry1 → Ask Need Item (Result Item Fault)
    how = word_of (regime_of (config_of under.regs) side)

    pub record Kept (s : Deep S) : Type 0 where
      pub under_is : s.under.now ≡ under
      pub memory_is : memory s.supply.now ≡ m
      pub more : f0 ≤ faults s.supply.now

    abbrev pub Tells : Deep S → Stop → Fed Need (End Leaf1) → Type 0
    Tells s x e = (Err x ≡ result_of e) × LacksFor m (Rose f0 (faults s.supply.now)) e

    stop_tells : (s' : Deep S) (x : Stop) (f : ℕ) → f0 ≤ f → f ≤ faults s'.supply.now → (e : Fed Need (Result Item Fault))
        → LacksFor m (Rose f (faults s'.supply.now)) e → StopTells x e → StopsBy stops (Tells s') x e
    stop_tells s' x f a b (ended (Ok i)) h t = t
    stop_tells s' x f a b (ended (Err d)) h t = (ap Err t, tt)
    stop_tells s' x f a b (lacks stage1_base) h t = absurd t
    stop_tells s' x f a b (lacks (stage2_base _)) h t = absurd t
    stop_tells s' x f a b (lacks (word w)) h t =
        (ap Err t, misses_weaker m w.place _ _ (rose_weaker f0 f (faults s'.supply.now) (faults s'.supply.now) a (omega arith)) h)

    kept_then : (s s' : Deep S) → Kept s → s'.under.now ≡ s.under.now → memory s'.supply.now ≡ memory s.supply.now
        → faults s.supply.now ≤ faults s'.supply.now → Kept s'
    kept_then s s' k u e l = record { under_is = u ∙ k.under_is; memory_is = e ∙ k.memory_is; more = omega (arith, l, k.more) }

    word_law : (s : Deep S) (e : Entry1) (front : List Item) (i : Item) (s' : Deep S) → Kept s → by_entry gives s e (front ++ i ∷ []) (Ok i.value) s'
        → Took (Reads2 under m) (how e) (front ++ i ∷ []) (ended (Ok i)) × Kept s'
    word_law s e front i s' k h =
        let w = h.had side e refl refl in
        let j = last_same front w.0 i w.1 w.2 in
        let t : Took (Reads2 under m) (how e) (front ++ i ∷ []) (ended (Ok i)) = rw (← k.under_is, ← k.memory_is) (rw (← j) at w.4) in
        (t, kept_then s s' k h.same_under h.same h.later)

    stop_law : (s : Deep S) (e : Entry1) (items : List Item) (x : Stop) (s' : Deep S) → Kept s → by_entry gives s e items (Err x) s'
        → (d : Fed Need (Result Item Fault)) × Took (Reads2 under m) (how e) items d × StopsBy stops (Tells s') x d
    stop_law s e items x s' k h =
        let w = h.had side e refl refl in
        let t : Took (Reads2 under m) (how e) items w.0 = rw (← k.under_is, ← k.memory_is) w.1 in
        (w.0, t, stop_tells s' x (faults s.supply.now) k.more h.later w.0 (rw k.memory_is at w.2) w.3)

    pub law : Walks stops (λ i. i.value) (by_entry gives) (Reads2 under m) how Kept Tells
    law = record { word = word_law; stop = stop_law }

    told : (s' : Deep S) (end : Result (End Leaf1) Stop) (e : Fed Need (End Leaf1)) → TellsEnd (Tells s') end e
        → (answer_of end ≡ result_of e) × LacksFor m (Rose f0 (faults s'.supply.now)) e
    told s' (Ok (stops d)) e h = (rw h refl, rw h tt)
    told s' (Ok (reaches l)) e h = (rw h refl, rw h tt)
    told s' (Err x) e h = h

  -- stage 1 over the supply is stage 1 with the stage 2 of its words
  pub deep_walked : (under : RegsAt) (a : Access) (left : ℕ) (table : Table1) (s s' : Deep S) (old new : List Item) (r : Result Leaf1 Stop)
      → s.under.now ≡ under → Walked1 gives (asked (config_of under.regs) true a) left table s old new r s'
      → WalkedFrom1 (memory s.supply.now) (Rose (faults s.supply.now) (faults s'.supply.now)) under a left table old new r
  deep_walked under a left table s s' old new r u w =
      let m = memory s.supply.now in
      let f0 = faults s.supply.now in
      let k : Kept under (side_of a.va) m f0 s = record { under_is = u; memory_is = refl; more = omega arith } in
      let d = ran_finer stops (λ i. i.value) (by_entry gives) (Reads2 under m) (how under (side_of a.va) m f0) (Kept under (side_of a.va) m f0)
      (Tells under (side_of a.va) m f0) (law under (side_of a.va) m f0) _ s w.more w.end s' k w.ran in
      let q = told under (side_of a.va) m f0 s' w.end d.0 d.2 in
      record { more = w.more; end = d.0; grown = w.grown; took = d.1; cause = q.1; answer = w.answer ∙ q.0 }

-- a stop of a walk that lacks only words is no conflict
pub line_stop : {L : Type 0} (m : Told) (F : Type 0) (e : Fed Need (End L)) (x : Stop) → LacksFor m F e → Err x ≡ result_of e → HasTextStop x
    → HasLineStop x
line_stop m F e (FaultStop f) h a c = c
line_stop m F e (Absent s l p q) h a c = tt
line_stop m F (ended (stops f)) Conflict h a c = absurd cc
line_stop m F (ended (reaches l)) Conflict h a c = absurd cc
line_stop m F (lacks stage1_base) Conflict h a c = h
line_stop m F (lacks (stage2_base x)) Conflict h a c = h
line_stop m F (lacks (word w)) Conflict h a c = absurd cc

pub line_of : {L : Type 0} (m : Told) (F : Type 0) (e : Fed Need (End L)) (r : Result L Stop) → LacksFor m F e → r ≡ result_of e → IfErr r HasTextStop
    → IfErr r HasLineStop
line_of m F e (Ok l) h a c = tt
line_of m F e (Err x) h a c = line_stop m F e x h a c
