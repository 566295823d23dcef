-- A walk that stands on kept items which end in stage 1 takes them word by word.
use Rattle.std.proofs.Common.{◌≡◌, ℕ, zero, suc, ◌≤◌, Bool, true, false, cond, List, [], ◌∷◌}
use Rattle.std.proofs.Common.{◌++◌, length, refl, ap, ◌∙◌, arith, Ok, Err, Result}
use Rattle.geometry.specs.Tables.{most_left}
use Rattle.sysregs.specs.declared.regs.Config.{Config}
use Rattle.sysregs.specs.Sides.{side_of}
use Rattle.fault_codes.specs.declared.fault.Fault.{Fault}
use Rattle.fault_codes.specs.declared.fault.Class.TheVariants.{Translation, AddressSize}
use Rattle.fault_codes.specs.declared.fault.Stage.{Stage}
use Rattle.fault_codes.specs.declared.fault.Stage.TheVariants.{S1, S2}
use Rattle.trails.specs.declared.item.Item.{Item}
use Rattle.trails.specs.declared.outcome.Access.{Access}
use Rattle.trails.specs.Lengths.{most_items2}
use Rattle.table_reads.specs.declared.lead.Lead.{Lead}
use Rattle.table_reads.specs.declared.lead.Lead.TheVariants.{Down, Reached, Stopped}
use Rattle.table_reads.specs.Places.{is_too_large}
use Rattle.walk_spec.specs.declared.entry.Entry1.{Entry1}
use Rattle.walk_spec.specs.declared.leaf.Leaf1.{Leaf1}
use Rattle.walk_spec.specs.declared.leaf.Leaf2.{Leaf2}
use Rattle.walk_spec.specs.Ask.{Ask, done, ask, after, finer, go_on}
use Rattle.walk_spec.specs.Needs.{Regime, regime_of, Need, stage1_base, stage2_base, word, fits, is_base, stage_eq}
use Rattle.walk_spec.specs.Steps.{End, stops, reaches, step_then}
use Rattle.walk_spec.specs.Stage2.{Asked2, fault2, step2, walk2, walk2_from, walk2_behind, is_refused2}
use Rattle.walk_spec.specs.Stage1.{asked2, read1, read1_by, is_readable, word_of}
use Rattle.walk_spec.specs.BothStages.{Landing, asked, judged2, landed, stage2_behind}
use Rattle.walk_laws.proofs.Places.{first_of_and, second_of_and}
use Rattle.machine_laws.specs.Standing.{IsOn}
use Rattle.machine_laws.proofs.MarksOf.{fits_word_parts}
use Rattle.served_walk.specs.KeptWords.{AreOfStage2, EndsInStage1}
use Rattle.served_walk.proofs.Depth.{AtMost, walk2_most}
use Rattle.served_walk.proofs.KeptItems.{other_stage}

-- WALKS OF STAGE 2 ALONE

abbrev IsOf2 : Need → Type 0
IsOf2 stage1_base = ⊥
IsOf2 (stage2_base x) = Unit {0}
IsOf2 (word w) = w.stage ≡ S2

abbrev Only2 : {A : Type 0} → Ask Need Item A → Type 0
Only2 (done a) = Unit {0}
Only2 (ask n k) = IsOf2 n × ((i : Item) → Only2 (k i))

pub same_stage : (s t : Stage) → stage_eq s t ≡ true → s ≡ t
same_stage S1 S1 h = refl
same_stage S1 S2 h = absurd cc
same_stage S2 S1 h = absurd cc
same_stage S2 S2 h = refl

base_stage : (r : Regime) (x : ℕ) (i : Item) → fits r (stage2_base x) i ≡ true → i.stage ≡ S2
unfolding fits
base_stage r x i h = same_stage i.stage S2 (second_of_and (is_base i.what) (stage_eq i.stage S2)
    (first_of_and _ _ (first_of_and _ _ (first_of_and _ _ (first_of_and _ _ h)))))

fit_stage : (r : Regime) (n : Need) (i : Item) → IsOf2 n → fits r n i ≡ true → i.stage ≡ S2
fit_stage r stage1_base i o h = absurd o
fit_stage r (stage2_base x) i o h = base_stage r x i h
fit_stage r (word w) i o h = (fits_word_parts r w i h).stage ∙ o

two_if : {A : Type 0} (b : Bool) (t u : Ask Need Item A) → Only2 t → Only2 u → Only2 (cond b t u)
two_if true t u h k = h
two_if false t u h k = k

two_after : {A B : Type 0} (t : Ask Need Item A) (f : A → Ask Need Item B) → Only2 t → ((a : A) → Only2 (f a)) → Only2 (after t f)
two_after (done a) f h g = g a
two_after (ask n k) f h g = (h.0, λ i. two_after (k i) f (h.1 i) g)

two_step : (below : ℕ → Ask Need Item (End Leaf2)) (s : Lead Leaf2 ℕ) → ((t : ℕ) → Only2 (below t)) → Only2 (step_then below s)
two_step below (Down t) h = h t
two_step below (Reached l) h = tt
two_step below (Stopped f) h = tt

two_from : (q : Asked2) (left t : ℕ) → Only2 (walk2_from q left t)
two_from q zero t = (refl, λ i. two_step (λ _. done (stops (fault2 q Translation 0))) (step2 q 0 i.pa i.value) (λ _. tt))
two_from q (suc left) t = (refl, λ i. two_step (walk2_from q left) (step2 q (suc left) i.pa i.value) (λ next. two_from q left next))

two_walk2 : (q : Asked2) → Only2 (walk2 q)
two_walk2 q =
    two_if (is_refused2 q.config q.ipa) (done (stops (fault2 q Translation most_left))) (ask (stage2_base q.ipa) (λ i. walk2_behind q i.value)) tt (
      tt,
      λ i. two_if (is_too_large q.sizes i.value) (done (stops (fault2 q AddressSize most_left))) (walk2_from q q.sizes.start i.value) tt
          (two_from q q.sizes.start i.value),
    )

pub two_output : (c : Config) (a : Access) (e : End Leaf1) → Only2 (stage2_behind (asked c true a) e)
two_output c a (stops f) = tt
two_output c a (reaches l) =
    two_if c.vm (after (walk2 (asked2 (regime_of c (side_of a.va)) false l.out)) (λ e. done (judged2 true a l e))) (done (reaches (landed l)))
    (two_after (walk2 (asked2 (regime_of c (side_of a.va)) false l.out)) (λ e. done (judged2 true a l e))
    (two_walk2 (asked2 (regime_of c (side_of a.va)) false l.out)) (λ e. tt))
    tt

-- what such a walk takes does not end in stage 1
pub two_ends : {A : Type 0} (r : Regime) (t v : Ask Need Item A) (i : Item) (items : List Item) → Only2 t → IsOn r t (i ∷ items) v → EndsInStage1
    (i ∷ items) → ⊥
two_ends r (done a) v i items o h e = h
two_ends r (ask n k) v i [] o h e = other_stage i.stage e (fit_stage r n i o.0 h.0)
two_ends r (ask n k) v i (j ∷ items) o h e = two_ends r (k i) v j items (o.1 i) h.1 e

-- ONE WORD

module _ (c : Config) (a : Access) where
  abbrev pub r : Regime
  r = regime_of c (side_of a.va)

  abbrev pub how : Entry1 → Ask Need Item (Result Item Fault)
  how = word_of r

  abbrev pub Finer : Ask Entry1 Item (End Leaf1) → Ask Need Item (End Leaf1)
  Finer t = finer stops how t

  abbrev pub Output : End Leaf1 → Ask Need Item (End Landing)
  Output = stage2_behind (asked c true a)

  module _ (n : Entry1) (k : Item → Ask Entry1 Item (End Leaf1)) (v : Ask Need Item (End Landing)) where
    abbrev Go : Result Item Fault → Ask Need Item (End Leaf1)
    Go = go_on stops (λ i. Finer (k i))

    abbrev Rest : Ask Need Item (Result Item Fault) → Ask Need Item (End Landing)
    Rest w = after (after w Go) Output

    pub record Split (most : ℕ) (w : Ask Need Item (Result Item Fault)) (items : List Item) : Type 0 where
      pub front : List Item
      pub item : Item
      pub rest : List Item
      pub is : items ≡ front ++ item ∷ rest
      pub chain : AreOfStage2 front
      pub stage : item.stage ≡ S1
      pub few : length front ≤ most
      pub on : IsOn r w (front ++ item ∷ []) (done (Ok item))
      pub behind : IsOn r (after (Finer (k item)) Output) rest v
      pub ends : EndsInStage1 rest

    ends_rest : (i : Item) (items : List Item) → EndsInStage1 (i ∷ items) → EndsInStage1 items
    ends_rest i [] e = tt
    ends_rest i (j ∷ items) e = e

    split_read : (p : ℕ) (i : Item) (items : List Item) → IsOn r (Rest (read1 n p)) (i ∷ items) v → EndsInStage1 (i ∷ items)
        → Split 0 (read1 n p) (i ∷ items)
    split_read p i items h e = record {
      front = [];
      item = i;
      rest = items;
      is = refl;
      chain = tt;
      stage = (fits_word_parts r _ i h.0).stage;
      few = omega arith;
      on = (h.0, refl);
      behind = h.1;
      ends = ends_rest i items e;
    }

    split_if : (b : Bool) (p : ℕ) (f : Fault) (i : Item) (items : List Item) → IsOn r (Rest (cond b (read1 n p) (done (Err f)))) (i ∷ items) v
        → EndsInStage1 (i ∷ items) → Split 0 (cond b (read1 n p) (done (Err f))) (i ∷ items)
    split_if true p f i items h e = split_read p i items h e
    split_if false p f i items h e = absurd h

    more_front : (most : ℕ) (q : Need) (kk : Item → Ask Need Item (Result Item Fault)) (i : Item) (items : List Item) → fits r q i ≡ true
        → i.stage ≡ S2
        → Split most (kk i) items → Split (suc most) (ask q kk) (i ∷ items)
    more_front most q kk i items f s d =
        let m = d.few in
        record {
          front = i ∷ d.front;
          item = d.item;
          rest = d.rest;
          is = ap (λ l. i ∷ l) d.is;
          chain = (s, d.chain);
          stage = d.stage;
          few = omega (arith, m);
          on = (f, d.on);
          behind = d.behind;
          ends = d.ends;
        }

    wider : (m most : ℕ) (w : Ask Need Item (Result Item Fault)) (items : List Item) → m ≤ most → Split m w items → Split most w items
    wider m most w items l d =
        let f = d.few in
        record {
          front = d.front;
          item = d.item;
          rest = d.rest;
          is = d.is;
          chain = d.chain;
          stage = d.stage;
          few = omega (arith, l, f);
          on = d.on;
          behind = d.behind;
          ends = d.ends;
        }

    split_chain : (most : ℕ) (t : Ask Need Item (End Leaf2)) → AtMost most t → Only2 t → (i : Item) (items : List Item)
        → IsOn r (Rest (after t (read1_by c n))) (i ∷ items) v → EndsInStage1 (i ∷ items) → Split most (after t (read1_by c n)) (i ∷ items)
    split_chain most (done (stops f)) m o i items h e = absurd h
    split_chain most (done (reaches l)) m o i items h e =
        wider 0 most (read1_by c n (reaches l)) (i ∷ items) (omega arith) (split_if (is_readable c l) l.pa _ i items h e)
    split_chain zero (ask q kk) m o i items h e = absurd m
    split_chain (suc most) (ask q kk) m o i [] h e = absurd (other_stage i.stage e (fit_stage r q i o.0 h.0))
    split_chain (suc most) (ask q kk) m o i (j ∷ items) h e =
        more_front most q (λ x. after (kk x) (read1_by c n)) i (j ∷ items) h.0 (fit_stage r q i o.0 h.0)
        (split_chain most (kk i) (m i) (o.1 i) j items h.1 e)

    split_by : (b : Bool) (i : Item) (items : List Item)
        → IsOn r (Rest (cond b (after (walk2 (asked2 r true n.place)) (read1_by c n)) (read1 n n.place))) (i ∷ items) v → EndsInStage1 (i ∷ items)
        → Split most_items2 (cond b (after (walk2 (asked2 r true n.place)) (read1_by c n)) (read1 n n.place)) (i ∷ items)
    split_by true i items h e = split_chain most_items2 (walk2 (asked2 r true n.place)) (walk2_most c (side_of a.va) true n.place)
        (two_walk2 (asked2 r true n.place)) i items h e
    split_by false i items h e = wider 0 most_items2 (read1 n n.place) (i ∷ items) (omega arith) (split_read n.place i items h e)

    -- the first word of the items
    pub split_word : (i : Item) (items : List Item) → IsOn r (after (Finer (ask n k)) Output) (i ∷ items) v → EndsInStage1 (i ∷ items)
        → Split most_items2 (how n) (i ∷ items)
    split_word i items h e = split_by c.vm i items h e
