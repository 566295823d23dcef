-- How many items a walk takes at most.
use Rattle.std.proofs.Common.{◌≡◌, ℕ, zero, suc, ◌+◌, ◌*◌, ◌≤◌, Bool, true, false, cond}
use Rattle.std.proofs.Common.{List, [], ◌∷◌, length, refl, arith, Result, Ok, Err}
use Rattle.fault_codes.specs.declared.fault.Class.TheVariants.{Translation, AddressSize, Permission}
use Rattle.fault_codes.specs.declared.fault.Stage.TheVariants.{S2}
use Rattle.geometry.specs.Tables.{most_left}
use Rattle.permissions.specs.Rights.{no_bits}
use Rattle.sysregs.specs.declared.regs.Config.{Config}
use Rattle.sysregs.specs.declared.regs.Side.{Side}
use Rattle.sysregs.specs.Sides.{side_of}
use Rattle.trails.specs.declared.item.Item.{Item}
use Rattle.trails.specs.declared.outcome.Access.{Access}
use Rattle.trails.specs.Lengths.{most_items, most_items2, most_per_word}
use Rattle.table_reads.specs.declared.lead.Lead.{Lead}
use Rattle.table_reads.specs.declared.lead.Lead.TheVariants.{Down, Reached, Stopped}
use Rattle.table_reads.specs.Places.{is_too_large}
use Rattle.walk_spec.specs.declared.entry.Entry1.{Entry1}
use Rattle.walk_spec.specs.declared.entry.Table1.{Table1}
use Rattle.walk_spec.specs.declared.leaf.Leaf1.{Leaf1}
use Rattle.walk_spec.specs.declared.leaf.Leaf2.{Leaf2}
use Rattle.walk_spec.specs.Ask.{Ask, done, ask, after, finer, go_on}
use Rattle.walk_spec.specs.Needs.{Regime, regime_of, Need, stage1_base}
use Rattle.walk_spec.specs.Steps.{End, stops, reaches, step_then}
use Rattle.walk_spec.specs.Stage2.{Asked2, fault2, step2, walk2, walk2_from, walk2_behind, is_refused2}
use Rattle.walk_spec.specs.Stage1.{Asked, asked2, fault1, walk1_from, is_readable, read1, read1_by, word_of, stage1_from}
use Rattle.walk_spec.specs.BothStages.{Landing, asked, stage1, stage1_on, stage1_off, stage1_behind, stage2_behind, walk, is_refused1}
use Rattle.walk_laws.proofs.Sound.{sound1, sound2}
use Rattle.walk_laws.proofs.Shifts.{of_fields}
use Rattle.machine_laws.specs.Standing.{IsOn}
use Rattle.machine_laws.proofs.Trees.{chain}

abbrev pub AtMost : {N A : Type 0} → ℕ → Ask N Item A → Type 0
AtMost n (done a) = Unit {0}
AtMost zero (ask q k) = ⊥
AtMost (suc n) (ask q k) = (i : Item) → AtMost n (k i)

-- a list on which the walk stands is no longer
pub on_length : {A : Type 0} (r : Regime) (n : ℕ) (t u : Ask Need Item A) (items : List Item) → AtMost n t → IsOn r t items u → length items ≤ n
on_length r n t u [] h o = omega arith
on_length r n (done a) u (i ∷ items) h o = absurd o
on_length r zero (ask q k) u (i ∷ items) h o = absurd h
on_length r (suc n) (ask q k) u (i ∷ items) h o = let e = on_length r n (k i) u items (h i) o.1 in omega (arith, e)

pub at_more : {N A : Type 0} (n m : ℕ) (t : Ask N Item A) → n ≤ m → AtMost n t → AtMost m t
at_more n m (done a) l h = tt
at_more zero m (ask q k) l h = absurd h
at_more (suc n) zero (ask q k) l h = absurd (omega (arith, l))
at_more (suc n) (suc m) (ask q k) l h = λ i. at_more n m (k i) (omega (arith, l)) (h i)

at_after : {N A B : Type 0} (n m : ℕ) (t : Ask N Item A) (f : A → Ask N Item B) → AtMost n t → ((a : A) → AtMost m (f a))
    → AtMost (n + m) (after t f)
at_after n m (done a) f h g = at_more m (n + m) (f a) (omega arith) (g a)
at_after zero m (ask q k) f h g = absurd h
at_after (suc n) m (ask q k) f h g = let e : suc n + m ≡ suc (n + m) = omega arith in rw e (λ i. at_after n m (k i) f (h i) g)

at_if : {N A : Type 0} (n : ℕ) (b : Bool) (a : A) (t : Ask N Item A) → (b ≡ false → AtMost n t) → AtMost n (cond b (done a) t)
at_if n true a t h = tt
at_if n false a t h = h refl

at_go : {M X A : Type 0} (n : ℕ) (stop : X → A) (f : Item → Ask M Item A) (r : Result Item X) → ((i : Item) → AtMost n (f i))
    → AtMost n (go_on stop f r)
at_go n stop f (Ok i) h = h i
at_go n stop f (Err x) h = tt

-- a finer walk of at most seven items for each question
at_finer : {N M X A : Type 0} (stop : X → A) (how : N → Ask M Item (Result Item X)) → ((q : N) → AtMost most_per_word (how q))
    → (n : ℕ) (t : Ask N Item A)
    → AtMost n t
    → AtMost (n * most_per_word) (finer stop how t)
at_finer stop how g n (done a) h = tt
at_finer stop how g zero (ask q k) h = absurd h
at_finer stop how g (suc n) (ask q k) h =
    let e : suc n * most_per_word ≡ most_per_word + n * most_per_word = omega arith in
    rw e (at_after most_per_word (n * most_per_word) (how q) (go_on stop (λ i. finer stop how (k i))) (g q)
    (λ r. at_go (n * most_per_word) stop (λ i. finer stop how (k i)) r (λ i. at_finer stop how g n (k i) (h i))))

at_step : {N L T : Type 0} (n : ℕ) (below : T → Ask N Item (End L)) (s : Lead L T) → ((t : T) → AtMost n (below t)) → AtMost n (step_then below s)
at_step n below (Down t) h = h t
at_step n below (Reached l) h = tt
at_step n below (Stopped f) h = tt

-- STAGE 2

from_most : (q : Asked2) (left t : ℕ) → AtMost (left + 1) (walk2_from q left t)
from_most q zero t = λ i. at_step 0 (λ _. done (stops (fault2 q Translation 0))) (step2 q 0 i.pa i.value) (λ _. tt)
from_most q (suc left) t =
    let e : suc left + 1 ≡ suc (left + 1) = omega arith in
    rw e (λ i. at_step (left + 1) (walk2_from q left) (step2 q (suc left) i.pa i.value) (λ next. from_most q left next))

behind_most : (q : Asked2) (base : ℕ) → q.sizes.start ≤ most_left → AtMost 5 (walk2_behind q base)
behind_most q base l =
    at_if 5 (is_too_large q.sizes base) (stops (fault2 q AddressSize most_left)) (walk2_from q q.sizes.start base)
    (λ _. at_more (q.sizes.start + 1) 5 (walk2_from q q.sizes.start base) (omega (arith, l)) (from_most q q.sizes.start base))

pub chain_most : (c : Config) (s : Side) (p : Bool) (x : ℕ) → is_refused2 c x ≡ false → AtMost most_items2 (chain (regime_of c s) p x)
chain_most c s p x ok = λ i. behind_most (asked2 (regime_of c s) p x) i.value (sound2 (regime_of c s) x (of_fields c s) ok).0.start

pub walk2_most : (c : Config) (s : Side) (p : Bool) (x : ℕ) → AtMost most_items2 (walk2 (asked2 (regime_of c s) p x))
walk2_most c s p x =
    at_if most_items2 (is_refused2 c x) (stops (fault2 (asked2 (regime_of c s) p x) Translation most_left)) (chain (regime_of c s) p x) (chain_most c s p x)

-- STAGE 1

module _ (c : Config) (judged : Bool) (a : Access) where
  abbrev r : Regime
  r = regime_of c (side_of a.va)

  abbrev q : Asked
  q = asked c judged a

  read_most : (e : Entry1) (end : End Leaf2) → AtMost 1 (read1_by c e end)
  read_most e (stops f) = tt
  read_most e (reaches l) = by (is_readable c l) where
    by : (b : Bool) → AtMost 1 (cond b (read1 e l.pa) (done (Err record { stage = S2; level = l.level; class = Permission; s1ptw = true })))
    by true = λ i. tt
    by false = tt

  word_most : (e : Entry1) → AtMost most_per_word (word_of r e)
  word_most e = by c.vm where
    by : (b : Bool) → AtMost most_per_word (cond b (after (walk2 (asked2 r true e.place)) (read1_by c e)) (read1 e e.place))
    by true = at_after most_items2 1 (walk2 (asked2 r true e.place)) (read1_by c e) (walk2_most c (side_of a.va) true e.place) (read_most e)
    by false = λ i. tt

  pub from1_most : (left : ℕ) (t : Table1) → AtMost (left + 1) (walk1_from q left t)
  from1_most zero t = λ i. at_step 0 (λ _. done (stops (fault1 Translation 0))) _ (λ _. tt)
  from1_most (suc left) t =
      let e : suc left + 1 ≡ suc (left + 1) = omega arith in
      rw e (λ i. at_step (left + 1) (walk1_from q left) _ (λ next. from1_most left next))

  abbrev Behind : ℕ → Ask Need Item (End Leaf1)
  Behind base = stage1_behind q base

  behind1_most : (base : ℕ) → r.stage1.start ≤ most_left → AtMost 28 (Behind base)
  behind1_most base l =
      let t : Table1 = record { address = base; bits = no_bits } in
      at_if 28 (is_too_large r.stage1 base) (stops (fault1 AddressSize most_left)) (stage1_from q r.stage1.start t)
      (λ _. at_finer stops (word_of r) word_most 4 (walk1_from q r.stage1.start t)
      (at_more (r.stage1.start + 1) 4 (walk1_from q r.stage1.start t) (omega (arith, l)) (from1_most r.stage1.start t)))

  stage1_most : AtMost 29 (stage1 q)
  stage1_most = by c.m where
    by : (b : Bool) → AtMost 29 (cond b (stage1_on q) (stage1_off q))
    by true =
        at_if 29 (is_refused1 c a) (stops (fault1 Translation most_left)) (ask stage1_base (λ i. Behind i.value))
        (λ ok i. behind1_most i.value (sound1 r a (of_fields c (side_of a.va)) refl ok).start)
    by false = tt

  output_most : (e : End Leaf1) → AtMost most_items2 (stage2_behind q e)
  output_most (stops f) = tt
  output_most (reaches l) = by c.vm where
    by : (b : Bool) → AtMost most_items2 (cond b
        (after (walk2 (asked2 r false l.out)) (λ e. done (Rattle.walk_spec.specs.BothStages.judged2 judged a l e)))
        (done (reaches (Rattle.walk_spec.specs.BothStages.landed l))))
    by true = at_after most_items2 0 (walk2 (asked2 r false l.out)) (λ e. done _) (walk2_most c (side_of a.va) false l.out) (λ e. tt)
    by false = tt

  -- a whole walk
  pub walk_most : AtMost most_items (walk c judged a)
  walk_most = at_more (29 + most_items2) most_items (walk c judged a) (omega arith)
      (at_after 29 most_items2 (stage1 q) (stage2_behind q) stage1_most output_most)
