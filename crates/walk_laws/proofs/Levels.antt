-- A walk down the levels of either stage, one word a level, and two such walks side by side.
use Rattle.std.proofs.Common.{◌≡◌, ℕ, zero, suc, ◌<◌, ◌≤◌, List, [], ◌∷◌, ◌++◌, refl, sym}
use Rattle.std.proofs.Common.{◌∙◌, arith, Bool, inl, inr, Ok, Err, Result, append-nil}
use Rattle.std.specs.Prelude.{◌⊎◌}
use Rattle.fault_codes.specs.declared.fault.Fault.{Fault}
use Rattle.trails.specs.declared.item.Item.{Item}
use Rattle.table_reads.specs.declared.lead.Lead.{Lead}
use Rattle.table_reads.specs.declared.lead.Lead.TheVariants.{Down, Reached, Stopped}
use Rattle.walk_spec.specs.Ask.{Ask, done, ask, after, go_on}
use Rattle.walk_spec.specs.Needs.{Need}
use Rattle.walk_spec.specs.Steps.{End, stops, reaches, step_then}
use Rattle.walk_laws.proofs.Stepping.{Takes, InStep, LastIs, last_back, takes_after, InFirst, InSecond, step_on, step_after}

-- how a walk goes down the levels: how the word of a level is had in a table, what it leads to, and the fault of a table at
-- the last level
pub record Descent (L T : Type 0) : Type 0 where
  pub had : ℕ → T → Ask Need Item (Result Item Fault)
  pub step : ℕ → T → Item → Lead L T
  pub last : Fault

-- what follows on a word
abbrev pub onward : {L T : Type 0} → (below : T → Ask Need Item (End L)) (step : Item → Lead L T) → Result Item Fault → Ask Need Item (End L)
onward below step = go_on stops (λ i. step_then below (step i))

-- a walk from a table down
abbrev pub levels : {L T : Type 0} → (descent : Descent L T) (left : ℕ) (table : T) → Ask Need Item (End L)
levels d zero t = after (d.had 0 t) (onward (λ _. done (stops d.last)) (d.step 0 t))
levels d (suc left) t = after (d.had (suc left) t) (onward (levels d left) (d.step (suc left) t))

-- what lies below a level
abbrev pub beneath : {L T : Type 0} → (descent : Descent L T) (left : ℕ) → T → Ask Need Item (End L)
beneath d zero = λ _. done (stops d.last)
beneath d (suc left) = levels d left

-- how a walk goes on behind a word
abbrev pub behind : {L T : Type 0} → (descent : Descent L T) (left : ℕ) (table : T) (item : Item) → Ask Need Item (End L)
behind d left t i = step_then (beneath d left) (d.step left t i)

pub levels_is : {L T : Type 0} (d : Descent L T) (left : ℕ) (t : T) → levels d left t ≡ after (d.had left t) (onward (beneath d left) (d.step left t))
levels_is d zero t = refl
levels_is d (suc left) t = refl

-- the items end at a leaf, or with a word of the stage
abbrev pub Closes : {L : Type 0} → (own : Item → Type 0) (items : List Item) (left : Ask Need Item (End L)) → Type 0
Closes {L} own items u = ((l : L) × (u ≡ done (reaches l))) ⊎ ((i : Item) × LastIs items i × own i)

-- What is measured on the way down: which items are words of the stage, which tables begin with whole runs, the class of an
-- entry of a level, the class of a word, and whether two addresses agree from a bit up.
pub record Measure (T : Type 0) : Type 1 where
  pub own : Item → Type 0
  pub sound : ℕ → T → Type 0
  pub low : ℕ → ℕ
  pub class : ℕ → Item → ℕ
  pub same : ℕ → Type 0

-- how two walks down the levels are alike
pub record Twins {L T : Type 0} (fits : Need → Item → Bool) (alike : Need → Need → Item → Type 0) (d d' : Descent L T) (m : Measure T) : Type 0 where
  -- no word is had without an item, and the last item is the word, if it is of this stage
  pub none : (left : ℕ) (t : T) (i : Item) → Takes fits (d.had left t) [] (done (Ok i)) → ⊥
  pub whole : (left : ℕ) (t : T) (items : List Item) (u : Ask Need Item (Result Item Fault)) (i : Item) → Takes fits (d.had left t) items u
      → LastIs items i →
      m.own i → u ≡ done (Ok i)
  -- a word serves both walks
  pub words : (left : ℕ) (t : T) (items : List Item) (i : Item) (k : ℕ) → m.sound left t → Takes fits (d.had left t) items (done (Ok i))
      → k ≤ m.class left i →
      m.same k → InStep fits alike (d.had left t) (d'.had left t) items (done (Ok i)) (done (Ok i))
  -- a table is one for both
  pub tables : (left : ℕ) (t : T) (i : Item) (next : T) → d.step left t i ≡ Down next
      → (d'.step left t i ≡ Down next) × ((below : ℕ) → m.sound below next)
  -- classes shrink on the way down
  pub least : (left : ℕ) (i : Item) → m.low left ≤ m.class left i
  pub shrinks : (below left : ℕ) (i : Item) → below < left → m.class below i ≤ m.low left

module _ {L T : Type 0} (fits : Need → Item → Bool) (alike : Need → Need → Item → Type 0) (d d' : Descent L T) (m : Measure T)
    (law : Twins fits alike d d' m)
  where
    abbrev Ends : List Item → Ask Need Item (End L) → Type 0
    Ends items u = Closes m.own items u

    -- The walk has taken the items up to a word, the last of them, and the other walk goes in step where the two addresses
    -- agree as far as this word speaks.
    pub record Way (left : ℕ) (t : T) (items : List Item) (u : Ask Need Item (End L)) : Type 0 where
      pub at : ℕ
      pub table : T
      pub item : Item
      pub most : at ≤ left
      pub fed : (front : List Item) × Takes fits (d.had at table) front (done (Ok item))
      pub left_as : u ≡ behind d at table item
      pub is_last : (i : Item) → LastIs items i → m.own i → i ≡ item
      pub shift : (k : ℕ) → m.sound left t → k ≤ m.class at item → m.same k →
          InStep fits alike (levels d left t) (levels d' left t) items u (behind d' at table item)

    in_step_here : (left : ℕ) (t : T) (front rest : List Item) (j : Item) (u u' : Ask Need Item (End L)) →
        InStep fits alike (d.had left t) (d'.had left t) front (done (Ok j)) (done (Ok j)) →
        InStep fits alike (behind d left t j) (behind d' left t j) rest u u' → InStep fits alike (levels d left t) (levels d' left t) (front ++ rest) u u'
    in_step_here left t front rest j u u' w s =
        rw (levels_is d left t, levels_is d' left t)
        (step_on fits alike _ _ front rest _ _ _ _
        (step_after fits alike (d.had left t) (d'.had left t) (onward (beneath d left) (d.step left t)) (onward (beneath d' left) (d'.step left t)) front _ _ w)
        s)

    -- the word was the last item
    way_here : (left : ℕ) (t : T) (front : List Item) (j : Item) (u : Ask Need Item (End L)) → Takes fits (d.had left t) front (done (Ok j)) →
        u ≡ behind d left t j → Way left t (front ++ []) u
    way_here left t front j u h e =
        record {
          at = left;
          table = t;
          item = j;
          most = omega arith;
          fed = (front, h);
          left_as = e;
          is_last = λ i l o. (let q : done (Ok j) ≡ done (Ok i) = law.whole left t front (done (Ok j)) i h (rw append-nil at l) o in cc);
          shift = λ k s n q. in_step_here left t front [] j u (behind d' left t j) (law.words left t front j k s h n q) (e, refl);
        }

    -- the word was a table
    way_below : (left : ℕ) (t next : T) (front rest : List Item) (j : Item) (u : Ask Need Item (End L))
        → Takes fits (d.had (suc left) t) front (done (Ok j)) →
        d.step (suc left) t j ≡ Down next → ((i : Item) → LastIs (front ++ rest) i → LastIs rest i) → Way left next rest u
        → Way (suc left) t (front ++ rest) u
    way_below left t next front rest j u h down l w =
        let most = w.most in
        record {
          at = w.at;
          table = w.table;
          item = w.item;
          most = omega (arith, most);
          fed = w.fed;
          left_as = w.left_as;
          is_last = λ i e o. w.is_last i (l i e) o;
          shift = λ k s n q. (let v = law.tables (suc left) t j next down in
              let a = law.shrinks w.at (suc left) w.item (omega (arith, most)) in
              let b = law.least (suc left) j in
              in_step_here (suc left) t front rest j u _ (law.words (suc left) t front j k s h (omega (arith, a, b, n)) q)
              (rw (down, v.0) (w.shift k (v.1 left) n q)));
        }

    not_first : (left : ℕ) (t : T) (f : Result Item Fault → Ask Need Item (End L)) (items : List Item) (u : Ask Need Item (End L)) →
        InFirst fits (d.had left t) f items u → Ends items u → ⊥
    not_first left t f items u w (inl l) = let e = w.3 in let q : done (reaches l.0) ≡ after (ask w.0 w.1) f = sym l.1 ∙ e in cc
    not_first left t f items u w (inr i) = let q : ask w.0 w.1 ≡ done (Ok i.0) = law.whole left t items (ask w.0 w.1) i.0 w.2 i.1 i.2 in cc

    not_fault : (left : ℕ) (t : T) (f : Fault) (front : List Item) (u : Ask Need Item (End L)) → Takes fits (d.had left t) front (done (Err f)) →
        u ≡ done (stops f) → Ends (front ++ []) u → ⊥
    not_fault left t f front u h e (inl l) = let q : done (reaches l.0) ≡ done (stops f) = sym l.1 ∙ e in cc
    not_fault left t f front u h e (inr i) = let q : done (Err f) ≡ done (Ok i.0) = law.whole left t front (done (Err f)) i.0 h
        (rw append-nil at i.1) i.2 in cc

    closes_rest : (front : List Item) (r : Item) (rest : List Item) (u : Ask Need Item (End L)) → Ends (front ++ r ∷ rest) u → Ends (r ∷ rest) u
    closes_rest front r rest u (inl l) = inl l
    closes_rest front r rest u (inr i) = inr (i.0, last_back front r rest i.0 i.1, i.2)

    -- a word with further items behind it was a table
    by_step : (left : ℕ) (t : T) (front : List Item) (r : Item) (rest : List Item) (j : Item) (u : Ask Need Item (End L)) (s : Lead L T) →
        d.step (suc left) t j ≡ s → Takes fits (d.had (suc left) t) front (done (Ok j)) →
        ((next : T) → Takes fits (levels d left next) (r ∷ rest) u → Way left next (r ∷ rest) u)
        → Takes fits (step_then (levels d left) s) (r ∷ rest) u →
        Way (suc left) t (front ++ r ∷ rest) u
    by_step left t front r rest j u (Down next) e h deeper w =
        way_below left t next front (r ∷ rest) j u h e (λ i l. last_back front r rest i l) (deeper next w)
    by_step left t front r rest j u (Reached l) e h deeper w = absurd w
    by_step left t front r rest j u (Stopped f) e h deeper w = absurd w

    -- the last level has no tables
    none_below : (t : T) (r : Item) (rest : List Item) (j : Item) (u : Ask Need Item (End L)) (s : Lead L T) →
        Takes {N = Need} fits (step_then (λ _. done (stops d.last)) s) (r ∷ rest) u → ⊥
    none_below t r rest j u (Down next) w = w
    none_below t r rest j u (Reached l) w = w
    none_below t r rest j u (Stopped f) w = w

    way_zero : (t : T) (a : Result Item Fault) (front rest : List Item) (u : Ask Need Item (End L)) → Takes fits (d.had 0 t) front (done a) →
        Takes fits (onward (λ _. done (stops d.last)) (d.step 0 t) a) rest u → Ends (front ++ rest) u → Way 0 t (front ++ rest) u
    way_zero t (Err f) front [] u h w c = absurd (not_fault 0 t f front u h w c)
    way_zero t (Err f) front (r ∷ rest) u h w c = absurd w
    way_zero t (Ok j) front [] u h w c = way_here 0 t front j u h w
    way_zero t (Ok j) front (r ∷ rest) u h w c = absurd (none_below t r rest j u (d.step 0 t j) w)

    way_suc : (left : ℕ) (t : T) (a : Result Item Fault) (front rest : List Item) (u : Ask Need Item (End L)) →
        ((next : T) (r : Item) (rest : List Item) → Takes fits (levels d left next) (r ∷ rest) u → Ends (r ∷ rest) u
        → Way left next (r ∷ rest) u) →
        Takes fits (d.had (suc left) t) front (done a) → Takes fits (onward (levels d left) (d.step (suc left) t) a) rest u → Ends (front ++ rest) u →
        Way (suc left) t (front ++ rest) u
    way_suc left t (Err f) front [] u deeper h w c = absurd (not_fault (suc left) t f front u h w c)
    way_suc left t (Err f) front (r ∷ rest) u deeper h w c = absurd w
    way_suc left t (Ok j) front [] u deeper h w c = way_here (suc left) t front j u h w
    way_suc left t (Ok j) front (r ∷ rest) u deeper h w c =
        by_step left t front r rest j u (d.step (suc left) t j) refl h (λ next v. deeper next r rest v (closes_rest front r rest u c)) w

    abbrev Second : ℕ → T → List Item → Ask Need Item (End L) → Type 0
    Second left t items u = InSecond fits (d.had left t) (onward (beneath d left) (d.step left t)) items u

    -- walks down the levels go in step, as far as the last word speaks
    pub way : (left : ℕ) (t : T) (items : List Item) (u : Ask Need Item (End L)) → Takes fits (levels d left t) items u → Ends items u
        → Way left t items u
    way zero t items u h c =
        elim (takes_after fits (d.had 0 t) (onward (λ _. done (stops d.last)) (d.step 0 t)) items u h) as (λ _. Way 0 t items u) [
          | inl w ↦ absurd (not_first 0 t _ items u w c)
          | inr w ↦ rw w.3 (way_zero t w.0 w.1 w.2 u w.4 w.5 (rw w.3 at c))
        ]
    way (suc left) t items u h c =
        elim (takes_after fits (d.had (suc left) t) (onward (levels d left) (d.step (suc left) t)) items u h) as (λ _. Way (suc left) t items u) [
          | inl w ↦ absurd (not_first (suc left) t _ items u w c)
          | inr w ↦ rw w.3 (way_suc left t w.0 w.1 w.2 u (λ next r rest v e. way left next (r ∷ rest) u v e) w.4 w.5 (rw w.3 at c))
        ]

    no_leaf_had : (left : ℕ) (t : T) (b : Ask Need Item (Result Item Fault)) (f : Item → Ask Need Item (End L)) (l : L)
        → ((i : Item) → b ≡ done (Ok i) → ⊥) →
        after b (go_on stops f) ≡ done (reaches l) → ⊥
    no_leaf_had left t (ask n k) f l w h = absurd cc
    no_leaf_had left t (done (Err d)) f l w h = absurd cc
    no_leaf_had left t (done (Ok i)) f l w h = w i refl

    -- no leaf without a word
    pub no_leaf : (left : ℕ) (t : T) (l : L) → beneath d left t ≡ done (reaches l) → ⊥
    no_leaf zero t l h = absurd cc
    no_leaf (suc left) t l h = no_leaf_had left t (d.had left t) (λ i. step_then (beneath d left) (d.step left t i)) l (λ i e. law.none left t i (sym e))
        (rw (levels_is d left t) at h)
