-- One chain of stage 2: by a leaf's row, behind a table's row, from the register, or refused.
use Rattle.std.proofs.Common.{◌≡◌, ℕ, zero, suc, ◌≤◌, Bool, true, false, cond, List, [], ◌∷◌}
use Rattle.std.proofs.Common.{refl, sym, ap, ◌∙◌, subst, append-nil, arith, ◌+◌, length}
use Rattle.std.proofs.lemmas.Bool.{both_ways}
use Rattle.geometry.specs.Tables.{most_left, left_below}
use Rattle.sysregs.specs.declared.regs.Config.{Config}
use Rattle.sysregs.specs.declared.regs.Side.{Side}
use Rattle.fault_codes.specs.declared.fault.Fault.{Fault}
use Rattle.fault_codes.specs.declared.fault.Class.TheVariants.{Translation, AddressSize}
use Rattle.fault_codes.specs.declared.fault.Stage.TheVariants.{S2}
use Rattle.trails.specs.declared.item.Item.{Item}
use Rattle.trails.specs.Lengths.{most_items2}
use Rattle.table_reads.specs.Places.{place_of, is_too_large}
use Rattle.walk_spec.specs.declared.leaf.Leaf2.{Leaf2}
use Rattle.walk_spec.specs.Ask.{Ask, done, ask, needs, ends, on}
use Rattle.walk_spec.specs.Needs.{Regime, regime_of, Need, stage2_base, word, WordNeed, fits}
use Rattle.walk_spec.specs.Steps.{End, stops, reaches, step_then}
use Rattle.walk_spec.specs.Stage2.{Asked2, fault2, step2, walk2, walk2_from, walk2_behind, is_refused2}
use Rattle.walk_spec.specs.Stage1.{asked2, stands2}
use Rattle.walk_laws.proofs.Places.{word_at}
use Rattle.walk_laws.proofs.Stage2.{Turn2, table, leaf, fault, turn2}
use Rattle.stage2_walk.specs.declared.walk.From2.{From2}
use Rattle.stage2_walk.specs.declared.replayed.Replay2.TheVariants.{Ended, More}
use Rattle.stage2_walk.specs.Standing.{NeedsOf}
use Rattle.stage2_walk.specs.Replayed.{IsReplayed2}
use Rattle.stage2_walk.proofs.Starts.{left_below_of}
use Rattle.walk_laws.proofs.Sound.{sound2}
use Rattle.walk_laws.proofs.Shifts.{of_fields}
use Rattle.tagged_tlb.specs.declared.row.Row.{Row}
use Rattle.machine_spec.specs.Served.{Supplied, gives, halts, clash, chain_by}
use Rattle.machine_laws.specs.Standing.{IsOn}
use Rattle.machine_laws.proofs.Trees.{chain}
use Rattle.machine_laws.proofs.Sides.{Twin, TwinOn, twin_on, twin_chain}
use Rattle.served_walk.specs.ServeAt.{fed, breaks, push_at, stop_at, goes_at, serve_at, behind}
use Rattle.served_walk.proofs.Serving.{serve_front}
use Rattle.served_walk.proofs.Ties.{ends_on, needs_on}

-- A ROW'S CHAIN

-- where a row's trail is supplied, the walk goes on behind it
serve_row : {A : Type 0} (r : Regime) (sup : Need → Supplied) (n : Need) (k : Item
    → Ask Need Item A) (row : Row) (i : Item) (rest : List Item) (u : Ask Need Item A) →
    sup n ≡ gives i rest (row ∷ []) → IsOn r (ask n k) (i ∷ rest) u → serve_at sup [] (ask n k) ≡ behind (i ∷ rest) (row ∷ [])
    (serve_at sup [] u)
serve_row r sup n k row i rest u e h =
    ap (λ s. goes_at s (λ i rest. serve_at sup rest (k i))) e
    ∙ ap (λ l. push_at i (row ∷ []) (serve_at sup l (k i))) (sym (append-nil rest))
    ∙ ap (push_at i (row ∷ [])) (serve_front r sup rest [] (k i) u h.1)

-- an IPA that is refused ends at once
refused_ends : (r : Regime) (b : Bool) (f : Fault) (t : Ask Need Item (End Leaf2)) (items : List Item) (l : Leaf2)
    → on (fits r) (cond b (done (stops f)) t) items ≡ ends (reaches l) [] → (b ≡ false) × (on (fits r) t items ≡ ends (reaches l) [])
refused_ends r true f t items l h = absurd cc
refused_ends r false f t items l h = (refl, h)

refused_needs : (r : Regime) (b : Bool) (f : Fault) (t : Ask Need Item (End Leaf2)) (items : List Item) (n : Need)
    → on (fits r) (cond b (done (stops f)) t) items ≡ needs n → (b ≡ false) × (on (fits r) t items ≡ needs n)
refused_needs r true f t items n h = absurd cc
refused_needs r false f t items n h = (refl, h)

accepted_is : (b : Bool) (f : Fault) (t : Ask Need Item (End Leaf2)) → b ≡ false → cond b (done (stops f)) t ≡ t
accepted_is true f t h = absurd (both_ways true h refl)
accepted_is false f t h = refl

-- the twin of a walk that is at a leaf is at this leaf
twin_leaf : (r r' : Regime) (l : Leaf2) (u : Ask Need Item (End Leaf2)) → Twin r r' (done (reaches l)) u → u ≡ done (reaches l)
twin_leaf r r' l (done (reaches m)) h = ap (λ k. done (reaches k)) h
twin_leaf r r' l (done (stops g)) h = absurd h
twin_leaf r r' l (ask n k) h = absurd h

module _ (c : Config) (s : Side) (p : Bool) (x : ℕ) (sup : Need → Supplied) where
  abbrev pub r : Regime
  r = regime_of c s

  abbrev pub q2 : Asked2
  q2 = asked2 r p x

  abbrev early : Fault
  early = fault2 (asked2 r false x) Translation most_left

  -- an IPA that is not refused
  pub chain_is : is_refused2 c x ≡ false → walk2 q2 ≡ chain r p x
  chain_is h = accepted_is (is_refused2 c x) (fault2 q2 Translation most_left) (chain r p x) h

  pub chain_leaf : (items : List Item) (l : Leaf2) → stands2 c s false x items ≡ ends (reaches l) []
      → (is_refused2 c x ≡ false) × IsOn r (chain r p x) items (done (reaches l))
  chain_leaf items l h =
      let d = refused_ends r (is_refused2 c x) early (chain r false x) items l h in
      let o : IsOn r (chain r false x) items (done (reaches l)) = ends_on r (chain r false x) items (reaches l) d.1 in
      let w : TwinOn r r (chain r false x) (chain r p x) (done (reaches l)) items = twin_on r r (chain r false x) (chain r p x) (done (reaches l)) items
      (twin_chain c s s false p x) o in
      (d.0, subst (IsOn r (chain r p x) items) (twin_leaf r r l w.left w.twin) w.on)

  leaf_by : (row : Row) (other : Supplied) (items : List Item) (l : Leaf2) → sup (stage2_base x) ≡ chain_by row other items
      → IsOn r (chain r p x) items (done (reaches l)) →
      serve_at sup [] (chain r p x) ≡ record { items = items; stop = fed (reaches l) []; by = row ∷ [] }
  leaf_by row other [] l e h = absurd cc
  leaf_by row other (i ∷ rest) l e h =
      serve_row r sup (stage2_base x) (λ i. walk2_behind q2 i.value) row i rest (done (reaches l)) e h
      ∙ ap (λ z. record { items = z; stop = fed (reaches l) []; by = row ∷ [] }) (append-nil (i ∷ rest))

  -- a leaf's row gives its chain, whatever mark s1ptw
  pub leaf2_served : (row : Row) (other : Supplied) (l : Leaf2) → sup (stage2_base x) ≡ chain_by row other row.trail
      → IsReplayed2 (Ended l) (stands2 c s false x row.trail) →
      serve_at sup [] (walk2 q2) ≡ record { items = row.trail; stop = fed (reaches l) []; by = row ∷ [] }
  leaf2_served row other l e h =
      let d = chain_leaf row.trail l h in
      ap (serve_at sup []) (chain_is d.0) ∙ leaf_by row other row.trail l e d.1

  -- THE TABLE THAT A CHAIN LEAVES

  fits_marked : (left place t : ℕ) (i : Item) → fits r (word_at S2 left place p x t) i ≡ fits r (word_at S2 left place false x t) i
  unfolding fits
  fits_marked left place t i = refl

  abbrev From : Bool → ℕ → ℕ → Ask Need Item (End Leaf2)
  From b left t = walk2_from (asked2 r b x) left t

  -- the walk needs a word, and it is the walk from the word's table, one level down for each item
  AtWord : ℕ → ℕ → List Item → WordNeed → Type 0
  AtWord left t items w = IsOn r (From p left t) items (From p w.left w.table) × (length items + w.left ≡ left)

  done_ask : (e : End Leaf2) (items : List Item) (n : Need) (k : Item → Ask Need Item (End Leaf2)) → IsOn r (done e) items (ask n k) → ⊥
  done_ask e [] n k h = absurd cc
  done_ask e (i ∷ items) n k h = h

  here : (left t : ℕ) (w : WordNeed) (k : Item → Ask Need Item (End Leaf2)) → ask (word w) k ≡ From false left t
      → (w.left ≡ left) × (w.table ≡ t)
  here zero t w k h = (let e : w
      ≡ record { stage = S2; left = 0; place = place_of r.stage2 0 t x; s1ptw = false; address = x; table = t } = cc in
      (ap (λ v. v.left) e, ap (λ v. v.table) e))
  here (suc left) t w k h = (let e : w
      ≡ record { stage = S2; left = suc left; place = place_of r.stage2 (suc left) t x; s1ptw = false; address = x; table = t } = cc in
      (ap (λ v. v.left) e, ap (λ v. v.table) e))

  at_here : (left t : ℕ) (w : WordNeed) (k : Item → Ask Need Item (End Leaf2)) → ask (word w) k ≡ From false left t → AtWord left t [] w
  unfolding AtWord
  at_here left t w k h =
      let e = here left t w k h in
      (ap (λ n. From p n w.table) e.0 ∙ ap (From p left) e.1, omega (arith, e.0))

  abbrev One : Bool → (ℕ → Ask Need Item (End Leaf2)) → ℕ → Item → Ask Need Item (End Leaf2)
  One b below left i = step_then below (step2 (asked2 r b x) left i.pa i.value)

  turn_word : (left : ℕ) (i : Item) (rest : List Item) (w : WordNeed) (k : Item → Ask Need Item (End Leaf2))
      (below below' : ℕ → Ask Need Item (End Leaf2)) (m : ℕ)
      → ((next : ℕ) → IsOn r (below next) rest (ask (word w) k)
      → IsOn r (below' next) rest (From p w.left w.table) × (length rest + 1 + w.left ≡ m))
      → Turn2 r left i → IsOn r (One false below left i) rest (ask (word w) k)
      → IsOn r (One p below' left i) rest (From p w.left w.table) × (length rest + 1 + w.left ≡ m)
  turn_word left i rest w k below below' m rec (table next a d) h = rw (d p x) (rec next (rw (d false x) at h))
  turn_word left i rest w k below below' m rec (leaf f n d) h = absurd
      (done_ask (reaches (Rattle.walk_spec.specs.Stage2.leaf2_of (asked2 r false x) left i.pa f)) rest (word w) k (rw (d false x) at h))
  turn_word left i rest w k below below' m rec (fault n d) h = absurd
      (done_ask (stops (fault2 (asked2 r false x) n left)) rest (word w) k (rw (d false x) at h))

  at_word : (left t : ℕ) (items : List Item) (w : WordNeed) (k : Item → Ask Need Item (End Leaf2)) → IsOn r (From false left t) items (ask (word w) k)
      → AtWord left t items w
  unfolding AtWord
  at_word left t [] w k h = at_here left t w k h
  at_word zero t (i ∷ rest) w k h =
      let d = turn_word 0 i rest w k (λ _. done (stops (fault2 (asked2 r false x) Translation 0))) (λ _. done (stops (fault2 q2 Translation 0))) 0
      (λ next o. absurd (done_ask _ rest (word w) k o)) (turn2 r 0 i) h.1 in
      ((fits_marked 0 (place_of r.stage2 0 t x) t i ∙ h.0, d.0), omega (arith, d.1))
  at_word (suc left) t (i ∷ rest) w k h =
      let d = turn_word (suc left) i rest w k (From false left) (From p left) (suc left)
      (λ next o. let z = at_word left next rest w k o in (z.0, omega (arith, z.1))) (turn2 r (suc left) i) h.1 in
      ((fits_marked (suc left) (place_of r.stage2 (suc left) t x) t i ∙ h.0, d.0), omega (arith, d.1))

  abbrev Behind : Bool → Bool → ℕ → Ask Need Item (End Leaf2)
  Behind big b base = cond big (done (stops (fault2 (asked2 r b x) AddressSize most_left))) (From b r.stage2.start base)

  behind_word : (big : Bool) (base : ℕ) (items : List Item) (w : WordNeed) (k : Item → Ask Need Item (End Leaf2))
      → IsOn r (Behind big false base) items (ask (word w) k) → IsOn r (Behind big p base) items (From p w.left w.table)
      × (length items + w.left ≡ r.stage2.start)
  unfolding AtWord
  behind_word true base items w k h = absurd (done_ask _ items (word w) k h)
  behind_word false base items w k h = at_word r.stage2.start base items w k h

  base_fits : (i : Item) → fits r (stage2_base x) i ≡ fits r (stage2_base x) i
  base_fits i = refl

  -- a chain that needs a word has taken items, and is the walk from the word's table
  chain_word : (items : List Item) (w : WordNeed) (k : Item → Ask Need Item (End Leaf2)) → IsOn r (chain r false x) items (ask (word w) k)
      → IsOn r (chain r p x) items (From p w.left w.table) × (length items + w.left ≡ r.stage2.start + 1)
  chain_word [] w k h = absurd cc
  chain_word (i ∷ rest) w k h =
      let d = behind_word (is_too_large r.stage2 i.value) i.value rest w k h.1 in
      ((h.0, d.0), omega (arith, d.1))

  some_items : (items : List Item) (w : WordNeed) (k : Item → Ask Need Item (End Leaf2)) → IsOn r (chain r false x) items (ask (word w) k)
      → 1 ≤ length items
  some_items [] w k h = absurd cc
  some_items (i ∷ rest) w k h = omega arith

  pub chain_table : (items : List Item) (from : From2) → NeedsOf from (stands2 c s false x items)
      → (is_refused2 c x ≡ false) × IsOn r (chain r p x) items (From p (left_below from.level) from.base)
      × (length items + left_below from.level + 1 ≤ most_items2)
  chain_table items from n =
      let w : WordNeed = n.0 in
      let d = refused_needs r (is_refused2 c x) early (chain r false x) items (word w) n.1 in
      let o = needs_on r (chain r false x) items (word w) d.1 in
      let a = chain_word items w o.0 o.1 in
      let most : r.stage2.start ≤ most_left = (sound2 r x (of_fields c s) d.0).0.start in
      let few : w.left ≤ most_left = omega (arith, a.1, most, some_items items w o.0 o.1) in
      let level : left_below from.level ≡ w.left = ap (λ f. left_below f.level) n.2 ∙ left_below_of w.left few in
      let base : from.base ≡ w.table = ap (λ f. f.base) n.2 in (
        d.0,
        subst (λ l. IsOn r (chain r p x) items (From p l from.base)) (sym level)
            (subst (λ b. IsOn r (chain r p x) items (From p w.left b)) (sym base) a.0),
        omega (arith, a.1, most, level),
      )

  -- it isn't empty, since a chain needs the base first
  table_by : (row : Row) (other : Supplied) (items : List Item) (left t : ℕ) (n : WordNeed) → stands2 c s false x items ≡ needs (word n)
      → sup (stage2_base x) ≡ chain_by row other items → IsOn r (chain r p x) items (From p left t) → is_refused2 c x ≡ false →
      serve_at sup [] (chain r p x) ≡ behind items (row ∷ []) (serve_at sup [] (From p left t))
  table_by row other [] left t n z e h ok = (let q = refused_needs r (is_refused2 c x) early (chain r false x) [] (word n) z in absurd cc)
  table_by row other (i ∷ rest) left t n z e h ok = serve_row r sup (stage2_base x) (λ i. walk2_behind q2 i.value) row i rest (From p left t) e h

  -- behind a table's row the walk goes on from its table, whatever mark s1ptw
  pub table2_served : (row : Row) (other : Supplied) (from : From2) → sup (stage2_base x) ≡ chain_by row other row.trail
      → IsReplayed2 (More from) (stands2 c s false x row.trail) →
      serve_at sup [] (walk2 q2) ≡ behind row.trail (row ∷ []) (serve_at sup [] (walk2_from q2 (left_below from.level) from.base))
  table2_served row other from e h =
      let d = chain_table row.trail from h in
      ap (serve_at sup []) (chain_is d.0) ∙ table_by row other row.trail (left_below from.level) from.base h.0 h.1 e d.1 d.0

  -- there is room behind its chain for the words below
  pub table2_room : (items : List Item) (from : From2) → IsReplayed2 (More from) (stands2 c s false x items)
      → length items + left_below from.level + 1 ≤ most_items2
  table2_room items from h = (chain_table items from h).2

  -- where two leaves match, they are what is served
  pub both_served : (one two : List Item) → is_refused2 c x ≡ false → sup (stage2_base x) ≡ halts (clash one two)
      → serve_at sup [] (walk2 q2) ≡ stop_at (breaks (clash one two))
  both_served one two ok e = ap (serve_at sup []) (chain_is ok) ∙ ap (λ s. goes_at s (λ i rest. serve_at sup rest (walk2_behind q2 i.value))) e

  -- where no row matches, the register gives the base
  pub base_served : (i : Item) → is_refused2 c x ≡ false → sup (stage2_base x) ≡ gives i [] []
      → serve_at sup [] (walk2 q2) ≡ behind (i ∷ []) [] (serve_at sup [] (walk2_behind q2 i.value))
  base_served i ok e = ap (serve_at sup []) (chain_is ok) ∙ ap (λ s. goes_at s (λ i rest. serve_at sup rest (walk2_behind q2 i.value))) e
