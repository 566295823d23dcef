-- Chains, words and both stages, each put together of what was served.
use Rattle.std.proofs.Common.{◌≡◌, ℕ, Bool, true, false, cond, List, [], ◌∷◌, ◌++◌, length, refl, sym}
use Rattle.std.proofs.Common.{ap, ◌∙◌, subst, append_assoc, append-nil, Ok, Err, Result}
use Rattle.geometry.specs.Tables.{most_left, level_of}
use Rattle.sysregs.specs.declared.regs.Config.{Config}
use Rattle.sysregs.specs.declared.regs.Side.{Side}
use Rattle.fault_codes.specs.declared.fault.Fault.{Fault}
use Rattle.fault_codes.specs.declared.fault.Class.TheVariants.{Translation}
use Rattle.fault_codes.specs.declared.fault.Stage.TheVariants.{S1}
use Rattle.trails.specs.declared.item.Item.{Item}
use Rattle.trails.specs.declared.outcome.Stop.{Stop}
use Rattle.trails.specs.declared.outcome.Stop.TheVariants.{Fault as FaultStop, Absent, Conflict}
use Rattle.walk_spec.specs.declared.entry.Entry1.{Entry1}
use Rattle.walk_spec.specs.declared.leaf.Leaf2.{Leaf2}
use Rattle.walk_spec.specs.Ask.{Ask, done, after, lacks}
use Rattle.walk_spec.specs.Needs.{Regime, regime_of, Need, stage2_base, word}
use Rattle.walk_spec.specs.Steps.{End, stops, reaches}
use Rattle.walk_spec.specs.Stage2.{fault2, walk2, walk2_from, walk2_behind, is_refused2}
use Rattle.walk_spec.specs.Stage1.{asked2, is_readable, read1, read1_by, word_of, stands2}
use Rattle.stage1_walk.specs.Kept.{needed1}
use Rattle.geometry.specs.Tables.{left_below}
use Rattle.stage2_walk.specs.declared.walk.From2.{From2}
use Rattle.stage2_walk.specs.declared.replayed.Replay2.TheVariants.{Ended, More}
use Rattle.stage2_walk.specs.Replayed.{IsReplayed2}
use Rattle.tagged_tlb.specs.declared.row.Row.{Row}
use Rattle.machine_spec.specs.Served.{Supplied, gives, halts, came, clash, chain_by}
use Rattle.translate.specs.Parts.{unreadable}
use Rattle.served_walk.specs.ServeAt.{StopAt, fed, breaks, ReplyAt, goes_at, serve_at, behind, then_at}
use Rattle.served_walk.specs.ServedWord.{Second, first_chain, shown, TellsWord, TellsLeaf, WasServed, WordServed}
use Rattle.served_walk.proofs.Serving.{serve_after}
use Rattle.served_walk.proofs.Chains.{leaf2_served, table2_served, both_served, base_served}

module _ {L : Type 0} (sup : Need → Supplied) where
  -- a reply that is known
  pub was : (t : Ask Need Item (End L)) (y : ReplyAt (End L)) (two : Second) (r : Result L Stop) → serve_at sup [] t ≡ y → TellsLeaf r two y.stop
      → WasServed sup t (shown y) y.by two r
  was t y two r e h = subst (λ z. WasServed sup t (shown z) z.by two r) e
      (record { items_are = refl; by_is = refl; told = subst (λ z. TellsLeaf r two z.stop) (sym e) h })

  -- behind items and rows
  pub was_behind : (t u : Ask Need Item (End L)) (items more : List Item) (rows by : List Row) (two : Second) (r : Result L Stop)
      → serve_at sup [] t ≡ behind items rows (serve_at sup [] u) → WasServed sup u more by two r → WasServed sup t (items ++ more) (rows ++ by) two r
  was_behind t u items more rows by two r e w =
      let y = serve_at sup [] u in
      record {
        items_are = ap (λ l. items ++ l) w.items_are ∙ sym (append_assoc items y.items (first_chain y.stop)) ∙ ap shown (sym e);
        by_is = ap (λ l. rows ++ l) w.by_is ∙ ap (λ z. z.by) (sym e);
        told = subst (λ z. TellsLeaf r two z.stop) (sym e) w.told;
      }

  pub was_fault : (f : Fault) (two : Second) → WasServed {L = L} sup (done (stops f)) [] [] two (Err (FaultStop f))
  was_fault f two = record { items_are = refl; by_is = refl; told = (refl, refl) }

  -- a walk that reached its leaf goes on behind it
  pub goes_leaf : {A : Type 0} (t : Ask Need Item (End L)) (f : End L → Ask Need Item A) (items : List Item) (rows : List Row) (two : Second) (l : L)
      → WasServed sup t items rows two (Ok l) → serve_at sup [] (after t f) ≡ behind items rows (serve_at sup [] (f (reaches l)))
  goes_leaf t f items rows two l w =
      let y = serve_at sup [] t in
      let i : y.items ≡ items = sym (w.items_are ∙ ap (λ s. y.items ++ first_chain s) w.told ∙ append-nil y.items) in
      serve_after sup [] t f
      ∙ ap (λ s. Rattle.served_walk.specs.ServeAt.then_stop y.items y.by s (λ a left. serve_at sup left (f a))) w.told
      ∙ ap (λ z. behind z y.by (serve_at sup [] (f (reaches l)))) i
      ∙ ap (λ z. behind items z (serve_at sup [] (f (reaches l)))) (sym w.by_is)

-- ONE CHAIN

module _ (c : Config) (s : Side) (p : Bool) (x : ℕ) (sup : Need → Supplied) where
  abbrev Chain : Ask Need Item (End Leaf2)
  Chain = walk2 (asked2 (regime_of c s) p x)

  refused_is : (b : Bool) (f : Fault) (t : Ask Need Item (End Leaf2)) → b ≡ true → cond b (done (stops f)) t ≡ done (stops f)
  refused_is true f t h = refl
  refused_is false f t h = absurd cc

  pub chain_refused : (two : Second) → is_refused2 c x ≡ true
      → WasServed sup Chain [] [] two (Err (FaultStop (fault2 (asked2 (regime_of c s) p x) Translation most_left)))
  chain_refused two h =
      let f = fault2 (asked2 (regime_of c s) p x) Translation most_left in
      subst (λ t. WasServed sup t [] [] two (Err (FaultStop f))) (sym (refused_is (is_refused2 c x) f _ h)) (was_fault sup f two)

  pub chain_hit : (row : Row) (other : Supplied) (l : Leaf2) (two : Second) → sup (stage2_base x) ≡ chain_by row other row.trail
      → IsReplayed2 (Ended l) (stands2 c s false x row.trail) → WasServed sup Chain row.trail (row ∷ []) two (Ok l)
  chain_hit row other l two e h =
      subst (λ z. WasServed sup Chain z (row ∷ []) two (Ok l)) (append-nil row.trail)
      (was sup Chain record { items = row.trail; stop = fed (reaches l) []; by = row ∷ [] } two (Ok l) (leaf2_served c s p x sup row other l e h) refl)

  pub chain_twice : (one other : List Item) (two : Second) → is_refused2 c x ≡ false → sup (stage2_base x) ≡ halts (clash one other)
      → two.chain ≡ other
      → two.instead ≡ length one → WasServed sup Chain one [] two (Err Conflict)
  chain_twice one other two ok e t n = was sup Chain record { items = []; stop = breaks (clash one other); by = [] } two (Err Conflict)
      (both_served c s p x sup one other ok e) (refl, t, n)

  pub chain_below : (row : Row) (other : Supplied) (from : From2) (items : List Item) (rows : List Row) (two : Second) (r : Result Leaf2 Stop)
      → sup (stage2_base x) ≡ chain_by row other row.trail → IsReplayed2 (More from) (stands2 c s false x row.trail) →
      WasServed sup (walk2_from (asked2 (regime_of c s) p x) (left_below from.level) from.base) items rows two r
      → WasServed sup Chain (row.trail ++ items) (row ∷ rows) two r
  chain_below row other from items rows two r e h w =
      was_behind sup Chain (walk2_from (asked2 (regime_of c s) p x) (left_below from.level) from.base) row.trail items (row ∷ []) rows two r
      (table2_served c s p x sup row other from e h) w

  pub chain_base : (i : Item) (items : List Item) (rows : List Row) (two : Second) (r : Result Leaf2 Stop) → is_refused2 c x ≡ false
      → sup (stage2_base x) ≡ gives i [] [] →
      WasServed sup (walk2_behind (asked2 (regime_of c s) p x) i.value) items rows two r → WasServed sup Chain (i ∷ items) rows two r
  chain_base i items rows two r ok e w = was_behind sup Chain (walk2_behind (asked2 (regime_of c s) p x) i.value) (i ∷ []) items [] rows two r
      (base_served c s p x sup i ok e) w

-- ONE WORD

module _ (r : Regime) (e : Entry1) (sup : Need → Supplied) where
  abbrev Place2 : Ask Need Item (End Leaf2)
  Place2 = walk2 (asked2 r true e.place)

  abbrev Read : End Leaf2 → Ask Need Item (Result Item Fault)
  Read = read1_by r.config e

  vm_on : (b : Bool) (t u : Ask Need Item (Result Item Fault)) → b ≡ true → cond b t u ≡ t
  vm_on true t u h = refl
  vm_on false t u h = absurd cc

  vm_off : (b : Bool) (t u : Ask Need Item (Result Item Fault)) → b ≡ false → cond b t u ≡ u
  vm_off true t u h = absurd cc
  vm_off false t u h = refl

  abbrev Need1 : ℕ → Need
  Need1 p = word (needed1 e p)

  abbrev Ready : Item → Ask Need Item (Result Item Fault)
  Ready i = done (Ok i)

  read_had : (p : ℕ) (i : Item) → sup (Need1 p) ≡ gives i [] [] → serve_at sup [] (read1 e p) ≡ record {
    items = i ∷ [];
    stop = fed (Ok i) [];
    by = [];
  }
  read_had p i h = ap (λ s. goes_at s (λ i rest. serve_at sup rest (Ready i))) h

  read_none : (p : ℕ) → sup (Need1 p) ≡ halts (came (lacks (Need1 p)))
      → serve_at sup [] (read1 e p) ≡ record { items = []; stop = breaks (came (lacks (Need1 p))); by = [] }
  read_none p h = ap (λ s. goes_at s (λ i rest. serve_at sup rest (Ready i))) h

  abbrev Lacks : ℕ → Stop
  Lacks p = Absent S1 (level_of e.left) p false

  -- with stage 2 off
  pub flat_had : (i : Item) (two : Second) → r.config.vm ≡ false → sup (Need1 e.place) ≡ gives i [] []
      → WordServed sup (word_of r e) (i ∷ []) [] two (Ok i.value)
  flat_had i two v h = ([], i, refl, refl, ap (serve_at sup []) (vm_off r.config.vm _ _ v) ∙ read_had e.place i h)

  pub flat_none : (two : Second) → r.config.vm ≡ false → sup (Need1 e.place) ≡ halts (came (lacks (Need1 e.place)))
      → WordServed sup (word_of r e) [] [] two (Err (Lacks e.place))
  flat_none two v h =
      let q : serve_at sup [] (word_of r e)
      ≡ record { items = []; stop = breaks (came (lacks (Need1 e.place))); by = [] } = ap (serve_at sup []) (vm_off r.config.vm _ _ v)
      ∙ read_none e.place h in
      (sym (ap shown q), sym (ap (λ y. y.by) q), subst (λ y. TellsWord (Lacks e.place) two y.stop) (sym q) refl)

  module _ (v : r.config.vm ≡ true) (items : List Item) (rows : List Row) (two : Second) where
    word_is : word_of r e ≡ after Place2 Read
    word_is = vm_on r.config.vm _ _ v

    module _ (l : Leaf2) (w : WasServed sup Place2 items rows two (Ok l)) where
      behind_leaf : serve_at sup [] (word_of r e) ≡ behind items rows (serve_at sup [] (Read (reaches l)))
      behind_leaf = ap (serve_at sup []) word_is ∙ goes_leaf sup Place2 Read items rows two l w

      read_is : is_readable r.config l ≡ true → Read (reaches l) ≡ read1 e l.pa
      read_is h = vm_on (is_readable r.config l) _ _ h

      -- the word was read
      pub deep_had : (i : Item) → is_readable r.config l ≡ true → sup (Need1 l.pa) ≡ gives i [] []
          → WordServed sup (word_of r e) (items ++ i ∷ []) rows two (Ok i.value)
      deep_had i d h = (
        items,
        i,
        refl,
        refl,
        behind_leaf ∙ ap (λ t. behind items rows (serve_at sup [] t)) (read_is d) ∙ ap (behind items rows) (read_had l.pa i h)
            ∙ ap (λ b. record { items = items ++ i ∷ []; stop = fed (Ok i) []; by = b }) (append-nil rows),
      )

      stopped_at : (x : Stop) (y : StopAt (Result Item Fault)) → serve_at sup [] (Read (reaches l)) ≡ record { items = []; stop = y; by = [] }
          → first_chain y ≡ [] → TellsWord x two y → WordServed sup (word_of r e) items rows two (Err x)
      stopped_at x y h f t =
          let q : serve_at sup [] (word_of r e) ≡ record { items = items ++ []; stop = y; by = rows ++ [] } = behind_leaf ∙ ap (behind items rows) h in (
            sym (ap shown q ∙ ap (λ z. (items ++ []) ++ z) f ∙ append-nil (items ++ []) ∙ append-nil items),
            sym (ap (λ y. y.by) q ∙ append-nil rows),
            subst (λ z. TellsWord x two z.stop) (sym q) t,
          )

      -- memory lacks it
      pub deep_none : is_readable r.config l ≡ true → sup (Need1 l.pa) ≡ halts (came (lacks (Need1 l.pa)))
          → WordServed sup (word_of r e) items rows two (Err (Lacks l.pa))
      deep_none d h = stopped_at (Lacks l.pa) (breaks (came (lacks (Need1 l.pa)))) (ap (serve_at sup []) (read_is d) ∙ read_none l.pa h) refl refl

      -- stage 2 doesn't let it be read
      pub deep_denied : is_readable r.config l ≡ false → WordServed sup (word_of r e) items rows two (Err (FaultStop (unreadable l)))
      deep_denied d = stopped_at (FaultStop (unreadable l)) (fed (Err (unreadable l)) [])
          (ap (serve_at sup []) (vm_off (is_readable r.config l) _ _ d)) refl (refl, refl)

    stop_word : (x : Stop) (xs : List Item) (by : List Row) (y : StopAt (End Leaf2)) → TellsLeaf {L = Leaf2} (Err x) two y →
        let z = then_at record { items = xs; stop = y; by = by } (λ a left. serve_at sup left (Read a)) in (shown z ≡ xs ++ first_chain y) × (z.by ≡ by)
        × TellsWord x two z.stop
    stop_word x xs by (fed (reaches l) left) h = absurd h
    stop_word x xs by (fed (stops f) left) h = (ap (λ l. l ++ []) (append-nil xs), append-nil by, h)
    stop_word x xs by (breaks q) h = (refl, refl, h)

    -- stage 2 of its place stopped
    pub deep_stop : (x : Stop) → WasServed sup Place2 items rows two (Err x) → WordServed sup (word_of r e) items rows two (Err x)
    deep_stop x w =
        let y = serve_at sup [] Place2 in
        let d = stop_word x y.items y.by y.stop w.told in
        let q : serve_at sup [] (word_of r e) ≡ then_at y (λ a left. serve_at sup left (Read a)) = ap (serve_at sup []) word_is
        ∙ serve_after sup [] Place2 Read in
        (w.items_are ∙ sym d.0 ∙ ap shown (sym q), w.by_is ∙ sym d.1 ∙ ap (λ z. z.by) (sym q), subst (λ z. TellsWord x two z.stop) (sym q) d.2)
