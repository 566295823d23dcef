-- What rows and memory serve an access stands on its walk, up to the end to which the service came.
use Rattle.std.proofs.Common.{◌≡◌, ℕ, ◌≤◌, Bool, true, false, not, cond, List, [], ◌∷◌}
use Rattle.std.proofs.Common.{length, take, refl, sym, ap, ◌∙◌, subst, inl, inr}
use Rattle.std.specs.Prelude.{◌&&◌, ◌⊎◌, All, Option, Some, None}
use Rattle.std.proofs.lemmas.Bool.{and_parts}
use Rattle.std.proofs.lemmas.List.Elements.{All-nil, All-cons}
use Rattle.geometry.specs.Tables.{level_of}
use Rattle.sysregs.specs.declared.regs.Config.{Config}
use Rattle.sysregs.specs.Registers.{config_of}
use Rattle.sysregs.specs.Sides.{side_of}
use Rattle.trails.specs.declared.item.Item.{Item}
use Rattle.trails.specs.declared.item.What.TheVariants.{Base as ABase}
use Rattle.trails.specs.declared.outcome.Access.{Access}
use Rattle.trails.specs.declared.outcome.Outcome.{Outcome}
use Rattle.trails.specs.Lengths.{most_items2}
use Rattle.walk_spec.specs.declared.leaf.Leaf2.{Leaf2}
use Rattle.walk_spec.specs.Ask.{Ask, done, ask, on, bad, ends, needs, Fed, ended, lacks}
use Rattle.walk_spec.specs.Needs.{Regime, Need, stage1_base, stage2_base, word, WordNeed, fits}
use Rattle.walk_spec.specs.Steps.{End, stops, reaches}
use Rattle.walk_spec.specs.Stage1.{stands2, untagged}
use Rattle.walk_spec.specs.Stage2.{is_refused2}
use Rattle.walk_spec.specs.BothStages.{Landing, is_refused1, walk}
use Rattle.walk_spec.specs.Fresh.{given, fed_outcome}
use Rattle.machine_spec.specs.Allowed.{is_conflict}
use Rattle.translate.specs.Replayed.{stands_whole, EndsOn, NeedsMore}
use Rattle.tagged_tlb.specs.declared.row.Kind.{Kind}
use Rattle.tagged_tlb.specs.declared.row.Kind.TheVariants.{Leaf1, Table1, Leaf2 as OfLeaf2, Table2 as OfTable2}
use Rattle.tagged_tlb.specs.declared.row.Row.{Row}
use Rattle.tagged_tlb.specs.Rows.{matches, matches1, matching, deepest}
use Rattle.machine_spec.specs.Made.{key_of}
use Rattle.machine_spec.specs.Served.{Place, Reply, came, Supplied, gives, halts, supplied_by, chain_by, begun2, chain_of}
use Rattle.machine_spec.specs.Served.{supply, fresh_of, served, serve, taken, begun1, combined}
use Rattle.machine_laws.specs.Leaving.{In}
use Rattle.machine_laws.specs.MayServe.{MayServe}
use Rattle.machine_laws.specs.Standing.{IsOn}
use Rattle.machine_laws.proofs.Found.{In-matching, In-deepest, Match, matched, matched1}
use Rattle.served_walk.specs.CanServe.{AreServable, ServesAs}
use Rattle.served_walk.specs.ServeAt.{StopAt, fed, breaks, serve_at, halt_of}
use Rattle.served_walk.proofs.Serving.{serve_is}
use Rattle.served_walk.proofs.Ties.{needs_on, front_ended, taken_ends, ended_is}
use Rattle.served_walk.proofs.Chains.{chain_leaf, chain_table}
use Rattle.served_walk.proofs.Fitting.{OnStop, ChainsFit, ChainsStand, chains_fit, served_on, rg}
use Rattle.made_rows.specs.Sized.{is_sized}
use Rattle.made_rows.specs.NewRows.{StandsTo, AreKnown, regime_for, MadeFor}
use Rattle.made_rows.proofs.Combining.{trail_known}

-- FROM TREES TO STANDING

module _ {A : Type 0} (r : Regime) where
  on_ends : (t : Ask Need Item A) (items : List Item) (e : A) → IsOn r t items (done e) → on (fits r) t items ≡ ends e []
  on_ends (done b) [] e h = (let q : b ≡ e = cc in ap (λ z. ends z []) q)
  on_ends (done b) (i ∷ items) e h = absurd h
  on_ends (ask n k) [] e h = absurd cc
  on_ends (ask n k) (i ∷ items) e h = ap (λ b. cond b (on (fits r) (k i) items) bad) h.0 ∙ on_ends (k i) items e h.1

  on_needs : (t : Ask Need Item A) (items : List Item) (n : Need) (k : Item → Ask Need Item A) → IsOn r t items (ask n k)
      → on (fits r) t items ≡ needs n
  on_needs (done b) [] n k h = absurd cc
  on_needs (done b) (i ∷ items) n k h = absurd h
  on_needs (ask m j) [] n k h = (let q : m ≡ n = cc in ap needs q)
  on_needs (ask m j) (i ∷ items) n k h = ap (λ b. cond b (on (fits r) (j i) items) bad) h.0 ∙ on_needs (j i) items n k h.1

-- the access doesn't come out as a conflict
abbrev pub IsAlone : Fed Need (End Landing) → Type 0
IsAlone end = is_conflict (fed_outcome end) ≡ false

ended_alone : (e : End Landing) → IsAlone (ended e)
ended_alone (stops f) = refl
ended_alone (reaches l) = refl

-- WANT OF AN ITEM

module _ (n : Need) (end : Fed Need (End Landing)) where
  abbrev Lacks : Supplied → Type 0
  Lacks s = s ≡ halts (came end) → end ≡ lacks n

  lacks_given : (o : Option Item) → Lacks (supplied_by n o)
  lacks_given None h = cc
  lacks_given (Some i) h = absurd cc

  module _ (other : Supplied) (rest : Lacks other) where
    lacks_chain : (r : Row) (items : List Item) → Lacks (chain_by r other items)
    lacks_chain r [] h = rest h
    lacks_chain r (i ∷ items) h = absurd cc

    lacks_begun : (t : Option Row) → Lacks (begun2 other t)
    lacks_begun None h = rest h
    lacks_begun (Some r) h = lacks_chain r r.trail h

    lacks_chain_of : (leaves : List Row) (t : Option Row) → Lacks (chain_of other leaves t)
    lacks_chain_of [] t h = lacks_begun t h
    lacks_chain_of (r ∷ []) t h = lacks_chain r r.trail h
    lacks_chain_of (r ∷ s ∷ more) t h = absurd cc

-- what is given is no want
module _ (end : Fed Need (End Landing)) (i : Item) (items : List Item) (by : List Row) where
  abbrev Never : Supplied → Type 0
  Never s = s ≡ halts (came end) → ⊥

  never_chain : (r : Row) (trail : List Item) → Never (chain_by r (gives i items by) trail)
  never_chain r [] h = absurd cc
  never_chain r (j ∷ trail) h = absurd cc

  never_begun : (t : Option Row) → Never (begun2 (gives i items by) t)
  never_begun None h = absurd cc
  never_begun (Some r) h = never_chain r r.trail h

  never_chain_of : (leaves : List Row) (t : Option Row) → Never (chain_of (gives i items by) leaves t)
  never_chain_of [] t h = never_begun t h
  never_chain_of (r ∷ []) t h = never_chain r r.trail h
  never_chain_of (r ∷ s ∷ more) t h = absurd cc

module _ (p : Place) (a : Access) where
  abbrev c : Config
  c = config_of p.regs

  abbrev R : Regime
  R = rg p a

  abbrev sup : Need → Supplied
  sup = supply p a

  abbrev W : Ask Need Item (End Landing)
  W = walk c true a

  lacks_now : (n : Need) (end : Fed Need (End Landing)) → Lacks n end (fresh_of p a n)
  lacks_now n end = lacks_given n end (given p.regs (side_of a.va) p.memory p.step n)

  lacks_is : (n : Need) (end : Fed Need (End Landing)) → Lacks n end (sup n)
  lacks_is stage1_base end = lacks_now stage1_base end
  lacks_is (stage2_base x) end =
      lacks_chain_of (stage2_base x) end (fresh_of p a (stage2_base x)) (lacks_now (stage2_base x) end)
      (matching (matches OfLeaf2 (key_of p.regs) x) p.rows) (deepest (matches OfTable2 (key_of p.regs) x) p.rows)
  lacks_is (word w) end = lacks_now (word w) end

  -- memory alone lacks anything, and that is a word
  alone_is : (n : Need) (end : Fed Need (End Landing)) → sup n ≡ halts (came end) → IsAlone end
  alone_is stage1_base end h = absurd cc
  alone_is (stage2_base x) end h =
      absurd (never_chain_of end _ [] [] (matching (matches OfLeaf2 (key_of p.regs) x) p.rows)
      (deepest (matches OfTable2 (key_of p.regs) x) p.rows) h)
  alone_is (word w) end h = subst IsAlone (sym (lacks_is (word w) end h)) refl

  abbrev Stands : List Item → Fed Need (End Landing) → Type 0
  Stands items end = StandsTo (stands_whole c a items) end × IsAlone end

  stop_stands : (items : List Item) (s : StopAt (End Landing)) (end : Fed Need (End Landing)) → OnStop R sup W items s → halt_of s ≡ came end
      → Stands items end
  stop_stands items (fed e left) end h q = (let z : ended e ≡ end = cc in subst (Stands items) z (on_ends R W items e h.0, ended_alone e))
  stop_stands items (breaks halt) end h q =
      let z : end ≡ lacks h.0 = lacks_is h.0 end (h.3 ∙ ap halts q) in
      (subst (StandsTo (stands_whole c a items)) (sym z) (on_needs R W items h.0 h.1 h.2), alone_is h.0 end (h.3 ∙ ap halts q))

  -- WHAT IS SERVED

  abbrev Stood : Reply → Type 0
  Stood y = (end : Fed Need (End Landing)) → y.halt ≡ came end → Stands y.items end

  module _ (can : AreServable p.step p.rows) where
    chains_stand : (s1ptw : Bool) (x : ℕ) → is_refused2 c x ≡ false
        → ChainsStand p a s1ptw x (matching (matches OfLeaf2 (key_of p.regs) x) p.rows) (deepest (matches OfTable2 (key_of p.regs) x) p.rows)
    chains_stand s1ptw x ok = record {
      leaf = λ r e.
          let i = In-matching (matches OfLeaf2 (key_of p.regs) x) p.rows r (subst (In r) (sym e) (inl refl)) in
          let d = matched OfLeaf2 (key_of p.regs) x r i.1 in
          let g : ServesAs r OfLeaf2 = subst (ServesAs r) d.kind_is (can.serves r i.0) in
          let s = subst (λ z. is_refused2 z x ≡ false → ((l : Leaf2) × (stands2 z (side_of a.va) false x r.trail ≡ ends (reaches l) []))
          × (length r.trail ≤ most_items2)) d.config (g (side_of a.va) x d.held) ok in
          let o = chain_leaf c (side_of a.va) s1ptw x sup r.trail s.0.0 s.0.1 in
          (done (reaches s.0.0), o.1);
      below = λ r e.
          let i = In-deepest (matches OfTable2 (key_of p.regs) x) p.rows r e in
          let d = matched OfTable2 (key_of p.regs) x r i.1 in
          let g : ServesAs r OfTable2 = subst (ServesAs r) d.kind_is (can.serves r i.0) in
          let s = subst (λ z. is_refused2 z x ≡ false → ((w : WordNeed) × (stands2 z (side_of a.va) false x r.trail ≡ needs (word w)))
          × (length r.trail ≤ most_items2)) d.config (g (side_of a.va) x d.held) ok in
          let o = chain_table c (side_of a.va) s1ptw x sup r.trail record { level = level_of s.0.0.left; base = s.0.0.table } (s.0.0, s.0.1, refl) in
          (_, o.1);
    }

    chains : ChainsFit p a
    chains = chains_fit p a chains_stand

    serve_stood : (queue : List Item) (u : Ask Need Item (End Landing)) → IsOn R W queue u → Stood (serve sup queue W)
    serve_stood queue u h =
        let y = serve_at sup queue W in
        subst Stood (sym (serve_is sup queue W)) (λ end q. stop_stands y.items y.stop end (served_on p a chains queue u h) q)

    ended_stood : (items : List Item) (e : End Landing) (y : Reply) → IsOn R W items (done e)
        → y ≡ record { items = items; halt = came (ended e); by = [] } → Stood y
    ended_stood items e y o h =
        subst Stood (sym h) (λ end q. (let z : ended e ≡ end = cc in subst (Stands items) z (on_ends R W items e o, ended_alone e)))

    module _ (on1 : c.m ≡ true) (ok : is_refused1 c a ≡ false) where
      may : (kind : Kind) (r : Row) → Match kind (key_of p.regs) (untagged a.va) r → MayServe r a
      may kind r d = record {
        held = d.held;
        on = ap (λ u. u.m) d.config ∙ on1;
        accepted = ap (λ u. is_refused1 u a) d.config ∙ ok;
      }

      hit_stood : (r : Row) → In r p.rows → matches1 Leaf1 (key_of p.regs) (untagged a.va) r ≡ true → Stood (taken r.trail W)
      hit_stood r i t =
          let d = (matched1 Leaf1 (key_of p.regs) (untagged a.va) r t).0 in
          let g : ServesAs r Leaf1 = subst (ServesAs r) d.kind_is (can.serves r i) in
          let e : (len : ℕ) × (o : Outcome) × EndsOn c a r.trail len o = subst (λ u. (len : ℕ) × (o : Outcome) × EndsOn u a r.trail len o) d.config
          (g a (may Leaf1 r d)).0 in
          ended_stood (take e.0 r.trail) e.2.0 (taken r.trail W) (front_ended c a r.trail e.0 e.1 e.2) (taken_ends c a r.trail e.0 e.1 e.2)

      table_by : (r : Row) → ((len : ℕ) × (o : Outcome) × EndsOn c a r.trail len o) ⊎ NeedsMore c a r.trail → Stood (serve sup r.trail W)
      table_by r (inl e) =
          ended_stood (take e.0 r.trail) e.2.0 (serve sup r.trail W) (front_ended c a r.trail e.0 e.1 e.2) (ended_is c a sup r.trail e.0 e.1 e.2)
      table_by r (inr m) =
          let z = needs_on R W r.trail m.0.0 m.0.1 in
          serve_stood r.trail (ask m.0.0 z.0) z.1

      table_stood : (r : Row) → In r p.rows → matches1 Table1 (key_of p.regs) (untagged a.va) r ≡ true → Stood (serve sup r.trail W)
      table_stood r i t =
          let d = (matched1 Table1 (key_of p.regs) (untagged a.va) r t).0 in
          let g : ServesAs r Table1 = subst (ServesAs r) d.kind_is (can.serves r i) in
          table_by r (subst (λ u. ((len : ℕ) × (o : Outcome) × EndsOn u a r.trail len o) ⊎ NeedsMore u a r.trail) d.config (g a (may Table1 r d)).0)

      begun_stood : (t : Option Row) → deepest (matches1 Table1 (key_of p.regs) (untagged a.va)) p.rows ≡ t
          → Stood (begun1 t (λ items. serve sup items W))
      begun_stood None e = serve_stood [] W refl
      begun_stood (Some r) e =
          let i = In-deepest (matches1 Table1 (key_of p.regs) (untagged a.va)) p.rows r e in
          table_stood r i.0 i.1

      combined_stood : (leaves : List Row) → matching (matches1 Leaf1 (key_of p.regs) (untagged a.va)) p.rows ≡ leaves
          → Stood (combined leaves (deepest (matches1 Table1 (key_of p.regs) (untagged a.va)) p.rows) sup W)
      combined_stood [] e = begun_stood _ refl
      combined_stood (r ∷ []) e =
          let i = In-matching (matches1 Leaf1 (key_of p.regs) (untagged a.va)) p.rows r (subst (In r) (sym e) (inl refl)) in
          hit_stood r i.0 i.1
      combined_stood (r ∷ s ∷ more) e = λ end h. absurd cc

    not_false : (b : Bool) → not b ≡ true → b ≡ false
    not_false true h = absurd cc
    not_false false h = refl

    served_by : (b : Bool) → (c.m && not (is_refused1 c a)) ≡ b
        → Stood (cond b (combined (matching (matches1 Leaf1 (key_of p.regs) (untagged a.va)) p.rows)
        (deepest (matches1 Table1 (key_of p.regs) (untagged a.va)) p.rows) sup W) (serve sup [] W))
    served_by true e =
        let d = and_parts c.m (not (is_refused1 c a)) e in
        combined_stood d.0 (not_false (is_refused1 c a) d.1) _ refl
    served_by false e = serve_stood [] W refl

    pub served_stands : (end : Fed Need (End Landing)) → (served p a).halt ≡ came end
        → StandsTo (stands_whole c a (served p a).items) end × IsAlone end
    served_stands = served_by (c.m && not (is_refused1 c a)) refl

-- BASES

abbrev pub BaseIsSized : Regime → Item → Type 0
BaseIsSized r i = i.what ≡ ABase → is_sized r i.stage ≡ true

known_sized : (r : Regime) (items : List Item) → AreKnown r items → All (BaseIsSized r) items
known_sized r [] k = All-nil (BaseIsSized r)
known_sized r (i ∷ items) k = All-cons (BaseIsSized r) i items k.0.sized (known_sized r items k.1)

-- the sizes of a stage are in range where its base was met
pub bases_sized : (made : MadeFor) (trail : List Item) (end : Fed Need (End Landing))
    → StandsTo (stands_whole (config_of made.regs) made.access trail) end → All (BaseIsSized (regime_for made)) trail
bases_sized made trail end h =
    known_sized (regime_for made) trail (trail_known made.regs made.step made.access trail end h)
