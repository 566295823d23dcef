-- Stage 1 over words that are served by rows and memory is the service of the finer walk.
use Rattle.std.proofs.Common.{◌≡◌, ℕ, true, List, [], ◌∷◌, ◌++◌, inl, inr, refl, sym, ap}
use Rattle.std.proofs.Common.{◌∙◌, subst, append_assoc, append-nil, Ok, Err, Result}
use Rattle.std.specs.Prelude.{ℤ}
use Rattle.sysregs.specs.declared.regs.Config.{Config}
use Rattle.sysregs.specs.declared.regs.Side.{Side}
use Rattle.sysregs.specs.Sides.{side_of}
use Rattle.fault_codes.specs.declared.fault.Fault.{Fault}
use Rattle.trails.specs.declared.item.Item.{Item}
use Rattle.trails.specs.declared.outcome.Access.{Access}
use Rattle.trails.specs.declared.outcome.Stop.{Stop}
use Rattle.trails.specs.declared.outcome.Stop.TheVariants.{Fault as FaultStop}
use Rattle.walk_spec.specs.declared.entry.Entry1.{Entry1}
use Rattle.walk_spec.specs.declared.entry.Table1.{Table1}
use Rattle.walk_spec.specs.declared.leaf.Leaf1.{Leaf1}
use Rattle.walk_spec.specs.Ask.{Ask, done, ask, finer, go_on, Ran}
use Rattle.walk_spec.specs.Needs.{Need, regime_of}
use Rattle.walk_spec.specs.Steps.{End, stops, reaches}
use Rattle.walk_spec.specs.Stage1.{word_of, stage1_from, walk1_from}
use Rattle.walk_spec.specs.BothStages.{asked}
use Rattle.stage1_walk.specs.Gave.{by_entry, Walked1, answer_of}
use Rattle.stage1_walk.proofs.OnEntries.{last_same}
use Rattle.tagged_tlb.specs.declared.row.Row.{Row}
use Rattle.machine_spec.specs.Served.{Supplied}
use Rattle.served_walk.specs.ServeAt.{StopAt, fed, breaks, ReplyAt, serve_at, stop_at, behind, then_at}
use Rattle.served_walk.specs.ServedWord.{Second, first_chain, shown, TellsHalt, TellsWord, TellsLeaf, WasServed, WordServed, ServedWord}
use Rattle.served_walk.proofs.Serving.{serve_after}

-- what the code tells of the end of a walk over a supply
abbrev pub TellsEnd : Result (End Leaf1) Stop → Second → StopAt (End Leaf1) → Type 0
TellsEnd (Ok a) two e = e ≡ fed a []
TellsEnd (Err x) two (fed (reaches l) left) = ⊥
TellsEnd (Err x) two (fed (stops f) left) = (x ≡ FaultStop f) × (left ≡ [])
TellsEnd (Err x) two (breaks h) = TellsHalt x two h

shown_behind : {A : Type 0} (items : List Item) (rows : List Row) (r : ReplyAt A) → shown (behind items rows r) ≡ items ++ shown r
shown_behind items rows r = append_assoc items r.items (first_chain r.stop)

module _ {S : Type 0} (sup : S → Need → Supplied) (config : S → Config) (by : S → List Row) (two : S → Second) where
  abbrev pub gives : S → ℤ → ℕ → List Item → Result ℕ Stop → S → Type 0
  gives = ServedWord sup config by two

  module _ (side : Side) (c : Config) (z : Need → Supplied) where
    abbrev pub how : Entry1 → Ask Need Item (Result Item Fault)
    how = word_of (regime_of c side)

    abbrev pub Finer : Ask Entry1 Item (End Leaf1) → Ask Need Item (End Leaf1)
    Finer t = finer stops how t

    -- the walk was served from one state of the supply to another
    pub record Together (t : Ask Entry1 Item (End Leaf1)) (s : S) (items : List Item) (r : Result (End Leaf1) Stop) (s' : S) : Type 0 where
      pub reply : ReplyAt (End Leaf1)
      pub is : serve_at z [] (Finer t) ≡ reply
      pub items_are : items ≡ shown reply
      pub by_is : by s' ≡ by s ++ reply.by
      pub told : TellsEnd r (two s') reply.stop

    abbrev Go : (Item → Ask Entry1 Item (End Leaf1)) → Result Item Fault → Ask Need Item (End Leaf1)
    Go k = go_on stops (λ i. Finer (k i))

    -- one word, and then the rest
    word_then : (n : Entry1) (k : Item
        → Ask Entry1 Item (End Leaf1)) (s mid s' : S) (i : Item) (items rest : List Item) (rows : List Row) (r : Result (End Leaf1) Stop) →
        serve_at z [] (how n) ≡ record { items = items; stop = fed (Ok i) []; by = rows } → by mid ≡ by s ++ rows → Together (k i) mid rest r s'
        → Together (ask n k) s (items ++ rest) r s'
    word_then n k s mid s' i items rest rows r e b d = record {
      reply = behind items rows d.reply;
      is = serve_after z [] (how n) (Go k) ∙ ap (λ (y : ReplyAt (Result Item Fault)). then_at y (λ a left. serve_at z left (Go k a))) e
          ∙ ap (behind items rows) d.is;
      items_are = ap (λ l. items ++ l) d.items_are ∙ sym (shown_behind items rows d.reply);
      by_is = d.by_is ∙ ap (λ l. l ++ d.reply.by) b ∙ append_assoc (by s) rows d.reply.by;
      told = d.told;
    }

    -- what stops one word stops the walk
    stop_by : (k : Item → Ask Entry1 Item (End Leaf1)) (s s' : S) (x : Stop) (items : List Item) (rows : List Row) (e : StopAt (Result Item Fault))
        → TellsWord x (two s') e →
        let y = then_at record { items = items; stop = e; by = rows } (λ a left. serve_at z left (Go k a)) in (shown y ≡ items ++ first_chain e)
        × (y.by ≡ rows) × TellsEnd (Err x) (two s') y.stop
    stop_by k s s' x items rows (fed (Ok i) left) h = absurd h
    stop_by k s s' x items rows (fed (Err f) left) h = (ap (λ l. l ++ []) (append-nil items), append-nil rows, h)
    stop_by k s s' x items rows (breaks q) h = (refl, refl, h)

    word_stops : (n : Entry1) (k : Item
        → Ask Entry1 Item (End Leaf1)) (s s' : S) (x : Stop) (items : List Item) (rows : List Row) (r : Result (End Leaf1) Stop) →
        WordServed z (how n) items rows (two s') (Err x) → by s' ≡ by s ++ rows → r ≡ Err x → Together (ask n k) s items r s'
    word_stops n k s s' x items rows r h b e =
        let w = serve_at z [] (how n) in
        let y = then_at w (λ a left. serve_at z left (Go k a)) in
        let d = stop_by k s s' x w.items w.by w.stop h.2 in
        record {
          reply = y;
          is = serve_after z [] (how n) (Go k);
          items_are = h.0 ∙ sym d.0;
          by_is = b ∙ ap (λ l. by s ++ l) (h.1 ∙ sym d.1);
          told = subst (λ q. TellsEnd q (two s') y.stop) (sym e) d.2;
        }

    -- what holds of the supply from call to call
    pub record Kept (s : S) : Type 0 where
      pub sup_is : sup s ≡ z
      pub config_is : config s ≡ c

    word_had : (s s' : S) (n : Entry1) (items : List Item) (r : Result ℕ Stop) → Kept s → (h : by_entry gives s n items r s')
        → WordServed z (how n) items h.rows (two s') r
    word_had s s' n items r k h =
        subst (λ v. WordServed v (how n) items h.rows (two s') r) k.sup_is
        (subst (λ g. WordServed (sup s) (word_of (regime_of g side) n) items h.rows (two s') r) k.config_is (h.had side n refl refl))

    -- a walk over the supply is served as the finer walk
    pub ran_served : (t : Ask Entry1 Item (End Leaf1)) (s : S) (items : List Item) (r : Result (End Leaf1) Stop) (s' : S) → Kept s
        → Ran (λ i. i.value) (by_entry gives) t s items r s' → Together t s items r s'
    ran_served (done a) s items r s' y h = record {
      reply = stop_at (fed a []);
      is = refl;
      items_are = h.0;
      by_is = ap by h.2 ∙ sym (append-nil (by s));
      told = subst (λ q. TellsEnd q (two s') (fed a [])) (sym h.1) refl;
    }
    ran_served (ask n k) s items r s' y (inl w) =
        let g = w.4 in
        let o = word_had s w.3 n (w.0 ++ w.1 ∷ []) (Ok w.1.value) y g in
        let j : w.1 ≡ o.1 = last_same w.0 o.0 w.1 o.1 o.2 in
        let e : serve_at z [] (how n) ≡ record { items = w.0 ++ w.1 ∷ []; stop = fed (Ok w.1) []; by = g.rows } = o.4
        ∙ ap (λ i. record { items = w.0 ++ w.1 ∷ []; stop = fed (Ok i) []; by = g.rows }) (sym j) in
        let kept : Kept w.3 = record { sup_is = g.same ∙ y.sup_is; config_is = g.same_config ∙ y.config_is } in
        let d = ran_served (k w.1) w.3 w.2 r s' kept w.6 in
        subst (λ l. Together (ask n k) s l r s') (sym w.5) (word_then n k s w.3 s' w.1 (w.0 ++ w.1 ∷ []) w.2 g.rows r e g.by_is d)
    ran_served (ask n k) s items r s' y (inr w) =
        let g = w.1 in
        word_stops n k s s' w.0 items g.rows r (word_had s s' n items (Err w.0) y g) g.by_is w.2

  leaf_told : (r : Result (End Leaf1) Stop) (second : Second) (e : StopAt (End Leaf1)) → TellsEnd r second e → TellsLeaf (answer_of r) second e
  leaf_told (Ok (reaches l)) second e h = h
  leaf_told (Ok (stops f)) second e h = subst (λ q. TellsLeaf {L = Leaf1} (Err (FaultStop f)) second q) (sym h) (refl, refl)
  leaf_told (Err x) second (fed (reaches l) left) h = absurd h
  leaf_told (Err x) second (fed (stops f) left) h = h
  leaf_told (Err x) second (breaks q) h = h

  -- stage 1 from a table over the supply was served: what it appended, the rows that served, and how it stopped
  pub stage1_served : (c : Config) (a : Access) (left : ℕ) (table : Table1) (s s' : S) (old new : List Item) (r : Result Leaf1 Stop) → config s ≡ c
      → Walked1 gives (asked c true a) left table s old new r s' →
      (items : List Item) × (rows : List Row) × (new ≡ old ++ items) × (by s' ≡ by s ++ rows)
      × WasServed (sup s) (stage1_from (asked c true a) left table) items rows (two s') r
  stage1_served c a left table s s' old new r u w =
      let d = ran_served (side_of a.va) c (sup s) (walk1_from (asked c true a) left table) s w.more w.end s' (record { sup_is = refl; config_is = u }) w.ran in
      let told : TellsLeaf r (two s') d.reply.stop = subst (λ q. TellsLeaf q (two s') d.reply.stop) (sym w.answer)
      (leaf_told w.end (two s') d.reply.stop d.told) in (
        w.more,
        d.reply.by,
        w.grown,
        d.by_is,
        record {
          items_are = d.items_are ∙ ap shown (sym d.is);
          by_is = ap (λ (y : ReplyAt (End Leaf1)). y.by) (sym d.is);
          told = subst (λ (y : ReplyAt (End Leaf1)). TellsLeaf r (two s') y.stop) (sym d.is) told;
        },
      )

  -- any walk over the supply was served
  pub walk_served : (c : Config) (a : Access) (t : Ask Entry1 Item (End Leaf1)) (s s' : S) (items : List Item) (r : Result (End Leaf1) Stop) → config s ≡ c
      → Ran (λ i. i.value) (by_entry gives) t s items r s' →
      (rows : List Row) × (by s' ≡ by s ++ rows)
      × WasServed (sup s) (finer stops (word_of (regime_of c (side_of a.va))) t) items rows (two s') (answer_of r)
  walk_served c a t s s' items r u w =
      let d = ran_served (side_of a.va) c (sup s) t s items r s' (record { sup_is = refl; config_is = u }) w in (
        d.reply.by,
        d.by_is,
        record {
          items_are = d.items_are ∙ ap shown (sym d.is);
          by_is = ap (λ (y : ReplyAt (End Leaf1)). y.by) (sym d.is);
          told = subst (λ (y : ReplyAt (End Leaf1)). TellsLeaf (answer_of r) (two s') y.stop) (sym d.is) (leaf_told r (two s') d.reply.stop d.told);
        },
      )
