-- One word of stage 1 as code has it over rows.
use Rattle.std.proofs.Common.{◌≡◌, ℕ, ◌+◌, ◌≤◌, ◌%◌, Bool, true, false, cond, List, [], ◌∷◌, ◌++◌, length}
use Rattle.std.proofs.Common.{length-append, refl, sym, ap, ◌∙◌, subst, append_assoc, append-nil, arith, Some, None, Ok, Err, Result}
use Rattle.std.specs.Prelude.{ℤ, ◌==◌, map}
use Rattle.geometry.specs.Tables.{level_of}
use Rattle.sysregs.specs.declared.regs.Config.{Config}
use Rattle.sysregs.specs.declared.regs.Side.{Side}
use Rattle.sysregs.specs.Registers.{config_of}
use Rattle.fault_codes.specs.declared.fault.Fault.{Fault}
use Rattle.fault_codes.specs.Status.{HasStatus}
use Rattle.stage2_walk.specs.SoundSteps.{IsSoundLeaf}
use Rattle.fault_codes.specs.declared.fault.Stage.TheVariants.{S1}
use Rattle.trails.specs.declared.item.Item.{Item}
use Rattle.trails.specs.declared.outcome.Access.{Access}
use Rattle.trails.specs.declared.outcome.Stop.{Stop}
use Rattle.trails.specs.declared.outcome.Stop.TheVariants.{Fault as FaultStop, Absent}
use Rattle.trails.specs.Lengths.{most_items2, most_per_word}
use Rattle.table_reads.specs.Items.{word_item}
use Rattle.table_reads.specs.Memory.{Memory}
use Rattle.phys_mem.specs.Memory.{loaded}
use Rattle.phys_mem.specs.Words.{memory_of}
use Rattle.walk_spec.specs.declared.entry.Entry1.{Entry1}
use Rattle.walk_spec.specs.declared.leaf.Leaf2.{Leaf2}
use Rattle.walk_spec.specs.Ask.{lacks}
use Rattle.walk_spec.specs.Needs.{Need, regime_of, word, WordNeed, needed_item}
use Rattle.walk_spec.specs.Stage2.{walk2}
use Rattle.walk_spec.specs.Stage1.{asked2, is_readable, word_of}
use Rattle.stage1_walk.specs.Kept.{needed1}
use Rattle.stage1_walk.specs.Gave.{Gave, EndsInWord}
use Rattle.translate.specs.Parts.{unreadable}
use Rattle.tagged_tlb.specs.declared.row.Row.{Row}
use Rattle.machine_spec.specs.Served.{Supplied, gives, halts, came, supply}
use Rattle.served_walk.specs.declared.scene.Scene.{Scene}
use Rattle.served_walk.specs.declared.row_words.RowWords.{RowWords}
use Rattle.served_walk.specs.ServedWord.{WasServed, WordServed}
use Rattle.served_walk.specs.Meets.{place_with, service_row, second_in}
use Rattle.served_walk.specs.Chained.{Holds, RowAt, ChainGave}
use Rattle.served_walk.specs.KeptWords.{BeginsWith, TookWord}
use Rattle.served_walk.specs.RowGiven.{HasReadWord, RowGave}
use Rattle.served_walk.proofs.KeptItems.{same_word}
use Rattle.served_walk.proofs.Parts.{flat_had, flat_none, deep_had, deep_none, deep_denied, deep_stop}

-- the fault of a descriptor that may not be read has a status code
pub denied_text : (x : ℕ) (l : Leaf2) (f : Fault) → IsSoundLeaf x l → f ≡ unreadable l → HasStatus f
denied_text x l f h e = subst HasStatus (sym e) h.1

loaded_by : (m : Memory) (p : ℕ) (b : Bool) → b ≡ true → cond b (m p) None ≡ m p
loaded_by m p true h = refl
loaded_by m p false h = absurd cc

-- a load at a multiple of eight is what memory has
load_is : (m : Memory) (p : ℕ) → p % 8 ≡ 0 → loaded m p ≡ m p
load_is m p e = loaded_by m p (p % 8 == 0) (rw e refl)

module _ {F : Type 0} (may : Holds F) (at : RowAt F) (s : RowWords F) (level : ℤ) (x : ℕ) (eights : x % 8 ≡ 0) where
  abbrev z : Scene F
  z = s.scene.now

  abbrev m : Memory
  m = memory_of z.phys.now

  abbrev c : Config
  c = config_of z.force.now

  abbrev sup : List Row → Access → Need → Supplied
  sup live a = supply (place_with z live) a

  given_word : (live : List Row) (a : Access) (w : WordNeed) (v : ℕ) → m w.place ≡ Some v
      → sup live a (word w) ≡ gives (needed_item z.moment w v) [] []
  given_word live a w v h = rw h refl

  lacks_word : (live : List Row) (a : Access) (w : WordNeed) → m w.place ≡ None → sup live a (word w) ≡ halts (came (lacks (word w)))
  lacks_word live a w h = rw h refl

  abbrev item : ℕ → ℕ → Item
  item p v = word_item z.moment S1 level p v

  item_is : (e : Entry1) (p v : ℕ) → level_of e.left ≡ level → needed_item z.moment (needed1 e p) v ≡ item p v
  item_is e p v q = ap (λ l. word_item z.moment S1 l p v) q

  lacks_is : (e : Entry1) (p : ℕ) → level_of e.left ≡ level → Absent S1 (level_of e.left) p false ≡ Absent S1 level p false
  lacks_is e p q = ap (λ l. Absent S1 l p false) q

  gave_by : (old new items : List Item) (r : Result ℕ Stop) (t : RowWords F) → new ≡ old ++ items → length items ≤ most_per_word
      → RowGave may at s level x items r t → EndsInWord items r → Gave (RowGave may at s level x) old new r t
  gave_by old new items r t g n h e = record { more = items; grown = g; most = n; given = h; word = e }

  -- no word is kept
  abbrev NoWord : Type 0
  NoWord = (front : List Item) (i : Item) (rest : List Item) → BeginsWith s.kept.now front i rest → ⊥

  some_kept : (front : List Item) (i : Item) (rest : List Item) → s.kept.now ≡ front ++ i ∷ rest → s.kept.now ≡ [] → ⊥
  some_kept [] i rest e h = absurd cc
  some_kept (j ∷ front) i rest e h = absurd cc

  -- one was taken
  pub kept_gave : (t : RowWords F) (old new : List Item) (v : ℕ) → t.scene.now ≡ z → t.met ≡ s.met → TookWord s.kept.now t.kept.now old new (Some v)
      → Gave (RowGave may at s level x) old new (Ok v) t
  kept_gave t old new v same met w =
      let front = w.0 in
      let i = w.1 in
      let b = w.2 in
      let n : length (front ++ i ∷ []) ≡ length front + 1 = length-append front (i ∷ []) in
      gave_by old new (front ++ i ∷ []) (Ok v) t w.3 (omega (arith, n, b.few))
      (record {
        same = same;
        services = [];
        noted = ap (λ y. y.services.items) met ∙ sym (append-nil s.met.services.items);
        few = omega arith;
        kept = λ f j rest d.
            let q = same_word front f i j t.kept.now rest (sym b.is ∙ d.is) b.chain d.chain b.stage d.stage in
            (ap (λ l. l ++ i ∷ []) q.0 ∙ ap (λ k. f ++ k ∷ []) q.1, ap (λ y. Ok y) w.4 ∙ ap (λ k. Ok k.value) q.1, q.2, refl);
        none = λ e. absurd (some_kept front i t.kept.now b.is e);
        served = λ e room live m d. absurd (some_kept front i t.kept.now b.is e);
      })
      (front, i, refl, sym w.4)

  -- STAGE 2 IS OFF

  module _ (off : c.vm ≡ false) (t : RowWords F) (same : t.scene.now ≡ z) (left : t.kept.now ≡ s.kept.now) (no : NoWord) (met : t.met ≡ s.met) where
    flat_row : (items : List Item) (r : Result ℕ Stop) → ((live : List Row) (a : Access) (side : Side) (e : Entry1) → level_of e.left ≡ level
        → e.place ≡ x
        → WordServed (sup live a) (word_of (regime_of c side) e) items [] (second_in t.met) r) → RowGave may at s level x items r t
    flat_row items r h = record {
      same = same;
      services = [];
      noted = ap (λ y. y.services.items) met ∙ sym (append-nil s.met.services.items);
      few = omega arith;
      kept = λ front i rest b. absurd (no front i rest b);
      none = λ e. left ∙ e;
      served = λ e room live l d. record { live = tt; had = h live };
    }

    pub flat_gave : (old new : List Item) (r : Result ℕ Stop) → HasReadWord m z.moment level x old new r → Gave (RowGave may at s level x) old new r t
    flat_gave old new (Ok v) h =
        gave_by old new (item x v ∷ []) (Ok v) t h.0 (omega arith)
        (flat_row (item x v ∷ []) (Ok v) (λ live a side e q p.
        (let w : m e.place ≡ Some v = ap m p ∙ sym (load_is m x eights) ∙ h.1 in
        let j : needed_item z.moment (needed1 e e.place) v ≡ item x v = item_is e e.place v q ∙ ap (λ n. item n v) p in
        subst (λ i. WordServed (sup live a) (word_of (regime_of c side) e) (i ∷ []) [] (second_in t.met) (Ok v)) j
        (flat_had (regime_of c side) e (sup live a) (needed_item z.moment (needed1 e e.place) v) (second_in t.met) off
        (given_word live a (needed1 e e.place) v w)))))
        ([], item x v, refl, refl)
    flat_gave old new (Err o) h =
        gave_by old new [] (Err o) t (h.0 ∙ sym (append-nil old)) (omega arith)
        (flat_row [] (Err o) (λ live a side e q p.
        (let w : m e.place ≡ None = ap m p ∙ sym (load_is m x eights) ∙ h.2 in
        let j : Absent S1 (level_of e.left) e.place false ≡ o = lacks_is e e.place q ∙ ap (λ n. Absent S1 level n false) p ∙ sym h.1 in
        subst (λ i. WordServed (sup live a) (word_of (regime_of c side) e) [] [] (second_in t.met) (Err i)) j
        (flat_none (regime_of c side) e (sup live a) (second_in t.met) off (lacks_word live a (needed1 e e.place) w)))))
        tt

  -- STAGE 2 IS ON

  module _ (on : c.vm ≡ true) (t : RowWords F) (same : t.scene.now ≡ z) (left : t.kept.now ≡ s.kept.now) (no : NoWord) (old mid : List Item) where
    short : (items : List Item) → mid ≡ old ++ items → length mid ≤ length old + most_items2 → length items ≤ most_items2
    short items g n = let e : length mid ≡ length old + length items = ap length g ∙ length-append old items in omega (arith, e, n)

    abbrev Chained : (Need → Supplied) → Side → ℕ → List Item → List Row → Result Leaf2 Stop → Type 0
    Chained sp side y items by r = WasServed sp (walk2 (asked2 (regime_of c side) true y)) items by (second_in t.met) r

    -- the chain stopped
    pub stop_gave : (o : Stop) → ChainGave may at z true x s.met t.met old mid (Err o) → length mid ≤ length old + most_items2
        → Gave (RowGave may at s level x) old mid (Err o) t
    stop_gave o g n =
        let w = short g.items g.grown n in
        gave_by old mid g.items (Err o) t g.grown (omega (arith, w))
        (record {
          same = same;
          services = g.services;
          noted = g.noted;
          few = g.few;
          kept = λ front i rest b. absurd (no front i rest b);
          none = λ e. left ∙ e;
          served = λ e room live l d.
              let v = g.served room live l d in
              record {
                live = v.live;
                had = λ a side e q p. deep_stop (regime_of c side) e (sup live a) on g.items (map (service_row (λ k u. at z.finds.now k u d)) g.services)
                    (second_in t.met) o (subst (λ y. Chained (sup live a) side y g.items (map (service_row (λ k u. at z.finds.now k u d)) g.services)
                    (Err o)) (sym p) (v.was a side));
              };
        })
        tt

    module _ (l : Leaf2) (al : l.pa % 8 ≡ x % 8) (g : ChainGave may at z true x s.met t.met old mid (Ok l))
        (n : length mid ≤ length old + most_items2) where
      w : length g.items ≤ most_items2
      w = short g.items g.grown n

      abbrev rows : Row → List Row
      rows d = map (service_row (λ k u. at z.finds.now k u d)) g.services

      row_gave : (items : List Item) (r : Result ℕ Stop) → ((live : List Row) (d : Row) (a : Access) (side : Side) (e : Entry1) → l.pa % 8 ≡ 0
          → level_of e.left ≡ level → Chained (sup live a) side e.place g.items (rows d) (Ok l)
          → WordServed (sup live a) (word_of (regime_of c side) e) items (rows d) (second_in t.met) r) → RowGave may at s level x items r t
      row_gave items r h = record {
        same = same;
        services = g.services;
        noted = g.noted;
        few = g.few;
        kept = λ front i rest b. absurd (no front i rest b);
        none = λ e. left ∙ e;
        served = λ e room live m d.
            let v = g.served room live m d in
            record {
              live = v.live;
              had = λ a side e q p.
                  h live d a side e (al ∙ eights) q (subst (λ y. Chained (sup live a) side y g.items (rows d) (Ok l)) (sym p) (v.was a side));
            };
      }

      -- its leaf doesn't let a descriptor be read
      pub denied_gave : (f : Fault) → is_readable c l ≡ false → f ≡ unreadable l → Gave (RowGave may at s level x) old mid (Err (FaultStop f)) t
      denied_gave f d e =
          gave_by old mid g.items (Err (FaultStop f)) t g.grown (omega (arith, w))
          (row_gave g.items (Err (FaultStop f)) (λ live r a side i pl q v.
          subst (λ y. WordServed (sup live a) (word_of (regime_of c side) i) g.items (rows r) (second_in t.met) (Err (FaultStop y))) (sym e)
          (deep_denied (regime_of c side) i (sup live a) on g.items (rows r) (second_in t.met) l v d)))
          tt

      -- the word was read, or memory lacks it
      pub read_gave : (new : List Item) (r : Result ℕ Stop) → is_readable c l ≡ true → HasReadWord m z.moment level l.pa mid new r
          → Gave (RowGave may at s level x) old new r t
      read_gave new (Ok v) d h =
          let i = item l.pa v in
          let len : length (g.items ++ i ∷ []) ≡ length g.items + 1 = length-append g.items (i ∷ []) in
          gave_by old new (g.items ++ i ∷ []) (Ok v) t (h.0 ∙ ap (λ y. y ++ i ∷ []) g.grown ∙ append_assoc old g.items (i ∷ []))
          (omega (arith, w, len))
          (row_gave (g.items ++ i ∷ []) (Ok v) (λ live r a side e pl q y.
          (let u : m l.pa ≡ Some v = sym (load_is m l.pa pl) ∙ h.1 in
          subst (λ j. WordServed (sup live a) (word_of (regime_of c side) e) (g.items ++ j ∷ []) (rows r) (second_in t.met) (Ok v)) (item_is e l.pa v q)
          (deep_had (regime_of c side) e (sup live a) on g.items (rows r) (second_in t.met) l y (needed_item z.moment (needed1 e l.pa) v) d
          (given_word live a (needed1 e l.pa) v u)))))
          (g.items, i, refl, refl)
      read_gave new (Err o) d h =
          gave_by old new g.items (Err o) t (h.0 ∙ g.grown) (omega (arith, w))
          (row_gave g.items (Err o) (λ live r a side e pl q y.
          (let u : m l.pa ≡ None = sym (load_is m l.pa pl) ∙ h.2 in
          subst (λ j. WordServed (sup live a) (word_of (regime_of c side) e) g.items (rows r) (second_in t.met) (Err j)) (lacks_is e l.pa q ∙ sym h.1)
          (deep_none (regime_of c side) e (sup live a) on g.items (rows r) (second_in t.met) l y d (lacks_word live a (needed1 e l.pa) u)))))
          tt
