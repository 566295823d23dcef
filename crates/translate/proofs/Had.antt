-- How a word of stage 1 was had, over the stage 2 of its place.
use Rattle.std.proofs.Common.{◌≡◌, ℕ, ◌≤◌, ◌+◌, List, [], ◌∷◌, ◌++◌, length, length-append, refl, sym, ap}
use Rattle.std.proofs.Common.{subst, ◌∙◌, arith, append-nil, append_assoc, true, false, Ok, Err, Result}
use Rattle.std.specs.Prelude.{ℤ}
use Rattle.bitwords.specs.Causes.{Rose}
use Rattle.geometry.specs.Tables.{level_of}
use Rattle.sysregs.specs.declared.regs.Side.{Side}
use Rattle.sysregs.specs.Registers.{config_of}
use Rattle.fault_codes.specs.declared.fault.Stage.TheVariants.{S1}
use Rattle.fault_codes.specs.declared.fault.Fault.{Fault}
use Rattle.trails.specs.declared.item.Item.{Item}
use Rattle.trails.specs.declared.outcome.Stop.{Stop}
use Rattle.trails.specs.declared.outcome.Stop.TheVariants.{Fault as FaultStop, Absent}
use Rattle.trails.specs.Lengths.{most_items2, most_per_word}
use Rattle.table_reads.specs.Items.{word_item}
use Rattle.table_reads.specs.Memory.{Told, HasRead}
use Rattle.walk_spec.specs.declared.entry.Entry1.{Entry1}
use Rattle.walk_spec.specs.declared.leaf.Leaf2.{Leaf2}
use Rattle.walk_spec.specs.Ask.{Ask, after, Fed, ended, lacks, Took}
use Rattle.walk_spec.specs.Needs.{Need, stage1_base, stage2_base, word, WordNeed, regime_of}
use Rattle.walk_spec.specs.Steps.{End, stops, reaches}
use Rattle.walk_spec.specs.Stage2.{walk2}
use Rattle.walk_spec.specs.Stage1.{is_readable, read1, read1_by, asked2, word_of}
use Rattle.walk_spec.specs.Walked.{LacksFor, result_of}
use Rattle.walk_spec.proofs.Feeding.{took_after, took_after_lacks}
use Rattle.walk_spec.proofs.Walks.{lacks_weaker}
use Rattle.stage1_walk.specs.Gave.{Gave, EndsInWord}
use Rattle.translate.specs.Checked.{RegsAt}
use Rattle.translate.specs.Parts.{unreadable}
use Rattle.translate.specs.Deep.{Reads2, asked2_of, Walked2, walker1, HadWord, DeepGave}
use Rattle.translate.specs.declared.deep.Deep.{Deep}
use Rattle.translate.proofs.Choices.{on_with, off_with}

-- a walk that answered a leaf ended there
pub ends_at : {L : Type 0} (l : L) (e : Fed Need (End L)) → Ok l ≡ result_of e → e ≡ ended (reaches l)
ends_at l (ended (stops f)) h = absurd cc
ends_at l (ended (reaches k)) h = cc
ends_at l (lacks stage1_base) h = absurd cc
ends_at l (lacks (stage2_base x)) h = absurd cc
ends_at l (lacks (word w)) h = absurd cc

-- what was appended for a level and a place, and the word that was had
pub record Had (under : RegsAt) (m : Told) (F : Type 0) (level : ℤ) (p : ℕ) (old new : List Item) (r : Result ℕ Stop) : Type 0 where
  pub more : List Item
  pub grown : new ≡ old ++ more
  pub most : length more ≤ most_per_word
  pub had : (side : Side) (e : Entry1) → level_of e.left ≡ level → e.place ≡ p → HadWord under m F
      (word_of (regime_of (config_of under.regs) side) e) more r
  pub word : EndsInWord more r

module _ (under : RegsAt) (m : Told) where
  -- the word of an entry, at a physical place
  abbrev pub need_at : Entry1 → ℕ → WordNeed
  need_at e p = record { stage = S1; left = e.left; place = p; s1ptw = false; address = e.address; table = e.table.address }

  -- what a read of a place did
  pub record ReadAt (F : Type 0) (level : ℤ) (p : ℕ) (old new : List Item) (r : Result ℕ Stop) : Type 0 where
    pub more : List Item
    pub grown : new ≡ old ++ more
    pub few : length more ≤ 1
    pub had : (e : Entry1) → level_of e.left ≡ level → HadWord under m F (read1 e p) more r
    pub word : EndsInWord more r

  pub read_at : (F : Type 0) (level : ℤ) (p : ℕ) (old new : List Item) (r : Result ℕ Stop) → HasRead m F (walker1 under.moment) level p old new r
      → ReadAt F level p old new r
  read_at F level p old new (Ok v) h =
      let i = word_item under.moment S1 level p v in
      record {
        more = i ∷ [];
        grown = h.0;
        few = omega arith;
        had = λ e q. ([], i, refl, refl, ((ap (λ l. word_item under.moment S1 l p v) (sym q), h.1), (refl, refl)));
        word = ([], i, refl, refl);
      }
  read_at F level p old new (Err x) h = record {
    more = [];
    grown = h.0 ∙ sym (append-nil old);
    few = omega arith;
    had = λ e q. (lacks (word (need_at e p)), refl, h.2, h.1 ∙ ap (λ l. Absent S1 l p false) (sym q));
    word = tt;
  }

  had_place : (F : Type 0) (e : Entry1) (p : ℕ) (more : List Item) (r : Result ℕ Stop) (t : ℕ → Ask Need Item (Result Item Fault)) → e.place ≡ p
      → HadWord under m F (t p) more r → HadWord under m F (t e.place) more r
  had_place F e p more r t q h = subst (λ x. HadWord under m F (t x) more r) (sym q) h

  -- with stage 2 off
  pub had_flat : (F : Type 0) (level : ℤ) (p : ℕ) (old new : List Item) (r : Result ℕ Stop) → (config_of under.regs).vm ≡ false
      → HasRead m F (walker1 under.moment) level p old new r → Had under m F level p old new r
  had_flat F level p old new r v h =
      let d = read_at F level p old new r h in
      record {
        more = d.more;
        grown = d.grown;
        most = omega (arith, d.few);
        had = λ s e q z.
            subst (λ t. HadWord under m F t d.more r)
            (sym (off_with (config_of under.regs).vm v
            (after (walk2 (asked2 (regime_of (config_of under.regs) s) true e.place)) (read1_by (config_of under.regs) e)) (read1 e e.place)))
            (had_place F e p d.more r (read1 e) z (d.had e q));
        word = d.word;
      }

  -- how the word of an entry is had with stage 2 on
  abbrev pub deep_word : Entry1 → ℕ → Ask Need Item (Result Item Fault)
  deep_word e p = after (walk2 (asked2_of under.regs true p)) (read1_by (config_of under.regs) e)

  module _ (on : (config_of under.regs).vm ≡ true) (level : ℤ) (p : ℕ) (old : List Item) where
    had_deep_at : (F : Type 0) (more : List Item) (r : Result ℕ Stop) → ((e : Entry1) → level_of e.left ≡ level
        → HadWord under m F (deep_word e p) more r)
        → (s : Side) (e : Entry1) → level_of e.left ≡ level → e.place ≡ p → HadWord under m F
        (word_of (regime_of (config_of under.regs) s) e) more r
    had_deep_at F more r d s e q z =
        subst (λ t. HadWord under m F t more r) (sym (on_with (config_of under.regs).vm on (deep_word e e.place) (read1 e e.place)))
        (had_place F e p more r (deep_word e) z (d e q))

    -- how long what was appended is
    few : (new more : List Item) → new ≡ old ++ more → length new ≤ length old + most_items2 → length more ≤ most_items2
    few new more e h = let n : length new ≡ length old + length more = ap length e ∙ length-append old more in omega arith

    stop_end : (F : Type 0) (e : Entry1) (more : List Item) (x : Stop) (w : Fed Need (End Leaf2)) → Err x ≡ result_of w → LacksFor m F w
        → Took (Reads2 under m) (walk2 (asked2_of under.regs true p)) more w → HadWord under m F (deep_word e p) more (Err x)
    stop_end F e more x (ended (stops f)) h c t = (
      ended (Err f),
      subst (λ is. Took (Reads2 under m) (deep_word e p) is (ended (Err f))) (append-nil more)
          (took_after (Reads2 under m) (walk2 (asked2_of under.regs true p)) (read1_by (config_of under.regs) e) more [] (stops f) (ended (Err f)) t
          (refl, refl)),
      tt,
      cc,
    )
    stop_end F e more x (ended (reaches l)) h c t = absurd cc
    stop_end F e more x (lacks stage1_base) h c t = absurd c
    stop_end F e more x (lacks (stage2_base y)) h c t = absurd c
    stop_end F e more x (lacks (word w)) h c t =
        (lacks (word w), took_after_lacks (Reads2 under m) (walk2 (asked2_of under.regs true p)) (read1_by (config_of under.regs) e) more (word w) t, c, cc)

    -- stage 2 stopped
    pub had_stop : (F : Type 0) (new : List Item) (x : Stop) → Walked2 m F under true p old new (Err x) → length new ≤ length old + most_items2
        → Had under m F level p old new (Err x)
    had_stop F new x w h =
        let n = few new w.more w.grown h in
        record {
          more = w.more;
          grown = w.grown;
          most = omega arith;
          had = had_deep_at F w.more (Err x) (λ e q. stop_end F e w.more x w.end w.answer w.cause w.took);
          word = tt;
        }

    module _ (F : Type 0) (mid : List Item) (l : Leaf2) (w : Walked2 m F under true p old mid (Ok l)) (short : length mid ≤ length old + most_items2) where
      reached : Took (Reads2 under m) (walk2 (asked2_of under.regs true p)) w.more (ended (reaches l))
      reached = rw (← ends_at l w.end w.answer) w.took

      -- what follows the leaf follows on its items
      went : (e : Entry1) (t : Ask Need Item (Result Item Fault)) (js : List Item) (d : Fed Need (Result Item Fault))
          → read1_by (config_of under.regs) e (reaches l) ≡ t → Took (Reads2 under m) t js d → Took (Reads2 under m) (deep_word e p) (w.more ++ js) d
      went e t js d h k =
          took_after (Reads2 under m) (walk2 (asked2_of under.regs true p)) (read1_by (config_of under.regs) e) w.more js (reaches l) d reached
          (subst (λ z. Took (Reads2 under m) z js d) (sym h) k)

      -- stage 2 doesn't let the descriptor be read
      pub had_denied : is_readable (config_of under.regs) l ≡ false → Had under m F level p old mid (Err (FaultStop (unreadable l)))
      had_denied d =
          let n = few mid w.more w.grown short in
          record {
            more = w.more;
            grown = w.grown;
            most = omega arith;
            had = had_deep_at F w.more (Err (FaultStop (unreadable l)))
                (λ e q. (
                  ended (Err (unreadable l)),
                  subst (λ is. Took (Reads2 under m) (deep_word e p) is (ended (Err (unreadable l)))) (append-nil w.more)
                      (went e _ [] (ended (Err (unreadable l))) (off_with (is_readable (config_of under.regs) l) d _ _) (refl, refl)),
                  tt,
                  refl,
                ));
            word = tt;
          }

      pub had_denied_by : is_readable (config_of under.regs) l ≡ false → (f : Fault) → f ≡ unreadable l
          → Had under m F level p old mid (Err (FaultStop f))
      had_denied_by d f e = subst (λ g. Had under m F level p old mid (Err (FaultStop g))) (sym e) (had_denied d)

      had_more : (G H : Type 0) → (G → H) → (e : Entry1) (r : Result ℕ Stop) (js : List Item) → is_readable (config_of under.regs) l ≡ true
          → HadWord under m G (read1 e l.pa) js r → HadWord under m H (deep_word e p) (w.more ++ js) r
      had_more G H f e (Ok v) js d h = (
        w.more ++ h.0,
        h.1,
        ap (λ k. w.more ++ k) h.2 ∙ sym (append_assoc w.more h.0 (h.1 ∷ [])),
        h.3,
        went e (read1 e l.pa) js (ended (Ok h.1)) (on_with (is_readable (config_of under.regs) l) d _ _) h.4,
      )
      had_more G H f e (Err x) js d h =
          (h.0, went e (read1 e l.pa) js h.0 (on_with (is_readable (config_of under.regs) l) d _ _) h.1, lacks_weaker m G H f h.0 h.2, h.3)

      more_word : (r : Result ℕ Stop) (js : List Item) → EndsInWord js r → EndsInWord (w.more ++ js) r
      more_word (Ok v) js h = (w.more ++ h.0, h.1, ap (λ k. w.more ++ k) h.2 ∙ sym (append_assoc w.more h.0 (h.1 ∷ [])), h.3)
      more_word (Err x) js h = tt

      -- the word was read at the place that stage 2 gives
      pub had_read : (G H : Type 0) → (G → H) → (new : List Item) (r : Result ℕ Stop) → is_readable (config_of under.regs) l ≡ true
          → HasRead m G (walker1 under.moment) level l.pa mid new r → Had under m H level p old new r
      had_read G H f new r d h =
          let q = read_at G level l.pa mid new r h in
          let n = few mid w.more w.grown short in
          let k : length (w.more ++ q.more) ≡ length w.more + length q.more = length-append w.more q.more in
          record {
            more = w.more ++ q.more;
            grown = q.grown ∙ ap (λ is. is ++ q.more) w.grown ∙ append_assoc old w.more q.more;
            most = omega (arith, k, n, q.few);
            had = had_deep_at H (w.more ++ q.more) r (λ e z. had_more G H f e r q.more d (q.had e z));
            word = more_word r q.more q.word;
          }

-- what the wrapper gives
pub gave_deep : {S : Type 0} (memory : S → Told) (faults : S → ℕ) (keeps : S → S → Type 0) (d d' : Deep S) (level : ℤ) (p : ℕ)
    (old new : List Item)
    (r : Result ℕ Stop) → d'.under.now ≡ d.under.now → d'.supply.ghost_name ≡ d.supply.ghost_name → memory d'.supply.now ≡ memory d.supply.now
    → faults d.supply.now ≤ faults d'.supply.now → keeps d.supply.now d'.supply.now
    → Had d.under.now (memory d.supply.now) (Rose (faults d.supply.now) (faults d'.supply.now)) level p old new r
    → Gave (DeepGave memory faults keeps d level p) old new r d'
gave_deep memory faults keeps d d' level p old new r u n s l k h = record {
  more = h.more;
  grown = h.grown;
  most = h.most;
  given = record { same_under = u; same_reference = n; same = s; later = l; kept = k; had = h.had };
  word = h.word;
}
