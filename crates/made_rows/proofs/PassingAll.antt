-- All items of a trail are passed.
use Rattle.std.proofs.Common.{◌≡◌, ℕ, ◌+◌, ◌≤◌, Bool, true, false, cond, List, [], ◌∷◌, ◌++◌, append_assoc}
use Rattle.std.proofs.Common.{append-nil, length, take, drop, fold, refl, sym, ap, ◌∙◌, subst, Option, Some, None, arith}
use Rattle.std.specs.Prelude.{get_or, ◌<◌, ◌%◌, ◌^◌}
use Rattle.std.proofs.lemmas.List.{drop_more, drop_all}
use Rattle.fault_codes.specs.declared.fault.Stage.{Stage}
use Rattle.trails.specs.declared.item.Item.{Item}
use Rattle.trails.specs.declared.item.What.{What}
use Rattle.trails.specs.declared.item.What.TheVariants.{Base, Word}
use Rattle.walk_spec.specs.Needs.{Regime}
use Rattle.walk_spec.specs.Stage1.{untagged}
use Rattle.machine_spec.specs.Marks.{Mark, mark}
use Rattle.machine_spec.specs.Made.{Maker, is_read_now, rows_by}
use Rattle.served_walk.specs.Spots.{Spot, spots, rows_at, start_with, mark_of_word}
use Rattle.served_walk.proofs.Gathers.{items_of, rows_placed}
use Rattle.made_rows.specs.declared.gather.Stand.{Stand}
use Rattle.made_rows.specs.declared.making.NewRow.{NewRow}
use Rattle.made_rows.specs.Met.{open_ipa, next_goal, met}
use Rattle.made_rows.specs.Pieces.{after1, after2}
use Rattle.made_rows.specs.NewRows.{MadeFor, maker_for, regime_for, row_from, rows_from, one_from, IsKnown}
use Rattle.made_rows.specs.NewRows.{AreKnown, HasLeaf, mark_in, met_in, Passed, PassedAll}

-- the item of a mark
pub word_item : (r : Regime) (s : Stage) (x : ℕ) (i : Item) (w : What) → (mark_of_word r s x i w).item ≡ i
unfolding mark
word_item r s x i Base = refl
word_item r s x i Word = refl

items_met : (r : Regime) (va x goal : ℕ) (items : List Item) → items_of (met r va x goal items) ≡ items
items_met r va x goal [] = refl
items_met r va x goal (i ∷ items) =
    ap (λ j. j ∷ items_of (met r va (open_ipa x goal i) (next_goal r va goal i) items)) (word_item r i.stage _ i i.what)
    ∙ ap (λ l. i ∷ l) (items_met r va (open_ipa x goal i) (next_goal r va goal i) items)

pub rows_more : (k : Maker) (trail : List Item) (rows more : List NewRow) → rows_from k trail (rows ++ more)
    ≡ rows_from k trail rows ++ rows_from k trail more
rows_more k trail [] more = refl
rows_more k trail (r ∷ rows) more = ap (λ l. row_from k trail r ∷ l) (rows_more k trail rows more)

abbrev pub listed : Option NewRow → List NewRow
listed None = []
listed (Some r) = r ∷ []

pub listed_is : (k : Maker) (trail : List Item) (row : Option NewRow) → rows_from k trail (listed row) ≡ one_from k trail row
listed_is k trail None = refl
listed_is k trail (Some r) = refl

module _ (made : MadeFor) (trail : List Item) where
  abbrev K : Maker
  K = maker_for made

  abbrev rest_met : ℕ → Stand → List Mark
  rest_met at s = met (regime_for made) (untagged made.access.va) s.ipa s.goal (drop at trail)

  -- items before a place were passed
  pub record Midway (at : ℕ) (s : Stand) (rows : List NewRow) : Type 0 where
    pub rows_are : rows_from K trail rows ++ rows_at K trail (spots K at s.start (rest_met at s)) ≡ rows_at K trail (spots K 0 0 (met_in made trail))
    pub known : AreKnown (regime_for made) (drop at trail)
    pub last : Option Mark
    pub class2 : Option ℕ
    pub leaf : HasLeaf made last class2 s
    pub last_is : fold after1 last (rest_met at s) ≡ fold after1 None (met_in made trail)
    pub class2_is : fold after2 class2 (rest_met at s) ≡ fold after2 None (met_in made trail)

  pub at_front : AreKnown (regime_for made) trail → Midway 0 record { ipa = 0; goal = made.access.va % 2 ^ 52; start = 0; leaf = None; class2 = None } []
  at_front h = record {
    rows_are = refl;
    known = h;
    last = None;
    class2 = None;
    leaf = record { leaf = refl; class = λ _. refl };
    last_is = refl;
    class2_is = refl;
  }

  one_spot : (b : Bool) (m : Mark) (s n : ℕ) (rest : List Spot) → rows_at K trail (cond b (record { mark = m; start = s; upto = n } ∷ []) [] ++ rest)
      ≡ cond b (rows_by K m (take n trail) (drop s (take n trail)) m.stage m.part) [] ++ rows_at K trail rest
  one_spot true m s n rest = ap (λ z. z ++ rows_at K trail rest) refl
  one_spot false m s n rest = refl

  module _ (at : ℕ) (s : Stand) (rows : List NewRow) (mid : Midway at s rows) (i : Item) (items : List Item) (is : drop at trail ≡ i ∷ items)
      (next : drop (at + 1) trail ≡ items) (t : Stand) (row : Option NewRow) (p : Passed made at i s t row) where
    abbrev m : Mark
    m = mark_in made t.ipa i

    -- what is met from here on
    here : rest_met at s ≡ m ∷ rest_met (at + 1) t
    here =
        ap (met (regime_for made) (untagged made.access.va) s.ipa s.goal) is
        ∙ ap
        (λ y. mark_in made y i ∷ met (regime_for made) (untagged made.access.va) y (next_goal (regime_for made) (untagged made.access.va) s.goal i) items)
        (sym p.ipa) ∙ ap (λ g. m ∷ met (regime_for made) (untagged made.access.va) t.ipa g items) (sym p.goal)
        ∙ ap (λ l. m ∷ met (regime_for made) (untagged made.access.va) t.ipa t.goal l) (sym next)

    rows_here : rows_at K trail (spots K at s.start (rest_met at s)) ≡ one_from K trail row ++ rows_at K trail
        (spots K (at + 1) t.start (rest_met (at + 1) t))
    rows_here =
        ap (λ ms. rows_at K trail (spots K at s.start ms)) here
        ∙ one_spot (is_read_now K m) m (start_with s.start at m) (at + 1) (spots K (at + 1) (start_with s.start at m) (rest_met (at + 1) t))
        ∙ ap
        (λ z. cond (is_read_now K m) (rows_by K m (take (at + 1) trail) (drop z (take (at + 1) trail)) m.stage m.part) []
        ++ rows_at K trail (spots K (at + 1) z (rest_met (at + 1) t))) (sym p.start)
        ∙ ap (λ z. z ++ rows_at K trail (spots K (at + 1) t.start (rest_met (at + 1) t))) (sym (p.row_is trail))

    pub one_more : Midway (at + 1) t (rows ++ listed row)
    one_more =
        let later = rows_at K trail (spots K (at + 1) t.start (rest_met (at + 1) t)) in
        let k : AreKnown (regime_for made) (i ∷ items) = subst (AreKnown (regime_for made)) is mid.known in
        record {
          rows_are =
              ap (λ z. z ++ later) (rows_more K trail rows (listed row) ∙ ap (λ z. rows_from K trail rows ++ z) (listed_is K trail row))
              ∙ append_assoc (rows_from K trail rows) (one_from K trail row) later ∙ ap (λ z. rows_from K trail rows ++ z) (sym rows_here)
              ∙ mid.rows_are;
          known = subst (AreKnown (regime_for made)) (sym next) k.1;
          last = after1 mid.last m;
          class2 = after2 mid.class2 m;
          leaf = p.leaf mid.last mid.class2 mid.leaf;
          last_is = sym (ap (fold after1 mid.last) here) ∙ mid.last_is;
          class2_is = sym (ap (fold after2 mid.class2) here) ∙ mid.class2_is;
        }

  pub at_end : (at : ℕ) (s : Stand) (rows : List NewRow) → Midway at s rows → drop at trail ≡ [] → PassedAll made trail rows s
  at_end at s rows mid e =
      let none : rest_met at s ≡ [] = ap (met (regime_for made) (untagged made.access.va) s.ipa s.goal) e in
      let last : mid.last ≡ fold after1 None (met_in made trail) = sym (ap (fold after1 mid.last) none) ∙ mid.last_is in
      let class2 : mid.class2 ≡ fold after2 None (met_in made trail) = sym (ap (fold after2 mid.class2) none) ∙ mid.class2_is in
      let whole : trail ≡ items_of (met_in made trail) ++ [] =
      sym (append-nil (items_of (met_in made trail)) ∙ items_met (regime_for made) (untagged made.access.va) 0 (made.access.va % 2 ^ 52) trail) in
      record {
        rows_are =
            sym (append-nil (rows_from K trail rows)) ∙ ap (λ ms. rows_from K trail rows ++ rows_at K trail (spots K at s.start ms)) (sym none)
            ∙ mid.rows_are
            ∙ rows_placed K [] 0 (met_in made trail) [] trail (omega arith) whole;
        leaf = subst (λ o. HasLeaf made o (fold after2 None (met_in made trail)) s) last (subst (λ k. HasLeaf made mid.last k s) class2 mid.leaf);
      }

  -- one turn of the loop, and its end
  pub one_turn : (at : ℕ) (s t : Stand) (rows : List NewRow) (row : Option NewRow) (d : Item) → at < length trail
      → (AreKnown (regime_for made) trail → Midway at s rows)
      → (IsKnown (regime_for made) (get_or trail at d) → Passed made at (get_or trail at d) s t row)
      → AreKnown (regime_for made) trail → Midway (at + 1) t (rows ++ listed row)
  one_turn at s t rows row d lt mid p known =
      let m = mid known in
      let is = drop_more trail at d lt in
      let k : AreKnown (regime_for made) (get_or trail at d ∷ drop (at + 1) trail) = subst (AreKnown (regime_for made)) is m.known in
      one_more at s rows m (get_or trail at d) (drop (at + 1) trail) is refl t row (p k.0)

  pub last_turn : (at : ℕ) (s : Stand) (rows : List NewRow) → length trail ≤ at → (AreKnown (regime_for made) trail → Midway at s rows)
      → AreKnown (regime_for made) trail → PassedAll made trail rows s
  last_turn at s rows le mid known = at_end at s rows (mid known) (drop_all at trail le)
