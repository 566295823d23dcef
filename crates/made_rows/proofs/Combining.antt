-- The rows of a whole step.
use Rattle.std.proofs.Common.{◌≡◌, ℕ, ◌<◌, true, false, cond, List, [], ◌∷◌, ◌++◌, length, take}
use Rattle.std.proofs.Common.{drop, fold, refl, sym, ap, ◌∙◌, subst, Option, Some, None, arith}
use Rattle.std.specs.Prelude.{◌/◌, ◌%◌, ◌^◌, ◌≤◌, option_map}
use Rattle.geometry.specs.Tables.{most_left, level_of}
use Rattle.kept_items.proofs.StartTables.{base1_sound}
use Rattle.std.specs.Option.{option_or}
use Rattle.std.proofs.lemmas.Bool.{and_parts}
use Rattle.std.proofs.lemmas.List.{take_all}
use Rattle.sysregs.specs.declared.regs.Regs.{Regs}
use Rattle.sysregs.specs.Registers.{config_of}
use Rattle.sysregs.specs.Sides.{side_of}
use Rattle.fault_codes.specs.declared.fault.Stage.{Stage}
use Rattle.fault_codes.specs.declared.fault.Stage.TheVariants.{S1, S2}
use Rattle.trails.specs.declared.item.Item.{Item}
use Rattle.trails.specs.declared.item.What.TheVariants.{Base, Word}
use Rattle.trails.specs.declared.outcome.Access.{Access}
use Rattle.tlbi_ops.specs.Covers.{is_stage1}
use Rattle.walk_spec.specs.Ask.{Ask, done, ask, Fed, ended, lacks}
use Rattle.walk_spec.specs.Needs.{Regime, sizes_of, Need, stage1_base, stage2_base, word}
use Rattle.walk_spec.specs.Steps.{End, stops, reaches}
use Rattle.walk_spec.specs.Stage1.{untagged}
use Rattle.walk_spec.specs.BothStages.{Landing, asked, walk}
use Rattle.walk_laws.proofs.Shifts.{of_fields}
use Rattle.translate.specs.Replayed.{stands_whole}
use Rattle.machine_spec.specs.Marks.{Mark, marks, is_first, is_leaf, is_leaf1}
use Rattle.machine_spec.specs.Made.{Maker, is_read_now, leaf_row, leaf_rows, last_first, rows_of, combined_rows, numbered, rows_made}
use Rattle.machine_laws.specs.Standing.{IsOn}
use Rattle.machine_laws.proofs.MarksOf.{fits_word_parts, fits_base1_parts, fits_base2_parts}
use Rattle.served_walk.proofs.Ties.{ends_on, needs_on}
use Rattle.made_rows.specs.declared.gather.Stand.{Stand}
use Rattle.made_rows.specs.declared.making.NewRow.{NewRow}
use Rattle.made_rows.specs.Sized.{is_sized}
use Rattle.made_rows.specs.Pieces.{after1, after2, IsPiece, smaller_of}
use Rattle.made_rows.specs.NewRows.{MadeFor, maker_for, regime_for, row_from, rows_from, one_from, IsKnown, AreKnown, IsLeaf}
use Rattle.made_rows.specs.NewRows.{IsLeafRow, HasLeaf, is_new_leaf, met_in, is_mapped, StandsTo, AreMade}
use Rattle.made_rows.proofs.Steady.{AreSteady, steady_walk}
use Rattle.made_rows.proofs.MetAre.{met_are}
use Rattle.made_rows.proofs.PassingAll.{rows_more, listed, listed_is}
use Rattle.made_rows.proofs.Pieces.{holds_on, LandingIs, walk_holds, last_is}

-- THE COMBINED ROW

stage1_of : (s : Stage) → is_stage1 s ≡ true → s ≡ S1
stage1_of S1 h = refl
stage1_of S2 h = absurd cc

piece_is : (m : Mark) (k : Option ℕ) (c : ℕ) → IsPiece (Some m) k c → c ≡ smaller_of m.region.class k
piece_is m None c h = h
piece_is m (Some k) c h = h

module _ (made : MadeFor) (trail : List Item) where
  abbrev K : Maker
  K = maker_for made

  -- a row with its region and its end
  abbrev Whole : NewRow → ℕ → NewRow
  Whole n c = record n { region = record { class = c; start = untagged made.access.va / 2 ^ c }; end = length trail }

  whole_row : (m : Mark) (n : NewRow) (c : ℕ) → IsLeafRow made m n → row_from K trail (Whole n c) ≡ leaf_row K c (untagged made.access.va) m trail
  whole_row m n c h =
      let parts = and_parts (is_leaf1 m) (is_read_now K m) h.new in
      let first = and_parts (is_first m) (is_leaf m.part) parts.0 in
      let s : m.stage ≡ S1 = stage1_of m.stage first.0 in
      let t : drop 0 (take (length trail) trail) ≡ trail = take_all (length trail) trail (omega arith) in
      rw (h.kind, h.start, h.tag, h.global, s, t) refl

  last_row : (o : Option Mark) (k : Option ℕ) (c : ℕ) (s : Stand) → HasLeaf made o k s → IsPiece o k c → (leaf : Option NewRow) → s.leaf ≡ leaf
      → one_from K trail (option_map (λ n. Whole n (smaller_of n.region.class s.class2)) leaf)
      ≡ leaf_rows K c (untagged made.access.va) trail o
  last_row None k c s h p None e = refl
  last_row None k c s h p (Some n) e = absurd (subst (IsLeaf made None) e h.leaf)
  last_row (Some m) k c s h p None e =
      let f : is_new_leaf K (Some m) ≡ false = subst (IsLeaf made (Some m)) e h.leaf in
      rw f refl
  last_row (Some m) k c s h p (Some n) e =
      let l : IsLeafRow made m n = subst (IsLeaf made (Some m)) e h.leaf in
      let class : smaller_of n.region.class s.class2 ≡ c =
      ap (λ z. smaller_of z s.class2) l.class ∙ ap (smaller_of m.region.class) (h.class l.new) ∙ sym (piece_is m k c p) in
      ap (λ z. row_from K trail (Whole n z) ∷ []) class ∙ ap (λ r. r ∷ []) (whole_row m n c l)
      ∙ sym (ap (λ b. cond b (leaf_row K c (untagged made.access.va) m trail ∷ []) []) l.new)

-- WORDS OF A TRAIL

known_base : (r : Regime) (i : Item) → i.what ≡ Base → (i.stage ≡ S1 → (i.value < 2 ^ 52) × (i.value % 8 ≡ 0)) → is_sized r i.stage ≡ true
    → IsKnown r i
known_base r i b h s = record { word = λ w. (let q : Base ≡ Word = sym b ∙ w in absurd cc); base = λ _. h; sized = λ _. s }

known_base2 : (r : Regime) (i : Item) → i.what ≡ Base → i.stage ≡ S2 → is_sized r S2 ≡ true → IsKnown r i
known_base2 r i b t s = known_base r i b (λ q. (let z : S2 ≡ S1 = sym t ∙ q in absurd cc)) (subst (λ st. is_sized r st ≡ true) (sym t) s)

known_word : (r : Regime) (i : Item) → i.what ≡ Word
    → (left : ℕ) × (left ≤ most_left) × (left ≤ (sizes_of r i.stage).start) × (i.level ≡ level_of left) × (is_sized r i.stage ≡ true)
    → IsKnown r i
known_word r i w h = record {
  word = λ _. h;
  base = λ b. (let q : Word ≡ Base = sym w ∙ b in absurd cc);
  sized = λ b. (let q : Word ≡ Base = sym w ∙ b in absurd cc);
}

steady_known : {A : Type 0} (P : A → ℕ → Type 0) (r : Regime) (va x g : ℕ) (t u : Ask Need Item A) (items : List Item) → AreSteady P r va x g t
    → IsOn r t items u → AreKnown r items
steady_known P r va x g t u [] s h = tt
steady_known P r va x g (done a) u (i ∷ items) s h = absurd h
steady_known P r va x g (ask stage1_base k) u (i ∷ items) s h =
    let sound = base1_sound r i (sym h.0) in
    let p = fits_base1_parts r i h.0 in (
      known_base r i p.0 (λ _. (sound.0, sound.1)) (subst (λ st. is_sized r st ≡ true) (sym p.1) s.0),
      steady_known P r va x _ (k i) u items (s.1 i h.0) h.1,
    )
steady_known P r va x g (ask (stage2_base y) k) u (i ∷ items) s h =
    let p = fits_base2_parts r y i h.0 in (known_base2 r i p.0 p.1 s.1, steady_known P r va y g (k i) u items (s.2 i) h.1)
steady_known P r va x g (ask (word w) k) u (i ∷ items) s h =
    let p = fits_word_parts r w i h.0 in (
      known_word r i p.what (
        w.left,
        s.0.left,
        subst (λ st. w.left ≤ (sizes_of r st).start) (sym p.stage) s.0.within,
        p.level,
        subst (λ st. is_sized r st ≡ true) (sym p.stage) s.0.sized,
      ),
      steady_known P r va x _ (k i) u items (s.1 i h.0) h.1,
    )

option_or_none : (o : Option Mark) → option_or o None ≡ o
option_or_none None = refl
option_or_none (Some m) = refl

module _ (regs : Regs) (step : ℕ) (a : Access) (trail : List Item) where
  abbrev Made : MadeFor
  Made = record { regs = regs; access = a; step = step }

  abbrev R : Regime
  R = regime_for Made

  abbrev W : Ask Need Item (End Landing)
  W = walk (config_of regs) true a

  abbrev Met : List Mark
  Met = met_in Made trail

  stands_on : (end : Fed Need (End Landing)) → StandsTo (stands_whole (config_of regs) a trail) end → (u : Ask Need Item (End Landing)) × IsOn R W trail u
  stands_on (ended e) h = (done e, ends_on R W trail e h)
  stands_on (lacks n) h = (let d = needs_on R W trail n h in (ask n d.0, d.1))

  abbrev Any : End Landing → ℕ → Type 0
  Any e g = Unit {0}

  steady : AreSteady Any R (untagged a.va) 0 (a.va % 2 ^ 52) W
  steady = steady_walk (asked (config_of regs) true a) (of_fields (config_of regs) (side_of a.va)) refl 0

  module _ (end : Fed Need (End Landing)) (h : StandsTo (stands_whole (config_of regs) a trail) end) where
    pub trail_known : AreKnown R trail
    trail_known = (let d = stands_on end h in steady_known Any R (untagged a.va) 0 (a.va % 2 ^ 52) W d.0 trail steady d.1)

    met_is : marks R W trail ≡ Met
    met_is = (let d = stands_on end h in met_are R (untagged a.va) Any 0 (a.va % 2 ^ 52) W d.0 trail steady d.1)

    pub all_made : (rows more : List NewRow) → rows_from (maker_for Made) trail rows ≡ rows_of (maker_for Made) [] [] Met
        → rows_from (maker_for Made) trail more ≡ combined_rows (maker_for Made) (untagged a.va) trail Met end
        → AreMade regs step a trail end (rows ++ more)
    all_made rows more r m =
        ap (numbered 0)
        (rows_more (maker_for Made) trail rows more ∙ ap (λ z. z ++ rows_from (maker_for Made) trail more) r
        ∙ ap (λ z. rows_of (maker_for Made) [] [] Met ++ z) m)
        ∙ sym (ap (λ ms. rows_made (maker_for Made) (untagged a.va) trail ms end) met_is)

  -- how the last row comes out
  pub none_mapped : (end : Fed Need (End Landing)) → is_mapped end ≡ false → [] ≡ combined_rows (maker_for Made) (untagged a.va) trail Met end
  none_mapped (ended (stops f)) e = refl
  none_mapped (ended (reaches l)) e = absurd cc
  none_mapped (lacks n) e = refl

  pub one_mapped : (end : Fed Need (End Landing)) → StandsTo (stands_whole (config_of regs) a trail) end → is_mapped end ≡ true
      → (row : Option NewRow) → ((class : ℕ) → IsPiece (fold after1 None Met) (fold after2 None Met) class → one_from (maker_for Made) trail row
      ≡ leaf_rows (maker_for Made) class (untagged a.va) trail (fold after1 None Met))
      → rows_from (maker_for Made) trail (listed row) ≡ combined_rows (maker_for Made) (untagged a.va) trail Met end
  one_mapped (ended (stops f)) h e row g = absurd cc
  one_mapped (lacks n) h e row g = absurd cc
  one_mapped (ended (reaches l)) h e row g =
      let on = ends_on R W trail (reaches l) h in
      let p = holds_on R (LandingIs (asked (config_of regs) true a)) None None W trail (reaches l) on (walk_holds (asked (config_of regs) true a)) in
      let same = met_is (ended (reaches l)) h in
      let piece : IsPiece (fold after1 None Met) (fold after2 None Met) l.class = subst (λ ms. IsPiece (fold after1 None ms)
      (fold after2 None ms) l.class) same p in
      listed_is (maker_for Made) trail row ∙ g l.class piece
      ∙ ap (leaf_rows (maker_for Made) l.class (untagged a.va) trail) (last_is None Met ∙ option_or_none (last_first Met))
