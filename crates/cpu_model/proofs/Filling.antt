-- Rows of a step that come one by one.
use Rattle.std.proofs.Common.{◌≡◌, ℕ, ◌+◌, ◌≤◌, ◌<◌, Bool, cond, List, [], ◌∷◌, ◌++◌}
use Rattle.std.proofs.Common.{length, fold, take, get_or, refl, sym, ap, ◌∙◌, subst, arith}
use Rattle.std.specs.Prelude.{true, false}
use Rattle.std.proofs.lemmas.Bool.{both_ways}
use Rattle.std.proofs.lemmas.List.{length-map, length-take-le, take_more}
use Rattle.sysregs.specs.declared.regs.Regs.{Regs}
use Rattle.trails.specs.declared.item.Item.{Item}
use Rattle.trace_lang.specs.Traces.{Header}
use Rattle.tagged_tlb.specs.declared.row.Row.{Row}
use Rattle.tagged_tlb.specs.Shapes.{keeps_rows}
use Rattle.tagged_tlb.specs.Sets.{Cache, touched}
use Rattle.machine_spec.specs.Made.{Maker, made_in, numbered}
use Rattle.made_rows.specs.declared.making.NewRow.{NewRow}
use Rattle.made_rows.specs.NewRows.{row_from, rows_from}
use Rattle.made_rows.proofs.PassingAll.{rows_more}
use Rattle.walk_cache.specs.ByKind.{CachesState, AreCachesOf, AreAlike, added_to}
use Rattle.walk_cache.proofs.Fills.{filled_is}
use Rattle.cpu_model.specs.Filled.{rows_of_step, HoldMore, Fills, IsFilled}

abbrev pub ordered : (row : Row) (order : ℕ) → Row
ordered r n = record r { made = made_in r.made.step n }

numbered_more : (k : ℕ) (xs : List Row) (y : Row) → numbered k (xs ++ y ∷ []) ≡ numbered k xs ++ ordered y (k + length xs) ∷ []
numbered_more k [] y = (let e : k ≡ k + 0 = omega arith in ap (λ n. ordered y n ∷ []) e)
numbered_more k (x ∷ xs) y =
    let e : k + 1 + length xs ≡ k + length (x ∷ xs) = omega arith in
    ap (λ l. ordered x k ∷ l) (numbered_more (k + 1) xs y ∙ ap (λ n. numbered (k + 1) xs ++ ordered y n ∷ []) e)

fold_more : {X Y : Type 0} (f : X → Y → X) (x : X) (ys : List Y) (y : Y) → fold f x (ys ++ y ∷ []) ≡ f (fold f x ys) y
fold_more f x [] y = refl
fold_more f x (z ∷ ys) y = fold_more f (f x z) ys y

module _ (regs : Regs) (step : ℕ) (trail : List Item) where
  abbrev K : Maker
  K = record { regs = regs; step = step }

  -- one more row of the step
  pub step_more : (xs : List NewRow) (n : NewRow)
      → rows_of_step regs step trail (xs ++ n ∷ []) ≡ rows_of_step regs step trail xs ++ record (row_from K trail n) {
        made =
            made_in step (length xs);
      } ∷ []
  step_more xs n =
      let e : 0 + length (rows_from K trail xs) ≡ length xs = (let m = length-map xs (row_from K trail) in omega (arith, m)) in
      ap (numbered 0) (rows_more K trail xs (n ∷ [])) ∙ numbered_more 0 (rows_from K trail xs) (row_from K trail n)
      ∙ ap (λ k. numbered 0 (rows_from K trail xs) ++ ordered (row_from K trail n) k ∷ []) e

  -- one turn of the loop
  pub one_turn : (rows : List NewRow) (order : ℕ) (d : NewRow) (r : Row) → order < length rows
      → r ≡ record (row_from K trail (get_or rows order d)) { made = made_in step order }
      → rows_of_step regs step trail (take (order + 1) rows) ≡ rows_of_step regs step trail (take order rows) ++ r ∷ []
  one_turn rows order d r lt is =
      let n : length (take order rows) ≡ order = length-take-le order rows (omega (arith, lt)) in
      let front = rows_of_step regs step trail (take order rows) in
      let x = row_from K trail (get_or rows order d) in
      ap (rows_of_step regs step trail) (take_more rows order d lt) ∙ step_more (take order rows) (get_or rows order d)
      ∙ ap (λ k. front ++ record x { made = made_in step k } ∷ []) n ∙ ap (λ z. front ++ z ∷ []) (sym is)

-- a row came, for each list that the caches held
pub record Added (old : CachesState) (row : Row) (lost : Bool) (new : CachesState) : Type 0 where
  pub added : (h : Header) → (core : ℕ) → (l : Cache) → AreCachesOf h core l old → AreCachesOf h core (added_to h core l row) new
  pub count : (h : Header) → (core : ℕ) → (l : Cache) → AreCachesOf h core l old
      → (added_to h core l row).evictions ≡ l.evictions + cond lost 1 0

pub held_more : (old mid new : CachesState) (rows : List Row) (row : Row) (n : ℕ) (lost : Bool) → Fills old rows n mid → Added mid row lost new
    → Fills old (rows ++ row ∷ []) (n + cond lost 1 0) new
held_more old mid new rows row n lost fills came h core l are =
    let m = fills h core l are in
    let e = fold_more (added_to h core) l rows row in record {
      caches = subst (λ (x : Cache). AreCachesOf h core x new) (sym e) (came.added h core _ m.caches);
      count = ap (λ (x : Cache). x.evictions) e ∙ came.count h core _ m.caches ∙ ap (λ k. k + cond lost 1 0) m.count ∙ omega arith;
    }

-- before the first
pub held_none : (old : CachesState) → Fills old [] 0 old
held_none old h core l are = record { caches = are; count = omega arith }

pub one_most : (b : Bool) → cond b 1 0 ≤ 1
one_most true = omega arith
one_most false = omega arith

pub alike_on : (a b c : CachesState) → AreAlike a b → AreAlike b c → AreAlike a c
alike_on a b c p q = record { size_is = q.size_is ∙ p.size_is; policy_is = q.policy_is ∙ p.policy_is }

-- services come before the rows that are made
pub step_filled : (h : Header) (core : ℕ) (l : Cache) (served rows made : List Row) (e : ℕ) (new : CachesState) → keeps_rows h.size ≡ true
    → rows ≡ made → HoldMore h core (record l { rows = touched h.policy l.rows served }) rows e new → IsFilled h core l served made e new
step_filled h core l served rows made e new keeps is m =
    let f = ap (fold (added_to h core) (record l { rows = touched h.policy l.rows served })) is
    ∙ sym (filled_is h core l served made (λ none. absurd (both_ways (keeps_rows h.size) none keeps))) in
    record { caches = subst (λ (x : Cache). AreCachesOf h core x new) f m.caches; count = sym (ap (λ (x : Cache). x.evictions) f) ∙ m.count }
