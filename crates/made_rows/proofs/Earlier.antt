-- A step whose trail has no item of its own makes no row.
use Rattle.std.proofs.Common.{◌≡◌, ℕ, true, false, cond, Bool, List, [], ◌∷◌, ◌++◌, refl, sym, ap, ◌∙◌, subst, Option, Some, None}
use Rattle.std.specs.Prelude.{◌&&◌, ◌||◌, ◌==◌, ◌%◌, ◌^◌}
use Rattle.std.specs.List.{list_any}
use Rattle.std.specs.Option.{option_or}
use Rattle.sysregs.specs.declared.regs.Regs.{Regs}
use Rattle.sysregs.specs.Registers.{config_of}
use Rattle.trails.specs.declared.item.Item.{Item}
use Rattle.trails.specs.declared.outcome.Access.{Access}
use Rattle.walk_spec.specs.Ask.{Fed, ended, lacks}
use Rattle.walk_spec.specs.Needs.{Need}
use Rattle.walk_spec.specs.Steps.{End, stops, reaches}
use Rattle.walk_spec.specs.Stage1.{untagged}
use Rattle.walk_spec.specs.BothStages.{Landing}
use Rattle.translate.specs.Replayed.{stands_whole}
use Rattle.tagged_tlb.specs.declared.row.Row.{Row}
use Rattle.machine_spec.specs.Marks.{Mark, is_first, is_leaf1}
use Rattle.machine_spec.specs.Made.{Maker, is_read_now, rows_by, rows_of, chain_with, last_first, leaf_row, leaf_rows, combined_rows}
use Rattle.made_rows.specs.Met.{met, open_ipa, next_goal, address_by}
use Rattle.made_rows.specs.NewRows.{MadeFor, maker_for, regime_for, met_in, StandsTo, AreMade}
use Rattle.made_rows.proofs.PassingAll.{word_item}
use Rattle.made_rows.proofs.Combining.{all_made}

module _ (k : Maker) where
  abbrev NoneNow : List Mark → Type 0
  NoneNow [] = Unit {0}
  NoneNow (m ∷ ms) = (is_read_now k m ≡ false) × NoneNow ms

  abbrev IsEarlier : Option Mark → Type 0
  IsEarlier None = Unit {0}
  IsEarlier (Some m) = is_read_now k m ≡ false

  none_rows : (whole chain : List Item) (ms : List Mark) → NoneNow ms → rows_of k whole chain ms ≡ []
  none_rows whole chain [] h = refl
  none_rows whole chain (m ∷ ms) h =
      let more = whole ++ m.item ∷ [] in
      let later = chain_with chain m in
      ap (λ b. cond b (rows_by k m more later m.stage m.part) [] ++ rows_of k more later ms) h.0 ∙ none_rows more later ms h.1

  earlier_or : (o : Option Mark) (b : Bool) (m : Mark) → IsEarlier o → is_read_now k m ≡ false → IsEarlier (option_or o (cond b (Some m) None))
  earlier_or None true m h g = g
  earlier_or None false m h g = tt
  earlier_or (Some x) b m h g = h

  earlier_last : (ms : List Mark) → NoneNow ms → IsEarlier (last_first ms)
  earlier_last [] h = tt
  earlier_last (m ∷ ms) h = earlier_or (last_first ms) (is_first m) m (earlier_last ms h.1) h.0

  and_none : (b : Bool) (r : Row) → cond (b && false) (r ∷ []) [] ≡ []
  and_none true r = refl
  and_none false r = refl

  none_leaf : (class x : ℕ) (trail : List Item) (o : Option Mark) → IsEarlier o → leaf_rows k class x trail o ≡ []
  none_leaf class x trail None h = refl
  none_leaf class x trail (Some m) h =
      ap (λ b. cond (is_leaf1 m && b) (leaf_row k class x m trail ∷ []) []) h ∙ and_none (is_leaf1 m) (leaf_row k class x m trail)

  none_combined : (x : ℕ) (trail : List Item) (ms : List Mark) (end : Fed Need (End Landing)) → NoneNow ms → combined_rows k x trail ms end ≡ []
  none_combined x trail ms (ended (stops f)) h = refl
  none_combined x trail ms (ended (reaches l)) h = none_leaf l.class x trail (last_first ms) (earlier_last ms h)
  none_combined x trail ms (lacks n) h = refl

or_first : (a b : Bool) → (a || b) ≡ false → a ≡ false
or_first true b h = absurd cc
or_first false b h = refl

or_second : (a b : Bool) → (a || b) ≡ false → b ≡ false
or_second true b h = absurd cc
or_second false b h = h

module _ (regs : Regs) (step : ℕ) (a : Access) where
  abbrev made : MadeFor
  made = record { regs = regs; access = a; step = step }

  abbrev is_now : Item → Bool
  is_now i = i.moment == step

  met_none : (x goal : ℕ) (items : List Item) → list_any is_now items ≡ false
      → NoneNow (maker_for made) (met (regime_for made) (untagged a.va) x goal items)
  met_none x goal [] h = tt
  met_none x goal (i ∷ items) h =
      let y = open_ipa x goal i in (
        subst (λ j. is_now j ≡ false) (sym (word_item (regime_for made) i.stage (address_by i.stage (untagged a.va) y) i i.what))
            (or_first (is_now i) (list_any is_now items) h),
        met_none y (next_goal (regime_for made) (untagged a.va) goal i) items (or_second (is_now i) (list_any is_now items) h),
      )

  pub none_made : (trail : List Item) (end : Fed Need (End Landing)) → StandsTo (stands_whole (config_of regs) a trail) end
      → list_any is_now trail ≡ false → AreMade regs step a trail end []
  none_made trail end h n =
      let none = met_none 0 (a.va % 2 ^ 52) trail n in
      all_made regs step a trail end h [] [] (sym (none_rows (maker_for made) [] [] (met_in made trail) none))
      (sym (none_combined (maker_for made) (untagged a.va) trail (met_in made trail) end none))
