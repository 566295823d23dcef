-- How a walk of stage 2 stands on the items of its words.
use Rattle.std.proofs.Common.{◌≡◌, ℕ, ◌+◌, ◌-◌, ◌<◌, List, length, drop, get_or, refl, sym, ap, ◌∙◌, true, false, Bool, [], arith}
use Rattle.std.proofs.lemmas.List.{length-drop}
use Rattle.std.specs.Prelude.{if◌then◌else◌}
use Rattle.geometry.specs.Tables.{most_left}
use Rattle.fault_codes.specs.declared.fault.Class.TheVariants.{Translation}
use Rattle.fault_codes.specs.declared.fault.Fault.{Fault}
use Rattle.trails.specs.declared.item.Item.{Item}
use Rattle.table_reads.specs.declared.lead.Lead.TheVariants.{Down, Reached, Stopped}
use Rattle.table_reads.specs.Places.{place_of}
use Rattle.walk_spec.specs.declared.leaf.Leaf2.{Leaf2}
use Rattle.walk_spec.specs.Ask.{done, ask, Stands, needs, bad, ends, on}
use Rattle.walk_spec.specs.Needs.{Need, Regime, stage2_base, word, fits}
use Rattle.walk_spec.specs.Steps.{End, stops, reaches}
use Rattle.walk_spec.specs.Stage2.{Asked2, fault2, step2, walk2_from, walk2_behind, walk2, is_refused2}
use Rattle.walk_spec.proofs.Kept.{asks_none, asks_off, asks_by}
use Rattle.stage2_walk.specs.declared.replayed.Replay2.TheVariants.{Other}
use Rattle.stage2_walk.specs.Replayed.{IsReplayed2}
use Rattle.stage2_walk.proofs.OnWords.{word_at, walk2_then, asks_here, walk2_below_less}

off_with : {A : Type 0} (b : Bool) → b ≡ false → (t u : A) → u ≡ (if b then t else u)
off_with true h t u = absurd cc
off_with false h t u = refl

on_with : {A : Type 0} (b : Bool) → b ≡ true → (t u : A) → t ≡ (if b then t else u)
on_with true h t u = refl
on_with false h t u = absurd cc

-- an IPA that is not refused asks for the base
pub asks_base : (q : Asked2) → is_refused2 q.config q.ipa ≡ false → walk2 q ≡ ask (stage2_base q.ipa) (λ i. walk2_behind q i.value)
asks_base q h = sym (off_with (is_refused2 q.config q.ipa) h (done (stops (fault2 q Translation most_left)))
    (ask (stage2_base q.ipa) (λ i. walk2_behind q i.value)))

-- an IPA that is refused asks for nothing
pub asks_nothing : (q : Asked2) → is_refused2 q.config q.ipa ≡ true → walk2 q ≡ done (stops (fault2 q Translation most_left))
asks_nothing q h =
    sym (on_with (is_refused2 q.config q.ipa) h (done (stops (fault2 q Translation most_left))) (ask (stage2_base q.ipa) (λ i. walk2_behind q i.value)))

module _ (r : Regime) (q : Asked2) (left table p : ℕ) (here : p ≡ place_of q.sizes left table q.ipa) (items : List Item) (at : ℕ) where
  abbrev pub Here : Stands Need Item (End Leaf2) → Type 0
  Here s = on (fits r) (walk2_from q left table) (drop at items) ≡ s

  -- the list is at its end
  pub kept_none : at ≡ length items → Here (needs (word (word_at q left table p)))
  kept_none e = asks_none (fits r) _ _ _ (asks_here q left table p here) items at e

  module _ (i : Item) (l : at < length items) (e : i ≡ get_or items at i) where
    -- the item is another
    pub kept_off : false ≡ fits r (word (word_at q left table p)) i → Here bad
    kept_off f = asks_off (fits r) _ _ _ (asks_here q left table p here) items at i l e (sym f)

    module _ (f : true ≡ fits r (word (word_at q left table p)) i) where
      kept_by : Here (on (fits r) (walk2_then q left (step2 q left i.pa i.value)) (drop (at + 1) items))
      kept_by = asks_by (fits r) _ _ _ (asks_here q left table p here) items at i l e (sym f)

      -- it is that of a leaf
      pub kept_reaches : (m : Leaf2) → Reached m ≡ step2 q left i.pa i.value → Here (ends (reaches m) (drop (at + 1) items))
      kept_reaches m step = kept_by ∙ ap (λ s. on (fits r) (walk2_then q left s) (drop (at + 1) items)) (sym step)

      -- it is a fault
      pub kept_stops : (d : Fault) → Stopped d ≡ step2 q left i.pa i.value → Here (ends (stops d) (drop (at + 1) items))
      kept_stops d step = kept_by ∙ ap (λ s. on (fits r) (walk2_then q left s) (drop (at + 1) items)) (sym step)

      -- it is that of a table
      pub kept_goes : (next : ℕ) → Down next ≡ step2 q left i.pa i.value → 0 < left
          → Here (on (fits r) (walk2_from q (left - 1) next) (drop (at + 1) items))
      kept_goes next step few =
          kept_by ∙ ap (λ s. on (fits r) (walk2_then q left s) (drop (at + 1) items)) (sym step)
          ∙ ap (λ t. on (fits r) t (drop (at + 1) items)) (walk2_below_less q left next few)

-- items are left over behind a leaf
pub left_over : (s : Stands Need Item (End Leaf2)) (l : Leaf2) (items : List Item) (at : ℕ) → at < length items → s ≡ ends (reaches l) (drop at items)
    → IsReplayed2 Other s
left_over s l items at h e = (λ m d. (let none : drop at items ≡ [] = cc in absurd (omega (arith, ap length none, length-drop at items))), λ w d. absurd cc)
