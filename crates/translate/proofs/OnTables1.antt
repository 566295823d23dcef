-- How stage 1 stands from a table on kept items.
use Rattle.std.proofs.Common.{◌≡◌, ℕ, ◌-◌, ◌<◌, ◌≤◌, List, [], ◌∷◌, ◌++◌}
use Rattle.std.proofs.Common.{length, drop, sym, ap, ◌∙◌, true, false, Bool, Ok, Result}
use Rattle.geometry.specs.Tables.{most_left, left_below}
use Rattle.sysregs.specs.declared.regs.Config.{Config}
use Rattle.sysregs.specs.declared.regs.Side.{Side}
use Rattle.sysregs.specs.Sides.{side_of}
use Rattle.fault_codes.specs.declared.fault.Fault.{Fault}
use Rattle.trails.specs.declared.item.Item.{Item}
use Rattle.trails.specs.declared.outcome.Access.{Access}
use Rattle.table_reads.specs.declared.lead.Lead.TheVariants.{Down, Reached, Stopped}
use Rattle.walk_spec.specs.declared.entry.Entry1.{Entry1}
use Rattle.walk_spec.specs.declared.entry.Table1.{Table1}
use Rattle.walk_spec.specs.declared.leaf.Leaf1.{Leaf1}
use Rattle.walk_spec.specs.Ask.{Ask, finer, go_on, Stands, ends, on}
use Rattle.walk_spec.specs.Needs.{Need, Regime, fits, regime_of}
use Rattle.walk_spec.specs.Steps.{End, stops, reaches}
use Rattle.walk_spec.specs.Stage1.{Asked, entry1, step1, word_of}
use Rattle.walk_spec.specs.BothStages.{asked}
use Rattle.walk_spec.proofs.Standing.{on_after, then_on, on_ends_append}
use Rattle.walk_spec.proofs.Kept.{rest_none}
use Rattle.stage1_walk.proofs.OnEntries.{walk1_then, asks_here, walk1_below_less, last_same}
use Rattle.stage1_walk.specs.Clauses.{table_from}
use Rattle.stage1_walk.specs.declared.walk.From1.{From1}
use Rattle.stage2_walk.proofs.Starts.{left_below_of}
use Rattle.translate.specs.declared.stand.Stood1.{Stood1}
use Rattle.translate.specs.declared.stand.Stood1.TheVariants.{Found, Refused, AtTable, Within, Unfit}
use Rattle.translate.specs.Standing.{is_top, EndsAtTop, stands1, GoesOn, IsStood1, from1_at}

module _ (c : Config) (a : Access) (left : ℕ) (t : Table1) (e : Entry1) (here : e ≡ entry1 (asked c true a) left t) where
  abbrev pub r : Regime
  r = regime_of c (side_of a.va)

  abbrev pub q : Asked
  q = asked c true a

  abbrev pub behind : Item → Ask Need Item (End Leaf1)
  behind i = finer stops (word_of r) (walk1_then q left (step1 q e i.pa i.value))

  pub by_word : (rest : List Item) (s : Stands Need Item (Result Item Fault)) → on (fits r) (word_of r e) rest ≡ s
      → stands1 c a left t rest ≡ then_on s (λ x more. on (fits r) (go_on stops behind x) more)
  by_word rest s h =
      ap (λ w. on (fits r) (finer stops (word_of r) w) rest) (asks_here q left t e here)
      ∙ on_after (fits r) (word_of r e) (go_on stops behind) rest
      ∙ ap (λ z. then_on z (λ x more. on (fits r) (go_on stops behind x) more)) h

  module _ (i : Item) (rest more : List Item) (h : on (fits r) (word_of r e) rest ≡ ends (Ok i) more) where
    pub by_reached : (l : Leaf1) → Reached l ≡ step1 q e i.pa i.value → stands1 c a left t rest ≡ ends (reaches l) more
    by_reached l step = by_word rest _ h ∙ ap (λ s. on (fits r) (finer stops (word_of r) (walk1_then q left s)) more) (sym step)

    pub by_stopped : (f : Fault) → Stopped f ≡ step1 q e i.pa i.value → stands1 c a left t rest ≡ ends (stops f) more
    by_stopped f step = by_word rest _ h ∙ ap (λ s. on (fits r) (finer stops (word_of r) (walk1_then q left s)) more) (sym step)

  pub by_down : (i : Item) (rest more : List Item) → on (fits r) (word_of r e) rest ≡ ends (Ok i) more → (next : Table1)
      → Down next ≡ step1 q e i.pa i.value
      → 0 < left → stands1 c a left t rest ≡ stands1 c a (left - 1) next more
  by_down i rest more h next step few =
      by_word rest _ h ∙ ap (λ s. on (fits r) (finer stops (word_of r) (walk1_then q left s)) more) (sym step)
      ∙ ap (λ w. on (fits r) (finer stops (word_of r) w) more) (walk1_below_less q left next few)

  -- what stands behind a table stands from here
  pub lifted : (i : Item) (items rest more : List Item) → on (fits r) (word_of r e) rest ≡ ends (Ok i) more → (next : Table1)
      → Down next ≡ step1 q e i.pa i.value → 0 < left → (d : Stood1) → IsStood1 c a (left - 1) next items more d → IsStood1 c a left t items rest d
  lifted i items rest more h next step few (Found l at) d = (d.0, by_down i rest more h next step few ∙ d.1, d.2)
  lifted i items rest more h next step few (Refused f at) d = (d.0, by_down i rest more h next step few ∙ d.1)
  lifted i items rest more h next step few (AtTable from) d = (
    (d.0.0, by_down i rest more h next step few ∙ d.0.1),
    d.1,
    λ z. by_down i (rest ++ z) (more ++ z) (on_ends_append (fits r) (word_of r e) rest z (Ok i) more h) next step few ∙ d.2 z,
  )
  lifted i items rest more h next step few Within d = ((d.0.0, by_down i rest more h next step few ∙ d.0.1), d.1)
  lifted i items rest more h next step few Unfit d = by_down i rest more h next step few ∙ d

-- the walk goes on from the table in hand where no item is left
pub goes_here : (c : Config) (a : Access) (left : ℕ) (t : Table1) (rest : List Item) (from : From1) → left ≤ most_left → rest ≡ []
    → from ≡ from1_at left t
    → GoesOn c a left t rest from
goes_here c a left t rest from few none e = λ more.
    ap (λ z. stands1 c a left t (z ++ more)) none ∙ ap (λ n. stands1 c a n t more) (sym (left_below_of left few))
    ∙ ap (λ f. stands1 c a (left_below f.level) (table_from f) more) (sym e)

-- the last item is that of a table
pub ends_top : (c : Config) (s : Side) (items front : List Item) (i : Item) (at : ℕ) → items ≡ front ++ i ∷ drop at items → is_top c s i ≡ true
    → at ≡ length items → EndsAtTop c s items
ends_top c s items front i at e h l = (front, i, e ∙ ap (λ z. front ++ i ∷ z) (rest_none at items l), h)

untop : (b : Bool) → b ≡ false → b ≡ true → ⊥
untop b h k = absurd cc

-- the last item is another
pub ends_untop : (c : Config) (s : Side) (items front : List Item) (i : Item) (at : ℕ) → items ≡ front ++ i ∷ drop at items → is_top c s i ≡ false
    → at ≡ length items → EndsAtTop c s items → ⊥
ends_untop c s items front i at e h l t =
    let own : items ≡ front ++ i ∷ [] = e ∙ ap (λ z. front ++ i ∷ z) (rest_none at items l) in
    let same : i ≡ t.1 = last_same front t.0 i t.1 (sym own ∙ t.2) in
    untop (is_top c s i) h (ap (is_top c s) same ∙ t.3)
