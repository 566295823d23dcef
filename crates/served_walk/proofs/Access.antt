-- How an access is served, case by case, and what is answered.
use Rattle.std.proofs.Common.{◌≡◌, ℕ, Bool, true, false, cond, not, List, [], ◌∷◌, ◌++◌, take}
use Rattle.std.proofs.Common.{refl, sym, ap, ◌∙◌, subst, Result, Option, Some, None}
use Rattle.std.specs.Prelude.{◌&&◌}
use Rattle.geometry.specs.Tables.{most_left}
use Rattle.sysregs.specs.declared.regs.Config.{Config}
use Rattle.sysregs.specs.Registers.{config_of}
use Rattle.sysregs.specs.Sides.{side_of}
use Rattle.fault_codes.specs.declared.fault.Class.TheVariants.{Translation}
use Rattle.fault_codes.specs.declared.fault.Stage.TheVariants.{S1}
use Rattle.trails.specs.declared.item.Item.{Item}
use Rattle.trails.specs.declared.outcome.Access.{Access}
use Rattle.trails.specs.declared.outcome.Outcome.{Outcome}
use Rattle.trails.specs.declared.outcome.Outcome.TheVariants.{Conflict as IsTwice}
use Rattle.trails.specs.declared.outcome.Stop.{Stop as Stopped}
use Rattle.table_reads.specs.Numbers.{sizes1}
use Rattle.table_reads.specs.Items.{base_item}
use Rattle.walk_spec.specs.declared.leaf.Leaf1.{Leaf1}
use Rattle.walk_spec.specs.Ask.{Ask, done, ask}
use Rattle.walk_spec.specs.Needs.{Regime, regime_of, Need, stage1_base}
use Rattle.walk_spec.specs.Steps.{End, stops}
use Rattle.walk_spec.specs.Stage1.{fault1, untagged}
use Rattle.walk_spec.specs.BothStages.{Landing, asked, stage1, stage1_on, stage1_off, stage1_behind, walk, is_refused1}
use Rattle.walk_spec.specs.Fresh.{start_base1}
use Rattle.tagged_tlb.specs.declared.row.Kind.TheVariants.{Leaf1 as OfLeaf1, Table1 as OfTable1}
use Rattle.tagged_tlb.specs.declared.row.Row.{Row}
use Rattle.tagged_tlb.specs.Rows.{matches1, matching, deepest}
use Rattle.machine_spec.specs.Made.{key_of}
use Rattle.machine_spec.specs.Served.{Supplied, credited, Halt, came, clash, Reply, Place, supply, begun1, combined, served, serve}
use Rattle.machine_spec.specs.Machine.{Visit, visited, visited_by}
use Rattle.machine_laws.specs.Standing.{IsOn}
use Rattle.translate.specs.Replayed.{EndsOn}
use Rattle.served_walk.specs.ServeAt.{serve_at, reply_of, behind}
use Rattle.served_walk.specs.ServedWord.{Second, WasServed}
use Rattle.served_walk.specs.Shows.{ShowsHalt, Shows, second_of, comes_out}
use Rattle.served_walk.proofs.Serving.{serve_is}
use Rattle.served_walk.proofs.Ties.{leaf1_served, table1_served, ended_is}
use Rattle.served_walk.proofs.Parts.{was_behind}
use Rattle.served_walk.proofs.Whole.{shows}

both_true : (a b : Bool) → a ≡ true → b ≡ false → (a && not b) ≡ true
both_true true true h k = absurd cc
both_true true false h k = refl
both_true false b h k = absurd cc

if_true : {A : Type 0} (b : Bool) (t u : A) → b ≡ true → cond b t u ≡ t
if_true true t u h = refl
if_true false t u h = absurd cc

if_false : {A : Type 0} (b : Bool) (t u : A) → b ≡ false → cond b t u ≡ u
if_false true t u h = absurd cc
if_false false t u h = refl

module _ (place : Place) (a : Access) where
  abbrev pub c : Config
  c = config_of place.regs

  abbrev pub r : Regime
  r = regime_of c (side_of a.va)

  abbrev pub leaves : List Row
  leaves = matching (matches1 OfLeaf1 (key_of place.regs) (untagged a.va)) place.rows

  abbrev pub table : Option Row
  table = deepest (matches1 OfTable1 (key_of place.regs) (untagged a.va)) place.rows

  abbrev pub sup : Need → Supplied
  sup = supply place a

  -- no row of stage 1 is asked
  pub case_off : (c.m && not (is_refused1 c a)) ≡ false → served place a ≡ reply_of (serve_at sup [] (walk c true a))
  case_off h = if_false (c.m && not (is_refused1 c a)) (combined leaves table sup (walk c true a)) (serve sup [] (walk c true a)) h
      ∙ serve_is sup [] (walk c true a)

  module _ (on : c.m ≡ true) (ok : is_refused1 c a ≡ false) where
    pub by_rows : served place a ≡ combined leaves table sup (walk c true a)
    by_rows = if_true (c.m && not (is_refused1 c a)) (combined leaves table sup (walk c true a)) (serve sup [] (walk c true a))
        (both_true c.m (is_refused1 c a) on ok)

    -- one combined row, on whose trail replay has ended
    pub case_hit : (row : Row) (len : ℕ) (o : Outcome) → leaves ≡ row ∷ [] → EndsOn c a row.trail len o
        → Shows (served place a) (take len row.trail) None (row ∷ []) o
    case_hit row len o one h =
        let d = leaf1_served c a row leaves table sup len o one h in
        subst (λ z. Shows z (take len row.trail) None (row ∷ []) o) (sym (by_rows ∙ d.1)) (record { halt = (refl, refl, d.2); by_is = refl })

    -- two of them
    pub case_twice : (one two : Row) (more : List Row) → leaves ≡ one ∷ two ∷ more → Shows (served place a) one.trail (Some two.trail) [] IsTwice
    case_twice one two more h =
        subst (λ z. Shows z one.trail (Some two.trail) [] IsTwice) (sym (by_rows
        ∙ ap (λ l. combined l table sup (walk c true a)) h)) (record { halt = (refl, refl, refl); by_is = refl })

    -- the deepest table, behind whose trail a walk is left
    pub case_table : (row : Row) (u : Ask Need Item (End Landing)) → leaves ≡ [] → table ≡ Some row → IsOn r (walk c true a) row.trail u
        → served place a ≡ reply_of (behind row.trail (row ∷ []) (serve_at sup [] u))
    case_table row u none some h =
        by_rows ∙ ap (λ l. combined l table sup (walk c true a)) none ∙ ap (λ o. begun1 o (λ items. serve sup items (walk c true a))) some
        ∙ table1_served r row sup (walk c true a) u h

    -- the same, on whose trail the walk ends
    pub case_ended : (row : Row) (len : ℕ) (o : Outcome) → leaves ≡ [] → table ≡ Some row → EndsOn c a row.trail len o
        → Shows (served place a) (take len row.trail) None (row ∷ []) o
    case_ended row len o none some d =
        let e = by_rows ∙ ap (λ l. combined l table sup (walk c true a)) none ∙ ap (λ t. begun1 t (λ items. serve sup items (walk c true a))) some
        ∙ ap (credited row) (ended_is c a sup row.trail len o d) in
        subst (λ z. Shows z (take len row.trail) None (row ∷ []) o) (sym e) (record { halt = (refl, refl, d.6); by_is = refl })

    -- no row of stage 1
    pub case_none : leaves ≡ [] → table ≡ None → served place a ≡ reply_of (serve_at sup [] (walk c true a))
    case_none none no_table = by_rows ∙ ap (λ l. combined l table sup (walk c true a)) none
        ∙ ap (λ o. begun1 o (λ items. serve sup items (walk c true a))) no_table ∙ serve_is sup [] (walk c true a)

    -- stage 1 from the register: the base, and what is behind it
    abbrev pub base_now : Item
    base_now = base_item place.step S1 (sizes1 c (side_of a.va)) (start_base1 place.regs (side_of a.va))

    pub stage1_is : stage1 (asked c true a) ≡ ask stage1_base (λ i. stage1_behind (asked c true a) i.value)
    stage1_is = if_true c.m (stage1_on (asked c true a)) (stage1_off (asked c true a)) on
        ∙ if_false (is_refused1 c a) (done (stops (fault1 Translation most_left))) (ask stage1_base (λ i. stage1_behind (asked c true a) i.value)) ok

    pub case_base : (items : List Item) (rows : List Row) (two : Second) (x : Result Leaf1 Stopped)
        → WasServed sup (stage1_behind (asked c true a) base_now.value) items rows two x → WasServed sup (stage1 (asked c true a))
        (base_now ∷ items) rows two x
    case_base items rows two x w = was_behind sup (stage1 (asked c true a)) (stage1_behind (asked c true a) base_now.value) (base_now ∷ []) items
        [] rows two x (ap (serve_at sup []) stage1_is) w

  -- what is shown of a walk that was served, behind a table's row and without one
  pub table_shows : (on : c.m ≡ true) (ok : is_refused1 c a
      ≡ false) (row : Row) (u : Ask Need Item (End Landing)) (items : List Item) (rows : List Row) (two : Second) (x : Result Landing Stopped) →
      leaves ≡ [] → table ≡ Some row → IsOn r (walk c true a) row.trail u → WasServed sup u items rows two x
      → Shows (served place a) (row.trail ++ items) (second_of x (row.trail ++ items) two) (row ∷ rows) (comes_out x)
  table_shows on ok row u items rows two x none some h w =
      subst (λ z. Shows z (row.trail
      ++ items) (second_of x (row.trail
      ++ items) two) (row ∷ rows) (comes_out x)) (sym (case_table on ok row u none some h)) (shows row.trail (row ∷ []) two sup u items rows x w)

  pub none_shows : (items : List Item) (rows : List Row) (two : Second) (x : Result Landing Stopped)
      → served place a ≡ reply_of (serve_at sup [] (walk c true a)) → WasServed sup (walk c true a) items rows two x →
      Shows (served place a) items (second_of x items two) rows (comes_out x)
  none_shows items rows two x e w = subst (λ z. Shows z items (second_of x items two) rows (comes_out x)) (sym e)
      (shows [] [] two sup (walk c true a) items rows x w)

-- THE ANSWER

module _ (s : Visit) (a : Access) where
  answer_by : (rep : Reply) (halt : Halt) (first : List Item) (second : Option (List Item)) (o : Outcome) → ShowsHalt rep.items halt first second o →
      let v = (visited_by s a rep halt).answer in (v.outcome ≡ o) × (v.first ≡ first) × (v.second ≡ second)
  answer_by rep (came end) first second o h = (sym h.2, sym h.0, sym h.1)
  answer_by rep (clash one two) first second o h = (sym h.2, sym h.0, sym h.1)

  -- what the code shows is what the definitions answer
  pub answer_is : (first : List Item) (second : Option (List Item)) (by : List Row) (o : Outcome) → Shows (served s.place a) first second by o →
      ((visited s a).answer.outcome ≡ o) × ((visited s a).answer.first ≡ first) × ((visited s a).answer.second ≡ second)
  answer_is first second by o h = answer_by (served s.place a) (served s.place a).halt first second o h.halt
