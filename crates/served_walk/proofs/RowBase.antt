-- An access over rows, as code does it: from the base, and behind the trail of a table's row.
use Rattle.std.proofs.Common.{◌≡◌, ℕ, ◌+◌, ◌*◌, ◌≤◌, ◌<◌, ◌%◌, ◌^◌, Bool, true, false, cond, List, []}
use Rattle.std.proofs.Common.{◌∷◌, ◌++◌, length, take, drop, refl, sym, ap, ◌∙◌, subst, append-nil, arith, Ok, Err}
use Rattle.std.specs.Prelude.{slice_index_or, ℤ}
use Rattle.std.proofs.lemmas.Bool.{both_ways}
use Rattle.geometry.specs.Tables.{most_left, left_below, level_of}
use Rattle.sysregs.specs.declared.regs.Config.{Config}
use Rattle.sysregs.specs.Registers.{config_of}
use Rattle.sysregs.specs.Sides.{side_of}
use Rattle.fault_codes.specs.declared.fault.Fault.{Fault}
use Rattle.fault_codes.specs.declared.fault.Class.TheVariants.{AddressSize}
use Rattle.fault_codes.specs.declared.fault.Stage.TheVariants.{S1}
use Rattle.permissions.specs.Rights.{no_bits}
use Rattle.trails.specs.declared.item.Item.{Item}
use Rattle.trails.specs.declared.outcome.Access.{Access}
use Rattle.trails.specs.Lengths.{most_items, most_items2, most_per_word}
use Rattle.trails.specs.declared.outcome.Outcome.{Outcome}
use Rattle.trails.specs.declared.outcome.Stop.TheVariants.{Fault as FaultStop}
use Rattle.table_reads.specs.Numbers.{sizes1, is_sized1}
use Rattle.table_reads.specs.Places.{is_too_large}
use Rattle.table_reads.specs.Items.{base_item}
use Rattle.walk_spec.specs.declared.entry.Table1.{Table1}
use Rattle.walk_spec.specs.declared.leaf.Leaf1.{Leaf1}
use Rattle.walk_spec.specs.Ask.{Ask, done, ask, after}
use Rattle.walk_spec.specs.Needs.{Need, Regime, regime_of, stage1_base, fits, stage_eq}
use Rattle.walk_spec.specs.Steps.{End, stops}
use Rattle.walk_spec.specs.Stage1.{Asked, fault1, stage1_from}
use Rattle.walk_spec.specs.BothStages.{Landing, asked, stage1_behind, stage2_behind, walk, is_refused1}
use Rattle.walk_spec.specs.Fresh.{start_base1}
use Rattle.stage1_walk.specs.declared.walk.From1.{From1}
use Rattle.stage1_walk.specs.Clauses.{table_from, IsTableOf}
use Rattle.kept_items.proofs.StartTables.{base1_sound}
use Rattle.translate.specs.Parts.{root1_of}
use Rattle.translate.proofs.Starts.{table1_of}
use Rattle.translate.specs.Standing.{is_top, EndsAtTop}
use Rattle.translate.specs.Replayed.{NeedsMore}
use Rattle.machine_laws.specs.Standing.{IsOn}
use Rattle.walk_laws.proofs.Places.{first_of_and}
use Rattle.walk_laws.proofs.Sound.{sound1}
use Rattle.walk_laws.proofs.Shifts.{of_fields}
use Rattle.served_walk.specs.declared.met.Met.{Met}
use Rattle.served_walk.specs.declared.scene.Scene.{Scene}
use Rattle.served_walk.specs.ServeAt.{serve_at}
use Rattle.served_walk.specs.ServedWord.{WasServed}
use Rattle.served_walk.specs.Shows.{comes_out}
use Rattle.served_walk.specs.Meets.{place_with, second_in}
use Rattle.served_walk.specs.Chained.{Holds, RowAt}
use Rattle.served_walk.specs.KeptWords.{EndsInStage1}
use Rattle.served_walk.specs.Accessed.{WholeGave, walk_below, BelowIfOn, most_from_base, RowLeft}
use Rattle.served_walk.proofs.Ties.{needs_on}
use Rattle.served_walk.proofs.Parts.{was_behind, was_fault}
use Rattle.served_walk.proofs.Access.{stage1_is}
use Rattle.served_walk.proofs.Servable.{left_all}
use Rattle.served_walk.proofs.KeptWalk.{same_stage}
use Rattle.served_walk.proofs.RowAccess.{sup, rows}

root_err1 : (b : Bool) (e f : Fault) (from : From1) → Err f ≡ (cond b (Err e) (Ok from)) → (b ≡ true) × (f ≡ e)
root_err1 true e f from h = (refl, cc)
root_err1 false e f from h = absurd cc

root_ok1 : (b : Bool) (e : Fault) (from from' : From1) → Ok from' ≡ (cond b (Err e) (Ok from)) → (b ≡ false) × (from' ≡ from)
root_ok1 true e from from' h = absurd cc
root_ok1 false e from from' h = (refl, cc)

large_is : {L : Type 0} (b : Bool) (e : End L) (u : Ask Need Item (End L)) → b ≡ true → cond b (done e) u ≡ done e
large_is true e u h = refl
large_is false e u h = absurd cc

small_is : {L : Type 0} (b : Bool) (e : End L) (u : Ask Need Item (End L)) → b ≡ false → cond b (done e) u ≡ u
small_is true e u h = absurd cc
small_is false e u h = refl

unsized_refused : (c : Config) (a : Access) → is_sized1 c (side_of a.va) ≡ false → is_refused1 c a ≡ true
unfolding is_refused1
unsized_refused c a e = rw e refl

sized_by : (c : Config) (a : Access) (b : Bool) → is_sized1 c (side_of a.va) ≡ b → is_refused1 c a ≡ false → is_sized1 c (side_of a.va) ≡ true
sized_by c a true e h = e
sized_by c a false e h = absurd (both_ways (is_refused1 c a) h (unsized_refused c a e))

-- an access that isn't refused has a side whose numbers are in range
pub sized_of : (c : Config) (a : Access) → is_refused1 c a ≡ false → is_sized1 c (side_of a.va) ≡ true
sized_of c a h = sized_by c a (is_sized1 c (side_of a.va)) refl h

-- what ends at a word or base of stage 1 ends in stage 1
ends_in : (front : List Item) (i : Item) → i.stage ≡ S1 → EndsInStage1 (front ++ i ∷ [])
ends_in [] i e = e
ends_in (j ∷ []) i e = e
ends_in (j ∷ k ∷ front) i e = ends_in (k ∷ front) i e

ends_less : (i : Item) (items : List Item) → EndsInStage1 (i ∷ items) → EndsInStage1 items
ends_less i [] e = tt
ends_less i (j ∷ items) e = e

module _ {F : Type 0} (may : Holds F) (at : RowAt F) (z : Scene F) (a : Access) (on : (config_of z.force.now).m ≡ true)
    (ok : is_refused1 (config_of z.force.now) a ≡ false) where
  abbrev c : Config
  c = config_of z.force.now

  abbrev q : Asked
  q = asked c true a

  abbrev r : Regime
  r = regime_of c (side_of a.va)

  abbrev start : ℕ
  start = (sizes1 c (side_of a.va)).start

  abbrev Output : End Leaf1 → Ask Need Item (End Landing)
  Output = stage2_behind q

  abbrev table_at : ℕ → Table1
  table_at b = record { address = b; bits = no_bits }

  abbrev Behind : ℕ → Ask Need Item (End Landing)
  Behind b = after (stage1_behind q b) Output

  walk_is : walk c true a ≡ ask stage1_base (λ i. Behind i.value)
  walk_is = ap (λ t. after t Output) (stage1_is (place_with z []) a on ok)

  behind_small : (b : ℕ) → is_too_large r.stage1 b ≡ false → Behind b ≡ walk_below z a start (table_at b)
  behind_small b h = ap (λ t. after t Output) (small_is (is_too_large r.stage1 b) (stops (fault1 AddressSize most_left)) (stage1_from q start (table_at b)) h)

  behind_large : (b : ℕ) → is_too_large r.stage1 b ≡ true → Behind b ≡ done (stops (fault1 AddressSize most_left))
  behind_large b h = ap (λ t. after t Output) (large_is (is_too_large r.stage1 b) (stops (fault1 AddressSize most_left)) (stage1_from q start (table_at b)) h)

  -- FROM THE BASE

  abbrev base_now : Item
  base_now = base_item z.moment S1 (sizes1 c (side_of a.va)) (start_base1 z.force.now (side_of a.va))

  abbrev base : ℕ
  base = start_base1 z.force.now (side_of a.va)

  from_base : (n : ℕ) (t : Ask Need Item (End Landing)) (before met : Met) (new : List Item) (o : Outcome) → Behind base ≡ t
      → WholeGave may at z a n t before met (base_now ∷ []) new o → WholeGave may at z a n (walk c true a) before met [] new o
  from_base n t before met new o e h =
      let g = h.gave in
      record {
        result = h.result;
        outcome = h.outcome;
        room = h.room;
        gave = record {
          items = base_now ∷ g.items;
          grown = g.grown;
          services = g.services;
          noted = g.noted;
          few = g.few;
          served = λ room live m d.
              let w = g.served room live m d in
              record {
                live = w.live;
                was = was_behind (sup may at z a live) (walk c true a) (Behind base) (base_now ∷ []) g.items [] (rows may at z a d g.services)
                    (second_in met) h.result
                    (ap (serve_at (sup may at z a live) []) walk_is)
                    (subst (λ u. WasServed (sup may at z a live) u g.items (rows may at z a d g.services) (second_in met) h.result) (sym e) w.was);
              };
        };
      }

  -- it is too large
  pub large1_gave : (met : Met) (new : List Item) (f : Fault) → new ≡ base_now ∷ [] → Err f ≡ root1_of z.force.now (side_of a.va)
      → WholeGave may at z a (most_from_base z a) (walk c true a) met met [] new (comes_out (Err (FaultStop f)))
  large1_gave met new f g e =
      let d = root_err1 (is_too_large (sizes1 c (side_of a.va)) base) _ f _ e in
      from_base (most_from_base z a) (done (stops (fault1 AddressSize most_left))) met met new (comes_out (Err (FaultStop f))) (behind_large base d.0)
      (record {
        result = Err (FaultStop f);
        outcome = refl;
        room = tt;
        gave = record {
          items = [];
          grown = g;
          services = [];
          noted = sym (append-nil met.services.items);
          few = omega arith;
          served = λ room live m k.
              record {
                live = tt;
                was = subst (λ u. WasServed {L = Landing} (sup may at z a live) (done (stops (fault1 AddressSize most_left))) [] [] (second_in met)
                    (Err (FaultStop u)))
                    (sym d.1) (was_fault (sup may at z a live) (fault1 AddressSize most_left) (second_in met));
              };
        };
      })

  left_is : (from : From1) (b : ℕ) → from ≡ record { base = b; level = level_of start; tables = no_bits } → left_below from.level ≡ start
  left_is from b e = ap (λ u. left_below u.level) e ∙ left_all start

  table_is : (from : From1) (b : ℕ) → from ≡ record { base = b; level = level_of start; tables = no_bits } → table_from from ≡ table_at b
  table_is from b e = ap table_from e

  walk_at : (from : From1) (b : ℕ) → from ≡ record { base = b; level = level_of start; tables = no_bits }
      → walk_below z a (left_below from.level) (table_from from) ≡ walk_below z a start (table_at b)
  walk_at from b e = ap (λ n. walk_below z a n (table_from from)) (left_is from b e) ∙ ap (walk_below z a start) (table_is from b e)

  -- it is a table
  pub table1_gave : (before met : Met) (new : List Item) (from : From1) (o : Outcome) → Ok from ≡ root1_of z.force.now (side_of a.va)
      → BelowIfOn may at z a (left_below from.level) (table_from from) [] before met (base_now ∷ []) new o
      → WholeGave may at z a (most_from_base z a) (walk c true a) before met [] new o
  table1_gave before met new from o e h =
      let d = root_ok1 (is_too_large (sizes1 c (side_of a.va)) base) _ _ from e in
      let k = h (walk_below z a (left_below from.level) (table_from from)) tt refl in
      from_base (most_from_base z a) k.below before met new o (behind_small base d.0 ∙ sym (walk_at from base d.1) ∙ sym k.on)
      (subst (λ n. WholeGave may at z a (n + 2) k.below before met (base_now ∷ []) new o) (left_is from base d.1) k.gave)

  -- BEHIND A ROW

  pub record RowParts (items : List Item) : Type 0 where
    pub first : Item
    pub kept : List Item
    pub is : items ≡ first ∷ kept
    pub fit : fits r stage1_base first ≡ true
    pub small : is_too_large r.stage1 first.value ≡ false
    pub left : Ask Need Item (End Landing)
    pub on_left : IsOn r (walk_below z a start (table_at first.value)) kept left
    pub ends : EndsInStage1 kept

  none_top : (front : List Item) (i : Item) → [] ≡ front ++ i ∷ [] → ⊥
  none_top [] i e = absurd cc
  none_top (j ∷ front) i e = absurd cc

  done_ask : (f : Fault) (kept : List Item) (n : Need) (k : Item → Ask Need Item (End Landing)) → IsOn r (done (stops f)) kept (ask n k) → ⊥
  done_ask f [] n k h = absurd cc
  done_ask f (i ∷ kept) n k h = h

  top_stage : (i : Item) → is_top c (side_of a.va) i ≡ true → i.stage ≡ S1
  top_stage i h = same_stage i.stage S1 (first_of_and (stage_eq i.stage S1) _ h)

  parts_by : (i : Item) (kept : List Item) (n : Need) (k : Item → Ask Need Item (End Landing)) (big : Bool) → is_too_large r.stage1 i.value ≡ big
      → EndsInStage1 (i ∷ kept) → fits r stage1_base i ≡ true → IsOn r (Behind i.value) kept (ask n k) → RowParts (i ∷ kept)
  parts_by i kept n k true b e f o = absurd (done_ask (fault1 AddressSize most_left) kept n k (subst (λ u. IsOn r u kept (ask n k))
      (behind_large i.value b) o))
  parts_by i kept n k false b e f o = record {
    first = i;
    kept = kept;
    is = refl;
    fit = f;
    small = b;
    left = ask n k;
    on_left = subst (λ u. IsOn r u kept (ask n k)) (behind_small i.value b) o;
    ends = ends_less i kept e;
  }

  row_parts_on : (items : List Item) (n : Need) (k : Item → Ask Need Item (End Landing)) → EndsAtTop c (side_of a.va) items
      → IsOn r (ask stage1_base (λ i. Behind i.value)) items (ask n k) → RowParts items
  row_parts_on [] n k top o = absurd (none_top top.0 top.1 top.2)
  row_parts_on (i ∷ kept) n k top o =
      parts_by i kept n k (is_too_large r.stage1 i.value) refl (subst EndsInStage1 (sym top.2) (ends_in top.0 top.1 (top_stage top.1 top.3))) o.0 o.1

  pub row_parts : (items : List Item) → NeedsMore c a items → RowParts items
  row_parts items h =
      let o = needs_on r (walk c true a) items h.0.0 h.0.1 in
      row_parts_on items h.0.0 o.0 h.1 (subst (λ u. IsOn r u items (ask h.0.0 o.0)) walk_is o.1)

  -- the base of a row is a table's
  pub row_base : (items : List Item) (h : NeedsMore c a items) → ((row_parts items h).first.value < 2 ^ 52) × ((row_parts items h).first.value % 8 ≡ 0)
  row_base items h = base1_sound r (row_parts items h).first (sym (row_parts items h).fit)

  pub row_left : (items : List Item) (h : NeedsMore c a items) (before met : Met) (new : List Item) (from : From1) (o : Outcome)
      → from ≡ record { base = (row_parts items h).first.value; level = level_of start; tables = no_bits }
      → BelowIfOn may at z a (left_below from.level) (table_from from) (row_parts items h).kept before met ((row_parts items h).first ∷ []) new o
      → RowLeft may at z a items before met new o
  row_left items h before met new from o e b =
      let p = row_parts items h in
      let k = b p.left p.ends (subst (λ u. IsOn r u p.kept p.left) (sym (walk_at from p.first.value e)) p.on_left) in
      record {
        below = k.below;
        on = subst (λ l. IsOn r (walk c true a) l k.below) (sym p.is)
            (subst (λ u. IsOn r u (p.first ∷ p.kept) k.below) (sym walk_is)
            (p.fit, subst (λ u. IsOn r u p.kept k.below) (walk_at from p.first.value e ∙ sym (behind_small p.first.value p.small)) k.on));
        gave = subst (λ l. WholeGave may at z a (most_from_base z a) k.below before met l new o) (sym p.is)
            (subst (λ n. WholeGave may at z a (n + 2) k.below before met (p.first ∷ p.kept) new o) (left_is from p.first.value e) k.gave);
      }

  -- its table is one of the side's
  pub row_table : (items : List Item) (h : NeedsMore c a items) (from : From1)
      → from ≡ record { base = (row_parts items h).first.value; level = level_of start; tables = no_bits } → IsTableOf c (side_of a.va) from
  row_table items h from e =
      let s = sound1 r a (of_fields c (side_of a.va)) refl ok in
      let b = row_base items h in
      table1_of c (side_of a.va) from (sizes1 c (side_of a.va)) refl (ap (λ u. u.level) e) s.start (subst (λ u. u.base < 2 ^ 52) (sym e) b.0)
      (subst (λ u. u.base % 8 ≡ 0) (sym e) b.1)

  pub row_some : (items : List Item) → NeedsMore c a items → 1 ≤ length items
  row_some items h = let e = ap length (row_parts items h).is in omega (arith, e)

  pub row_first : (items : List Item) (h : NeedsMore c a items) (front : List Item) (i : Item) → front ≡ take 1 items → i ≡ slice_index_or front 0 i
      → i ≡ (row_parts items h).first
  row_first items h front i e f = f ∙ ap (λ l. slice_index_or l 0 i) e ∙ ap (λ l. slice_index_or (take 1 l) 0 i) (row_parts items h).is

  pub row_rest : (items : List Item) (h : NeedsMore c a items) (rest : List Item) → rest ≡ drop 1 items → rest ≡ (row_parts items h).kept
  row_rest items h rest e = e ∙ ap (drop 1) (row_parts items h).is

  pub row_cut : (items : List Item) (h : NeedsMore c a items) (old new : List Item) → old ≡ items → new ≡ take 1 old
      → new ≡ (row_parts items h).first ∷ []
  row_cut items h old new e f = f ∙ ap (take 1) e ∙ ap (take 1) (row_parts items h).is

  pub row_from : (items : List Item) (h : NeedsMore c a items) (from : From1) (i : Item) (level : ℤ) → from ≡ record
      { base = i.value; level = level; tables = no_bits }
      → i ≡ (row_parts items h).first → level ≡ level_of start
      → from ≡ record { base = (row_parts items h).first.value; level = level_of start; tables = no_bits }
  row_from items h from i level e f l = e ∙ ap (λ u. record { base = u.value; level = level; tables = no_bits }) f
      ∙ ap (λ u. record { base = (row_parts items h).first.value; level = u; tables = no_bits }) l

  -- behind its base there is room for all words, and for the output
  pub row_room : (items : List Item) (h : NeedsMore c a items) (from : From1) (new : List Item)
      → from ≡ record { base = (row_parts items h).first.value; level = level_of start; tables = no_bits } → new ≡ (row_parts items h).first ∷ []
      → length new + most_per_word * (left_below from.level + 1) + most_items2 ≤ most_items
  row_room items h from new e f =
      let s = (sound1 r a (of_fields c (side_of a.va)) refl ok).start in
      let l = left_is from (row_parts items h).first.value e in
      let n : length new ≡ 1 = ap length f in
      omega (arith, s, l, n)
