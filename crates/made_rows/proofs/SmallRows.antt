-- The rows of a core have small classes, over every run.
use Rattle.std.proofs.Common.{◌≡◌, ℕ, ◌+◌, ◌<◌, ◌≤◌, arith, Bool, true, false, cond, List, [], ◌∷◌}
use Rattle.std.proofs.Common.{◌++◌, length, inl, inr, refl, sym, ◌∙◌, subst, Option, Some, None}
use Rattle.std.specs.Prelude.{◌==◌, ◌&&◌, fold, filter, take}
use Rattle.std.proofs.lemmas.List.{length-replicate, get_or-replicate}
use Rattle.geometry.specs.Tables.{IsGranule, most_left}
use Rattle.sysregs.specs.Registers.{config_of}
use Rattle.sysregs.specs.Sides.{side_of}
use Rattle.fault_codes.specs.declared.fault.Stage.{Stage}
use Rattle.fault_codes.specs.declared.fault.Stage.TheVariants.{S1, S2}
use Rattle.trails.specs.declared.item.Item.{Item}
use Rattle.trails.specs.declared.event.Event.{Event}
use Rattle.trails.specs.declared.event.Event.TheVariants.{Store, Msr, Settle, Isb, Tlbi, Dsb, Deliver, Access as AccessOf, Prefetch}
use Rattle.trails.specs.declared.outcome.Access.{Access}
use Rattle.table_reads.specs.declared.sizes.Sizes.{Sizes}
use Rattle.tlbi_ops.specs.declared.inval.Inval.{Inval}
use Rattle.walk_spec.specs.Ask.{Ask, done, ask, Fed, ended, lacks}
use Rattle.walk_spec.specs.Needs.{Regime, Need, stage1_base, stage2_base, word, regime_of, sizes_of, mapping_of, class_by}
use Rattle.walk_spec.specs.Steps.{End, stops, reaches}
use Rattle.walk_spec.specs.Stage1.{untagged}
use Rattle.walk_spec.specs.BothStages.{Landing, walk}
use Rattle.walk_laws.proofs.Sound.{IsOfFields, granule1, granule2}
use Rattle.walk_laws.proofs.Shifts.{of_fields}
use Rattle.tagged_tlb.specs.declared.row.Kind.TheVariants.{Table1, Leaf2, Table2}
use Rattle.tagged_tlb.specs.declared.row.Row.{Row}
use Rattle.tagged_tlb.specs.Sets.{Cache}
use Rattle.tagged_tlb.specs.Tied.{AreSmall}
use Rattle.machine_spec.specs.Header.{Header}
use Rattle.machine_spec.specs.Invalidations.{issued_by, completes}
use Rattle.machine_spec.specs.Marks.{Part, nothing, table, leaf_of_stage1, leaf_of_stage2, Mark, mark, marks, is_leaf1}
use Rattle.machine_spec.specs.Made.{Maker, only_if, row_of, rows_by, is_read_now, chain_with, rows_of, last_first}
use Rattle.machine_spec.specs.Made.{leaf_row, leaf_rows, combined_rows, numbered, rows_made}
use Rattle.machine_spec.specs.Served.{Place, Reply, Halt, came, clash, served}
use Rattle.machine_spec.specs.Machine.{Core, World, no_core, killed, delivered, mailed_by, Visit, made_by, visited_by, visit_of}
use Rattle.machine_spec.specs.Machine.{core_numbered, regs_in, accessed, acted, moved, after_event, opened, world_after}
use Rattle.machine_laws.specs.Leaving.{In, pushed_out}
use Rattle.machine_laws.proofs.Lists.{In-append}
use Rattle.machine_laws.proofs.Events.{each_length, rows_left}
use Rattle.machine_laws.proofs.Gone.{pushed_kills, deliver_kills}
use Rattle.machine_laws.proofs.Outlived.{moved_at}
use Rattle.machine_laws.proofs.Own.{served_live}
use Rattle.machine_laws.proofs.Sets.{In-filled}
use Rattle.made_rows.specs.Small.{RowsAreSmall}
use Rattle.made_rows.proofs.Classes.{entry_most, leaf_most}
use Rattle.made_rows.proofs.Ends.{IsLow, Ends, IsEnd, IsLanding, walk_ends}
use Rattle.made_rows.proofs.Halts.{IsFed, IsHalt, served_halt}

-- MARKS

-- each mark has the class of a region of at most 2 ^ 55 bytes
abbrev AreFew : List Mark → Type 0
AreFew [] = Unit {0}
AreFew (m ∷ ms) = (m.region.class ≤ 55) × AreFew ms

granule_at : (r : Regime) → IsOfFields r → (s : Stage) → IsGranule (sizes_of r s).granule
granule_at r f S1 = granule1 r f
granule_at r f S2 = granule2 r f

class_most : (o : Option (ℕ × Bool)) (n : Sizes) (left pa : ℕ) → IsGranule n.granule → left ≤ most_left → class_by o n left pa ≤ 55
class_most None n left pa g l = entry_most n.granule left g l
class_most (Some m) n left pa g l = leaf_most n.granule n.input left m.0 m.1 pa g l

mark_class : (r : Regime) → IsOfFields r → (n : Need) (i : Item) → IsLow n → (mark r n i).region.class ≤ 55
unfolding mark
mark_class r f stage1_base i l = omega arith
mark_class r f (stage2_base x) i l = omega arith
mark_class r f (word w) i l = class_most (mapping_of r w.stage w.left i.value) (sizes_of r w.stage) w.left i.pa (granule_at r f w.stage) l

few_marks : {A : Type 0} (P : A → Type 0) (r : Regime) → IsOfFields r → (t : Ask Need Item A) (items : List Item) → Ends P t
    → AreFew (marks r t items)
few_marks P r f (done a) items h = tt
few_marks P r f (ask n k) [] h = tt
few_marks P r f (ask n k) (i ∷ items) h = (mark_class r f n i h.0, few_marks P r f (k i) items (h.1 i))

-- THE ROWS OF A STEP

abbrev IsSmall : Row → Type 0
IsSmall r = r.region.class < 64

small_if : (b : Bool) (r x : Row) → IsSmall r → In x (only_if b r) → IsSmall x
small_if true r x h (inl e) = subst IsSmall (sym e) h
small_if true r x h (inr i) = absurd i
small_if false r x h i = absurd i

module _ (k : Maker) where
  small_by : (m : Mark) (whole chain : List Item) (s : Stage) (part : Part) (x : Row) → m.region.class ≤ 55 → In x (rows_by k m whole chain s part)
      → IsSmall x
  small_by m whole chain S1 nothing x h i = absurd i
  small_by m whole chain S1 (table cached) x h i = small_if cached (row_of k m Table1 whole) x (omega (arith, h)) i
  small_by m whole chain S1 (leaf_of_stage1 global) x h i = absurd i
  small_by m whole chain S1 (leaf_of_stage2 cached) x h i = absurd i
  small_by m whole chain S2 nothing x h i = absurd i
  small_by m whole chain S2 (table cached) x h i = small_if cached (row_of k m Table2 chain) x (omega (arith, h)) i
  small_by m whole chain S2 (leaf_of_stage1 global) x h i = absurd i
  small_by m whole chain S2 (leaf_of_stage2 cached) x h i = small_if cached (row_of k m Leaf2 chain) x (omega (arith, h)) i

  small_read : (m : Mark) (whole chain : List Item) (b : Bool) (x : Row) → m.region.class ≤ 55 → In x (cond b (rows_by k m whole chain m.stage m.part) [])
      → IsSmall x
  small_read m whole chain true x h i = small_by m whole chain m.stage m.part x h i
  small_read m whole chain false x h i = absurd i

  small_words : (ms : List Mark) (whole chain : List Item) (x : Row) → AreFew ms → In x (rows_of k whole chain ms) → IsSmall x
  small_words [] whole chain x h i = absurd i
  small_words (m ∷ ms) whole chain x h i =
      let whole2 : List Item = whole ++ m.item ∷ [] in
      let chain2 : List Item = chain_with chain m in
      elim (In-append (cond (is_read_now k m) (rows_by k m whole2 chain2 m.stage m.part) []) (rows_of k whole2 chain2 ms) x i) [
        | inl j ↦ small_read m whole2 chain2 (is_read_now k m) x h.0 j
        | inr j ↦ small_words ms whole2 chain2 x h.1 j
      ]

  small_leaf : (class address : ℕ) (trail : List Item) (last : Option Mark) (x : Row) → class ≤ 55 → In x (leaf_rows k class address trail last)
      → IsSmall x
  small_leaf class address trail None x h i = absurd i
  small_leaf class address trail (Some m) x h i =
      small_if (is_leaf1 m && is_read_now k m) (leaf_row k class address m trail) x (omega (arith, h)) i

  small_combined : (address : ℕ) (trail : List Item) (ms : List Mark) (end : Fed Need (End Landing)) (x : Row) → IsFed end
      → In x (combined_rows k address trail ms end) → IsSmall x
  small_combined address trail ms (ended (stops f)) x h i = absurd i
  small_combined address trail ms (ended (reaches l)) x h i = small_leaf l.class address trail (last_first ms) x h i
  small_combined address trail ms (lacks n) x h i = absurd i

  small_numbered : (rs : List Row) (order : ℕ) → ((x : Row) → In x rs → IsSmall x) → (x : Row) → In x (numbered order rs) → IsSmall x
  small_numbered [] order h x i = absurd i
  small_numbered (r ∷ rs) order h x (inl e) = subst IsSmall (sym e) (h r (inl refl))
  small_numbered (r ∷ rs) order h x (inr i) = small_numbered rs (order + 1) (λ y j. h y (inr j)) x i

  small_made : (address : ℕ) (trail : List Item) (ms : List Mark) (end : Fed Need (End Landing)) (x : Row) → AreFew ms → IsFed end
      → In x (rows_made k address trail ms end) → IsSmall x
  small_made address trail ms end x few h i =
      small_numbered (rows_of k [] [] ms ++ combined_rows k address trail ms end) 0
      (λ y j. elim (In-append (rows_of k [] [] ms) (combined_rows k address trail ms end) y j) [
        | inl a ↦ small_words ms [] [] y few a
        | inr b ↦ small_combined address trail ms end y h b
      ])
      x i

-- each row that an access makes is small
small_reply : (p : Place) (a : Access) (r : Reply) (t : Halt) (x : Row) → IsHalt t → In x (made_by p a r t) → IsSmall x
small_reply p a r (came end) x h i =
    let c = config_of p.regs in
    small_made (record { regs = p.regs; step = p.step }) (untagged a.va) r.items (marks (regime_of c (side_of a.va)) (walk c true a) r.items) end x
    (few_marks (IsEnd IsLanding) (regime_of c (side_of a.va)) (of_fields c (side_of a.va)) (walk c true a) r.items (walk_ends c true a)) h i
small_reply p a r (clash one two) x h i = absurd i

-- A CORE AND ONE EVENT

abbrev AllSmall : List Row → Type 0
AllSmall rows = (x : Row) → In x rows → IsSmall x

visited_small : (s : Visit) (a : Access) (r : Reply) → ((x : Row) → In x r.by → In x s.cache.rows) → (t : Halt) → IsHalt t → AllSmall s.cache.rows
    → AllSmall (visited_by s a r t).cache.rows
visited_small s a r live (came end) h small x i = elim (In-filled s.header s.number s.cache r.by (made_by s.place a r (came end)) x i) [
  | inl (inl j) ↦ small x j
  | inl (inr j) ↦ small x (live x j)
  | inr j ↦ small_reply s.place a r (came end) x h j
]
visited_small s a r live (clash one two) h small x i = small x i

accessed_small : (h : Header) (w : World) (c : ℕ) (v : Core) (a : Access) (own : Bool) → AllSmall v.cache.rows
    → AllSmall (cond own (accessed h w c v a) v).cache.rows
accessed_small h w c v a true small =
    let s : Visit = visit_of h w c v in
    let y : Reply = served s.place a in
    visited_small s a y (served_live s.place a) y.halt (served_halt s.place a) small
accessed_small h w c v a false small = small

-- invalidations leave some of the rows
kills_small : (is : List Inval) (l next : Cache) → next ≡ fold killed l is → AllSmall l.rows → AllSmall next.rows
kills_small is l next e small x i = small x (rows_left is l x (subst (λ (z : Cache). In x z.rows) e i)).0

event_small : (h : Header) (w : World) (e : Event) (c : ℕ) (v : Core) → AllSmall v.cache.rows → AllSmall (moved h w e c v).cache.rows
unfolding acted
event_small h w (Store core pa value) c v small = small
event_small h w (Msr core reg value) c v small = small
event_small h w (Settle core) c v small = small
event_small h w (Isb core) c v small = small
event_small h w (Tlbi core from op shared operand) c v small =
    let issued : Option Inval = issued_by (regs_in w) w.step (Tlbi core from op shared operand) in
    kills_small (pushed_out c v.inbox issued) v.cache (mailed_by c v issued).cache (pushed_kills h c v issued) small
event_small h w (Dsb core kind) c v small = kills_small (filter (completes (Dsb core kind)) v.inbox) v.cache _ refl small
event_small h w (Deliver core) c v small =
    let own : Bool = core == c in
    kills_small (cond own (take 1 v.inbox) []) v.cache (cond own (delivered v) v).cache (deliver_kills h c v own) small
event_small h w (AccessOf core access) c v small = accessed_small h w c v access (core == c) small
event_small h w (Prefetch core access) c v small = accessed_small h w c v access (core == c) small

-- A RUN

module _ (h : Header) where
  -- a machine with all its cores, whose rows are small
  record IsSmallWorld (w : World) : Type 0 where
    count : length w.cores ≡ h.cores
    small : (c : ℕ) → c < h.cores → AllSmall (core_numbered w c).cache.rows

  small_on : (w : World) → IsSmallWorld w → (e : Event) → IsSmallWorld (after_event h w e)
  small_on w t e = record {
    count = each_length (moved h w e) 0 w.cores ∙ t.count;
    small = λ c lt. subst (λ (v : Core). AllSmall v.cache.rows) (sym (moved_at h w t.count e c lt)) (event_small h w e c (core_numbered w c) (t.small c lt));
  }

  small_first : IsSmallWorld (opened h)
  small_first = record {
    count = length-replicate h.cores no_core;
    small = λ c lt x i. absurd (subst (λ (v : Core). In x v.cache.rows) (get_or-replicate h.cores c no_core no_core lt) i);
  }

  small_from : (es : List Event) (w : World) → IsSmallWorld w → IsSmallWorld (fold (after_event h) w es)
  small_from [] w t = t
  small_from (e ∷ es) w t = small_from es (after_event h w e) (small_on w t e)

small_each : (rows : List Row) → AllSmall rows → AreSmall rows
small_each [] h = tt
small_each (r ∷ rows) h = (h r (inl refl), small_each rows (λ x i. h x (inr i)))

pub rows_are_small : RowsAreSmall
rows_are_small h events own c lt =
    small_each (core_numbered (world_after h events) c).cache.rows ((small_from h events (opened h) (small_first h)).small c lt)
