-- Stage 1 for two accesses, each word with its own stage 2, side by side.
use Rattle.std.proofs.Common.{◌≡◌, ℕ, zero, suc, ◌/◌, ◌%◌, ◌^◌, ◌≤◌, List, [], ◌∷◌, ◌++◌, refl, sym, ap, ◌∙◌}
use Rattle.std.proofs.Common.{arith, Bool, true, false, cond, ◌&&◌, ◌||◌, inl, inr, Ok, Err, Result, subst, append-nil}
use Rattle.std.specs.Prelude.{◌⊎◌, not, Some}
use Rattle.std.proofs.lemmas.Bool.{eqb-true}
use Rattle.geometry.specs.Tables.{class_of, table_size, most_left}
use Rattle.geometry.specs.Runs.{goes_to}
use Rattle.sysregs.specs.declared.regs.Config.{Config}
use Rattle.sysregs.specs.Sides.{side_of}
use Rattle.permissions.specs.declared.bits.Bits1.{Bits1}
use Rattle.permissions.specs.declared.bits.TableBits.{TableBits}
use Rattle.permissions.specs.Rights.{joined, is_uxn, is_allowed1, no_bits}
use Rattle.fault_codes.specs.declared.fault.Fault.{Fault}
use Rattle.fault_codes.specs.declared.fault.Stage.{Stage}
use Rattle.fault_codes.specs.declared.fault.Stage.TheVariants.{S1, S2}
use Rattle.fault_codes.specs.declared.fault.Class.{Class}
use Rattle.fault_codes.specs.declared.fault.Class.TheVariants.{Translation, AddressSize, AccessFlag, Permission}
use Rattle.descriptors.specs.declared.kinds.Kind1.{Kind1}
use Rattle.descriptors.specs.declared.kinds.Kind1.TheVariants.{Invalid, Table, Leaf}
use Rattle.descriptors.specs.Meaning.{means1_of}
use Rattle.trails.specs.declared.item.Item.{Item}
use Rattle.trails.specs.declared.item.What.TheVariants.{Base, Word}
use Rattle.trails.specs.declared.outcome.Access.{Access}
use Rattle.table_reads.specs.declared.lead.Lead.{Lead}
use Rattle.table_reads.specs.declared.lead.Lead.TheVariants.{Down, Reached, Stopped}
use Rattle.table_reads.specs.Numbers.{AreSound}
use Rattle.table_reads.specs.Places.{place_of, is_too_large}
use Rattle.walk_spec.specs.declared.entry.Table1.{Table1}
use Rattle.walk_spec.specs.declared.entry.Entry1.{Entry1}
use Rattle.walk_spec.specs.declared.leaf.Leaf1.{Leaf1}
use Rattle.walk_spec.specs.declared.leaf.Leaf2.{Leaf2}
use Rattle.walk_spec.specs.declared.leaf.Fields1.{Fields1}
use Rattle.walk_spec.specs.Ask.{Ask, done, ask, after, go_on, finer}
use Rattle.walk_spec.specs.Needs.{Regime, Need, stage1_base, stage2_base, word, fits, is_word, is_base, stage_eq, mapping_of, class_by}
use Rattle.walk_spec.specs.Steps.{End, stops, reaches, step_then}
use Rattle.walk_spec.specs.Stage2.{walk2, walk2_from, walk2_behind, fault2, step2, is_refused2}
use Rattle.walk_spec.specs.Stage1.{Asked, untagged, fault1, leaf1_of, judged1, step1, entry1, walk1_from, is_readable, read1_by, asked2, word_of, stage1_from}
use Rattle.walk_spec.specs.BothStages.{is_refused1, stage1_on}
use Rattle.walk_laws.specs.Moved.{moved1, moved2}
use Rattle.walk_laws.proofs.Numbers.{coarser, goes_to_again, goes_to_above}
use Rattle.walk_laws.proofs.Stepping.{Takes, InStep, LastIs, Asks, last_asked, last_back, done_takes, takes_after, step_on, step_after}
use Rattle.walk_laws.proofs.Places.{one_word, one_last, one_taken, word_flat, IsAligned, line_of, line_along, run_below, class_up, class_by_least}
use Rattle.walk_laws.proofs.Places.{class_by_most, class_by_fits, Alike, alike_places, alike_through, alike_page, word_at, SameRegion, first_of_and}
use Rattle.walk_laws.proofs.Places.{second_of_and}
use Rattle.walk_laws.proofs.Aligned.{aligned_page, aligned_start, table1_page}
use Rattle.walk_laws.proofs.Levels.{Descent, levels, beneath, behind, Closes, Measure, Twins, Way, way, no_leaf}
use Rattle.walk_laws.proofs.Roots.{Root, WordOf, Rooted, from_root}
use Rattle.walk_laws.proofs.Sound.{IsOfFields, granule1, sound1}
use Rattle.walk_laws.proofs.Stage2.{reached2, what_base}

-- an access under a regime, judged or not
abbrev pub under : (regime : Regime) (judged : Bool) (access : Access) → Asked
under r j a = record { regime = r; judged = j; access = a }

-- What a word of stage 1 leads to, whatever the access: the next table, a block or page, or a fault.
pub data Turn1 (r : Regime) (left : ℕ) (i : Item) : Type 0 where
  table : (next : ℕ) (bits : TableBits) → next % 2 ^ 12 ≡ 0 →
      ((j : Bool) (a : Access) (t : Table1) →
      step1 (under r j a) (entry1 (under r j a) left t) i.pa i.value ≡ Down record { address = next; bits = joined t.bits bits }) → Turn1 r left i
  leaf : (f : Fields1) → mapping_of r S1 left i.value ≡ Some (f.out, f.contiguous) →
      ((j : Bool) (a : Access) (t : Table1) →
      step1 (under r j a) (entry1 (under r j a) left t) i.pa i.value ≡ judged1 r.config j a left (is_uxn f.bits t.bits)
      (leaf1_of r (entry1 (under r j a) left t) i.pa f)) → Turn1 r left i
  fault : (k : Class) → ((j : Bool) (a : Access) (t : Table1) → step1 (under r j a) (entry1 (under r j a) left t) i.pa i.value
      ≡ Stopped (fault1 k left)) →
      Turn1 r left i

module _ (r : Regime) (left : ℕ) (i : Item) where
  turn_table : (next : ℕ) (bits : TableBits) (big : Bool) → means1_of r.config r.side left i.value ≡ Table next bits
      → is_too_large r.stage1 next ≡ big →
      Turn1 r left i
  unfolding step1
  turn_table next bits true e b = fault AddressSize (λ j a t. rw (e, b) refl)
  turn_table next bits false e b = table next bits (table1_page r.config r.side left i.value next bits e) (λ j a t. rw (e, b) refl)

  turn_leaf : (out attr_index sh : ℕ) (bits : Bits1) (af global contiguous big off : Bool) →
      means1_of r.config r.side left i.value ≡ Leaf out attr_index bits sh af global contiguous → is_too_large r.stage1 out ≡ big →
      not (af || r.config.ha1) ≡ off → Turn1 r left i
  unfolding step1
  turn_leaf out attr_index sh bits af global contiguous true off e b n = fault AddressSize (λ j a t. rw (e, b) refl)
  turn_leaf out attr_index sh bits af global contiguous false true e b n = fault AccessFlag (λ j a t. rw (e, b, n) refl)
  turn_leaf out attr_index sh bits af global contiguous false false e b n =
      leaf record {
        out = out;
        attr_index = attr_index;
        sh = sh;
        bits = bits;
        global = global;
        contiguous = contiguous;
      } (rw e refl) (λ j a t. rw (e, b, n) refl)

  turn_by : (kind : Kind1) → means1_of r.config r.side left i.value ≡ kind → Turn1 r left i
  unfolding step1
  turn_by Invalid e = fault Translation (λ j a t. rw e refl)
  turn_by (Table next bits) e = turn_table next bits (is_too_large r.stage1 next) e refl
  turn_by (Leaf out attr_index bits sh af global contiguous) e =
      turn_leaf out attr_index sh bits af global contiguous (is_too_large r.stage1 out) (not (af || r.config.ha1)) e refl refl

  pub turn1 : Turn1 r left i
  turn1 = turn_by (means1_of r.config r.side left i.value) refl

leaf1_again : (r : Regime) (j : Bool) (a b : Access) (left : ℕ) (t : Table1) (pa : ℕ) (f : Fields1) →
    leaf1_of r (entry1 (under r j b) left t) pa f ≡ moved1 (leaf1_of r (entry1 (under r j a) left t) pa f) (untagged b.va)
leaf1_again r j a b left t pa f =
    let g : ℕ → Leaf1 = λ n. record (leaf1_of r (entry1 (under r j a) left t) pa f) { out = n } in
    ap g (sym (goes_to_again f.out (leaf1_of r (entry1 (under r j a) left t) pa f).class (untagged a.va) (untagged b.va)))

-- a question of stage 2
abbrev pub IsStage2 : Need → Type 0
IsStage2 stage1_base = ⊥
IsStage2 (stage2_base x) = Unit {0}
IsStage2 (word w) = w.stage ≡ S2

stage_eq_true : (s t : Stage) → stage_eq s t ≡ true → s ≡ t
stage_eq_true S1 S1 h = refl
stage_eq_true S1 S2 h = absurd cc
stage_eq_true S2 S1 h = absurd cc
stage_eq_true S2 S2 h = refl

-- what it takes is of stage 2
pub fits_stage2 : (r : Regime) (n : Need) (i : Item) → IsStage2 n → fits r n i ≡ true → i.stage ≡ S2
unfolding fits
fits_stage2 r stage1_base i n h = absurd n
fits_stage2 r (stage2_base x) i n h =
    stage_eq_true i.stage S2 (second_of_and (is_base i.what) _ (first_of_and _ _ (first_of_and _ _ (first_of_and _ _ (first_of_and _ _ h)))))
fits_stage2 r (word w) i n h = stage_eq_true i.stage w.stage (second_of_and (is_word i.what) _ (first_of_and _ _ (first_of_and _ _ h))) ∙ n

module _ (r : Regime) (p : Bool) (x : ℕ) where
  asks_step : {L T : Type 0} (s : Lead L T) (below : T → Ask Need Item (End L)) → ((t : T) → Asks IsStage2 (below t))
      → Asks IsStage2 (step_then below s)
  asks_step (Down t) below h = h t
  asks_step (Reached l) below h = tt
  asks_step (Stopped f) below h = tt

  asks_from : (left t : ℕ) → Asks IsStage2 (walk2_from (asked2 r p x) left t)
  asks_from zero t = (refl, λ i. asks_step (step2 (asked2 r p x) 0 i.pa i.value) (λ _. done (stops (fault2 (asked2 r p x) Translation 0))) (λ t. tt))
  asks_from (suc left) t = (refl, λ i. asks_step (step2 (asked2 r p x) (suc left) i.pa i.value) (walk2_from (asked2 r p x) left) (asks_from left))

  asks_behind : (big : Bool) (base : ℕ) →
      Asks IsStage2 (cond big (done (stops (fault2 (asked2 r p x) AddressSize most_left))) (walk2_from (asked2 r p x) r.stage2.start base))
  asks_behind true base = tt
  asks_behind false base = asks_from r.stage2.start base

  asks_by : (refused : Bool) → Asks IsStage2
      (cond refused (done (stops (fault2 (asked2 r p x) Translation most_left))) (ask (stage2_base x) (λ i. walk2_behind (asked2 r p x) i.value)))
  asks_by true = tt
  asks_by false = (tt, λ i. asks_behind (is_too_large r.stage2 i.value) i.value)

  -- stage 2 asks questions of stage 2 alone
  pub asks_stage2 : Asks IsStage2 (walk2 (asked2 r p x))
  asks_stage2 = asks_by (is_refused2 r.config x)

  -- so the last item that it took is of stage 2
  pub last_stage2 : (items : List Item) (u : Ask Need Item (End Leaf2)) (i : Item) → Takes (fits r) (walk2 (asked2 r p x)) items u → LastIs items i →
      i.stage ≡ S2
  last_stage2 items u i h l = let n = last_asked (fits r) IsStage2 (walk2 (asked2 r p x)) items u i asks_stage2 h l in fits_stage2 r n.0 i n.1 n.2

-- an item is of one stage
pub two_stages : (i : Item) → i.stage ≡ S1 → i.stage ≡ S2 → ⊥
two_stages i h k = let q : S1 ≡ S2 = sym h ∙ k in cc

-- How the word of an entry is had. With stage 2 on, its place is translated first.
module _ (r : Regime) (e : Entry1) where
  -- the question for the word at a place
  abbrev pub entry_at : ℕ → Need
  entry_at p = word_at S1 e.left p false e.address e.table.address

  abbrev pub read_fault : Leaf2 → Fault
  read_fault l = record { stage = S2; level = l.level; class = Permission; s1ptw = true }

  -- the same by whether stage 2 is on
  abbrev pub had_by : Bool → Ask Need Item (Result Item Fault)
  had_by vm = cond vm (after (walk2 (asked2 r true e.place)) (read1_by r.config e)) (one_word (entry_at e.place))

  no_word_deep : (refused : Bool) (i : Item) →
      after (cond refused (done (stops (fault2 (asked2 r true e.place) Translation most_left)))
      (ask (stage2_base e.place) (λ i. walk2_behind (asked2 r true e.place) i.value))) (read1_by r.config e) ≡ done (Ok i) → ⊥
  no_word_deep true i h = absurd cc
  no_word_deep false i h = absurd cc

  no_word_by : (vm : Bool) (i : Item) → had_by vm ≡ done (Ok i) → ⊥
  no_word_by true i h = no_word_deep (is_refused2 r.config e.place) i h
  no_word_by false i h = absurd cc

  -- no word without an item
  pub no_word : (i : Item) → Takes (fits r) (word_of r e) [] (done (Ok i)) → ⊥
  no_word i h = no_word_by r.config.vm i (sym h)

  abbrev read_by : Bool → Leaf2 → Ask Need Item (Result Item Fault)
  read_by readable l = cond readable (one_word (entry_at l.pa)) (done (Err (read_fault l)))

  read_last : (readable : Bool) (l : Leaf2) (j : Item) (rest : List Item) (u : Ask Need Item (Result Item Fault)) (i : Item) →
      Takes (fits r) (read_by readable l) (j ∷ rest) u → LastIs (j ∷ rest) i → u ≡ done (Ok i)
  read_last true l j rest u i h k = one_last r (entry_at l.pa) (j ∷ rest) u i h k
  read_last false l j rest u i h k = absurd h

  behind_last : (d : End Leaf2) (j : Item) (rest : List Item) (u : Ask Need Item (Result Item Fault)) (i : Item) →
      Takes (fits r) (read1_by r.config e d) (j ∷ rest) u → LastIs (j ∷ rest) i → u ≡ done (Ok i)
  behind_last (stops f) j rest u i h k = absurd h
  behind_last (reaches l) j rest u i h k = read_last (is_readable r.config l) l j rest u i h k

  deep_second : (front rest : List Item) (d : End Leaf2) (u : Ask Need Item (Result Item Fault)) (i : Item) →
      Takes (fits r) (walk2 (asked2 r true e.place)) front (done d) → Takes (fits r) (read1_by r.config e d) rest u → LastIs (front ++ rest) i
      → i.stage ≡ S1 →
      u ≡ done (Ok i)
  deep_second front [] d u i w h k o = absurd (two_stages i o (last_stage2 r true e.place front (done d) i w (rw append-nil at k)))
  deep_second front (j ∷ rest) d u i w h k o = behind_last d j rest u i h (last_back front j rest i k)

  last_deep : (items : List Item) (u : Ask Need Item (Result Item Fault)) (i : Item) →
      Takes (fits r) (after (walk2 (asked2 r true e.place)) (read1_by r.config e)) items u → LastIs items i → i.stage ≡ S1 → u ≡ done (Ok i)
  last_deep items u i h l o =
      elim (takes_after (fits r) (walk2 (asked2 r true e.place)) (read1_by r.config e) items u h) as (λ _. u ≡ done (Ok i)) [
        | inl w ↦ absurd (two_stages i o (last_stage2 r true e.place items (ask w.0 w.1) i w.2 l))
        | inr w ↦ deep_second w.1 w.2 w.0 u i w.4 w.5 (rw w.3 at l) o
      ]

  last_by : (vm : Bool) (items : List Item) (u : Ask Need Item (Result Item Fault)) (i : Item) → Takes (fits r) (had_by vm) items u → LastIs items i →
      i.stage ≡ S1 → u ≡ done (Ok i)
  last_by true items u i h l o = last_deep items u i h l o
  last_by false items u i h l o = one_last r (entry_at e.place) items u i h l

  -- the last item is the word, if it is of stage 1
  pub last_word : (items : List Item) (u : Ask Need Item (Result Item Fault)) (i : Item) → Takes (fits r) (word_of r e) items u → LastIs items i →
      i.stage ≡ S1 → u ≡ done (Ok i)
  last_word items u i h l o = last_by r.config.vm items u i h l o

  -- how a word was had through stage 2
  abbrev Deep : List Item → Item → Type 0
  Deep items i = (front : List Item) × (rest : List Item) × (l : Leaf2) × (items ≡ front ++ rest)
      × Takes (fits r) (walk2 (asked2 r true e.place)) front (done (reaches l)) × (is_readable r.config l ≡ true)
      × Takes (fits r) (one_word (entry_at l.pa)) rest (done (Ok i))

  deep_read : (front rest : List Item) (l : Leaf2) (i : Item) (readable : Bool) → is_readable r.config l ≡ readable →
      Takes (fits r) (walk2 (asked2 r true e.place)) front (done (reaches l)) → Takes (fits r) (read_by readable l) rest (done (Ok i))
      → Deep (front ++ rest) i
  deep_read front rest l i true b w h = (front, rest, l, refl, w, b, h)
  deep_read front rest l i false b w h = (let z = (done_takes (fits r) (Err (read_fault l)) rest (done (Ok i)) h).1 in absurd cc)

  deep_end : (front rest : List Item) (d : End Leaf2) (i : Item) → Takes (fits r) (walk2 (asked2 r true e.place)) front (done d) →
      Takes (fits r) (read1_by r.config e d) rest (done (Ok i)) → Deep (front ++ rest) i
  deep_end front rest (stops f) i w h = (let z = (done_takes (fits r) (Err f) rest (done (Ok i)) h).1 in absurd cc)
  deep_end front rest (reaches l) i w h = deep_read front rest l i (is_readable r.config l) refl w h

  deep : (items : List Item) (i : Item) → Takes (fits r) (after (walk2 (asked2 r true e.place)) (read1_by r.config e)) items (done (Ok i)) → Deep items i
  deep items i h =
      elim (takes_after (fits r) (walk2 (asked2 r true e.place)) (read1_by r.config e) items (done (Ok i)) h) as (λ _. Deep items i) [
        | inl w ↦ (let z : done (Ok i) ≡ ask w.0 (λ z. after (w.1 z) (read1_by r.config e)) = w.3 in absurd cc)
        | inr w ↦ rw w.3 (deep_end w.1 w.2 w.0 i w.4 w.5)
      ]

  fit_by : (vm : Bool) (items : List Item) (i : Item) → Takes (fits r) (had_by vm) items (done (Ok i)) → (p : ℕ) × (fits r (entry_at p) i ≡ true)
  fit_by true items i h = let d = deep items i h in (d.2.pa, (one_taken r (entry_at d.2.pa) d.1 i d.6).1)
  fit_by false items i h = (e.place, (one_taken r (entry_at e.place) items i h).1)

  -- the word fits at some place
  pub fit_word : (items : List Item) (i : Item) → Takes (fits r) (word_of r e) items (done (Ok i)) → (p : ℕ) × (fits r (entry_at p) i ≡ true)
  fit_word items i h = fit_by r.config.vm items i h

abbrev judged_by : (left : ℕ) (l : Leaf1) (refused : Bool) → Lead Leaf1 Table1
judged_by left l z = cond z (Stopped (fault1 Permission left)) (Reached l)

-- a leaf is reached, or judged to be a permission fault
pub judged_end : (c : Config) (j : Bool) (a : Access) (left : ℕ) (uxn : Bool) (l : Leaf1) →
    (judged1 c j a left uxn l ≡ Reached l) ⊎ (judged1 c j a left uxn l ≡ Stopped (fault1 Permission left))
judged_end c j a left uxn l =
    elim (j && not (is_allowed1 l.perms uxn a.el a.kind a.pan c.epan)) as (λ z.
    (judged_by left l z ≡ Reached l) ⊎ (judged_by left l z ≡ Stopped (fault1 Permission left))) [ true ↦ inr refl | false ↦ inl refl ]

judged_not_down : (c : Config) (j : Bool) (a : Access) (left : ℕ) (uxn : Bool) (l : Leaf1) (next : Table1) → judged1 c j a left uxn l ≡ Down next → ⊥
judged_not_down c j a left uxn l next h =
    elim (judged_end c j a left uxn l) as (λ _. ⊥) [
      | inl e ↦ (let q : Reached l ≡ Down next = sym e ∙ h in cc)
      | inr e ↦ (let q : Stopped (fault1 Permission left) ≡ Down next = sym e ∙ h in cc)
    ]

module _ (r : Regime) (j : Bool) where
  -- the word of a level, what it leads to, and the levels that are left
  abbrev pub had1 : (access : Access) (left : ℕ) (table : Table1) → Ask Need Item (Result Item Fault)
  had1 a left t = word_of r (entry1 (under r j a) left t)

  abbrev pub by1 : (access : Access) (left : ℕ) (table : Table1) (item : Item) → Lead Leaf1 Table1
  by1 a left t i = step1 (under r j a) (entry1 (under r j a) left t) i.pa i.value

  abbrev pub last1 : Fault
  last1 = fault1 Translation 0

  abbrev pub down1 : (access : Access) → Descent Leaf1 Table1
  down1 a = record { had = had1 a; step = by1 a; last = last1 }

  abbrev pub levels1 : (access : Access) (left : ℕ) (table : Table1) → Ask Need Item (End Leaf1)
  levels1 a = levels (down1 a)

  finer_then : (below : Table1 → Ask Entry1 Item (End Leaf1)) (s : Lead Leaf1 Table1) →
      finer stops (word_of r) (step_then below s) ≡ step_then (λ t. finer stops (word_of r) (below t)) s
  finer_then below (Down t) = refl
  finer_then below (Reached l) = refl
  finer_then below (Stopped f) = refl

  abbrev From : (a : Access) (left : ℕ) → Table1 → Ask Need Item (End Leaf1)
  From a left = λ t. stage1_from (under r j a) left t

  abbrev One : (a : Access) (left : ℕ) → (Table1 → Ask Need Item (End Leaf1)) → Table1 → Ask Need Item (End Leaf1)
  One a left below = λ t. after (had1 a left t) (go_on stops (λ i. step_then below (by1 a left t i)))

  stage1_levels_all : (a : Access) (left : ℕ) → From a left ≡ levels1 a left
  stage1_levels_all a zero = λ z. λ t. after (had1 a 0 t) (go_on stops (λ i. finer_then (λ _. done (stops last1)) (by1 a 0 t i) z))
  stage1_levels_all a (suc left) =
      let one : From a (suc left) ≡ One a (suc left) (From a left) =
      λ z. λ t. after (had1 a (suc left) t) (go_on stops (λ i. finer_then (walk1_from (under r j a) left) (by1 a (suc left) t i) z)) in
      one ∙ ap (One a (suc left)) (stage1_levels_all a left)

  pub stage1_levels : (a : Access) (left : ℕ) (t : Table1) → stage1_from (under r j a) left t ≡ levels1 a left t
  stage1_levels a left t = ap (λ f. f t) (stage1_levels_all a left)

  abbrev pub class1 : ℕ → Item → ℕ
  class1 left i = class_by (mapping_of r S1 left i.value) r.stage1 left i.pa

  abbrev pub Own1 : Item → Type 0
  Own1 i = i.stage ≡ S1

  abbrev pub Sound1 : ℕ → Table1 → Type 0
  Sound1 left t = IsAligned r.stage1 left t.address

  -- two accesses agree from a bit up, below their tags
  abbrev pub Same1 : (a b : Access) → ℕ → Type 0
  Same1 a b k = untagged a.va / 2 ^ k ≡ untagged b.va / 2 ^ k

  abbrev pub measure1 : (a b : Access) → Measure Table1
  measure1 a b = record { own = Own1; sound = Sound1; low = class_of r.stage1.granule; class = class1; same = Same1 a b }

  module _ (f : IsOfFields r) (a b : Access) where
    abbrev pub Law1 : Type 0
    Law1 = Twins (fits r) (SameRegion r) (down1 a) (down1 b) (measure1 a b)

    module _ (left : ℕ) (t : Table1) where
      abbrev place_a : ℕ
      place_a = place_of r.stage1 left t.address (untagged a.va)

      abbrev place_b : ℕ
      place_b = place_of r.stage1 left t.address (untagged b.va)

      abbrev entry_a : Entry1
      entry_a = entry1 (under r j a) left t

      abbrev entry_b : Entry1
      entry_b = entry1 (under r j b) left t

      abbrev AlikeAt : Item → ℕ → ℕ → Type 0
      AlikeAt i p p' = Alike r.stage1 left i.pa (mapping_of r S1 left i.value) p p'

      read_shift : (rest : List Item) (i : Item) (k : ℕ) (l : Leaf2) → 12 ≤ l.class → l.pa ≡ goes_to l.pa l.class place_a
          → AlikeAt i place_a place_b →
          k ≤ class1 left i → Same1 a b k → is_readable r.config l ≡ true → Takes (fits r) (one_word (entry_at r entry_a l.pa)) rest (done (Ok i)) →
          InStep (fits r) (SameRegion r) (read1_by r.config entry_a (reaches l)) (read1_by r.config entry_b (reaches (moved2 l place_b))) rest (done (Ok i))
          (done (Ok i))
      read_shift rest i k l w here al n s ok h =
          let same : place_b ≡ place_a → goes_to l.pa l.class place_b ≡ l.pa = λ e. rw e (sym here) in
          let line : place_b / line_of r.stage1.granule left ≡ place_a / line_of r.stage1.granule left →
          goes_to l.pa l.class place_b / line_of r.stage1.granule left ≡ l.pa / line_of r.stage1.granule left =
          λ e. line_along r.stage1.granule left (goes_to l.pa l.class) place_a place_b (granule1 r f) (λ m u v.
          goes_to_above l.pa l.class m place_b place_a (omega (arith, w, u)) v) e ∙ ap (λ z. z / line_of r.stage1.granule left) (sym here) in
          let al' = alike_through r.stage1 left i.pa (mapping_of r S1 left i.value) place_a place_b l.pa (goes_to l.pa l.class place_b) same line al in
          rw ok (word_flat r S1 left l.pa (goes_to l.pa l.class place_b) false (untagged a.va) (untagged b.va) t.address t.address k rest i al' n s h)

      word_shift_by : (vm : Bool) (items : List Item) (i : Item) (k : ℕ) → AlikeAt i place_a place_b → k ≤ class1 left i → Same1 a b k →
          Takes (fits r) (had_by r entry_a vm) items (done (Ok i)) →
          InStep (fits r) (SameRegion r) (had_by r entry_a vm) (had_by r entry_b vm) items (done (Ok i)) (done (Ok i))
      word_shift_by false items i k al n s h = word_flat r S1 left place_a place_b false (untagged a.va) (untagged b.va) t.address t.address k items i al n s h
      word_shift_by true items i k al n s h =
          let d = deep r entry_a items i h in
          let q = reached2 r true place_a place_b f d.0 d.2 d.4 in
          let same : place_a / 2 ^ d.2.class ≡ place_b / 2 ^ d.2.class =
          coarser place_a place_b 12 d.2.class q.least (sym (alike_page r.stage1 left i.pa (mapping_of r S1 left i.value) place_a place_b (granule1 r f) al)) in
          let first = step_after (fits r) (SameRegion r) (walk2 (asked2 r true place_a)) (walk2 (asked2 r true place_b)) (read1_by r.config entry_a)
          (read1_by r.config entry_b) d.0 _ _ (q.shift same) in
          rw d.3 (step_on (fits r) (SameRegion r) _ _ d.0 d.1 _ _ _ _ first (read_shift d.1 i k d.2 q.least q.here al n s d.5 d.6))

      -- a word of stage 1 serves both accesses, with the items of stage 2 on the way to it
      pub word_shift : (items : List Item) (i : Item) (k : ℕ) → Sound1 left t → Takes (fits r) (had1 a left t) items (done (Ok i))
          → k ≤ class1 left i →
          Same1 a b k → InStep (fits r) (SameRegion r) (had1 a left t) (had1 b left t) items (done (Ok i)) (done (Ok i))
      word_shift items i k d h n s = word_shift_by r.config.vm items i k
          (alike_places r.stage1 left t.address i.pa (mapping_of r S1 left i.value) (untagged a.va) (untagged b.va) k (granule1 r f) d n s) n s h

      tables1 : (i : Item) (next : Table1) → Turn1 r left i → by1 a left t i ≡ Down next
          → (by1 b left t i ≡ Down next) × ((below : ℕ) → Sound1 below next)
      tables1 i next (table n bits al d) h =
          let e : Down record { address = n; bits = joined t.bits bits } ≡ Down next = sym (d j a t) ∙ h in
          let q : record { address = n; bits = joined t.bits bits } ≡ next = cc in
          (d j b t ∙ e, λ below w. aligned_page r.stage1.granule below next.address (granule1 r f) (rw (ap (λ z. z.address) q) at al))
      tables1 i next (leaf v m d) h = absurd (judged_not_down r.config j a left (is_uxn v.bits t.bits) (leaf1_of r entry_a i.pa v) next (sym (d j a t) ∙ h))
      tables1 i next (fault k d) h = (let e : Stopped (fault1 k left) ≡ Down next = sym (d j a t) ∙ h in absurd cc)

    pub law1 : Law1
    law1 = record {
      none = λ left t i h. no_word r (entry1 (under r j a) left t) i h;
      whole = λ left t items u i h e o. last_word r (entry1 (under r j a) left t) items u i h e o;
      words = λ left t items i k d h l s. word_shift left t items i k d h l s;
      tables = λ left t i next h. tables1 left t i next (turn1 r left i) h;
      least = λ left i. class_by_least (mapping_of r S1 left i.value) r.stage1 left i.pa (granule1 r f);
      shrinks = λ m left i l. (let c = class_by_most (mapping_of r S1 m i.value) r.stage1 m i.pa (granule1 r f) in
          let d = run_below r.stage1.granule m left (granule1 r f) l in omega (arith, c, d));
    }

-- a base of stage 1 is a multiple of its table's size
base_fits : (r : Regime) (b : Item) → fits r stage1_base b ≡ true → (b.what ≡ Base)
    × (b.value % table_size r.stage1.granule r.stage1.input r.stage1.start ≡ 0)
unfolding fits
base_fits r b h =
    let d = first_of_and _ _ h in
    (what_base b.what (first_of_and _ _ (first_of_and _ _ (first_of_and _ _ (first_of_and _ _ d)))), eqb-true _ _ (second_of_and _ _ d))

-- the table that a base names
abbrev pub root1 : ℕ → Table1
root1 base = record { address = base; bits = no_bits }

module _ (r : Regime) (j : Bool) (a b : Access) where
  -- how stage 1 goes on behind a word, for either access
  abbrev pub behind1 : (access : Access) (left : ℕ) (table : Table1) (item : Item) → Ask Need Item (End Leaf1)
  behind1 z left t i = behind (down1 r j z) left t i

  -- Stage 1 has taken the items, the last of them a word, and stage 1 for the other access goes in step where it is not
  -- refused and the two agree above the class of this word.
  pub record Stepped1 (items : List Item) (u : Ask Need Item (End Leaf1)) : Type 0 where
    pub left : ℕ
    pub table : Table1
    pub item : Item
    pub sound : AreSound r.stage1
    pub most : class1 r j left item ≤ r.stage1.input
    pub lower : class_of r.stage1.granule left ≤ r.stage1.input
    pub fit : (place : ℕ) × (fits r (word_at S1 left place false (untagged a.va) table.address) item ≡ true)
    pub left_as : u ≡ behind1 a left table item
    pub is_last : (i : Item) → LastIs items i → i.stage ≡ S1 → i.what ≡ Word → i ≡ item
    pub shift : (k : ℕ) → k ≤ class1 r j left item → Same1 r j a b k → is_refused1 r.config b ≡ false →
        InStep (fits r) (SameRegion r) (stage1_on (under r j a)) (stage1_on (under r j b)) items u (behind1 b left table item)

  abbrev start1 : Root
  start1 = record { need = stage1_base; is_large = is_too_large r.stage1; refusal = fault1 Translation most_left; excess = fault1 AddressSize most_left }

  abbrev from1 : ℕ → Ask Need Item (End Leaf1)
  from1 base = stage1_from (under r j a) r.stage1.start (root1 base)

  from_way : (f : IsOfFields r) → r.side ≡ side_of a.va →
      (items : List Item) (u : Ask Need Item (End Leaf1)) (o : Rooted (fits r) (Own1 r j) start1 from1 (is_refused1 r.config a) items u) →
      Way (fits r) (SameRegion r) (down1 r j a) (down1 r j b) (measure1 r j a b) (law1 r j f a b) r.stage1.start (root1 o.base.value) o.rest u →
      Stepped1 (o.base ∷ o.rest) u
  from_way f side items u o w =
      let s = sound1 r a f side o.accepted in
      let e = s.entries in
      let m = class_up r.stage1.granule w.at r.stage1.start w.most in
      let lower : class_of r.stage1.granule w.at ≤ r.stage1.input = omega (arith, m, e) in
      record {
        left = w.at;
        table = w.table;
        item = w.item;
        sound = s;
        most = class_by_fits (mapping_of r S1 w.at w.item.value) r.stage1 w.at w.item.pa lower;
        lower = lower;
        fit = fit_word r (entry1 (under r j a) w.at w.table) w.fed.0 w.item w.fed.1;
        left_as = w.left_as;
        is_last = λ i l q v. w.is_last i (o.is_last i l v) q;
        shift = λ k l q ny. (let c = aligned_start r.stage1 o.base.value (granule1 r f) (base_fits r o.base o.fit).1 in
            rw (o.accepted, ny) (
              o.fit,
              o.fit,
              refl,
              rw o.within
                  (rw (stage1_levels r j a r.stage1.start (root1 o.base.value), stage1_levels r j b r.stage1.start (root1 o.base.value)) (w.shift k c l q)),
            ));
      }

  -- Stage 1 that has taken items up to a word or a leaf goes in step with that of another access of the word's region.
  pub stepped1 : IsOfFields r → r.side ≡ side_of a.va → (items : List Item) (u : Ask Need Item (End Leaf1))
      → Takes (fits r) (stage1_on (under r j a)) items u →
      Closes (WordOf (Own1 r j)) items u → Stepped1 items u
  stepped1 f side items u h c =
      let o = from_root (fits r) (Own1 r j) start1 from1 (λ i k. (base_fits r i k).0) (is_refused1 r.config a) items u h c in
      let w = way (fits r) (SameRegion r) (down1 r j a) (down1 r j b) (measure1 r j a b) (law1 r j f a b) r.stage1.start (root1 o.base.value) o.rest u
      (rw (stage1_levels r j a r.stage1.start (root1 o.base.value)) at o.taken) o.closes in
      subst (λ (z : List Item). Stepped1 z u) (sym o.split) (from_way f side items u o w)

module _ (r : Regime) (a b : Access) where
  -- what is known of a leaf that stage 1 reached
  pub record Reached1 (items : List Item) (l : Leaf1) : Type 0 where
    pub most : l.class ≤ 52
    pub here : l.out ≡ goes_to l.out l.class (untagged a.va)
    pub shift : Same1 r false a b l.class → is_refused1 r.config b ≡ false →
        InStep (fits r) (SameRegion r) (stage1_on (under r false a)) (stage1_on (under r false b)) items (done (reaches l))
        (done (reaches (moved1 l (untagged b.va))))

  at_leaf : (f : IsOfFields r) (items : List Item) (l : Leaf1) (w : Stepped1 r false a b items (done (reaches l))) → Turn1 r w.left w.item
      → Reached1 items l
  at_leaf f items l w (table next bits al d) =
      let e : done (reaches l) ≡ beneath (down1 r false a) w.left record { address = next; bits = joined w.table.bits bits } = w.left_as
      ∙ rw (d false a w.table) refl in
      absurd (no_leaf (fits r) (SameRegion r) (down1 r false a) (down1 r false b) (measure1 r false a b) (law1 r false f a b) w.left record {
        address = next;
        bits = joined w.table.bits bits;
      } l (sym e))
  at_leaf f items l w (fault k d) = (let e : done (reaches l) ≡ done (stops (fault1 k w.left)) = w.left_as ∙ rw (d false a w.table) refl in absurd cc)
  at_leaf f items l w (leaf v m d) =
      let e : done (reaches l) ≡ done (reaches (leaf1_of r (entry1 (under r false a) w.left w.table) w.item.pa v)) = w.left_as
      ∙ rw (d false a w.table) refl in
      let q : l ≡ leaf1_of r (entry1 (under r false a) w.left w.table) w.item.pa v = cc in
      let c : l.class ≡ class1 r false w.left w.item = ap (λ z. z.class) q ∙ rw m refl in
      let h : l.out ≡ goes_to v.out l.class (untagged a.va) = ap (λ z. z.out) q ∙ ap (λ k. goes_to v.out k (untagged a.va))
      (sym (ap (λ z. z.class) q)) in
      let n = w.most in
      let s = w.sound.input in
      record {
        most = omega (arith, c, n, s);
        here = h ∙ sym (ap (λ z. goes_to z l.class (untagged a.va)) h ∙ goes_to_again v.out l.class (untagged a.va) (untagged a.va));
        shift = λ same ok. (let i = w.shift l.class (omega (arith, c)) same ok in
            let o : behind1 r false a b b w.left w.table w.item ≡ done (reaches (moved1 l (untagged b.va))) =
            rw (d false b w.table) (ap (λ z. done (reaches z)) (leaf1_again r false a b w.left w.table w.item.pa v
            ∙ ap (λ z. moved1 z (untagged b.va)) (sym q))) in
            subst (λ z. InStep (fits r) (SameRegion r) (stage1_on (under r false a)) (stage1_on (under r false b)) items (done (reaches l)) z) o i);
      }

  -- a leaf of stage 1 serves each access of its region that is not refused
  pub reached1 : IsOfFields r → r.side ≡ side_of a.va → (items : List Item) (l : Leaf1) →
      Takes (fits r) (stage1_on (under r false a)) items (done (reaches l)) → Reached1 items l
  reached1 f side items l h = let w = stepped1 r false a b f side items (done (reaches l)) h (inl (l, refl)) in at_leaf f items l w (turn1 r w.left w.item)
