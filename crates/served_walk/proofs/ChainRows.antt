-- One chain of stage 2 as code walks it over rows.
use Rattle.std.proofs.Common.{◌≡◌, ℕ, ◌+◌, ◌≤◌, ◌<◌, inl, inr, Bool, true, false, cond, List, [], ◌∷◌, ◌++◌, length}
use Rattle.std.proofs.Common.{length-append, take, refl, sym, ap, ◌∙◌, subst, append_assoc, append-nil, arith, Option, Some, None, Ok, Err, Result}
use Rattle.std.specs.Prelude.{option_map, ℤ, IfErr, nat_le, ◌&&◌}
use Rattle.std.proofs.lemmas.Bool.Decides.{nat_tests}
use Rattle.bitwords.specs.Causes.{Rose}
use Rattle.geometry.specs.Tables.{most_left, left_below, level_of}
use Rattle.sysregs.specs.declared.regs.Config.{Config}
use Rattle.sysregs.specs.declared.regs.Regs.{Regs}
use Rattle.sysregs.specs.declared.regs.Side.{Side}
use Rattle.sysregs.specs.declared.regs.Side.TheVariants.{Low}
use Rattle.sysregs.specs.Registers.{config_of}
use Rattle.fault_codes.specs.declared.fault.Fault.{Fault}
use Rattle.fault_codes.specs.declared.fault.Stage.TheVariants.{S2}
use Rattle.fault_codes.specs.declared.fault.Class.TheVariants.{AddressSize}
use Rattle.trails.specs.declared.item.Item.{Item}
use Rattle.trails.specs.declared.outcome.Access.{Access}
use Rattle.trails.specs.declared.outcome.Stop.{Stop}
use Rattle.trails.specs.declared.outcome.Stop.TheVariants.{Fault as FaultStop, Absent, Conflict}
use Rattle.trails.specs.Lengths.{most_items, most_items2}
use Rattle.table_reads.specs.Numbers.{sizes2}
use Rattle.table_reads.specs.Places.{is_too_large}
use Rattle.table_reads.specs.Items.{base_item}
use Rattle.phys_mem.specs.Words.{memory_of}
use Rattle.walk_spec.specs.declared.leaf.Leaf2.{Leaf2}
use Rattle.walk_spec.specs.Ask.{Ask, done, ends, needs}
use Rattle.walk_spec.specs.Needs.{regime_of, Need, stage2_base, word, WordNeed}
use Rattle.walk_spec.specs.Steps.{End, stops, reaches}
use Rattle.walk_spec.specs.Stage2.{Asked2, fault2, walk2, walk2_from, walk2_behind, is_refused2}
use Rattle.walk_spec.specs.Stage1.{asked2, stands2}
use Rattle.walk_spec.specs.Fresh.{start_base2}
use Rattle.walk_spec.specs.Walked.{HasLineStop}
use Rattle.trails.specs.Printed.{HasTextStop}
use Rattle.walk_laws.proofs.Sound.{sound2}
use Rattle.walk_laws.proofs.Shifts.{of_fields}
use Rattle.stage2_walk.specs.declared.walk.From2.{From2}
use Rattle.stage2_walk.specs.declared.replayed.Replay2.{Replay2}
use Rattle.stage2_walk.specs.declared.replayed.Replay2.TheVariants.{Ended, More}
use Rattle.stage2_walk.specs.Replayed.{IsReplayed2}
use Rattle.stage2_walk.specs.Clauses.{WalkedFrom}
use Rattle.translate.specs.Parts.{begin2_of, root2_of}
use Rattle.tagged_tlb.specs.declared.row.Key.{Key}
use Rattle.tagged_tlb.specs.declared.row.Kind.{Kind}
use Rattle.tagged_tlb.specs.declared.row.Kind.TheVariants.{Leaf2 as OfLeaf2, Table2 as OfTable2}
use Rattle.tagged_tlb.specs.declared.row.Row.{Row}
use Rattle.tagged_tlb.specs.declared.found.Seen.{Seen}
use Rattle.tagged_tlb.specs.declared.found.Found.{Found}
use Rattle.tagged_tlb.specs.declared.found.Found.TheVariants.{Nothing, One, Two}
use Rattle.tagged_tlb.specs.Rows.{holds, matches, matching, deepest}
use Rattle.tagged_tlb.specs.Tied.{AreToldApart, AreSmall}
use Rattle.machine_spec.specs.Made.{key_of}
use Rattle.machine_spec.specs.Served.{halts, clash, chain_of, fresh_of, Place, supply}
use Rattle.machine_laws.specs.Leaving.{In}
use Rattle.machine_laws.proofs.Found.{In-matching, In-deepest, matched}
use Rattle.served_walk.specs.declared.met.Met.{Met}
use Rattle.served_walk.specs.declared.met.Service.{Service}
use Rattle.served_walk.specs.declared.scene.Scene.{Scene}
use Rattle.served_walk.specs.CanServe.{ServesAs}
use Rattle.served_walk.specs.ServedWord.{WasServed}
use Rattle.served_walk.specs.Meets.{rows_found, MayMeet, place_with, IsNoted, second_in}
use Rattle.served_walk.specs.Chained.{Holds, RowAt, MayConflict, ChainServed, ChainGave, NoLeaf, NoTable}
use Rattle.served_walk.proofs.Chains.{table2_room}
use Rattle.served_walk.proofs.Memory.{was_walked}
use Rattle.served_walk.proofs.Parts.{was_fault, chain_refused, chain_hit, chain_twice, chain_below, chain_base}
use Rattle.served_walk.proofs.Servable.{leaf2_answer, table2_answer, left_all}

-- WHAT WAS FOUND

pub two_none : (m : List Row) → [] ≡ take 2 m → m ≡ []
two_none [] h = refl
two_none (r ∷ m) h = absurd cc

pub two_one : (x : Row) (m : List Row) → x ∷ [] ≡ take 2 m → m ≡ x ∷ []
two_one x [] h = absurd cc
two_one x (r ∷ []) h = let e : r ≡ x = cc in ap (λ z. z ∷ []) e
two_one x (r ∷ s ∷ m) h = absurd cc

pub two_two : (x y : Row) (m : List Row) → x ∷ y ∷ [] ≡ take 2 m → (more : List Row) × (m ≡ x ∷ y ∷ more)
two_two x y [] h = absurd cc
two_two x y (r ∷ []) h = absurd cc
two_two x y (r ∷ s ∷ m) h =
    let e : r ≡ x = cc in
    let f : s ≡ y = cc in
    (m, ap (λ z. z ∷ s ∷ m) e ∙ ap (λ z. x ∷ z ∷ m) f)

never : Rose 0 0 → ⊥
never h = absurd (omega (arith, h))

-- a base is too large, or a table
root_err : (b : Bool) (e f : Fault) (from : From2) → Err f ≡ (cond b (Err e) (Ok from)) → (b ≡ true) × (f ≡ e)
root_err true e f from h = (refl, cc)
root_err false e f from h = absurd cc

root_ok : (b : Bool) (e : Fault) (from from' : From2) → Ok from' ≡ (cond b (Err e) (Ok from)) → (b ≡ false) × (from' ≡ from)
root_ok true e from from' h = absurd cc
root_ok false e from from' h = (refl, cc)

-- what a test of lengths tells
pub short_by : (a b : ℕ) (t : Bool) → t ≡ (nat_le a most_items2 && nat_le b most_items2) → t ≡ false → a ≤ most_items2 → b ≤ most_items2
    → ⊥
short_by a b t e h l m = grind (arith, nat_tests)

pub room_by : (a b : ℕ) (t : Bool) → t ≡ nat_le (a + b + 1) most_items2 → t ≡ false → a + b + 1 ≤ most_items2 → ⊥
room_by a b t e h l = grind (arith, nat_tests)

pub has_room_by : (a b : ℕ) (t : Bool) → t ≡ nat_le (a + b + 1) most_items2 → t ≡ true → a + b + 1 ≤ most_items2
has_room_by a b t e h = grind (arith, nat_tests)

pub more_is : (a b : From2) → More a ≡ More b → a ≡ b
more_is a b e = cc

pub appended : (old items new : List Item) → new ≡ old ++ items → length new ≡ length old + length items
appended old items new e = ap length e ∙ length-append old items

-- a stop with a line has a text
pub text_of : {L : Type 0} (r : Result L Stop) → IfErr r HasLineStop → IfErr r HasTextStop
text_of (Ok l) h = tt
text_of (Err (FaultStop f)) h = h
text_of (Err (Absent s l p w)) h = h
text_of (Err Conflict) h = tt

-- such a stop is no conflict
pub conflict_of : {L : Type 0} (old new : List Item) (m : Met) (r : Result L Stop) → IfErr r HasLineStop → IfErr r (MayConflict old new m)
conflict_of old new m (Ok l) h = tt
conflict_of old new m (Err (FaultStop f)) h = tt
conflict_of old new m (Err (Absent s l p w)) h = tt
conflict_of old new m (Err Conflict) h = absurd h

-- behind the base there is room
pub behind_base : (regs : Regs) (x : ℕ) → is_refused2 (config_of regs) x ≡ false → (p : Bool) (old new : List Item) (i : Item) (from : From2)
    → new ≡ old ++ i ∷ [] → Ok from ≡ root2_of regs p → length old + most_items2 ≤ most_items
    → (length new + left_below from.level < most_items) × (length new + left_below from.level + 1 ≤ length old + most_items2)
behind_base regs x ok p old new i from g e room =
    let c = config_of regs in
    let d = root_ok (is_too_large (sizes2 c) (start_base2 regs)) _ _ from e in
    let left : left_below from.level ≡ (sizes2 c).start = ap (λ z. left_below z.level) d.1 ∙ left_all (sizes2 c).start in
    let most : (sizes2 c).start ≤ most_left = (sound2 (regime_of c Low) x (of_fields c Low) ok).0.start in
    let n : length new ≡ length old + 1 = ap length g ∙ length-append old (i ∷ []) in
    (omega (arith, left, most, n, room), omega (arith, left, most, n))

-- ONE CHAIN

module _ {F : Type 0} (may : Holds F) (at : RowAt F) (scene : Scene F) (x : ℕ) where
  abbrev regs : Regs
  regs = scene.force.now

  abbrev c : Config
  c = config_of regs

  abbrev k : Key
  k = key_of regs

  abbrev Meets : List Row → Type 0
  Meets = MayMeet (may scene.finds.now) scene.moment

  -- what a search answers
  abbrev pub FindsIn : Kind → Found → Type 0
  FindsIn kind found =
      (d : Row) (live : List Row) → may scene.finds.now live → AreToldApart live → AreSmall live →
      rows_found (λ s. at scene.finds.now kind s d) found ≡ take 2 (matching (matches kind k x) live)

  abbrev pub DeepestIn : Kind → Option Seen → Type 0
  DeepestIn kind seen =
      (d : Row) (live : List Row) → may scene.finds.now live → AreToldApart live → AreSmall live →
      option_map (λ s. at scene.finds.now kind s.slot d) seen ≡ deepest (matches kind k x) live

  -- the trail of a slot, and when its row was made
  abbrev pub TrailOf : Kind → Seen → List Item → Type 0
  TrailOf kind s items = (d : Row) → items ≡ (at scene.finds.now kind s.slot d).trail

  abbrev pub MadeAs : Kind → Seen → Type 0
  MadeAs kind s = (d : Row) (live : List Row) → may scene.finds.now live → AreToldApart live → (at scene.finds.now kind s.slot d).made ≡ s.made

  -- what a live row of stage 2 is good for
  serves : (live : List Row) → Meets live → (kind : Kind) (r : Row) → In r live → matches kind k x r ≡ true
      → (r.kind ≡ kind) × ServesAs r kind ×
      (holds r.region x ≡ true)
      × (r.key.config ≡ c)
  serves live m kind r i t =
      let d = matched kind k x r t in
      (d.kind_is, subst (ServesAs r) d.kind_is (m.servable.serves r i), d.held, d.config)

  module _ (ok : is_refused2 c x ≡ false) where
    leaf_serves : (live : List Row) → Meets live → (r : Row) → In r live → matches OfLeaf2 k x r ≡ true → (s : Side) →
        ((l : Leaf2) × (stands2 c s false x r.trail ≡ ends (reaches l) [])) × (length r.trail ≤ most_items2)
    leaf_serves live m r i t s =
        let d = serves live m OfLeaf2 r i t in
        subst (λ z. is_refused2 z x ≡ false → ((l : Leaf2) × (stands2 z s false x r.trail ≡ ends (reaches l) []))
        × (length r.trail ≤ most_items2)) d.3
        (d.1 s x d.2) ok

    table_serves : (live : List Row) → Meets live → (r : Row) → In r live → matches OfTable2 k x r ≡ true → (s : Side) →
        ((w : WordNeed) × (stands2 c s false x r.trail ≡ needs (word w))) × (length r.trail ≤ most_items2)
    table_serves live m r i t s =
        let d = serves live m OfTable2 r i t in
        subst (λ z. is_refused2 z x ≡ false → ((w : WordNeed) × (stands2 z s false x r.trail ≡ needs (word w))) × (length r.trail ≤ most_items2)) d.3
        (d.1 s x d.2) ok

    abbrev leaves : List Row → List Row
    leaves live = matching (matches OfLeaf2 k x) live

    abbrev tables : List Row → Option Row
    tables live = deepest (matches OfTable2 k x) live

    leaf_live : (live : List Row) (r : Row) (more : List Row) → leaves live ≡ r ∷ more → In r live × (matches OfLeaf2 k x r ≡ true)
    leaf_live live r more e = In-matching (matches OfLeaf2 k x) live r (subst (In r) (sym e) (inl refl))

    -- NO LEAF

    no_leaf_by : ((live : List Row) (r : Row) (more : List Row) → Meets live → leaves live ≡ r ∷ more → leaves live ≡ []) → NoLeaf may scene x
    no_leaf_by h = λ live m. by (leaves live) live refl m where
      by : (l : List Row) (live : List Row) → leaves live ≡ l → Meets live → leaves live ≡ []
      by [] live e m = e
      by (r ∷ more) live e m = h live r more m e

    -- none was found
    pub none_found : FindsIn OfLeaf2 Nothing → NoLeaf may scene x
    none_found f = no_leaf_by (λ live r more m e. two_none (leaves live) (f r live m.held m.servable.told m.small))

    -- the one that matches
    one_is : (a : Seen) → FindsIn OfLeaf2 (One a) → (d : Row) (live : List Row) → Meets live
        → leaves live ≡ at scene.finds.now OfLeaf2 a.slot d ∷ []
    one_is a f d live m = two_one (at scene.finds.now OfLeaf2 a.slot d) (leaves live) (f d live m.held m.servable.told m.small)

    -- one that gave no leaf can't match
    pub one_unfit : (a : Seen) (items : List Item) (answer : Replay2) → FindsIn OfLeaf2 (One a) → TrailOf OfLeaf2 a items
        → ((s : Side) → IsReplayed2 answer (stands2 c s false x items)) → ((l : Leaf2) → answer ≡ Ended l → length items ≤ most_items2 → ⊥)
        → NoLeaf may scene x
    one_unfit a items answer f t h not = no_leaf_by (λ live r more m e.
        (let o = one_is a f r live m in
        let q = at scene.finds.now OfLeaf2 a.slot r in
        let v = leaf_live live q [] o in
        let d = leaf_serves live m q v.0 v.1 Low in
        let st : stands2 c Low false x items ≡ ends (reaches d.0.0) [] = ap (stands2 c Low false x) (t r) ∙ d.0.1 in
        let w = leaf2_answer d.0.0 (stands2 c Low false x items) st answer (h Low) in
        absurd (not w.0 w.1 (subst (λ z. length z ≤ most_items2) (sym (t r)) d.1))))

    -- of two, one of which is too long, none matches
    pub two_unfit : (a b : Seen) (one other : List Item) → FindsIn OfLeaf2 (Two a b) → TrailOf OfLeaf2 a one → TrailOf OfLeaf2 b other
        → (length one ≤ most_items2 → length other ≤ most_items2 → ⊥) → NoLeaf may scene x
    two_unfit a b one other f t u not = no_leaf_by (λ live r more m e.
        (let p = at scene.finds.now OfLeaf2 a.slot r in
        let q = at scene.finds.now OfLeaf2 b.slot r in
        let o = two_two p q (leaves live) (f r live m.held m.servable.told m.small) in
        let v = leaf_live live p (q ∷ o.0) o.1 in
        let w = In-matching (matches OfLeaf2 k x) live q (subst (In q) (sym o.1) (inr (inl refl))) in
        absurd (not (subst (λ z. length z ≤ most_items2) (sym (t r)) (leaf_serves live m p v.0 v.1 Low).1)
        (subst (λ z. length z ≤ most_items2) (sym (u r)) (leaf_serves live m q w.0 w.1 Low).1))))

    -- A LEAF

    abbrev place : List Row → Place
    place live = place_with scene live

    supply_is : (live : List Row) (a : Access) (m : List Row) (t : Option Row) → leaves live ≡ m → tables live ≡ t
        → supply (place live) a (stage2_base x) ≡ chain_of (fresh_of (place live) a (stage2_base x)) m t
    supply_is live a m t e f = ap (λ l. chain_of (fresh_of (place live) a (stage2_base x)) l (tables live)) e
        ∙ ap (chain_of (fresh_of (place live) a (stage2_base x)) m) f

    pub leaf_gave : (p : Bool) (a : Seen) (items : List Item) (l : Leaf2) (before after : Met) (old new : List Item) → FindsIn OfLeaf2 (One a)
        → MadeAs OfLeaf2 a → TrailOf OfLeaf2 a items → ((s : Side) → IsReplayed2 (Ended l) (stands2 c s false x items)) → new ≡ old ++ items
        → IsNoted (record { kind = OfLeaf2; seen = a }) before.services.items after.services.items
        → ChainGave may at scene p x before after old new (Ok l)
    leaf_gave p a items l before after old new f made t h g n =
        let v : Service = record { kind = OfLeaf2; seen = a } in
        record {
          items = items;
          grown = g;
          services = n.0;
          noted = n.1;
          few = n.2;
          served = λ room live m d.
              let q = at scene.finds.now OfLeaf2 a.slot d in
              let o = one_is a f d live m in
              let w = leaf_live live q [] o in
              subst (λ z. ChainServed (λ k s. at scene.finds.now k s d) (place live) p x items z (second_in after) (Ok l)) (sym (n.3 room))
              (record {
                live = (record { live = w.0; kind = (serves live m OfLeaf2 q w.0 w.1).0; made = made d live m.held m.servable.told }, tt);
                was = λ a' s.
                    subst (λ z. WasServed (supply (place live) a') (walk2 (asked2 (regime_of c s) p x)) z (q ∷ []) (second_in after) (Ok l)) (sym (t d))
                    (chain_hit c s p x (supply (place live) a') q (fresh_of (place live) a' (stage2_base x)) l (second_in after)
                    (supply_is live a' (q ∷ []) (tables live) o refl) (subst (λ z. IsReplayed2 (Ended l) (stands2 c s false x z)) (t d) (h s)));
              });
        }

    pub two_gave : (p : Bool) (a b : Seen) (one other : List Item) (before after : Met) (old new : List Item) → FindsIn OfLeaf2 (Two a b)
        → TrailOf OfLeaf2 a one → TrailOf OfLeaf2 b other → new ≡ old ++ one → after.services ≡ before.services → after.second.items ≡ other
        → after.instead ≡ length one → ChainGave may at scene p x before after old new (Err Conflict)
    two_gave p a b one other before after old new f t u g same second instead = record {
      items = one;
      grown = g;
      services = [];
      noted = ap (λ z. z.items) same ∙ sym (append-nil before.services.items);
      few = omega arith;
      served = λ room live m d.
          let q = at scene.finds.now OfLeaf2 a.slot d in
          let r = at scene.finds.now OfLeaf2 b.slot d in
          let o = two_two q r (leaves live) (f d live m.held m.servable.told m.small) in
          record {
            live = tt;
            was = λ a' s.
                subst (λ z. WasServed (supply (place live) a') (walk2 (asked2 (regime_of c s) p x)) z [] (second_in after) (Err Conflict)) (sym (t d))
                (chain_twice c s p x (supply (place live) a') q.trail r.trail (second_in after) ok
                (supply_is live a' (q ∷ r ∷ o.0) (tables live) o.1 refl) (second ∙ u d) (instead ∙ ap length (t d)));
          };
    }

    -- A TABLE

    no_table_by : ((live : List Row) (r : Row) → Meets live → tables live ≡ Some r → tables live ≡ None) → NoTable may scene x
    no_table_by h = λ live m. by (tables live) live refl m where
      by : (o : Option Row) (live : List Row) → tables live ≡ o → Meets live → tables live ≡ None
      by None live e m = e
      by (Some r) live e m = h live r m e

    pub no_table : DeepestIn OfTable2 None → NoTable may scene x
    no_table f = no_table_by (λ live r m e. sym (f r live m.held m.servable.told m.small))

    table_live : (live : List Row) (r : Row) → tables live ≡ Some r → In r live × (matches OfTable2 k x r ≡ true)
    table_live live r e = In-deepest (matches OfTable2 k x) live r e

    -- one that leads to no table, or is too long, can't match
    pub table_unfit : (a : Seen) (items : List Item) (answer : Replay2) → DeepestIn OfTable2 (Some a) → TrailOf OfTable2 a items
        → ((s : Side) → IsReplayed2 answer (stands2 c s false x items))
        → ((from : From2) → answer ≡ More from → length items + left_below from.level + 1 ≤ most_items2 → ⊥)
        → NoTable may scene x
    table_unfit a items answer f t h not = no_table_by (λ live r m e.
        (let q = at scene.finds.now OfTable2 a.slot r in
        let v = table_live live q (sym (f r live m.held m.servable.told m.small)) in
        let d = table_serves live m q v.0 v.1 Low in
        let st : stands2 c Low false x items ≡ needs (word d.0.0) = ap (stands2 c Low false x) (t r) ∙ d.0.1 in
        let w = table2_answer d.0.0 (stands2 c Low false x items) st answer (h Low) in
        absurd (not w.0 w.1 (table2_room c Low false x (λ n. halts (clash [] [])) items w.0 (subst (λ z. IsReplayed2 z (stands2 c Low false x items))
        w.1 (h Low))))))

    pub table_gave : (p : Bool) (a : Seen) (items : List Item) (from : From2) (before after : Met) (old mid new : List Item) (r : Result Leaf2 Stop)
        → DeepestIn OfTable2 (Some a) → MadeAs OfTable2 a → TrailOf OfTable2 a items
        → ((s : Side) → IsReplayed2 (More from) (stands2 c s false x items)) → mid ≡ old ++ items
        → IsNoted (record { kind = OfTable2; seen = a }) before.services.items after.services.items
        → WalkedFrom (Some (memory_of scene.phys.now)) (Rose 0 0) (record { config = c; ipa = x; s1ptw = p; moment = scene.moment; from = from }) mid new r
        → NoLeaf may scene x → ChainGave may at scene p x before after old new r
    table_gave p a items from before after old mid new r f made t h g n w none =
        record {
          items = items ++ w.more;
          grown = w.grown ∙ ap (λ l. l ++ w.more) g ∙ append_assoc old items w.more;
          services = n.0;
          noted = n.1;
          few = n.2;
          served = λ room live m d.
              let q = at scene.finds.now OfTable2 a.slot d in
              let o : tables live ≡ Some q = sym (f d live m.held m.servable.told m.small) in
              let v = table_live live q o in
              subst (λ z. ChainServed (λ k s. at scene.finds.now k s d) (place live) p x (items ++ w.more) z (second_in after) r) (sym (n.3 room))
              (record {
                live = (record { live = v.0; kind = (serves live m OfTable2 q v.0 v.1).0; made = made d live m.held m.servable.told }, tt);
                was = λ a' s.
                    let b = was_walked (place live) a' (Rose 0 0) never (walk2_from (asked2 (regime_of c s) p x) (left_below from.level) from.base) mid new r
                    (second_in after) w in
                    subst (λ z. WasServed (supply (place live) a') (walk2 (asked2 (regime_of c s) p x)) (z ++ w.more) (q ∷ []) (second_in after) r)
                    (sym (t d))
                    (chain_below c s p x (supply (place live) a') q (fresh_of (place live) a' (stage2_base x)) from w.more [] (second_in after) r
                    (supply_is live a' [] (Some q) (none live m) o) (subst (λ z. IsReplayed2 (More from) (stands2 c s false x z)) (t d) (h s)) b);
              });
        }

    -- THE BASE

    abbrev base_now : Item
    base_now = base_item scene.moment S2 (sizes2 c) (start_base2 regs)

    base_gave : (p : Bool) (met : Met) (more : List Item) (old new : List Item) (r : Result Leaf2 Stop) → new ≡ old ++ base_now ∷ more
        → ((live : List Row) (a : Access) (s : Side)
        → WasServed (supply (place live) a) (walk2_behind (asked2 (regime_of c s) p x) (start_base2 regs)) more [] (second_in met) r)
        → NoLeaf may scene x → NoTable may scene x → ChainGave may at scene p x met met old new r
    base_gave p met more old new r g w none bare = record {
      items = base_now ∷ more;
      grown = g;
      services = [];
      noted = sym (append-nil met.services.items);
      few = omega arith;
      served = λ room live m d.
          record {
            live = tt;
            was = λ a s. chain_base c s p x (supply (place live) a) base_now more [] (second_in met) r ok
                (supply_is live a [] None (none live m) (bare live m)) (w live a s);
          };
    }

    large_is : (b : Bool) (q : Asked2) (u : Ask Need Item (End Leaf2)) → b ≡ true
        → cond b (done (stops (fault2 q AddressSize most_left))) u ≡ done (stops (fault2 q AddressSize most_left))
    large_is true q u h = refl
    large_is false q u h = absurd cc

    small_is : (b : Bool) (q : Asked2) (u : Ask Need Item (End Leaf2)) → b ≡ false → cond b (done (stops (fault2 q AddressSize most_left))) u ≡ u
    small_is true q u h = absurd cc
    small_is false q u h = refl

    -- it is too large
    pub large_gave : (p : Bool) (met : Met) (old new : List Item) (f : Fault) → new ≡ old ++ base_now ∷ [] → Err f ≡ root2_of regs p
        → NoLeaf may scene x → NoTable may scene x → ChainGave may at scene p x met met old new (Err (FaultStop f))
    large_gave p met old new f g e =
        let d = root_err (is_too_large (sizes2 c) (start_base2 regs)) _ f _ e in
        base_gave p met [] old new (Err (FaultStop f)) g
        (λ live a s. subst (λ t. WasServed (supply (place live) a) t [] [] (second_in met) (Err (FaultStop f)))
        (sym (large_is (is_too_large (sizes2 c) (start_base2 regs)) (asked2 (regime_of c s) p x) _ d.0))
        (subst (λ z. WasServed {L = Leaf2} (supply (place live) a) (done (stops (fault2 (asked2 (regime_of c s) p x) AddressSize most_left))) [] []
        (second_in met) (Err (FaultStop z)))
        (sym d.1) (was_fault (supply (place live) a) (fault2 (asked2 (regime_of c s) p x) AddressSize most_left) (second_in met))))

    pub root_gave : (p : Bool) (met : Met) (old mid new : List Item) (from : From2) (r : Result Leaf2 Stop) → mid ≡ old ++ base_now ∷ []
        → Ok from ≡ root2_of regs p
        → WalkedFrom (Some (memory_of scene.phys.now)) (Rose 0 0) (record { config = c; ipa = x; s1ptw = p; moment = scene.moment; from = from }) mid new r
        → NoLeaf may scene x → NoTable may scene x → ChainGave may at scene p x met met old new r
    root_gave p met old mid new from r g e w =
        let d = root_ok (is_too_large (sizes2 c) (start_base2 regs)) _ _ from e in
        let left : left_below from.level ≡ (sizes2 c).start = ap (λ z. left_below z.level) d.1 ∙ left_all (sizes2 c).start in
        let base : from.base ≡ start_base2 regs = ap (λ z. z.base) d.1 in
        base_gave p met w.more old new r (w.grown ∙ ap (λ l. l ++ w.more) g ∙ append_assoc old (base_now ∷ []) w.more)
        (λ live a s.
        let b = was_walked (place live) a (Rose 0 0) never (walk2_from (asked2 (regime_of c s) p x) (left_below from.level) from.base) mid new r
        (second_in met) w in
        subst (λ t. WasServed (supply (place live) a) t w.more [] (second_in met) r)
        (sym (small_is (is_too_large (sizes2 c) (start_base2 regs)) (asked2 (regime_of c s) p x) _ d.0
        ∙ ap (λ n. walk2_from (asked2 (regime_of c s) p x) n (start_base2 regs)) (sym left)
        ∙ ap (walk2_from (asked2 (regime_of c s) p x) (left_below from.level)) (sym base))) b)

  -- WHAT IS REFUSED

  begin_err : (b : Bool) (e f : Fault) (level : ℤ) → Err f ≡ (cond b (Err e) (Ok level)) → (b ≡ true) × (f ≡ e)
  begin_err true e f level h = (refl, cc)
  begin_err false e f level h = absurd cc

  begin_ok : (b : Bool) (e : Fault) (level level' : ℤ) → Ok level' ≡ (cond b (Err e) (Ok level)) → (b ≡ false) × (level' ≡ level)
  begin_ok true e level level' h = absurd cc
  begin_ok false e level level' h = (refl, cc)

  pub begun : (p : Bool) (level : ℤ) → Ok level ≡ begin2_of c x p → (is_refused2 c x ≡ false) × (level ≡ level_of (sizes2 c).start)
  begun p level e = begin_ok (is_refused2 c x) _ _ level e

  pub refused_gave : (p : Bool) (met : Met) (trail : List Item) (f : Fault) → Err f ≡ begin2_of c x p
      → ChainGave may at scene p x met met trail trail (Err (FaultStop f))
  refused_gave p met trail f e =
      let d = begin_err (is_refused2 c x) _ f _ e in
      record {
        items = [];
        grown = sym (append-nil trail);
        services = [];
        noted = sym (append-nil met.services.items);
        few = omega arith;
        served = λ room live m r.
            record {
              live = tt;
              was = λ a s.
                  subst (λ z. WasServed (supply (place_with scene live) a) (walk2 (asked2 (regime_of c s) p x)) [] [] (second_in met)
                  (Err (FaultStop z))) (sym d.1)
                  (chain_refused c s p x (supply (place_with scene live) a) (second_in met) d.0);
            };
      }
