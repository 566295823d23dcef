-- Rows of stage 1 as code asks them: combined rows, and the deepest table.
use Rattle.std.proofs.Common.{◌≡◌, ℕ, ◌≤◌, inl, inr, true, false, List, [], ◌∷◌, ◌++◌, length}
use Rattle.std.proofs.Common.{take, refl, sym, ap, ◌∙◌, subst, arith, Option, Some, None}
use Rattle.std.specs.Prelude.{option_map, ◌⊎◌}
use Rattle.geometry.specs.Tables.{most_left}
use Rattle.sysregs.specs.declared.regs.Config.{Config}
use Rattle.sysregs.specs.Registers.{config_of}
use Rattle.sysregs.specs.Sides.{side_of}
use Rattle.trails.specs.declared.item.Item.{Item}
use Rattle.trails.specs.declared.outcome.Access.{Access}
use Rattle.trails.specs.declared.outcome.Outcome.{Outcome}
use Rattle.trails.specs.declared.outcome.Outcome.TheVariants.{Conflict as IsTwice}
use Rattle.trails.specs.Lengths.{most_items}
use Rattle.table_reads.specs.Numbers.{sizes1}
use Rattle.walk_spec.specs.Needs.{regime_of}
use Rattle.walk_spec.specs.Steps.{End, stops, reaches}
use Rattle.walk_spec.specs.Stage1.{untagged}
use Rattle.walk_spec.specs.BothStages.{Landing, is_refused1, walk}
use Rattle.walk_laws.proofs.Places.{first_of_and}
use Rattle.walk_laws.proofs.Sound.{sound1}
use Rattle.walk_laws.proofs.Shifts.{of_fields}
use Rattle.translate.specs.declared.replayed.Replay.{Replay}
use Rattle.translate.specs.declared.replayed.Replay.TheVariants.{Ended, Other}
use Rattle.translate.specs.Replayed.{EndsOn, NeedsMore, IsReplayed}
use Rattle.tagged_tlb.specs.declared.row.Key.{Key}
use Rattle.tagged_tlb.specs.declared.row.Kind.{Kind}
use Rattle.tagged_tlb.specs.declared.row.Kind.TheVariants.{Leaf1 as OfLeaf1, Table1 as OfTable1}
use Rattle.tagged_tlb.specs.declared.row.Row.{Row}
use Rattle.tagged_tlb.specs.declared.found.Seen.{Seen}
use Rattle.tagged_tlb.specs.declared.found.Found.{Found}
use Rattle.tagged_tlb.specs.declared.found.Found.TheVariants.{Nothing, One, Two}
use Rattle.tagged_tlb.specs.Rows.{matches, matches1, matching, deepest}
use Rattle.tagged_tlb.specs.Tied.{AreToldApart, AreSmall}
use Rattle.machine_spec.specs.Made.{key_of}
use Rattle.machine_spec.specs.Served.{served}
use Rattle.machine_laws.specs.Leaving.{In}
use Rattle.machine_laws.specs.MayServe.{MayServe}
use Rattle.machine_laws.proofs.Found.{In-matching, In-deepest, matched}
use Rattle.machine_laws.specs.Standing.{IsOn}
use Rattle.served_walk.specs.declared.met.Met.{Met}
use Rattle.served_walk.specs.declared.met.Service.{Service}
use Rattle.served_walk.specs.declared.scene.Scene.{Scene}
use Rattle.served_walk.specs.CanServe.{ServesAs}
use Rattle.served_walk.specs.Shows.{Shows, second_of, comes_out}
use Rattle.served_walk.specs.Meets.{rows_found, MayMeet, place_with, IsServiceOf, AreServices, second_in}
use Rattle.served_walk.specs.Chained.{Holds, RowAt}
use Rattle.served_walk.specs.Accessed.{RowLeft, NoLeaf1, NoTable1, IsServed, AccessGave, GaveByLeaf1, ConflictOf}
use Rattle.served_walk.proofs.Access.{case_hit, case_twice, case_ended, table_shows}
use Rattle.served_walk.proofs.Servable.{leaf1_answer}
use Rattle.served_walk.proofs.Whole.{answered}
use Rattle.served_walk.proofs.ChainRows.{two_none, two_one, two_two}
use Rattle.served_walk.proofs.RowAccess.{comes_answered, answered_room, row, rows}

module _ {F : Type 0} (may : Holds F) (at : RowAt F) (z : Scene F) (a : Access) (on : (config_of z.force.now).m ≡ true)
    (ok : is_refused1 (config_of z.force.now) a ≡ false) where
  abbrev c : Config
  c = config_of z.force.now

  abbrev k : Key
  k = key_of z.force.now

  abbrev x : ℕ
  x = untagged a.va

  abbrev Meets : List Row → Type 0
  Meets = MayMeet (may z.finds.now) z.moment

  abbrev leaves : List Row → List Row
  leaves live = matching (matches1 OfLeaf1 k x) live

  abbrev tables : List Row → Option Row
  tables live = deepest (matches1 OfTable1 k x) live

  abbrev FindsIn : Found → Type 0
  FindsIn found =
      (d : Row) (live : List Row) → may z.finds.now live → AreToldApart live → AreSmall live →
      rows_found (λ s. at z.finds.now OfLeaf1 s d) found ≡ take 2 (leaves live)

  abbrev DeepestIn : Option Seen → Type 0
  DeepestIn seen =
      (d : Row) (live : List Row) → may z.finds.now live → AreToldApart live → AreSmall live →
      option_map (λ s. at z.finds.now OfTable1 s.slot d) seen ≡ tables live

  abbrev TrailOf : Kind → Seen → List Item → Type 0
  TrailOf kind s items = (d : Row) → items ≡ (at z.finds.now kind s.slot d).trail

  abbrev MadeAs : Kind → Seen → Type 0
  MadeAs kind s = (d : Row) (live : List Row) → may z.finds.now live → AreToldApart live → (at z.finds.now kind s.slot d).made ≡ s.made

  pub record Serves (kind : Kind) (q : Row) : Type 0 where
    pub kind_is : q.kind ≡ kind
    pub good : ServesAs q kind
    pub may_serve : MayServe q a
    pub config : q.key.config ≡ c

  serves : (live : List Row) → Meets live → (kind : Kind) (q : Row) → In q live → matches1 kind k x q ≡ true → Serves kind q
  serves live m kind q i t =
      let d = matched kind k x q (first_of_and (matches kind k x q) _ t) in
      record {
        kind_is = d.kind_is;
        good = subst (ServesAs q) d.kind_is (m.servable.serves q i);
        may_serve = record {
          held = d.held;
          on = ap (λ u. u.m) d.config ∙ on;
          accepted = ap (λ u. is_refused1 u a) d.config ∙ ok;
        };
        config = d.config;
      }

  leaf_serves : (live : List Row) → Meets live → (q : Row) → In q live → matches1 OfLeaf1 k x q ≡ true
      → ((len : ℕ) × (o : Outcome) × EndsOn c a q.trail len o) × (length q.trail ≤ most_items)
  leaf_serves live m q i t =
      let d = serves live m OfLeaf1 q i t in
      let e = d.good a d.may_serve in
      (subst (λ u. (len : ℕ) × (o : Outcome) × EndsOn u a q.trail len o) d.config e.0, e.1)

  table_serves : (live : List Row) → Meets live → (q : Row) → In q live → matches1 OfTable1 k x q ≡ true
      → (((len : ℕ) × (o : Outcome) × EndsOn c a q.trail len o) ⊎ NeedsMore c a q.trail) × (length q.trail ≤ most_items)
  table_serves live m q i t =
      let d = serves live m OfTable1 q i t in
      let e = d.good a d.may_serve in
      (subst (λ u. ((len : ℕ) × (o : Outcome) × EndsOn u a q.trail len o) ⊎ NeedsMore u a q.trail) d.config e.0, e.1)

  service_of : (live : List Row) → Meets live → (kind : Kind) (s : Seen) (d : Row) → In (at z.finds.now kind s.slot d) live
      → matches1 kind k x (at z.finds.now kind s.slot d) ≡ true → MadeAs kind s
      → IsServiceOf (row may at z a d) live (record { kind = kind; seen = s })
  service_of live m kind s d i t made =
      record { live = i; kind = (serves live m kind (at z.finds.now kind s.slot d) i t).kind_is; made = made d live m.held m.servable.told }

  -- COMBINED ROWS

  no_leaf_by : ((live : List Row) (q : Row) (more : List Row) → Meets live → leaves live ≡ q ∷ more → leaves live ≡ []) → NoLeaf1 may z a
  no_leaf_by h = λ live m. by (leaves live) live refl m where
    by : (l : List Row) (live : List Row) → leaves live ≡ l → Meets live → leaves live ≡ []
    by [] live e m = e
    by (q ∷ more) live e m = h live q more m e

  pub none1 : FindsIn Nothing → NoLeaf1 may z a
  none1 f = no_leaf_by (λ live q more m e. two_none (leaves live) (f q live m.held m.servable.told m.small))

  leaf_live : (live : List Row) (q : Row) (more : List Row) → leaves live ≡ q ∷ more → In q live × (matches1 OfLeaf1 k x q ≡ true)
  leaf_live live q more e = In-matching (matches1 OfLeaf1 k x) live q (subst (In q) (sym e) (inl refl))

  one_is : (s : Seen) → FindsIn (One s) → (d : Row) (live : List Row) → Meets live → leaves live ≡ at z.finds.now OfLeaf1 s.slot d ∷ []
  one_is s f d live m = two_one (at z.finds.now OfLeaf1 s.slot d) (leaves live) (f d live m.held m.servable.told m.small)

  -- one whose trail is too long, or doesn't end, can't match
  pub leaf1_long : (s : Seen) (items : List Item) → FindsIn (One s) → TrailOf OfLeaf1 s items → (length items ≤ most_items → ⊥) → NoLeaf1 may z a
  leaf1_long s items f t long = no_leaf_by (λ live q more m e.
      (let w = at z.finds.now OfLeaf1 s.slot q in
      let v = leaf_live live w [] (one_is s f q live m) in
      absurd (long (subst (λ u. length u ≤ most_items) (sym (t q)) (leaf_serves live m w v.0 v.1).1))))

  pub leaf1_unfit : (s : Seen) (items : List Item) (answer : Replay) → FindsIn (One s) → TrailOf OfLeaf1 s items → IsReplayed c a items answer
      → ((len : ℕ) (o : Outcome) → answer ≡ Ended len o → ⊥) → NoLeaf1 may z a
  leaf1_unfit s items answer f t h bad = no_leaf_by (λ live q more m e.
      (let w = at z.finds.now OfLeaf1 s.slot q in
      let v = leaf_live live w [] (one_is s f q live m) in
      let d = (leaf_serves live m w v.0 v.1).0 in
      let n = leaf1_answer c a items d.0 d.1 (subst (λ u. EndsOn c a u d.0 d.1) (sym (t q)) d.2) answer h in
      absurd (bad n.0 n.1 n.2)))

  pub leaf1_two_long : (s u : Seen) (one two : List Item) → FindsIn (Two s u) → TrailOf OfLeaf1 s one → TrailOf OfLeaf1 u two
      → (length one ≤ most_items → length two ≤ most_items → ⊥) → NoLeaf1 may z a
  leaf1_two_long s u one two f t v long = no_leaf_by (λ live q more m e.
      (let w = at z.finds.now OfLeaf1 s.slot q in
      let y = at z.finds.now OfLeaf1 u.slot q in
      let o = two_two w y (leaves live) (f q live m.held m.servable.told m.small) in
      let i = leaf_live live w (y ∷ o.0) o.1 in
      let j = In-matching (matches1 OfLeaf1 k x) live y (subst (In y) (sym o.1) (inr (inl refl))) in
      absurd (long (subst (λ n. length n ≤ most_items) (sym (t q)) (leaf_serves live m w i.0 i.1).1)
      (subst (λ n. length n ≤ most_items) (sym (v q)) (leaf_serves live m y j.0 j.1).1))))

  pub leaf1_gave : (s : Seen) (items : List Item) (met : Met) (len : ℕ) (o : Outcome) (first : List Item) → FindsIn (One s) → MadeAs OfLeaf1 s
      → TrailOf OfLeaf1 s items → EndsOn c a items len o → first ≡ take len items → met.services.items ≡ record { kind = OfLeaf1; seen = s } ∷ []
      → IsServed may at z a met first None o
  leaf1_gave s items met len o first f made t e g n = λ live m d.
      (let w = at z.finds.now OfLeaf1 s.slot d in
      let one = one_is s f d live m in
      let v = leaf_live live w [] one in
      let h = case_hit (place_with z live) a on ok w len o one (subst (λ u. EndsOn c a u len o) (t d) e) in
      let g' : take len w.trail ≡ first = ap (take len) (sym (t d)) ∙ sym g in
      subst (λ l. AreServices (row may at z a d) live l × Shows (served (place_with z live) a) first None (rows may at z a d l) o) (sym n)
      ((service_of live m OfLeaf1 s d v.0 v.1 made, tt), subst (λ l. Shows (served (place_with z live) a) l None (w ∷ []) o) g' h))

  pub leaf1_twice : (s u : Seen) (one two : List Item) (met : Met) → FindsIn (Two s u) → TrailOf OfLeaf1 s one → TrailOf OfLeaf1 u two
      → met.services.items ≡ [] → IsServed may at z a met one (Some two) IsTwice
  leaf1_twice s u one two met f t v n = λ live m d.
      (let w = at z.finds.now OfLeaf1 s.slot d in
      let y = at z.finds.now OfLeaf1 u.slot d in
      let o = two_two w y (leaves live) (f d live m.held m.servable.told m.small) in
      let h = case_twice (place_with z live) a on ok w y o.0 o.1 in
      subst (λ l. AreServices (row may at z a d) live l × Shows (served (place_with z live) a) one (Some two) (rows may at z a d l) IsTwice) (sym n) (
        tt,
        subst (λ l. Shows (served (place_with z live) a) l (Some two) [] IsTwice) (sym (t d))
            (subst (λ l. Shows (served (place_with z live) a) w.trail (Some l) [] IsTwice) (sym (v d)) h),
      ))

  -- of two, by what was written
  pub two_by : (s u : Seen) (one two : List Item) (met : Met) (first : List Item) (second : Option (List Item)) (r : Option Outcome) → FindsIn (Two s u)
      → TrailOf OfLeaf1 s one → TrailOf OfLeaf1 u two → met.services.items ≡ [] → ConflictOf one two first second r
      → GaveByLeaf1 may at z a met first second r
  two_by s u one two met first second None f t v n h = (h.0, h.1, leaf1_two_long s u one two f t v h.2)
  two_by s u one two met first second (Some o) f t v n h =
      subst (λ l. IsServed may at z a met l second o) (sym h.0)
      (subst (λ l. IsServed may at z a met one l o) (sym h.1)
      (subst (λ l. IsServed may at z a met one (Some two) l) (sym h.2) (leaf1_twice s u one two met f t v n)))

  -- TABLES

  no_table_by : ((live : List Row) (q : Row) → Meets live → tables live ≡ Some q → tables live ≡ None) → NoTable1 may z a
  no_table_by h = λ live m. by (tables live) live refl m where
    by : (o : Option Row) (live : List Row) → tables live ≡ o → Meets live → tables live ≡ None
    by None live e m = e
    by (Some q) live e m = h live q m e

  pub no_table1 : DeepestIn None → NoTable1 may z a
  no_table1 f = no_table_by (λ live q m e. sym (f q live m.held m.servable.told m.small))

  table_live : (live : List Row) (q : Row) → tables live ≡ Some q → In q live × (matches1 OfTable1 k x q ≡ true)
  table_live live q e = In-deepest (matches1 OfTable1 k x) live q e

  pub table1_long : (s : Seen) (items : List Item) → DeepestIn (Some s) → TrailOf OfTable1 s items → (length items ≤ most_items → ⊥)
      → NoTable1 may z a
  table1_long s items f t long = no_table_by (λ live q m e.
      (let w = at z.finds.now OfTable1 s.slot q in
      let v = table_live live w (sym (f q live m.held m.servable.told m.small)) in
      absurd (long (subst (λ u. length u ≤ most_items) (sym (t q)) (table_serves live m w v.0 v.1).1))))

  neither : (items : List Item) → IsReplayed c a items Other → ((len : ℕ) × (o : Outcome) × EndsOn c a items len o) ⊎ NeedsMore c a items → ⊥
  neither items h (inl e) = h.0 e.0 e.1 e.2
  neither items h (inr n) = h.1 n

  pub table1_unfit : (s : Seen) (items : List Item) → DeepestIn (Some s) → TrailOf OfTable1 s items → IsReplayed c a items Other → NoTable1 may z a
  table1_unfit s items f t h = no_table_by (λ live q m e.
      (let w = at z.finds.now OfTable1 s.slot q in
      let v = table_live live w (sym (f q live m.held m.servable.told m.small)) in
      absurd (neither w.trail (subst (λ u. IsReplayed c a u Other) (t q) h) (table_serves live m w v.0 v.1).0)))

  second_none : (e : End Landing) (first : List Item) (met : Met) → None ≡ second_of (answered e) first (second_in met)
  second_none (reaches l) first met = refl
  second_none (stops f) first met = refl

  pub table1_ended : (s : Seen) (items : List Item) (met : Met) (len : ℕ) (o : Outcome) (first : List Item) → DeepestIn (Some s) → MadeAs OfTable1 s
      → TrailOf OfTable1 s items → EndsOn c a items len o → first ≡ take len items → met.services.items ≡ record { kind = OfTable1; seen = s } ∷
      []
      → NoLeaf1 may z a → AccessGave may at z a met first o
  table1_ended s items met len o first f made t e g n none = record {
    result = answered e.0;
    outcome = e.6 ∙ comes_answered e.0;
    room = answered_room first met e.0;
    served = λ live m d.
        let w = at z.finds.now OfTable1 s.slot d in
        let some : tables live ≡ Some w = sym (f d live m.held m.servable.told m.small) in
        let v = table_live live w some in
        let h = case_ended (place_with z live) a on ok w len o (none live m) some (subst (λ u. EndsOn c a u len o) (t d) e) in
        let g' : take len w.trail ≡ first = ap (take len) (sym (t d)) ∙ sym g in
        subst (λ l. AreServices (row may at z a d) live l
        × Shows (served (place_with z live) a) first (second_of (answered e.0) first (second_in met)) (rows may at z a d l) (comes_out (answered e.0)))
        (sym n) (
          (service_of live m OfTable1 s d v.0 v.1 made, tt),
          subst (λ u. Shows (served (place_with z live) a) first u (w ∷ []) (comes_out (answered e.0))) (second_none e.0 first met)
              (subst (λ u. Shows (served (place_with z live) a) first None (w ∷ []) u) (e.6 ∙ comes_answered e.0)
              (subst (λ l. Shows (served (place_with z live) a) l None (w ∷ []) o) g' h)),
        );
  }

  pub table1_more : (s : Seen) (items : List Item) (before met : Met) (o : Outcome) (first : List Item) → DeepestIn (Some s) → MadeAs OfTable1 s
      → TrailOf OfTable1 s items → RowLeft may at z a items before met first o → before.services.items ≡ record { kind = OfTable1; seen = s } ∷ []
      → NoLeaf1 may z a → AccessGave may at z a met first o
  table1_more s items before met o first f made t p n none =
      let y = p.gave in
      let g = y.gave in
      let v : Service = record { kind = OfTable1; seen = s } in
      let all : met.services.items ≡ v ∷ g.services = g.noted ∙ ap (λ l. l ++ g.services) n in
      let most : (sizes1 c (side_of a.va)).start ≤ most_left = (sound1 (regime_of c (side_of a.va)) a (of_fields c (side_of a.va)) refl ok).start in
      let one : length before.services.items ≡ 1 = ap length n in
      record {
        result = y.result;
        outcome = y.outcome;
        room = y.room;
        served = λ live m d.
            let w = at z.finds.now OfTable1 s.slot d in
            let some : tables live ≡ Some w = sym (f d live m.held m.servable.told m.small) in
            let i = table_live live w some in
            let j = g.served (omega (arith, one, most)) live m d in
            let h = table_shows (place_with z live) a on ok w p.below g.items (rows may at z a d g.services) (second_in met) y.result (none live m) some
            (subst (λ u. IsOn (regime_of c (side_of a.va)) (walk c true a) u p.below) (t d) p.on) j.was in
            let g' : w.trail ++ g.items ≡ first = ap (λ u. u ++ g.items) (sym (t d)) ∙ sym g.grown in
            subst (λ l. AreServices (row may at z a d) live l
            × Shows (served (place_with z live) a) first (second_of y.result first (second_in met)) (rows may at z a d l) (comes_out y.result)) (sym all) (
              (service_of live m OfTable1 s d i.0 i.1 made, j.live),
              subst (λ u. Shows (served (place_with z live) a) u (second_of y.result u (second_in met)) (w ∷ rows may at z a d g.services)
                  (comes_out y.result)) g' h,
            );
      }
