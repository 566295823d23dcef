-- An access over rows, as code does it: the whole.
use Rattle.std.proofs.Common.{◌≡◌, ℕ, ◌≤◌, ◌<◌, inl, inr, Bool, true, false, cond, not, List, [], ◌∷◌}
use Rattle.std.proofs.Common.{◌++◌, length, refl, sym, ap, ◌∙◌, subst, arith, Option, None, Ok, Err, Result}
use Rattle.std.specs.Prelude.{◌&&◌, ◌⊎◌, ℤ, IfErr}
use Rattle.geometry.specs.Tables.{most_left, level_of}
use Rattle.sysregs.specs.declared.regs.Config.{Config}
use Rattle.sysregs.specs.declared.regs.Side.{Side}
use Rattle.sysregs.specs.Registers.{config_of}
use Rattle.sysregs.specs.Sides.{side_of}
use Rattle.fault_codes.specs.declared.fault.Fault.{Fault}
use Rattle.fault_codes.specs.declared.fault.Class.TheVariants.{Translation, AddressSize}
use Rattle.trails.specs.declared.item.Item.{Item}
use Rattle.trails.specs.declared.outcome.Access.{Access}
use Rattle.trails.specs.declared.outcome.Outcome.{Outcome}
use Rattle.trails.specs.declared.outcome.Outcome.TheVariants.{Faulted, Conflict as IsTwice}
use Rattle.trails.specs.declared.outcome.Stop.{Stop}
use Rattle.trails.specs.declared.outcome.Stop.TheVariants.{Fault as FaultStop, Absent, Conflict}
use Rattle.table_reads.specs.Numbers.{sizes1}
use Rattle.walk_spec.specs.declared.leaf.Leaf1.{Leaf1}
use Rattle.walk_spec.specs.Ask.{Ask, done, after}
use Rattle.walk_spec.specs.Needs.{Need, regime_of}
use Rattle.walk_spec.specs.Steps.{End, stops, reaches}
use Rattle.walk_spec.specs.Stage1.{fault1}
use Rattle.walk_spec.specs.BothStages.{Landing, asked, stage1_on, stage1_off, stage2_behind, walk, is_refused1, is_refused_off, off_leaf}
use Rattle.walk_laws.proofs.Sound.{sound1}
use Rattle.walk_laws.proofs.Shifts.{of_fields}
use Rattle.translate.specs.declared.begin.Begin1.{Begin1}
use Rattle.translate.specs.declared.begin.Begin1.TheVariants.{Off, On}
use Rattle.translate.specs.Parts.{begin1_of}
use Rattle.tagged_tlb.specs.declared.row.Row.{Row}
use Rattle.machine_spec.specs.Served.{served}
use Rattle.served_walk.specs.declared.met.Met.{Met}
use Rattle.served_walk.specs.declared.met.Service.{Service}
use Rattle.served_walk.specs.declared.scene.Scene.{Scene}
use Rattle.served_walk.specs.ServeAt.{serve_at, reply_of}
use Rattle.served_walk.specs.ServedWord.{WasServed}
use Rattle.served_walk.specs.Shows.{Shows, second_of, comes_out}
use Rattle.served_walk.specs.Meets.{MayMeet, place_with, AreServices, IsNoted, most_services, second_in}
use Rattle.served_walk.specs.Chained.{Holds, RowAt, HasSecondRoom}
use Rattle.served_walk.specs.Accessed.{WholeGave, most_from_base, NoLeaf1, NoTable1, IsServed, AccessGave, IsSecond}
use Rattle.served_walk.proofs.Parts.{was_fault}
use Rattle.served_walk.proofs.Access.{case_off, case_none, none_shows}
use Rattle.served_walk.proofs.RowAccess.{sup, row, rows}

-- a service that was noted as the first one
pub noted_first : (s : Service) (old new : List Service) → IsNoted s old new → old ≡ [] → new ≡ s ∷ []
noted_first s old new n e =
    let m = n.3 (subst (λ l. length l < most_services) (sym e) (omega arith)) in
    n.1 ∙ ap (λ l. l ++ n.0) e ∙ m

and_off : (b d : Bool) → b ≡ false → (b && d) ≡ false
and_off true d h = absurd cc
and_off false d h = refl

and_refused : (b d : Bool) → d ≡ true → (b && not d) ≡ false
and_refused true true h = refl
and_refused false true h = refl
and_refused b false h = absurd cc

-- the second trail is what was told
second_is : (met : Met) (first : List Item) (o : Outcome) (second : Option (List Item)) (x : Result Landing Stop) → o ≡ comes_out x
    → IfErr x (HasSecondRoom first met) → IsSecond met first o second → second ≡ second_of x first (second_in met)
second_is met first o second (Ok l) e room h = h.else (λ t. (let q : comes_out (Ok l) ≡ IsTwice = sym e ∙ t in absurd cc))
second_is met first o second (Err (FaultStop f)) e room h = h.else (λ t. (let q : Faulted f ≡ IsTwice = sym e ∙ t in absurd cc))
second_is met first o second (Err (Absent s k p w)) e room h =
    h.else (λ t. (let q : comes_out (Err (Absent s k p w)) ≡ IsTwice = sym e ∙ t in absurd cc))
second_is met first o second (Err Conflict) e room h = h.twice e room

-- what the checks before the base tell
on_begun : (m d e : Bool) (x y : Fault) (s t : Side) (l k : ℤ) (ipa : ℕ)
    → ◌≡◌ {A = Result Begin1 Fault} (Ok (On s l)) (cond m (cond d (Err x) (Ok (On t k))) (cond e (Err y) (Ok (Off ipa))))
    → (m ≡ true) × (d ≡ false) × (s ≡ t) × (l ≡ k)
on_begun true true e x y s t l k ipa h = absurd cc
on_begun true false e x y s t l k ipa h = (refl, refl, cc, cc)
on_begun false d true x y s t l k ipa h = absurd cc
on_begun false d false x y s t l k ipa h = absurd cc

off_begun : (m d e : Bool) (x y : Fault) (t : Side) (k : ℤ) (ipa other : ℕ)
    → ◌≡◌ {A = Result Begin1 Fault} (Ok (Off other)) (cond m (cond d (Err x) (Ok (On t k))) (cond e (Err y) (Ok (Off ipa))))
    → (m ≡ false) × (e ≡ false)
off_begun true true e x y t k ipa other h = absurd cc
off_begun true false e x y t k ipa other h = absurd cc
off_begun false d true x y t k ipa other h = absurd cc
off_begun false d false x y t k ipa other h = (refl, refl)

err_begun : (m d e : Bool) (x y f : Fault) (o p : Begin1)
    → ◌≡◌ {A = Result Begin1 Fault} (Err f) (cond m (cond d (Err x) (Ok o)) (cond e (Err y) (Ok p)))
    → ((m ≡ true) × (d ≡ true) × (f ≡ x)) ⊎ ((m ≡ false) × (e ≡ true) × (f ≡ y))
err_begun true true e x y f o p h = inl (refl, refl, cc)
err_begun true false e x y f o p h = absurd cc
err_begun false d true x y f o p h = inr (refl, refl, cc)
err_begun false d false x y f o p h = absurd cc

on_refused : {L : Type 0} (m d : Bool) (e : End L) (t u : Ask Need Item (End L)) → m ≡ true → d ≡ true → cond m (cond d (done e) t) u ≡ done e
on_refused true true e t u h k = refl
on_refused true false e t u h k = absurd cc
on_refused false d e t u h k = absurd cc

off_refused : {L : Type 0} (m d : Bool) (e f : End L) (t : Ask Need Item (End L)) → m ≡ false → d ≡ true → cond m t (done (cond d e f)) ≡ done e
off_refused true d e f t h k = absurd cc
off_refused false true e f t h k = refl
off_refused false false e f t h k = absurd cc

module _ {F : Type 0} (may : Holds F) (at : RowAt F) (z : Scene F) (a : Access) where
  abbrev c : Config
  c = config_of z.force.now

  -- what was met tells the second trail
  pub told : (met : Met) (first : List Item) (o : Outcome) (second : Option (List Item)) → AccessGave may at z a met first o → IsSecond met first o second
      → IsServed may at z a met first second o
  told met first o second g h = λ live m d.
      (let w = g.served live m d in (
        w.0,
        subst (λ u. Shows (served (place_with z live) a) first second (rows may at z a d met.services.items) u) (sym g.outcome)
            (subst (λ u. Shows (served (place_with z live) a) first u (rows may at z a d met.services.items) (comes_out g.result))
            (sym (second_is met first o second g.result g.outcome g.room h)) w.1),
      ))

  -- a walk without rows of stage 1
  plain : (n : ℕ) (before met : Met) (first : List Item) (o : Outcome) → before.services.items ≡ [] → n ≤ most_services
      → ((live : List Row) → MayMeet (may z.finds.now) z.moment live
      → served (place_with z live) a ≡ reply_of (serve_at (sup may at z a live) [] (walk c true a)))
      → WholeGave may at z a n (walk c true a) before met [] first o → AccessGave may at z a met first o
  plain n before met first o e most s h =
      let g = h.gave in
      let all : met.services.items ≡ g.services = g.noted ∙ ap (λ l. l ++ g.services) e in
      let none : length before.services.items ≡ 0 = ap length e in
      record {
        result = h.result;
        outcome = h.outcome;
        room = h.room;
        served = λ live m d.
            let w = g.served (omega (arith, none, most)) live m d in
            let v = none_shows (place_with z live) a g.items (rows may at z a d g.services) (second_in met) h.result (s live m) w.was in
            subst (λ l. AreServices (row may at z a d) live l
            × Shows (served (place_with z live) a) first (second_of h.result first (second_in met)) (rows may at z a d l) (comes_out h.result)) (sym all) (
              w.live,
              subst (λ u. Shows (served (place_with z live) a) u (second_of h.result u (second_in met)) (rows may at z a d g.services) (comes_out h.result))
                  (sym g.grown) v,
            );
      }

  -- from the base
  pub base_access : (on : c.m ≡ true) (ok : is_refused1 c a ≡ false) (before met : Met) (first : List Item) (o : Outcome) → before.services.items ≡ []
      → NoLeaf1 may z a → NoTable1 may z a → WholeGave may at z a (most_from_base z a) (walk c true a) before met [] first o
      → AccessGave may at z a met first o
  base_access on ok before met first o e none bare h =
      let most : (sizes1 c (side_of a.va)).start ≤ most_left = (sound1 (regime_of c (side_of a.va)) a (of_fields c (side_of a.va)) refl ok).start in
      plain (most_from_base z a) before met first o e (omega (arith, most)) (λ live m. case_none (place_with z live) a on ok (none live m) (bare live m)) h

  -- STAGE 1 IS OFF

  off_is : (m d : Bool) (t : Ask Need Item (End Leaf1)) → m ≡ false → d ≡ false
      → cond m t (done (cond d (stops (fault1 AddressSize most_left)) (reaches (off_leaf c a)))) ≡ done (reaches (off_leaf c a))
  off_is true d t h k = absurd cc
  off_is false true t h k = absurd cc
  off_is false false t h k = refl

  pub off_access : (before met : Met) (first : List Item) (o : Outcome) → c.m ≡ false → is_refused_off c a ≡ false → before.services.items ≡ []
      → WholeGave may at z a 1 (stage2_behind (asked c true a) (reaches (off_leaf c a))) before met [] first o → AccessGave may at z a met first o
  off_access before met first o v k e h =
      let w : stage2_behind (asked c true a) (reaches (off_leaf c a)) ≡ walk c true a =
      sym (ap (λ t. after t (stage2_behind (asked c true a))) (off_is c.m (is_refused_off c a) (stage1_on (asked c true a)) v k)) in
      plain 1 before met first o e (omega arith) (λ live m. case_off (place_with z live) a (and_off c.m _ v))
      (subst (λ t. WholeGave may at z a 1 t before met [] first o) w h)

  -- WHAT IS REFUSED

  pub record Refused (f : Fault) : Type 0 where
    pub bare : (c.m && not (is_refused1 c a)) ≡ false
    pub is : walk c true a ≡ done (stops f)

  refused_by : (f : Fault) → ((c.m ≡ true) × (is_refused1 c a ≡ true) × (f ≡ fault1 Translation most_left))
      ⊎ ((c.m ≡ false) × (is_refused_off c a ≡ true) × (f ≡ fault1 AddressSize most_left)) → Refused f
  refused_by f (inl h) = record {
    bare = and_refused c.m (is_refused1 c a) h.1;
    is = ap (λ t. after t (stage2_behind (asked c true a)))
        (on_refused c.m (is_refused1 c a) (stops (fault1 Translation most_left)) _ (stage1_off (asked c true a)) h.0 h.1)
        ∙ ap (λ u. done (stops u)) (sym h.2);
  }
  refused_by f (inr h) = record {
    bare = and_off c.m (not (is_refused1 c a)) h.0;
    is = ap (λ t. after t (stage2_behind (asked c true a)))
        (off_refused c.m (is_refused_off c a) (stops (fault1 AddressSize most_left)) (reaches (off_leaf c a)) (stage1_on (asked c true a)) h.0 h.1)
        ∙ ap (λ u. done (stops u)) (sym h.2);
  }

  pub refused_access : (met : Met) (f : Fault) → met.services.items ≡ [] → Err f ≡ begin1_of c a → IsServed may at z a met [] None (Faulted f)
  refused_access met f e h = λ live m d.
      (let w = refused_by f (err_begun c.m (is_refused1 c a) (is_refused_off c a) _ _ f _ _ h) in
      let v : WasServed {L = Landing} (sup may at z a live) (walk c true a) [] [] (second_in met) (Err (FaultStop f)) =
      subst (λ t. WasServed {L = Landing} (sup may at z a live) t [] [] (second_in met) (Err (FaultStop f))) (sym w.is)
      (was_fault (sup may at z a live) f (second_in met)) in
      subst (λ l. AreServices (row may at z a d) live l × Shows (served (place_with z live) a) [] None (rows may at z a d l) (Faulted f)) (sym e)
      (tt, none_shows (place_with z live) a [] [] (second_in met) (Err (FaultStop f)) (case_off (place_with z live) a w.bare) v))

  -- what the checks before the base tell of an access that isn't refused
  pub begun_on : (s : Side) (level : ℤ) → Ok (On s level) ≡ begin1_of c a
      → (c.m ≡ true) × (is_refused1 c a ≡ false) × (s ≡ side_of a.va) × (level ≡ level_of (sizes1 c (side_of a.va)).start)
  begun_on s level h = on_begun c.m (is_refused1 c a) (is_refused_off c a) _ _ s (side_of a.va) level _ _ h

  pub begun_off : (ipa : ℕ) → Ok (Off ipa) ≡ begin1_of c a → (c.m ≡ false) × (is_refused_off c a ≡ false)
  begun_off ipa h = off_begun c.m (is_refused1 c a) (is_refused_off c a) _ _ _ _ _ ipa h
