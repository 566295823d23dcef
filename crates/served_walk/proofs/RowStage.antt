-- Stage 1 as code walks it over rows.
use Rattle.std.proofs.Common.{◌≡◌, ℕ, zero, suc, ◌+◌, ◌≤◌, ◌<◌, true, List, [], ◌∷◌, ◌++◌, length, length-append}
use Rattle.std.proofs.Common.{inl, inr, refl, sym, ap, ◌∙◌, subst, append_assoc, append-nil, arith, Ok, Err, Result}
use Rattle.std.specs.Prelude.{ℤ, map}
use Rattle.geometry.specs.Tables.{level_of}
use Rattle.sysregs.specs.declared.regs.Config.{Config}
use Rattle.sysregs.specs.Registers.{config_of}
use Rattle.trails.specs.declared.item.Item.{Item}
use Rattle.trails.specs.declared.outcome.Access.{Access}
use Rattle.trails.specs.declared.outcome.Stop.{Stop}
use Rattle.walk_spec.specs.declared.entry.Entry1.{Entry1}
use Rattle.walk_spec.specs.declared.entry.Table1.{Table1}
use Rattle.walk_spec.specs.declared.leaf.Leaf1.{Leaf1}
use Rattle.walk_spec.specs.Ask.{Ask, done, ask, after, go_on, Ran}
use Rattle.walk_spec.specs.Needs.{Regime, Need}
use Rattle.walk_spec.specs.Steps.{End, stops}
use Rattle.walk_spec.specs.Stage1.{walk1_from}
use Rattle.walk_spec.specs.BothStages.{Landing, asked}
use Rattle.stage1_walk.specs.Gave.{by_entry, Walked1, answer_of}
use Rattle.stage1_walk.proofs.OnEntries.{last_same}
use Rattle.machine_laws.specs.Standing.{IsOn}
use Rattle.machine_laws.proofs.Stands.{on_after}
use Rattle.served_walk.specs.KeptWords.{EndsInStage1, BeginsWith}
use Rattle.tagged_tlb.specs.declared.row.Kind.{Kind}
use Rattle.tagged_tlb.specs.declared.row.Row.{Row}
use Rattle.tagged_tlb.specs.declared.found.Slot.{Slot}
use Rattle.machine_spec.specs.Served.{Supplied, supply}
use Rattle.served_walk.specs.declared.met.Service.{Service}
use Rattle.served_walk.specs.declared.scene.Scene.{Scene}
use Rattle.served_walk.specs.declared.row_words.RowWords.{RowWords}
use Rattle.served_walk.specs.ServedWord.{Second, WasServed, ServedWord}
use Rattle.served_walk.specs.Meets.{MayMeet, place_with, service_row, AreServices, most_services, second_in}
use Rattle.served_walk.specs.Chained.{Holds, RowAt}
use Rattle.served_walk.specs.RowGiven.{WordBy, RowGave, WalkBy, WalkGave, StageGave}
use Rattle.served_walk.proofs.Depth.{AtMost, at_more, from1_most}
use Rattle.served_walk.proofs.EachWord.{walk_served}
use Rattle.served_walk.proofs.KeptWalk.{r, how, Finer, Output, two_ends, two_output, split_word}

-- what follows the same list is the same
pub cancel : {X : Type 0} (xs a b : List X) → xs ++ a ≡ xs ++ b → a ≡ b
cancel [] a b h = h
cancel (x ∷ xs) a b h = (let e : xs ++ a ≡ xs ++ b = cc in cancel xs a b e)

pub map_both : {X Y : Type 0} (f : X → Y) (a b : List X) → map f (a ++ b) ≡ map f a ++ map f b
map_both f [] b = refl
map_both f (x ∷ a) b = ap (λ l. f x ∷ l) (map_both f a b)

pub services_both : (at : Kind → Slot → Row) (rows : List Row) (a b : List Service) → AreServices at rows a → AreServices at rows b
    → AreServices at rows (a ++ b)
services_both at rows [] b h k = k
services_both at rows (s ∷ a) b h k = (h.0, services_both at rows a b h.1 k)

-- a walk stands on two lists in turn
pub on_both : {A : Type 0} (r : Regime) (t u v : Ask Need Item A) (xs ys : List Item) → IsOn r t xs u → IsOn r u ys v → IsOn r t (xs ++ ys) v
on_both r t u v [] ys o h = subst (λ w. IsOn r w ys v) o h
on_both r (done b) u v (x ∷ xs) ys o h = absurd o
on_both r (ask n k) u v (x ∷ xs) ys o h = (o.0, on_both r (k x) u v xs ys o.1 h)

module _ {F : Type 0} (may : Holds F) (at : RowAt F) (z : Scene F) where
  abbrev pub at_row : Row → Kind → Slot → Row
  at_row d k v = at z.finds.now k v d

  module _ (live : List Row) (d : Row) (a : Access) where
    abbrev pub sup : RowWords F → Need → Supplied
    sup s = supply (place_with z live) a

    abbrev pub config : RowWords F → Config
    config s = config_of z.force.now

    abbrev pub by : RowWords F → List Row
    by s = map (service_row (at_row d)) s.met.services.items

    abbrev pub two : RowWords F → Second
    two s = second_in s.met

    abbrev pub Word : RowWords F → ℤ → ℕ → List Item → Result ℕ Stop → RowWords F → Type 0
    Word = ServedWord sup config by two

    one_word : MayMeet (may z.finds.now) z.moment live → (s t : RowWords F) (level : ℤ) (x : ℕ) (items : List Item) (r : Result ℕ Stop)
        → s.scene.now ≡ z
        → s.kept.now ≡ [] → length s.met.services.items < most_services → (g : RowGave may at s level x items r t)
        → Word s level x items r t × AreServices (at_row d) live g.services
    one_word m s t level x items r e bare room g =
        let w = g.served bare room live (subst (λ y. MayMeet (may y.finds.now) y.moment live) (sym e) m) d in
        let v : WordBy (at_row d) (place_with z live) level x items g.services (second_in t.met) r =
        subst (λ y. WordBy (λ k u. at y.finds.now k u d) (place_with y live) level x items g.services (second_in t.met) r) e w in (
          record {
            same = refl;
            same_config = refl;
            rows = map (service_row (at_row d)) g.services;
            by_is = ap (map (service_row (at_row d))) g.noted ∙ map_both (service_row (at_row d)) s.met.services.items g.services;
            had = λ side n q p. v.had a side n q p;
          },
          v.live,
        )

  -- what a walk over such words noted
  pub record Notes (n : ℕ) (t : Ask Entry1 Item (End Leaf1)) (s : RowWords F) (items : List Item) (r : Result (End Leaf1) Stop) (s' : RowWords F)
      : Type 0 where
    pub same : s'.scene.now ≡ z
    pub services : List Service
    pub noted : s'.met.services.items ≡ s.met.services.items ++ services
    pub few : length services ≤ n
    pub served : s.kept.now ≡ [] → length s.met.services.items + n ≤ most_services → (live : List Row) → MayMeet (may z.finds.now) z.moment live →
        (d : Row) (a : Access)
        → AreServices (at_row d) live services × Ran (λ i. i.value) (by_entry (Word live d a)) t s items r s'

  pub notes : (n : ℕ) (t : Ask Entry1 Item (End Leaf1)) → AtMost n t → (s : RowWords F) (items : List Item) (r : Result (End Leaf1) Stop)
      (s' : RowWords F)
      → s.scene.now ≡ z → Ran (λ i. i.value) (by_entry (RowGave may at)) t s items r s' → Notes n t s items r s'
  notes n (done e) h s items r s' q w = record {
    same = ap (λ y. y.scene.now) w.2 ∙ q;
    services = [];
    noted = ap (λ y. y.met.services.items) w.2 ∙ sym (append-nil s.met.services.items);
    few = omega arith;
    served = λ bare room live m d a. (tt, w);
  }
  notes zero (ask k f) h s items r s' q w = absurd h
  notes (suc n) (ask k f) h s items r s' q (inl w) =
      let g = w.4 in
      let v = notes n (f w.1) (h w.1) w.3 w.2 r s' (g.same ∙ q) w.6 in
      let l : length (g.services ++ v.services) ≡ length g.services + length v.services = length-append g.services v.services in
      let j : length w.3.met.services.items ≡ length s.met.services.items + length g.services = ap length g.noted
      ∙ length-append s.met.services.items g.services in
      record {
        same = v.same;
        services = g.services ++ v.services;
        noted = v.noted ∙ ap (λ y. y ++ v.services) g.noted ∙ append_assoc s.met.services.items g.services v.services;
        few = omega (arith, l, g.few, v.few);
        served = λ bare room live m d a.
            let o = one_word live d a m s w.3 (level_of k.left) k.place (w.0 ++ w.1 ∷ []) (Ok w.1.value) q bare (omega (arith, room)) g in
            let e = v.served (g.none bare) (omega (arith, room, j, g.few)) live m d a in
            (services_both (at_row d) live g.services v.services o.1 e.0, inl (w.0, w.1, w.2, w.3, o.0, w.5, e.1));
      }
  notes (suc n) (ask k f) h s items r s' q (inr w) =
      let g = w.1 in
      record {
        same = g.same ∙ q;
        services = g.services;
        noted = g.noted;
        few = omega (arith, g.few);
        served = λ bare room live m d a.
            let o = one_word live d a m s s' (level_of k.left) k.place items (Err w.0) q bare (omega (arith, room)) g in
            (o.1, inr (w.0, o.0, w.2));
      }

  module _ (a : Access) where
    abbrev pub c : Config
    c = config_of z.force.now

    -- a walk over such words, where none is kept
    abbrev walk_gave : (n : ℕ) (t : Ask Entry1 Item (End Leaf1)) → AtMost n t → (s : RowWords F) (old items : List Item) (r : Result (End Leaf1) Stop)
        (s' : RowWords F) → s.scene.now ≡ z → s.kept.now ≡ [] → Ran (λ i. i.value) (by_entry (RowGave may at)) t s items r s'
        → WalkGave may at z a n (Finer c a t) s.met s'.met old (old ++ items) (answer_of r)
    walk_gave n t h s old items r s' e bare w =
        let o = notes n t h s items r s' e w in
        record {
          items = items;
          grown = refl;
          services = o.services;
          noted = o.noted;
          few = o.few;
          served = λ room live m d.
              let x = o.served bare room live m d a in
              let y = walk_served (sup live d a) (config live d a) (by live d a) (two live d a) c a t s s' items r refl x.1 in
              let b : y.0 ≡ map (service_row (at_row d)) o.services = cancel (by live d a s) y.0 (map (service_row (at_row d)) o.services)
              (sym y.1 ∙ ap (map (service_row (at_row d))) o.noted ∙ map_both (service_row (at_row d)) s.met.services.items o.services) in
              record {
                live = x.0;
                was = subst (λ l. WasServed (supply (place_with z live) a) (Finer c a t) items l (second_in s'.met) (answer_of r)) b y.2;
              };
        }

    -- a walk that took kept items first, and what is left of it
    pub record KeptRan (n : ℕ) (t : Ask Entry1 Item (End Leaf1)) (s : RowWords F) (kept items : List Item) (x : Result (End Leaf1) Stop) (s' : RowWords F)
        : Type 0 where
      pub below : Ask Entry1 Item (End Leaf1)
      pub most : AtMost n below
      pub on : IsOn (r c a) (Finer c a t) kept (Finer c a below)
      pub mid : RowWords F
      pub scene : mid.scene.now ≡ z
      pub left : mid.kept.now ≡ []
      pub same : mid.met.services.items ≡ s.met.services.items
      pub more : List Item
      pub is : items ≡ kept ++ more
      pub ran : Ran (λ i. i.value) (by_entry (RowGave may at)) below mid more x s'

    no_err : (x : Stop) (v : ℕ) → ◌≡◌ {A = Result ℕ Stop} (Err x) (Ok v) → ⊥
    no_err x v e = absurd cc

    kept_ran : (n : ℕ) (t : Ask Entry1 Item (End Leaf1)) → AtMost n t → (s : RowWords F) (items : List Item) (x : Result (End Leaf1) Stop)
        (s' : RowWords F)
        → s.scene.now ≡ z → Ran (λ i. i.value) (by_entry (RowGave may at)) t s items x s' → (v : Ask Need Item (End Landing)) (kept : List Item)
        → s.kept.now ≡ kept → EndsInStage1 kept → IsOn (r c a) (after (Finer c a t) (Output c a)) kept v → KeptRan n t s kept items x s'
    kept_ran n t h s items x s' q w v [] e ends o = record {
      below = t;
      most = h;
      on = refl;
      mid = s;
      scene = q;
      left = e;
      same = refl;
      more = items;
      is = refl;
      ran = w;
    }
    kept_ran n (done b) h s items x s' q w v (i ∷ l) e ends o = absurd (two_ends (r c a) (Output c a b) v i l (two_output c a b) o ends)
    kept_ran zero (ask k f) h s items x s' q w v (i ∷ l) e ends o = absurd h
    kept_ran (suc n) (ask k f) h s items x s' q (inl w) v (i ∷ l) e ends o =
        let d = split_word c a k f v i l o ends in
        let b : BeginsWith s.kept.now d.front d.item d.rest = record { is = e ∙ d.is; chain = d.chain; stage = d.stage; few = d.few } in
        let g = w.4 in
        let p = g.kept d.front d.item d.rest b in
        let j : w.1 ≡ d.item = last_same w.0 d.front w.1 d.item p.0 in
        let y = kept_ran n (f w.1) (h w.1) w.3 w.2 x s' (g.same ∙ q) w.6 v d.rest p.2 d.ends
        (subst (λ u. IsOn (r c a) (after (Finer c a (f u)) (Output c a)) d.rest v) (sym j) d.behind) in
        let whole : (d.front ++ d.item ∷ []) ++ d.rest ≡ i ∷ l = append_assoc d.front (d.item ∷ []) d.rest ∙ sym d.is in
        record {
          below = y.below;
          most = at_more n (suc n) y.below (omega arith) y.most;
          on = subst (λ u. IsOn (r c a) (Finer c a (ask k f)) u (Finer c a y.below)) whole
              (on_both (r c a) (Finer c a (ask k f)) (Finer c a (f d.item)) (Finer c a y.below) (d.front ++ d.item ∷ []) d.rest
              (on_after (r c a) (how c a k) (done (Ok d.item)) (go_on stops (λ u. Finer c a (f u))) (d.front ++ d.item ∷ []) d.on)
              (subst (λ u. IsOn (r c a) (Finer c a (f u)) d.rest (Finer c a y.below)) j y.on));
          mid = y.mid;
          scene = y.scene;
          left = y.left;
          same = y.same ∙ g.noted ∙ ap (λ u. s.met.services.items ++ u) p.3 ∙ append-nil s.met.services.items;
          more = y.more;
          is = w.5 ∙ ap (λ u. u ++ w.2) p.0 ∙ ap (λ u. (d.front ++ d.item ∷ []) ++ u) y.is
              ∙ sym (append_assoc (d.front ++ d.item ∷ []) d.rest y.more)
              ∙ ap (λ u. u ++ y.more) whole;
          ran = y.ran;
        }
    kept_ran (suc n) (ask k f) h s items x s' q (inr w) v (i ∷ l) e ends o =
        let d = split_word c a k f v i l o ends in
        let p = w.1.kept d.front d.item d.rest (record { is = e ∙ d.is; chain = d.chain; stage = d.stage; few = d.few }) in
        absurd (no_err w.0 d.item.value p.1)

    -- stage 1 from a table
    module _ (left : ℕ) (table : Table1) (s s' : RowWords F) (old new : List Item) (x : Result Leaf1 Stop) (e : s.scene.now ≡ z)
        (w : Walked1 (RowGave may at) (asked c true a) left table s old new x s') where
      abbrev t1 : Ask Entry1 Item (End Leaf1)
      t1 = walk1_from (asked c true a) left table

      pub stage1_same : s'.scene.now ≡ z
      stage1_same = (notes (left + 1) t1 (from1_most c true a left table) s w.more w.end s' e w.ran).same

      pub stage1_gave : StageGave may at z a left table s.kept.now s.met s'.met old new x
      stage1_gave = λ v ends o.
          let y = kept_ran (left + 1) t1 (from1_most c true a left table) s w.more w.end s' e w.ran v s.kept.now refl ends o in
          let g = walk_gave (left + 1) y.below y.most y.mid (old ++ s.kept.now) y.more w.end s' y.scene y.left y.ran in
          let n : length y.mid.met.services.items ≡ length s.met.services.items = ap length y.same in
          record {
            below = Finer c a y.below;
            on = y.on;
            gave = record {
              items = y.more;
              grown = w.grown ∙ ap (λ u. old ++ u) y.is ∙ sym (append_assoc old s.kept.now y.more);
              services = g.services;
              noted = g.noted ∙ ap (λ u. u ++ g.services) y.same;
              few = g.few;
              served = λ room live m d.
                  subst (λ u. WalkBy (at_row d) (place_with z live) a (Finer c a y.below) y.more g.services (second_in s'.met) u) (sym w.answer)
                  (g.served (omega (arith, room, n)) live m d);
            };
          }
