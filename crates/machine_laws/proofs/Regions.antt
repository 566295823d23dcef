-- A combined row serves each access of its piece: a judged trail that leads to a translation does so for each, unjudged.
use Rattle.std.proofs.Common.{◌≡◌, ℕ, zero, suc, ◌/◌, ◌^◌, Bool, true, false, cond, not, List}
use Rattle.std.proofs.Common.{[], ◌∷◌, refl, sym, ap, ◌∙◌, subst, arith}
use Rattle.std.specs.Prelude.{Result, Ok, Err}
use Rattle.sysregs.specs.declared.regs.Config.{Config}
use Rattle.sysregs.specs.declared.regs.Side.{Side}
use Rattle.sysregs.specs.Sides.{side_of}
use Rattle.geometry.specs.Tables.{most_left}
use Rattle.permissions.specs.Rights.{is_uxn, is_allowed1, is_allowed2, joined as joined_bits}
use Rattle.fault_codes.specs.declared.fault.Fault.{Fault}
use Rattle.fault_codes.specs.declared.fault.Stage.TheVariants.{S2}
use Rattle.fault_codes.specs.declared.fault.Class.TheVariants.{Translation, AddressSize, Permission}
use Rattle.trails.specs.declared.item.Item.{Item}
use Rattle.trails.specs.declared.outcome.Access.{Access}
use Rattle.table_reads.specs.declared.lead.Lead.TheVariants.{Reached, Stopped}
use Rattle.table_reads.specs.Places.{is_too_large}
use Rattle.walk_spec.specs.declared.entry.Table1.{Table1}
use Rattle.walk_spec.specs.declared.entry.Entry1.{Entry1}
use Rattle.walk_spec.specs.declared.leaf.Leaf1.{Leaf1}
use Rattle.walk_spec.specs.declared.leaf.Leaf2.{Leaf2}
use Rattle.walk_spec.specs.Ask.{Ask, done, ask, after, go_on, finer}
use Rattle.walk_spec.specs.Needs.{Regime, regime_of, Need, stage1_base, fits}
use Rattle.walk_spec.specs.Steps.{End, stops, reaches, step_then}
use Rattle.walk_spec.specs.Stage2.{walk2}
use Rattle.walk_spec.specs.Stage1.{Asked, untagged, fault1, entry1, step1, walk1_from, word_of, asked2, leaf1_of, stage1_from}
use Rattle.walk_spec.specs.BothStages.{Landing, landed, judged2, piece, stage2_behind, is_refused1, stage1_behind, stage1_off, walk_by, walk}
use Rattle.walk_laws.specs.Moved.{moved}
use Rattle.walk_laws.proofs.Shifts.{of_fields, same_side}
use Rattle.walk_laws.proofs.Stage1.{under, Turn1, table, leaf, fault, turn1}
use Rattle.walk_laws.proofs.Landings.{walk_in_step}
use Rattle.machine_spec.specs.Marks.{Mark, mark, marks}
use Rattle.machine_laws.specs.Standing.{IsOn}
use Rattle.machine_laws.proofs.Facts.{regime_for}
use Rattle.machine_laws.proofs.Laws.{FirstLeaf}
use Rattle.machine_laws.proofs.PlanOf.{root_table}
use Rattle.machine_laws.proofs.MarksOf.{takes_on, step_on_other, step_marks}
use Rattle.machine_laws.proofs.Stands.{marks_nil}

-- where one walk reaches something, the other reaches it on the same items
abbrev Relax : {N A : Type 0} → Ask N Item (End A) → Ask N Item (End A) → Type 0
Relax (done (stops f)) u = Unit {0}
Relax (done (reaches l)) u = u ≡ done (reaches l)
Relax (ask n k) (done e) = ⊥
Relax (ask n k) (ask n' k') = (n ≡ n') × ((i : Item) → Relax (k i) (k' i))

relax_same : {N A : Type 0} (t : Ask N Item (End A)) → Relax t t
relax_same (done (stops f)) = tt
relax_same (done (reaches l)) = refl
relax_same (ask n k) = (refl, λ i. relax_same (k i))

relax_after : {N A B : Type 0} (t u : Ask N Item (End A)) (f g : End A → Ask N Item (End B)) → Relax t u
    → ((x : Fault) → f (stops x) ≡ done (stops x))
    → ((l : A) → Relax (f (reaches l)) (g (reaches l))) → Relax (after t f) (after u g)
relax_after (done (stops x)) u f g w h k = subst (λ v. Relax v (after u g)) (sym (h x)) tt
relax_after (done (reaches l)) u f g w h k = subst (λ v. Relax (f (reaches l)) (after v g)) (sym w) (k l)
relax_after (ask n j) (done e) f g w h k = absurd w
relax_after (ask n j) (ask n' j') f g w h k = (w.0, λ i. relax_after (j i) (j' i) f g (w.1 i) h k)

relax_behind : {N A B : Type 0} (t : Ask N Item A) (f g : A → Ask N Item (End B)) → ((a : A) → Relax (f a) (g a)) → Relax (after t f) (after t g)
relax_behind (done a) f g h = h a
relax_behind (ask n k) f g h = (refl, λ i. relax_behind (k i) f g h)

relax_go : {A : Type 0} (f g : Item → Ask Need Item (End A)) → ((i : Item) → Relax (f i) (g i)) → (x : Result Item Fault)
    → Relax (go_on stops f x) (go_on stops g x)
relax_go f g h (Ok i) = h i
relax_go f g h (Err x) = tt

relax_finer : (how : Entry1 → Ask Need Item (Result Item Fault)) (t u : Ask Entry1 Item (End Leaf1)) → Relax t u
    → Relax (finer stops how t) (finer stops how u)
relax_finer how (done (stops f)) u w = tt
relax_finer how (done (reaches l)) u w = ap (finer stops how) w
relax_finer how (ask e k) (done d) w = absurd w
relax_finer how (ask e k) (ask e' k') w =
    subst (λ z. Relax (after (how e) (go_on stops (λ i. finer stops how (k i)))) (after (how z) (go_on stops (λ i. finer stops how (k' i))))) w.0
    (relax_behind (how e) (go_on stops (λ i. finer stops how (k i))) (go_on stops (λ i. finer stops how (k' i)))
    (relax_go (λ i. finer stops how (k i)) (λ i. finer stops how (k' i)) (λ i. relax_finer how (k i) (k' i) (w.1 i))))

relax_on : {A : Type 0} (r : Regime) (t u : Ask Need Item (End A)) (xs : List Item) (l : A) → Relax t u → IsOn r t xs (done (reaches l))
    → IsOn r u xs (done (reaches l)) × (marks r t xs ≡ marks r u xs)
relax_on r t u [] l w h = (sym (subst (λ v. Relax v u) (sym h) w), marks_nil r t ∙ sym (marks_nil r u))
relax_on r (done e) u (x ∷ xs) l w h = absurd h
relax_on r (ask n k) (done e) (x ∷ xs) l w h = absurd w
relax_on r (ask n k) (ask n' k') (x ∷ xs) l w h =
    let d = relax_on r (k x) (k' x) xs l (w.1 x) h.1 in
    ((subst (λ z. fits r z x ≡ true) w.0 h.0, d.0), ap (λ z. mark r z x ∷ marks r (k x) xs) w.0 ∙ ap (λ ms. mark r n' x ∷ ms) d.1)

module _ (r : Regime) (a : Access) where
  abbrev With : Asked
  With = under r true a

  abbrev Without : Asked
  Without = under r false a

  relax_leaf : (below below' : Table1 → Ask Entry1 Item (End Leaf1)) (left : ℕ) (l : Leaf1) (b : Bool)
      → Relax (step_then below (cond b (Stopped (fault1 Permission left)) (Reached l))) (step_then below' (Reached l))
  relax_leaf below below' left l true = tt
  relax_leaf below below' left l false = refl

  relax_step : (below below' : Table1 → Ask Entry1 Item (End Leaf1)) → ((t : Table1) → Relax (below t) (below' t))
      → (left : ℕ) (t : Table1) (i : Item)
      → Turn1 r left i
      → Relax (step_then below (step1 With (entry1 With left t) i.pa i.value)) (step_then below' (step1 Without (entry1 Without left t) i.pa i.value))
  relax_step below below' h left t i (table next bits al d) = rw (d true a t, d false a t) (h record { address = next; bits = joined_bits t.bits bits })
  relax_step below below' h left t i (leaf v e d) =
      let l : Leaf1 = leaf1_of r (entry1 Without left t) i.pa v in
      rw (d true a t, d false a t) (relax_leaf below below' left l (not (is_allowed1 l.perms (is_uxn v.bits t.bits) a.el a.kind a.pan r.config.epan)))
  relax_step below below' h left t i (fault k d) = rw (d true a t) tt

  relax_from : (left : ℕ) (t : Table1) → Relax (walk1_from With left t) (walk1_from Without left t)
  relax_from zero t =
      (refl, λ i. relax_step (λ _. done (stops (fault1 Translation 0))) (λ _. done (stops (fault1 Translation 0))) (λ z. tt) 0 t i (turn1 r 0 i))
  relax_from (suc left) t = (refl, λ i. relax_step (walk1_from With left) (walk1_from Without left) (relax_from left) (suc left) t i (turn1 r (suc left) i))

  relax_root : (b : Bool) (base : ℕ)
      → Relax (cond b (done (stops (fault1 AddressSize most_left))) (stage1_from With r.stage1.start (root_table base)))
      (cond b (done (stops (fault1 AddressSize most_left))) (stage1_from Without r.stage1.start (root_table base)))
  relax_root true base = tt
  relax_root false base =
      relax_finer (word_of r) (walk1_from With r.stage1.start (root_table base)) (walk1_from Without r.stage1.start (root_table base))
      (relax_from r.stage1.start (root_table base))

  relax_stage1 : (b d : Bool) → let v =
      λ (q : Asked). cond b (cond d (done (stops (fault1 Translation most_left))) (ask stage1_base (λ i. stage1_behind q i.value))) (stage1_off q) in
      Relax (v With) (v Without)
  relax_stage1 true true = tt
  relax_stage1 true false = (refl, λ i. relax_root (is_too_large r.stage1 i.value) i.value)
  relax_stage1 false d = relax_same (stage1_off With)

  relax_judged : (l : Leaf1) (m : Leaf2) (b : Bool)
      → Relax {N = Need} (done (cond b (stops record { stage = S2; level = m.level; class = Permission; s1ptw = false }) (reaches (piece l m))))
      (done (reaches (piece l m)))
  relax_judged l m true = tt
  relax_judged l m false = refl

  relax_end : (l : Leaf1) (e : End Leaf2) → Relax {N = Need} (done (judged2 true a l e)) (done (judged2 false a l e))
  relax_end l (stops f) = tt
  relax_end l (reaches m) = relax_judged l m (not (is_allowed2 m.perms a.el a.kind))

  relax_output : (b : Bool) (l : Leaf1) → let v =
      λ (j : Bool). cond b (after (walk2 (asked2 r false l.out)) (λ e. done (judged2 j a l e))) (done (reaches (landed l))) in Relax (v true) (v false)
  relax_output true l = relax_behind (walk2 (asked2 r false l.out)) (λ e. done (judged2 true a l e)) (λ e. done (judged2 false a l e)) (relax_end l)
  relax_output false l = refl

  relax_walk : Relax (walk_by With) (walk_by Without)
  relax_walk =
      relax_after _ _ (stage2_behind With) (stage2_behind Without) (relax_stage1 r.config.m (is_refused1 r.config a)) (λ f. refl)
      (λ l. relax_output r.config.vm l)

abbrev LeafBy : (c : Config) (b : Access) (trail : List Item) (ms : List Mark) (l : Landing) → Side → Type 0
LeafBy c b trail ms l s =
    IsOn (regime_of c s) (walk_by (under (regime_of c s) false b)) trail (done (reaches l))
    × (marks (regime_of c s) (walk_by (under (regime_of c s) false b)) trail ≡ ms)

-- a translation serves each access of its piece that stage 1 doesn't refuse
pub first_leaf_is : (c : Config) (a b : Access) (trail : List Item) (l : Landing) →
    c.m ≡ true → is_refused1 c b ≡ false → IsOn (regime_for c a) (walk c true a) trail (done (reaches l)) →
    untagged b.va / 2 ^ l.class ≡ untagged a.va / 2 ^ l.class → FirstLeaf c trail (marks (regime_for c a) (walk c true a) trail) l.class b
first_leaf_is c a b trail l on ok h same =
    let r : Regime = regime_for c a in
    let w = relax_on r (walk c true a) (walk c false a) trail l (relax_walk r a) h in
    let d = walk_in_step r (of_fields c (side_of a.va)) a b on refl trail l (takes_on r (walk c false a) (done (reaches l)) trail w.0) in
    let most = d.most in
    let i = d.shift (sym same) ok in
    let sides : side_of a.va ≡ side_of b.va = same_side a.va b.va l.class (omega (arith, most)) (sym same) in
    let n : Landing = moved l (untagged b.va) in
    let on_b : IsOn r (walk_by (under r false b)) trail (done (reaches n)) =
    step_on_other r (walk_by (under r false a)) (done (reaches l)) (walk_by (under r false b)) (done (reaches n)) trail i in
    let ms : marks r (walk_by (under r false b)) trail ≡ marks r (walk c true a) trail =
    sym (step_marks r (walk_by (under r false a)) (done (reaches l)) (walk_by (under r false b)) (done (reaches n)) trail i) ∙ sym w.1 in
    let z : LeafBy c b trail (marks r (walk c true a) trail) n (side_of b.va) = subst (LeafBy c b trail (marks r (walk c true a) trail) n) sides (on_b, ms) in
    record { landing = n; on = z.0; class_is = refl; same = z.1 }
