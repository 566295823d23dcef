-- The walk of an access is the tree of a plan.
use Rattle.std.proofs.Common.{◌≡◌, ℕ, Bool, true, false, cond, refl, sym, ap, ◌∙◌}
use Rattle.std.specs.Prelude.{Result, Ok, Err}
use Rattle.std.proofs.Math.Path.{fun_ext}
use Rattle.geometry.specs.Tables.{most_left}
use Rattle.sysregs.specs.declared.regs.Config.{Config}
use Rattle.permissions.specs.Rights.{no_bits}
use Rattle.fault_codes.specs.declared.fault.Stage.TheVariants.{S1, S2}
use Rattle.fault_codes.specs.declared.fault.Class.TheVariants.{Translation, AddressSize, Permission}
use Rattle.fault_codes.specs.declared.fault.Fault.{Fault}
use Rattle.trails.specs.declared.item.Item.{Item}
use Rattle.trails.specs.declared.outcome.Access.{Access}
use Rattle.table_reads.specs.Places.{is_too_large}
use Rattle.walk_spec.specs.declared.entry.Table1.{Table1}
use Rattle.walk_spec.specs.declared.entry.Entry1.{Entry1}
use Rattle.walk_spec.specs.declared.leaf.Leaf1.{Leaf1}
use Rattle.walk_spec.specs.declared.leaf.Leaf2.{Leaf2}
use Rattle.walk_spec.specs.Ask.{Ask, done, ask, after, go_on, finer}
use Rattle.walk_spec.specs.Needs.{Regime, Need, stage1_base, word}
use Rattle.walk_spec.specs.Steps.{End, stops, reaches}
use Rattle.walk_spec.specs.Stage2.{fault2, is_refused2}
use Rattle.walk_spec.specs.Stage1.{Asked, asked2, fault1, walk1_from, is_readable, read1, read1_by, word_of}
use Rattle.walk_spec.specs.BothStages.{Landing, landed, judged2, stage2_behind, is_refused1, stage1_behind, is_refused_off, off_leaf, walk_by, asked, walk}
use Rattle.machine_laws.proofs.Trees.{chain, Plan, fin, own, via, joined, flat}
use Rattle.machine_laws.proofs.Facts.{regime_for}

-- the need of an entry's word at a place
abbrev pub word_need : Entry1 → ℕ → Need
word_need e p = word record { stage = S1; left = e.left; place = p; s1ptw = false; address = e.address; table = e.table.address }

-- what stage 2 refuses before its base
abbrev pub early2 : Regime → Bool → ℕ → Fault
early2 r p x = fault2 (asked2 r p x) Translation most_left

-- what stage 2 finds at an entry's place that may not be read
abbrev pub read_fault : Leaf2 → Fault
read_fault l = record { stage = S2; level = l.level; class = Permission; s1ptw = true }

abbrev pub read_next : Bool → Entry1 → Leaf2 → Result Need (End Landing)
read_next b e l = cond b (Ok (word_need e l.pa)) (Err (stops (read_fault l)))

-- what follows on the stage 2 of an entry's place
abbrev pub word_behind : Config → Entry1 → End Leaf2 → Result Need (End Landing)
word_behind c e (stops f) = Err (stops f)
word_behind c e (reaches l) = read_next (is_readable c l) e l

-- the plan of a question of stage 1: at once, or behind stage 2 of its place
abbrev pub entry_plan : Regime → (vm refused : Bool) → Entry1 → (Fault → Plan) → (Item → Plan) → Plan
entry_plan r vm refused e stop k =
    cond vm (cond refused (stop (early2 r true e.place)) (via true e.place (word_behind r.config e) k)) (own (word_need e e.place) k)

-- the plan of stage 1 from its entries, where out says what follows on its end
abbrev pub plan_of : Regime → (End Leaf1 → Plan) → Ask Entry1 Item (End Leaf1) → Plan
plan_of r out (done e) = out e
plan_of r out (ask e k) = entry_plan r r.config.vm (is_refused2 r.config e.place) e (λ f. out (stops f)) (λ i. plan_of r out (k i))

-- the plan of stage 2 behind the end of stage 1
abbrev pub output_plan : Asked → (vm refused : Bool) → Leaf1 → Plan
output_plan q vm refused l =
    cond vm (cond refused (fin (stops (early2 q.regime false l.out)))
    (via false l.out (λ e. Err (judged2 q.judged q.access l e)) (λ i. fin (reaches (landed l)))))
    (fin (reaches (landed l)))

abbrev pub out_of : Asked → End Leaf1 → Plan
out_of q (stops f) = fin (stops f)
out_of q (reaches l) = output_plan q q.regime.config.vm (is_refused2 q.regime.config l.out) l

-- the plan of stage 1 from a table down
abbrev pub from_plan : Asked → ℕ → Table1 → Plan
from_plan q left t = plan_of q.regime (out_of q) (walk1_from q left t)

abbrev pub root_table : ℕ → Table1
root_table base = record { address = base; bits = no_bits }

abbrev pub behind_plan : Asked → Bool → ℕ → Plan
behind_plan q large base = cond large (fin (stops (fault1 AddressSize most_left))) (from_plan q q.regime.stage1.start (root_table base))

abbrev pub off_end : Asked → End Leaf1
off_end q = cond (is_refused_off q.regime.config q.access) (stops (fault1 AddressSize most_left)) (reaches (off_leaf q.regime.config q.access))

abbrev pub on_plan : Asked → Bool → Plan
on_plan q refused = cond refused (fin (stops (fault1 Translation most_left)))
    (own stage1_base (λ i. behind_plan q (is_too_large q.regime.stage1 i.value) i.value))

abbrev pub whole_plan : Asked → (on refused : Bool) → Plan
whole_plan q on refused = cond on (on_plan q refused) (out_of q (off_end q))

abbrev pub plan_by : Asked → Plan
plan_by q = whole_plan q q.regime.config.m (is_refused1 q.regime.config q.access)

-- the plan of an access
abbrev pub plan_for : Config → Bool → Access → Plan
plan_for c j a = plan_by (asked c j a)

after_after : {A B C : Type 0} (t : Ask Need Item A) (f : A → Ask Need Item B) (g : B → Ask Need Item C)
    → after (after t f) g ≡ after t (λ a. after (f a) g)
after_after (done a) f g = refl
after_after (ask n k) f g = ap (ask n) (fun_ext (λ i. after_after (k i) f g))

module _ (r : Regime) (out : End Leaf1 → Plan) (plain : (f : Fault) → out (stops f) ≡ fin (stops f)) where
  abbrev Ends : End Leaf1 → Ask Need Item (End Landing)
  Ends e = flat r (out e)

  abbrev Finer : Ask Entry1 Item (End Leaf1) → Ask Need Item (End Leaf1)
  Finer t = finer stops (word_of r) t

  read_step : (b : Bool) (e : Entry1) (l : Leaf2) (k : Item → Ask Entry1 Item (End Leaf1)) (p : Item → Plan)
      → ((i : Item) → flat r (p i) ≡ after (Finer (k i)) Ends)
      → joined (read_next b e l) (λ i. flat r (p i)) ≡ after (after (cond b (read1 e l.pa) (done (Err (read_fault l))))
      (go_on stops (λ i. Finer (k i)))) Ends
  read_step true e l k p h = ap (ask (word_need e l.pa)) (fun_ext h)
  read_step false e l k p h = sym (ap (flat r) (plain (read_fault l)))

  word_step : (e : Entry1) (d : End Leaf2) (k : Item → Ask Entry1 Item (End Leaf1)) (p : Item → Plan)
      → ((i : Item) → flat r (p i) ≡ after (Finer (k i)) Ends)
      → joined (word_behind r.config e d) (λ i. flat r (p i)) ≡ after (after (read1_by r.config e d) (go_on stops (λ i. Finer (k i)))) Ends
  word_step e (stops f) k p h = sym (ap (flat r) (plain f))
  word_step e (reaches l) k p h = read_step (is_readable r.config l) e l k p h

  by_case : (b d : Bool) (e : Entry1) (k : Item → Ask Entry1 Item (End Leaf1)) (p : Item → Plan)
      → ((i : Item) → flat r (p i) ≡ after (Finer (k i)) Ends)
      → flat r (entry_plan r b d e (λ f. out (stops f)) p)
      ≡ after (after (cond b (after (cond d (done (stops (early2 r true e.place))) (chain r true e.place)) (read1_by r.config e)) (read1 e e.place))
      (go_on stops (λ i. Finer (k i)))) Ends
  by_case true true e k p h = refl
  by_case true false e k p h =
      let g : Result Item Fault → Ask Need Item (End Leaf1) = go_on stops (λ i. Finer (k i)) in
      ap (after (chain r true e.place)) (fun_ext (λ d. word_step e d k p h))
      ∙ sym (ap (λ v. after v Ends) (after_after (chain r true e.place) (read1_by r.config e) g)
      ∙ after_after (chain r true e.place) (λ d. after (read1_by r.config e d) g) Ends)
  by_case false d e k p h = ap (ask (word_need e e.place)) (fun_ext h)

  -- stage 1 with the stage 2 of each word is the tree of the plan of its entries
  pub finer_plan : (t : Ask Entry1 Item (End Leaf1)) → flat r (plan_of r out t) ≡ after (Finer t) Ends
  finer_plan (done e) = refl
  finer_plan (ask e k) = by_case r.config.vm (is_refused2 r.config e.place) e k (λ i. plan_of r out (k i)) (λ i. finer_plan (k i))

module _ (q : Asked) where
  output_is : (b d : Bool) (l : Leaf1) → flat q.regime (output_plan q b d l)
      ≡ cond b (after (cond d (done (stops (early2 q.regime false l.out))) (chain q.regime false l.out)) (λ e. done (judged2 q.judged q.access l e)))
      (done (reaches (landed l)))
  output_is true true l = refl
  output_is true false l = refl
  output_is false d l = refl

  pub out_is : (e : End Leaf1) → flat q.regime (out_of q e) ≡ stage2_behind q e
  out_is (stops f) = refl
  out_is (reaches l) = output_is q.regime.config.vm (is_refused2 q.regime.config l.out) l

  -- stage 1 from a table down, and stage 2 of its output
  pub from_is : (left : ℕ) (t : Table1) → flat q.regime (from_plan q left t) ≡ after (finer stops (word_of q.regime) (walk1_from q left t))
      (stage2_behind q)
  from_is left t =
      finer_plan q.regime (out_of q) (λ f. refl) (walk1_from q left t) ∙ ap (after (finer stops (word_of q.regime) (walk1_from q left t))) (fun_ext out_is)

  behind_is : (b : Bool) (base : ℕ) → flat q.regime (behind_plan q b base)
      ≡ after (cond b (done (stops (fault1 AddressSize most_left))) (finer stops (word_of q.regime) (walk1_from q q.regime.stage1.start (root_table base))))
      (stage2_behind q)
  behind_is true base = refl
  behind_is false base = from_is q.regime.stage1.start (root_table base)

  whole_is : (b d : Bool) → flat q.regime (whole_plan q b d)
      ≡ after (cond b (cond d (done (stops (fault1 Translation most_left))) (ask stage1_base (λ i. stage1_behind q i.value))) (done (off_end q)))
      (stage2_behind q)
  whole_is true true = refl
  whole_is true false = ap (ask stage1_base) (fun_ext (λ i. behind_is (is_too_large q.regime.stage1 i.value) i.value))
  whole_is false d = out_is (off_end q)

  pub plan_by_is : flat q.regime (plan_by q) ≡ walk_by q
  plan_by_is = whole_is q.regime.config.m (is_refused1 q.regime.config q.access)

-- a walk is the tree of its plan
pub plan_is_walk : (c : Config) (j : Bool) (a : Access) → flat (regime_for c a) (plan_for c j a) ≡ walk c j a
plan_is_walk c j a = plan_by_is (asked c j a)
