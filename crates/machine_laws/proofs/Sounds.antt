-- The plans of walks are sound, and what follows from this for the last item of a trail.
use Rattle.std.proofs.Common.{◌≡◌, ℕ, zero, suc, Bool, true, false, cond, not, ◌&&◌, List, []}
use Rattle.std.proofs.Common.{◌∷◌, ◌++◌, refl, sym, ap, ◌∙◌, subst, append-nil}
use Rattle.std.specs.Prelude.{Result, Ok, Err}
use Rattle.std.proofs.lemmas.Bool.{both_ways}
use Rattle.geometry.specs.Tables.{most_left}
use Rattle.sysregs.specs.declared.regs.Config.{Config}
use Rattle.fault_codes.specs.declared.fault.Stage.TheVariants.{S2}
use Rattle.fault_codes.specs.declared.fault.Class.TheVariants.{Translation, AddressSize, Permission}
use Rattle.fault_codes.specs.declared.fault.Fault.{Fault}
use Rattle.trails.specs.declared.item.Item.{Item}
use Rattle.trails.specs.declared.outcome.Access.{Access}
use Rattle.table_reads.specs.declared.lead.Lead.{Lead}
use Rattle.table_reads.specs.declared.lead.Lead.TheVariants.{Down, Reached, Stopped}
use Rattle.table_reads.specs.Places.{is_too_large}
use Rattle.walk_spec.specs.declared.entry.Table1.{Table1}
use Rattle.walk_spec.specs.declared.entry.Entry1.{Entry1}
use Rattle.walk_spec.specs.declared.leaf.Leaf1.{Leaf1}
use Rattle.walk_spec.specs.declared.leaf.Leaf2.{Leaf2}
use Rattle.walk_spec.specs.Ask.{Ask, done, ask, after}
use Rattle.walk_spec.specs.Needs.{Regime, Need, stage2_base}
use Rattle.walk_spec.specs.Steps.{End, stops, reaches, step_then}
use Rattle.walk_spec.specs.Stage2.{Asked2, fault2, step2, walk2_from, walk2_behind, is_refused2}
use Rattle.walk_spec.specs.Stage1.{Asked, asked2, fault1, entry1, walk1_from, is_readable}
use Rattle.walk_spec.specs.BothStages.{Landing, landed, judged2, piece, is_refused1, asked, walk}
use Rattle.permissions.specs.Rights.{is_allowed2}
use Rattle.machine_spec.specs.Marks.{Mark, mark, marks}
use Rattle.machine_spec.specs.Uses.{LastIs}
use Rattle.machine_spec.specs.Allowed.{is_of_word}
use Rattle.machine_laws.specs.Standing.{IsOn}
use Rattle.machine_laws.proofs.Trees.{is_need1, needs_base, chain, Plan, fin, own, via, joined, flat}
use Rattle.machine_laws.proofs.Trees.{rest_by, IsSound, IsSecond, IsWords, AllSecond, IsWord}
use Rattle.machine_laws.proofs.Facts.{regime_for}
use Rattle.machine_laws.proofs.Stands.{marks_append, on_split, joined_is, via_on, via_marks, mark_base, words_second, second_marks, marks_nil, flat_fin}
use Rattle.machine_laws.proofs.PlanOf.{early2, read_next, word_behind, entry_plan, plan_of, output_plan, out_of, from_plan}
use Rattle.machine_laws.proofs.PlanOf.{root_table, behind_plan, off_end, whole_plan, plan_for, plan_is_walk}

-- SOUND

-- what a chain is followed by: the class of a fault, and what a need is
abbrev pub gives_word : Result Need (End Landing) → Bool
gives_word (Ok n) = false
gives_word (Err (stops f)) = is_of_word f.class
gives_word (Err (reaches l)) = false

abbrev asks_first : Result Need (End Landing) → Bool
asks_first (Ok n) = is_need1 n
asks_first (Err e) = true

abbrev asks_base : Result Need (End Landing) → Bool
asks_base (Ok n) = needs_base n
asks_base (Err e) = false

read_gives : (b : Bool) (e : Entry1) (l : Leaf2)
    → (gives_word (read_next b e l) ≡ false) × (asks_first (read_next b e l) ≡ true) × (asks_base (read_next b e l) ≡ false)
read_gives true e l = (refl, refl, refl)
read_gives false e l = (refl, refl, refl)

behind_gives : (c : Config) (e : Entry1) (d : End Leaf2) → (asks_first (word_behind c e d) ≡ true) × (asks_base (word_behind c e d) ≡ false)
behind_gives c e (stops f) = (refl, refl)
behind_gives c e (reaches l) = let g = read_gives (is_readable c l) e l in (g.1, g.2)

pub judged_gives : (q : Asked) (l : Leaf1) (m : Leaf2) → gives_word (Err (judged2 q.judged q.access l (reaches m))) ≡ false
judged_gives q l m = judged_case (q.judged && not (is_allowed2 m.perms q.access.el q.access.kind)) m
  where
    judged_case : (b : Bool) (m : Leaf2)
        → gives_word (Err (cond b (stops record { stage = S2; level = m.level; class = Permission; s1ptw = false }) (reaches (piece l m)))) ≡ false
    judged_case true m = refl
    judged_case false m = refl

sound_via : (r : Regime) (p : Bool) (x : ℕ) (next : End Leaf2 → Result Need (End Landing)) (k : Item → Plan) → is_refused2 r.config x ≡ false
    → ((l : Leaf2) → gives_word (next (reaches l)) ≡ false) → ((e : End Leaf2) → (asks_first (next e) ≡ true) × (asks_base (next e) ≡ false))
    → ((i : Item) → IsSound r (k i))
    → ((f : Fault) → next (stops f) ≡ Err (stops f)) → IsSound r (via p x next k)
sound_via r p x next k h f g s t = (
  h,
  (λ l d e. sym (ap gives_word e) ∙ f l),
  (λ e n q. (sym (ap asks_first q) ∙ (g e).0, sym (ap asks_base q) ∙ (g e).1)),
  s,
  λ d l e. let q : Err (stops d) ≡ Err (reaches l) = sym (t d) ∙ e in absurd cc,
)

sound_entry : (r : Regime) (b d : Bool) (e : Entry1) (stop : Fault → Plan) (k : Item → Plan) → is_refused2 r.config e.place ≡ d
    → ((f : Fault) → IsSound r (stop f)) → ((i : Item) → IsSound r (k i)) → IsSound r (entry_plan r b d e stop k)
sound_entry r true true e stop k h f s = f (early2 r true e.place)
sound_entry r true false e stop k h f s =
    sound_via r true e.place (word_behind r.config e) k h (λ l. (read_gives (is_readable r.config l) e l).0) (behind_gives r.config e) s (λ d. refl)
sound_entry r false d e stop k h f s = (refl, (λ b i l. absurd (both_ways false refl b)), s)

pub sound_of : (r : Regime) (out : End Leaf1 → Plan) → ((e : End Leaf1) → IsSound r (out e)) → (t : Ask Entry1 Item (End Leaf1))
    → IsSound r (plan_of r out t)
sound_of r out h (done e) = h e
sound_of r out h (ask e k) =
    sound_entry r r.config.vm (is_refused2 r.config e.place) e (λ f. out (stops f)) (λ i. plan_of r out (k i)) refl (λ f. h (stops f))
    (λ i. sound_of r out h (k i))

fin_same : (e d : End Landing) → fin e ≡ fin d → e ≡ d
fin_same e d h = cc

-- a plan that isn't at an end by a translation
abbrev NotThere : Plan → Type 0
NotThere p = (l : Landing) → p ≡ fin (reaches l) → ⊥

entry_not_there : (r : Regime) (b d : Bool) (e : Entry1) (k : Item → Plan) → NotThere (entry_plan r b d e (λ f. fin (stops f)) k)
entry_not_there r true true e k l h = (let q : stops (early2 r true e.place) ≡ reaches l = fin_same (stops (early2 r true e.place)) (reaches l) h in
    absurd cc)
entry_not_there r true false e k l h = absurd cc
entry_not_there r false d e k l h = absurd cc

module _ (q : Asked) where
  sound_output : (b d : Bool) (l : Leaf1) → is_refused2 q.regime.config l.out ≡ d → IsSound q.regime (output_plan q b d l)
  sound_output true true l h = tt
  sound_output true false l h =
      sound_via q.regime false l.out (λ e. Err (judged2 q.judged q.access l e)) (λ i. fin (reaches (landed l))) h (judged_gives q l) (λ e. (refl, refl))
      (λ i. tt) (λ d. refl)
  sound_output false d l h = tt

  pub sound_out : (e : End Leaf1) → IsSound q.regime (out_of q e)
  sound_out (stops f) = tt
  sound_out (reaches l) = sound_output q.regime.config.vm (is_refused2 q.regime.config l.out) l refl

  pub sound_from : (left : ℕ) (t : Table1) → IsSound q.regime (from_plan q left t)
  sound_from left t = sound_of q.regime (out_of q) sound_out (walk1_from q left t)

  from_not_there : (left : ℕ) (t : Table1) → NotThere (from_plan q left t)
  from_not_there zero t l h = entry_not_there q.regime q.regime.config.vm _ (entry1 q 0 t) _ l h
  from_not_there (suc left) t l h = entry_not_there q.regime q.regime.config.vm _ (entry1 q (suc left) t) _ l h

  behind_not_there : (b : Bool) (base : ℕ) → NotThere (behind_plan q b base)
  behind_not_there true base l h = (let e : stops (fault1 AddressSize most_left) ≡ reaches l = fin_same _ (reaches l) h in absurd cc)
  behind_not_there false base l h = from_not_there q.regime.stage1.start (root_table base) l h

  sound_behind : (b : Bool) (base : ℕ) → IsSound q.regime (behind_plan q b base)
  sound_behind true base = tt
  sound_behind false base = sound_from q.regime.stage1.start (root_table base)

  sound_whole : (b d : Bool) → IsSound q.regime (whole_plan q b d)
  sound_whole true true = tt
  sound_whole true false =
      (refl, (λ h i l. behind_not_there (is_too_large q.regime.stage1 i.value) i.value l), λ i. sound_behind (is_too_large q.regime.stage1 i.value) i.value)
  sound_whole false d = sound_out (off_end q)

-- the plan of an access is sound
pub sound_plan : (c : Config) (j : Bool) (a : Access) → IsSound (regime_for c a) (plan_for c j a)
sound_plan c j a = sound_whole (asked c j a) c.m (is_refused1 c a)

-- a chain that stops ends the whole
abbrev pub IsTight : Plan → Type 0
IsTight (fin e) = Unit {0}
IsTight (own n k) = (i : Item) → IsTight (k i)
IsTight (via p x next k) = ((f : Fault) → next (stops f) ≡ Err (stops f)) × ((i : Item) → IsTight (k i))

tight_entry : (r : Regime) (b d : Bool) (e : Entry1) (stop : Fault → Plan) (k : Item → Plan) → ((f : Fault) → IsTight (stop f))
    → ((i : Item) → IsTight (k i))
    → IsTight (entry_plan r b d e stop k)
tight_entry r true true e stop k f s = f (early2 r true e.place)
tight_entry r true false e stop k f s = ((λ d. refl), s)
tight_entry r false d e stop k f s = s

tight_of : (r : Regime) (out : End Leaf1 → Plan) → ((e : End Leaf1) → IsTight (out e)) → (t : Ask Entry1 Item (End Leaf1)) → IsTight (plan_of r out t)
tight_of r out h (done e) = h e
tight_of r out h (ask e k) =
    tight_entry r r.config.vm (is_refused2 r.config e.place) e (λ f. out (stops f)) (λ i. plan_of r out (k i)) (λ f. h (stops f))
    (λ i. tight_of r out h (k i))

module _ (q : Asked) where
  tight_output : (b d : Bool) (l : Leaf1) → IsTight (output_plan q b d l)
  tight_output true true l = tt
  tight_output true false l = ((λ f. refl), (λ i. tt))
  tight_output false d l = tt

  tight_out : (e : End Leaf1) → IsTight (out_of q e)
  tight_out (stops f) = tt
  tight_out (reaches l) = tight_output q.regime.config.vm (is_refused2 q.regime.config l.out) l

  pub tight_from : (left : ℕ) (t : Table1) → IsTight (from_plan q left t)
  tight_from left t = tight_of q.regime (out_of q) tight_out (walk1_from q left t)

  tight_behind : (b : Bool) (base : ℕ) → IsTight (behind_plan q b base)
  tight_behind true base = tt
  tight_behind false base = tight_from q.regime.stage1.start (root_table base)

  tight_whole : (b d : Bool) → IsTight (whole_plan q b d)
  tight_whole true true = tt
  tight_whole true false = λ i. tight_behind (is_too_large q.regime.stage1 i.value) i.value
  tight_whole false d = tight_out (off_end q)

pub tight_plan : (c : Config) (j : Bool) (a : Access) → IsTight (plan_for c j a)
tight_plan c j a = tight_whole (asked c j a) c.m (is_refused1 c a)

-- CHAINS

words_step : (s : Lead Leaf2 ℕ) (below : ℕ → Ask Need Item (End Leaf2)) → ((t : ℕ) → IsWords (below t)) → IsWords (step_then below s)
words_step (Down t) below h = h t
words_step (Reached l) below h = tt
words_step (Stopped f) below h = tt

module _ (q : Asked2) where
  words_from : (left t : ℕ) → IsWords (walk2_from q left t)
  words_from zero t = (refl, refl, λ i. words_step (step2 q 0 i.pa i.value) (λ _. done (stops (fault2 q Translation 0))) (λ t. tt))
  words_from (suc left) t = (refl, refl, λ i. words_step (step2 q (suc left) i.pa i.value) (walk2_from q left) (words_from left))

  words_by : (b : Bool) (base : ℕ) → IsWords (cond b (done (stops (fault2 q AddressSize most_left))) (walk2_from q q.sizes.start base))
  words_by true base = tt
  words_by false base = words_from q.sizes.start base

  -- behind a base there are words of stage 2
  pub words_behind : (base : ℕ) → IsWords (walk2_behind q base)
  words_behind base = words_by (is_too_large q.sizes base) base

  from_asks : (left t : ℕ) (l : Leaf2) → walk2_from q left t ≡ done (reaches l) → ⊥
  from_asks zero t l h = absurd cc
  from_asks (suc left) t l h = absurd cc

  by_asks : (b : Bool) (base : ℕ) (l : Leaf2) → cond b (done (stops (fault2 q AddressSize most_left)))
      (walk2_from q q.sizes.start base) ≡ done (reaches l) → ⊥
  by_asks true base l h = absurd cc
  by_asks false base l h = from_asks q.sizes.start base l h

  -- no leaf without a word
  pub behind_asks : (base : ℕ) (l : Leaf2) → walk2_behind q base ≡ done (reaches l) → ⊥
  behind_asks base l h = by_asks (is_too_large q.sizes base) base l h

-- the last of more marks
pub last_more : (P : Mark → Type 0) (pre : List Mark) (m : Mark) (ms : List Mark) → LastIs P (m ∷ ms) → LastIs P (pre ++ m ∷ ms)
last_more P [] m ms h = h
last_more P (n ∷ []) m ms h = h
last_more P (n ∷ (o ∷ pre)) m ms h = last_more P (o ∷ pre) m ms h

words_last : {A : Type 0} (r : Regime) (pre : List Mark) (t u : Ask Need Item A) (y : Item) (ys : List Item) → IsWords t → IsOn r t (y ∷ ys) u
    → LastIs IsWord (pre ++ marks r t (y ∷ ys))
words_last r pre (done a) u y ys h o = absurd o
words_last r pre (ask n k) u y [] h o =
    rw (marks_nil r (k y)) (last_more IsWord pre (mark r n y) [] (mark_base r n y ∙ h.1))
words_last r pre (ask n k) u y (z ∷ zs) h o =
    last_more IsWord pre (mark r n y) (marks r (k y) (z ∷ zs)) (words_last r (mark r n y ∷ []) (k y) u z zs (h.2 y) o.1)

-- a chain reaches a leaf by a word
pub chain_last : (r : Regime) (p : Bool) (x : ℕ) (i : Item) (is : List Item) (l : Leaf2) → IsOn r (chain r p x) (i ∷ is) (done (reaches l))
    → LastIs IsWord (marks r (chain r p x) (i ∷ is))
chain_last r p x i [] l h = absurd (behind_asks (asked2 r p x) i.value l (sym h.1))
chain_last r p x i (y ∷ is) l h =
    words_last r (mark r (stage2_base x) i ∷ []) (walk2_behind (asked2 r p x) i.value) (done (reaches l)) y is (words_behind (asked2 r p x) i.value) h.1

pub chain_second : (r : Regime) (p : Bool) (x : ℕ) → IsSecond (chain r p x)
chain_second r p x = (refl, λ i. words_second (walk2_behind (asked2 r p x) i.value) (words_behind (asked2 r p x) i.value))

-- WITHOUT STAGE 1

after_second : {A B : Type 0} (t : Ask Need Item A) (f : A → Ask Need Item B) → IsSecond t → ((a : A) → IsSecond (f a)) → IsSecond (after t f)
after_second (done a) f h g = g a
after_second (ask n k) f h g = (h.0, λ i. after_second (k i) f (h.1 i) g)

module _ (q : Asked) where
  output_second : (b d : Bool) (l : Leaf1) → IsSecond (flat q.regime (output_plan q b d l))
  output_second true true l = tt
  output_second true false l =
      after_second (chain q.regime false l.out) (λ e. joined (Err (judged2 q.judged q.access l e)) (λ i. flat q.regime (fin (reaches (landed l)))))
      (chain_second q.regime false l.out) (λ e. tt)
  output_second false d l = tt

  -- behind stage 1 all questions are of stage 2
  pub out_second : (e : End Leaf1) → IsSecond (flat q.regime (out_of q e))
  out_second (stops f) = tt
  out_second (reaches l) = output_second q.regime.config.vm (is_refused2 q.regime.config l.out) l

  off_second : (b d : Bool) → (b ≡ true → d ≡ true) → IsSecond (flat q.regime (whole_plan q b d))
  off_second true true h = tt
  off_second true false h = absurd (both_ways false refl (h refl))
  off_second false d h = out_second (off_end q)

-- without stage 1 all is of stage 2
pub off_marks : (c : Config) (a : Access) (items : List Item) → (c.m ≡ true → is_refused1 c a ≡ true)
    → AllSecond (marks (regime_for c a) (walk c true a) items)
off_marks c a items h =
    second_marks (regime_for c a) (walk c true a) items (subst IsSecond (plan_is_walk c true a) (off_second (asked c true a) c.m (is_refused1 c a) h))

-- THE LAST ITEM OF A TRAIL THAT LEADS TO A TRANSLATION IS A WORD

module _ (r : Regime) (l : Landing) where
  abbrev There : Ask Need Item (End Landing)
  There = done (reaches l)

  last_word_on : (t u : Ask Need Item (End Landing)) (pre is : List Item) → IsOn r t pre u → IsOn r u is There
      → (u ≡ There → LastIs IsWord (marks r t pre))
      → LastIs IsWord (marks r u is) → LastIs IsWord (marks r t (pre ++ is))
  last_word_on t u pre [] on h here there = rw append-nil (here (sym h))
  last_word_on t (done b) pre (x ∷ is) on h here there = absurd h
  last_word_on t (ask n k) pre (x ∷ is) on h here there =
      rw (marks_append r t (ask n k) pre (x ∷ is) on) (last_more IsWord (marks r t pre) (mark r n x) (marks r (k x) is) there)

  chain_word_last : (p : Bool) (x : ℕ) (is : List Item) (m : Leaf2) → IsOn r (chain r p x) is (done (reaches m))
      → LastIs IsWord (marks r (chain r p x) is)
  chain_word_last p x [] m h = absurd cc
  chain_word_last p x (i ∷ is) m h = chain_last r p x i is m h

  abbrev EndsWord : Plan → Type 0
  EndsWord p = (xs : List Item) → IsOn r (flat r p) xs There → LastIs IsWord (marks r (flat r p) xs)

  not_base : (n : Need) (k : Item → Plan) (i : Item) (b : Bool) → needs_base n ≡ b
      → (needs_base n ≡ true → (i : Item) (l : Landing) → k i ≡ fin (reaches l) → ⊥) → k i ≡ fin (reaches l) → b ≡ false
  not_base n k i true e sound h = absurd (sound e i l h)
  not_base n k i false e sound h = refl

  last_own : (n : Need) (k : Item → Plan) → (needs_base n ≡ true → (i : Item) (l : Landing) → k i ≡ fin (reaches l) → ⊥)
      → ((i : Item) → EndsWord (k i))
      → EndsWord (own n k)
  last_own n k sound rec [] h = absurd cc
  last_own n k sound rec (y ∷ ys) h =
      last_word_on (flat r (own n k)) (flat r (k y)) (y ∷ []) ys (h.0, refl) h.1
      (λ e. rw (marks_nil r (flat r (k y))) (mark_base r n y ∙ not_base n k y (needs_base n) refl sound (flat_fin r (k y) (reaches l) e))) (rec y ys h.1)

  last_fin : (e : End Landing) (xs : List Item) → IsOn r (done e) xs There → LastIs IsWord (marks r (done e) xs)
  last_fin e [] h = tt
  last_fin e (x ∷ xs) h = absurd h

  last_rest : (g : Result Need (End Landing)) (k : Item → Plan) → ((n : Need) → g ≡ Ok n → needs_base n ≡ false) → ((i : Item) → EndsWord (k i))
      → EndsWord (rest_by g k)
  last_rest (Err e) k sound rec xs h = last_fin e xs h
  last_rest (Ok n) k sound rec xs h = last_own n k (λ b. absurd (both_ways (needs_base n) (sound n refl) b)) rec xs h

  abbrev Next : (End Leaf2 → Result Need (End Landing)) → (Item → Plan) → End Leaf2 → Ask Need Item (End Landing)
  Next next k e = joined (next e) (λ i. flat r (k i))

  -- a chain that stopped doesn't lead to a translation
  stopped_not : (next : End Leaf2 → Result Need (End Landing)) (k : Item → Plan) (f : Fault) (rest : List Item) → next (stops f) ≡ Err (stops f)
      → IsOn r (Next next k (stops f)) rest There → ⊥
  stopped_not next k f rest e h = stopped_on f rest (subst (λ v. IsOn r (joined v (λ i. flat r (k i))) rest There) e h)
    where
      stopped_on : (f : Fault) (rest : List Item) → IsOn {A = End Landing} r (done (stops f)) rest There → ⊥
      stopped_on f [] h = absurd cc
      stopped_on f (x ∷ rest) h = h

  via_end : (p : Bool) (x : ℕ) (next : End Leaf2 → Result Need (End Landing)) (k : Item → Plan) (front rest : List Item) (d : End Leaf2)
      → ((f : Fault) → next (stops f) ≡ Err (stops f))
      → ((e : End Leaf2) → EndsWord (rest_by (next e) k)) → IsOn r (chain r p x) front (done d) → IsOn r (Next next k d) rest There
      → LastIs IsWord (marks r (flat r (via p x next k)) (front ++ rest))
  via_end p x next k front rest (stops f) tight rec on more = absurd (stopped_not next k f rest (tight f) more)
  via_end p x next k front rest (reaches m) tight rec on more =
      let t : Ask Need Item (End Landing) = flat r (via p x next k) in
      let u : Ask Need Item (End Landing) = flat r (rest_by (next (reaches m)) k) in
      let stands : IsOn r t front u = via_on r p x next k front (reaches m) on in
      let more2 : IsOn r u rest There = subst (λ v. IsOn r v rest There) (joined_is r (next (reaches m)) k) more in
      let word : LastIs IsWord (marks r t front) =
      subst (LastIs IsWord) (sym (via_marks r p x next k front (done (reaches m)) on)) (chain_word_last p x front m on) in
      last_word_on t u front rest stands more2 (λ e. word) (rec (reaches m) rest more2)

  last_via : (p : Bool) (x : ℕ) (next : End Leaf2 → Result Need (End Landing)) (k : Item → Plan) → ((f : Fault) → next (stops f) ≡ Err (stops f))
      → ((e : End Leaf2) → EndsWord (rest_by (next e) k)) → EndsWord (via p x next k)
  last_via p x next k tight rec xs h =
      let d = on_split r (chain r p x) (Next next k) xs (reaches l) h in
      subst (λ v. LastIs IsWord (marks r (flat r (via p x next k)) v)) (sym d.is) (via_end p x next k d.front d.rest d.end tight rec d.on_front d.more)

  last_plan : (p : Plan) → IsSound r p → IsTight p → EndsWord p
  last_plan (fin e) s t xs h = last_fin e xs h
  last_plan (own n k) s t xs h = last_own n k s.1 (λ i. last_plan (k i) (s.2 i) (t i)) xs h
  last_plan (via p x next k) s t xs h = last_via p x next k t.0 (λ e. last_rest (next e) k (λ n q. (s.2 e n q).1)
      (λ i. last_plan (k i) (s.3 i) (t.1 i))) xs h

-- a trail that leads to a translation ends in a word
pub last_mapped : (c : Config) (j : Bool) (a : Access) (trail : List Item) (l : Landing) → IsOn (regime_for c a) (walk c j a) trail (done (reaches l))
    → LastIs IsWord (marks (regime_for c a) (walk c j a) trail)
last_mapped c j a trail l h =
    let e = plan_is_walk c j a in
    subst (λ t. LastIs IsWord (marks (regime_for c a) t trail)) e
    (last_plan (regime_for c a) l (plan_for c j a) (sound_plan c j a) (tight_plan c j a) trail
    (subst (λ t. IsOn (regime_for c a) t trail (done (reaches l))) (sym e) h))
