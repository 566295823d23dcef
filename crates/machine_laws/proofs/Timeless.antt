-- A walk reads no moment of an item: on items that are alike but for moments it goes on alike.
use Rattle.std.proofs.Common.{◌≡◌, ℕ, zero, suc, Bool, true, false, cond, refl, ap, subst}
use Rattle.std.specs.Prelude.{Result, Ok, Err}
use Rattle.geometry.specs.Tables.{most_left}
use Rattle.sysregs.specs.declared.regs.Config.{Config}
use Rattle.permissions.specs.Rights.{no_bits}
use Rattle.fault_codes.specs.declared.fault.Class.TheVariants.{Translation, AddressSize, Permission}
use Rattle.fault_codes.specs.declared.fault.Stage.TheVariants.{S2}
use Rattle.trails.specs.declared.item.Item.{Item}
use Rattle.trails.specs.declared.outcome.Access.{Access}
use Rattle.table_reads.specs.declared.lead.Lead.{Lead}
use Rattle.table_reads.specs.declared.lead.Lead.TheVariants.{Down, Reached, Stopped}
use Rattle.table_reads.specs.Places.{is_too_large}
use Rattle.walk_spec.specs.declared.entry.Table1.{Table1}
use Rattle.walk_spec.specs.declared.entry.Entry1.{Entry1}
use Rattle.walk_spec.specs.declared.leaf.Leaf1.{Leaf1}
use Rattle.walk_spec.specs.declared.leaf.Leaf2.{Leaf2}
use Rattle.walk_spec.specs.Ask.{Ask, done, ask, after, go_on, finer}
use Rattle.walk_spec.specs.Needs.{Regime, Need, stage1_base, stage2_base}
use Rattle.walk_spec.specs.Steps.{End, stops, reaches, step_then}
use Rattle.walk_spec.specs.Stage2.{Asked2, fault2, step2, walk2_from, is_refused2, walk2_behind, walk2}
use Rattle.walk_spec.specs.Stage1.{Asked, asked2, fault1, step1, entry1, walk1_from, read1, is_readable, read1_by, word_of, stage1_from}
use Rattle.walk_spec.specs.BothStages.{Landing, landed, judged2, stage2_behind, is_refused1, stage1_behind, stage1_on, stage1_off, stage1, asked, walk}

-- equal but for the moments
pub record IsAlike (i j : Item) : Type 0 where
  pub stage_is : i.stage ≡ j.stage
  pub level_is : i.level ≡ j.level
  pub what_is : i.what ≡ j.what
  pub pa_is : i.pa ≡ j.pa
  pub value_is : i.value ≡ j.value

-- two walks ask the same, go on alike by answers that are alike, and end related
abbrev pub Alike : {N A B : Type 0} → (A → B → Type 0) → Ask N Item A → Ask N Item B → Type 0
Alike R (done a) (done b) = R a b
Alike R (done a) (ask n k) = ⊥
Alike R (ask n k) (done b) = ⊥
Alike R (ask n k) (ask m l) = (n ≡ m) × ((i j : Item) → IsAlike i j → Alike R (k i) (l j))

abbrev pub Equal : {A : Type 0} → A → A → Type 0
Equal a b = a ≡ b

-- a walk reads no moment
abbrev pub IsTimeless : {N A : Type 0} → Ask N Item A → Type 0
IsTimeless t = Alike Equal t t

-- WALKS BEHIND WALKS

alike_after : {N A B C D : Type 0} (R : A → B → Type 0) (S : C → D → Type 0) (t : Ask N Item A) (u : Ask N Item B) (f : A → Ask N Item C)
    (g : B → Ask N Item D)
    → Alike R t u → ((a : A) (b : B) → R a b → Alike S (f a) (g b)) → Alike S (after t f) (after u g)
alike_after R S (done a) (done b) f g h next = next a b h
alike_after R S (done a) (ask n k) f g h next = absurd h
alike_after R S (ask n k) (done b) f g h next = absurd h
alike_after R S (ask n k) (ask m l) f g h next = (h.0, λ i j e. alike_after R S (k i) (l j) f g (h.1 i j e) next)

-- behind an end that is equal, the same walk
timeless_after : {N A C : Type 0} (S : C → C → Type 0) (t : Ask N Item A) (f : A → Ask N Item C) → IsTimeless t → ((a : A) → Alike S (f a) (f a))
    → Alike S (after t f) (after t f)
timeless_after S t f h next = alike_after Equal S t t f f h (λ a b e. subst (λ c. Alike S (f a) (f c)) e (next a))

-- a walk that goes on by place and value of its item
by_value : {N A : Type 0} (R : A → A → Type 0) (f : ℕ → ℕ → Ask N Item A) → ((p v : ℕ) → Alike R (f p v) (f p v)) → (i j : Item)
    → IsAlike i j
    → Alike R (f i.pa i.value) (f j.pa j.value)
by_value R f h i j e =
    subst (λ v. Alike R (f i.pa i.value) (f j.pa v)) e.value_is (subst (λ p. Alike R (f i.pa i.value) (f p i.value)) e.pa_is (h i.pa i.value))

-- what finds the item of a question: items that are alike, or the same stop
abbrev pub Found : {X : Type 0} → Result Item X → Result Item X → Type 0
Found (Ok i) (Ok j) = IsAlike i j
Found (Ok i) (Err y) = ⊥
Found (Err x) (Ok j) = ⊥
Found (Err x) (Err y) = x ≡ y

alike_go : {M X A : Type 0} (stop : X → A) (f g : Item → Ask M Item A) → ((i j : Item) → IsAlike i j → Alike Equal (f i) (g j))
    → (x y : Result Item X) → Found x y
    → Alike Equal (go_on stop f x) (go_on stop g y)
alike_go stop f g h (Ok i) (Ok j) e = h i j e
alike_go stop f g h (Ok i) (Err y) e = absurd e
alike_go stop f g h (Err x) (Ok j) e = absurd e
alike_go stop f g h (Err x) (Err y) e = ap stop e

alike_finer : {N M X A : Type 0} (stop : X → A) (how : N → Ask M Item (Result Item X)) → ((n : N) → Alike Found (how n) (how n))
    → (t u : Ask N Item A) → Alike Equal t u
    → Alike Equal (finer stop how t) (finer stop how u)
alike_finer stop how h (done a) (done b) e = e
alike_finer stop how h (done a) (ask n k) e = absurd e
alike_finer stop how h (ask n k) (done b) e = absurd e
alike_finer stop how h (ask n k) (ask m l) e =
    subst (λ q. Alike Equal (after (how n) (go_on stop (λ i. finer stop how (k i)))) (after (how q) (go_on stop (λ i. finer stop how (l i))))) e.0
    (alike_after Found Equal (how n) (how n) (go_on stop (λ i. finer stop how (k i))) (go_on stop (λ i. finer stop how (l i))) (h n)
    (λ x y f. alike_go stop (λ i. finer stop how (k i)) (λ i. finer stop how (l i)) (λ i j g. alike_finer stop how h (k i) (l j) (e.1 i j g)) x y f))

alike_if : {N A : Type 0} (R : A → A → Type 0) (b : Bool) (t u : Ask N Item A) → Alike R t t → Alike R u u → Alike R (cond b t u) (cond b t u)
alike_if R true t u h k = h
alike_if R false t u h k = k

timeless_step : {N L T : Type 0} (below : T → Ask N Item (End L)) → ((next : T) → IsTimeless (below next)) → (s : Lead L T)
    → IsTimeless (step_then below s)
timeless_step below h (Down next) = h next
timeless_step below h (Reached l) = refl
timeless_step below h (Stopped f) = refl

-- STAGE 2

timeless2_from : (q : Asked2) (left table : ℕ) → IsTimeless (walk2_from q left table)
timeless2_from q zero table =
    let below : ℕ → Ask Need Item (End Leaf2) = λ _. done (stops (fault2 q Translation 0)) in
    (refl, by_value Equal (λ p v. step_then below (step2 q 0 p v)) (λ p v. timeless_step below (λ next. refl) (step2 q 0 p v)))
timeless2_from q (suc left) table =
    let below : ℕ → Ask Need Item (End Leaf2) = walk2_from q left in
    (refl, by_value Equal (λ p v. step_then below (step2 q (suc left) p v)) (λ p v. timeless_step below (timeless2_from q left) (step2 q (suc left) p v)))

timeless2_behind : (q : Asked2) (base : ℕ) → IsTimeless (walk2_behind q base)
timeless2_behind q base =
    alike_if Equal (is_too_large q.sizes base) (done (stops (fault2 q AddressSize most_left))) (walk2_from q q.sizes.start base) refl
    (timeless2_from q q.sizes.start base)

pub timeless2 : (q : Asked2) → IsTimeless (walk2 q)
timeless2 q =
    alike_if Equal (is_refused2 q.config q.ipa) (done (stops (fault2 q Translation most_left))) (ask (stage2_base q.ipa) (λ i. walk2_behind q i.value)) refl
    (refl, by_value Equal (λ p v. walk2_behind q v) (λ p v. timeless2_behind q v))

-- STAGE 1

timeless1_from : (q : Asked) (left : ℕ) (t : Table1) → IsTimeless (walk1_from q left t)
timeless1_from q zero t =
    let below : Table1 → Ask Entry1 Item (End Leaf1) = λ _. done (stops (fault1 Translation 0)) in
    let e : Entry1 = entry1 q 0 t in
    (refl, by_value Equal (λ p v. step_then below (step1 q e p v)) (λ p v. timeless_step below (λ next. refl) (step1 q e p v)))
timeless1_from q (suc left) t =
    let below : Table1 → Ask Entry1 Item (End Leaf1) = walk1_from q left in
    let e : Entry1 = entry1 q (suc left) t in
    (refl, by_value Equal (λ p v. step_then below (step1 q e p v)) (λ p v. timeless_step below (timeless1_from q left) (step1 q e p v)))

found_read : (e : Entry1) (place : ℕ) → Alike Found (read1 e place) (read1 e place)
found_read e place = (refl, λ i j h. h)

found_by : (c : Config) (e : Entry1) (end : End Leaf2) → Alike Found (read1_by c e end) (read1_by c e end)
found_by c e (stops f) = refl
found_by c e (reaches l) =
    alike_if Found (is_readable c l) (read1 e l.pa) (done (Err record { stage = S2; level = l.level; class = Permission; s1ptw = true })) (found_read e l.pa)
    refl

found_word : (r : Regime) (e : Entry1) → Alike Found (word_of r e) (word_of r e)
found_word r e =
    alike_if Found r.config.vm (after (walk2 (asked2 r true e.place)) (read1_by r.config e)) (read1 e e.place)
    (timeless_after Found (walk2 (asked2 r true e.place)) (read1_by r.config e) (timeless2 (asked2 r true e.place)) (found_by r.config e))
    (found_read e e.place)

timeless_from : (q : Asked) (left : ℕ) (t : Table1) → IsTimeless (stage1_from q left t)
timeless_from q left t = alike_finer stops (word_of q.regime) (found_word q.regime) (walk1_from q left t) (walk1_from q left t) (timeless1_from q left t)

timeless1_behind : (q : Asked) (base : ℕ) → IsTimeless (stage1_behind q base)
timeless1_behind q base =
    let t : Table1 = record { address = base; bits = no_bits } in
    alike_if Equal (is_too_large q.regime.stage1 base) (done (stops (fault1 AddressSize most_left))) (stage1_from q q.regime.stage1.start t) refl
    (timeless_from q q.regime.stage1.start t)

timeless1 : (q : Asked) → IsTimeless (stage1 q)
timeless1 q =
    alike_if Equal q.regime.config.m (stage1_on q) (stage1_off q)
    (alike_if Equal (is_refused1 q.regime.config q.access) (done (stops (fault1 Translation most_left))) (ask stage1_base (λ i. stage1_behind q i.value)) refl
    (refl, by_value Equal (λ p v. stage1_behind q v) (λ p v. timeless1_behind q v)))
    refl

-- BOTH STAGES

timeless_output : (q : Asked) (end : End Leaf1) → IsTimeless (stage2_behind q end)
timeless_output q (stops f) = refl
timeless_output q (reaches l) =
    let x : Asked2 = asked2 q.regime false l.out in
    let then2 : End Leaf2 → Ask Need Item (End Landing) = λ e. done (judged2 q.judged q.access l e) in
    alike_if Equal q.regime.config.vm (after (walk2 x) then2) (done (reaches (landed l)))
    (timeless_after Equal (walk2 x) then2 (timeless2 x) (λ e. refl)) refl

-- the walk of an access reads no moment
pub walk_timeless : (c : Config) (judged : Bool) (a : Access) → IsTimeless (walk c judged a)
walk_timeless c judged a =
    let q : Asked = asked c judged a in
    timeless_after Equal (stage1 q) (stage2_behind q) (timeless1 q) (timeless_output q)
