-- The items of a walk through stage 2 are of stage 2.
use Rattle.std.proofs.Common.{◌≡◌, ℕ, zero, suc, ◌<◌, ◌≤◌, List, [], ◌∷◌, ◌++◌, length, length-append, drop, refl}
use Rattle.std.proofs.Common.{sym, ap, ◌∙◌, subst, true, false, Bool, cond, arith, Ok, Result, inl, inr, append-nil}
use Rattle.std.specs.Prelude.{◌&&◌, ◌||◌}
use Rattle.geometry.specs.Tables.{left_below}
use Rattle.descriptors.specs.Meaning.{means1_of}
use Rattle.fault_codes.specs.declared.fault.Fault.{Fault}
use Rattle.fault_codes.specs.declared.fault.Stage.{Stage}
use Rattle.fault_codes.specs.declared.fault.Stage.TheVariants.{S1, S2}
use Rattle.sysregs.specs.declared.regs.Config.{Config}
use Rattle.sysregs.specs.declared.regs.Side.{Side}
use Rattle.trails.specs.declared.item.Item.{Item}
use Rattle.table_reads.specs.declared.lead.Lead.{Lead}
use Rattle.table_reads.specs.declared.lead.Lead.TheVariants.{Down, Reached, Stopped}
use Rattle.walk_spec.specs.declared.entry.Entry1.{Entry1}
use Rattle.walk_spec.specs.declared.leaf.Leaf2.{Leaf2}
use Rattle.walk_spec.specs.Ask.{Ask, done, ask, after, Stands, needs, bad, ends, on}
use Rattle.walk_spec.specs.Needs.{Need, stage2_base, word, WordNeed, Regime, fits, stage_eq, is_base}
use Rattle.walk_spec.specs.Steps.{End, stops, reaches, step_then}
use Rattle.walk_spec.specs.Stage2.{Asked2, step2, walk2_from, walk2, is_refused2}
use Rattle.walk_spec.specs.Stage1.{asked2, is_readable, read1, read1_by, word_of}
use Rattle.table_reads.specs.Places.{is_too_large}
use Rattle.walk_spec.proofs.Standing.{on_after_needs, NeedsLater}
use Rattle.translate.specs.Standing.{is_table, is_top, EndsAtTop}

first_true : (a b : Bool) → (a && b) ≡ true → a ≡ true
first_true true b h = refl
first_true false b h = absurd cc

second_true : (a b : Bool) → (a && b) ≡ true → b ≡ true
second_true true b h = h
second_true false b h = absurd cc

is_second : (s : Stage) → stage_eq s S2 ≡ true → stage_eq s S1 ≡ false
is_second S1 h = absurd cc
is_second S2 h = refl

base_deep : (r : Regime) (x : ℕ) (i : Item) → fits r (stage2_base x) i ≡ true → stage_eq i.stage S1 ≡ false
unfolding fits
base_deep r x i h = is_second i.stage (second_true _ _ (first_true _ _ (first_true _ _ (first_true _ _ (first_true _ _ h)))))

word_deep : (r : Regime) (w : WordNeed) (i : Item) → w.stage ≡ S2 → fits r (word w) i ≡ true → stage_eq i.stage S1 ≡ false
unfolding fits
word_deep r w i e h =
    let P : Stage → Type 0 = λ s. stage_eq i.stage s ≡ true in
    is_second i.stage (subst P e (second_true _ _ (first_true _ _ (first_true _ _ h))))

-- each item that a walk takes is of stage 2
abbrev pub Only2 : {A : Type 0} → Regime → Ask Need Item A → Type 0
Only2 r (done a) = Unit {0}
Only2 r (ask n k) = ((i : Item) → fits r n i ≡ true → stage_eq i.stage S1 ≡ false) × ((i : Item) → Only2 r (k i))

abbrev pub AllDeep : List Item → Type 0
AllDeep [] = Unit {0}
AllDeep (i ∷ items) = (stage_eq i.stage S1 ≡ false) × AllDeep items

needs_true : {A : Type 0} (b : Bool) (u : Stands Need Item A) (n : Need) → cond b u bad ≡ needs n → (b ≡ true) × (u ≡ needs n)
needs_true true u n h = (refl, h)
needs_true false u n h = absurd cc

ends_true : {A : Type 0} (b : Bool) (u : Stands Need Item A) (a : A) (rest : List Item) → cond b u bad ≡ ends a rest → (b ≡ true) × (u ≡ ends a rest)
ends_true true u a rest h = (refl, h)
ends_true false u a rest h = absurd cc

pub needs_deep : {A : Type 0} (r : Regime) (t : Ask Need Item A) → Only2 r t → (items : List Item) (n : Need) → on (fits r) t items ≡ needs n
    → AllDeep items
needs_deep r (done a) o items n h = absurd cc
needs_deep r (ask m k) o [] n h = tt
needs_deep r (ask m k) o (i ∷ items) n h =
    let d = needs_true (fits r m i) (on (fits r) (k i) items) n h in
    (o.0 i d.0, needs_deep r (k i) (o.1 i) items n d.1)

pub ends_deep : {A : Type 0} (r : Regime) (t : Ask Need Item A) → Only2 r t → (items : List Item) (a : A) → on (fits r) t items ≡ ends a []
    → AllDeep items
ends_deep r (done b) o items a h = let e : items ≡ [] = cc in subst AllDeep (sym e) tt
ends_deep r (ask m k) o [] a h = tt
ends_deep r (ask m k) o (i ∷ items) a h =
    let d = ends_true (fits r m i) (on (fits r) (k i) items) a [] h in
    (o.0 i d.0, ends_deep r (k i) (o.1 i) items a d.1)

then_only : (r : Regime) (below : ℕ → Ask Need Item (End Leaf2)) → ((t : ℕ) → Only2 r (below t)) → (step : Lead Leaf2 ℕ)
    → Only2 r (step_then below step)
then_only r below h (Down t) = h t
then_only r below h (Reached l) = tt
then_only r below h (Stopped f) = tt

from_only : (r : Regime) (q : Asked2) (left table : ℕ) → Only2 r (walk2_from q left table)
from_only r q zero table = (λ i h. word_deep r _ i refl h, λ i. then_only r _ (λ t. tt) (step2 q 0 i.pa i.value))
from_only r q (suc left) table = (λ i h. word_deep r _ i refl h, λ i. then_only r _ (λ t. from_only r q left t) (step2 q (suc left) i.pa i.value))

if_only : {A : Type 0} (r : Regime) (b : Bool) (t u : Ask Need Item A) → Only2 r t → Only2 r u → Only2 r (cond b t u)
if_only r true t u h k = h
if_only r false t u h k = k

pub walk2_only : (r : Regime) (q : Asked2) → Only2 r (walk2 q)
walk2_only r q =
    if_only r (is_refused2 q.config q.ipa) _ _ tt
    (λ i h. base_deep r q.ipa i h, λ i. if_only r (is_too_large q.sizes i.value) _ _ tt (from_only r q q.sizes.start i.value))

ended_needs : {A : Type 0} (s : Stands Need Item A) (x : A) (items : List Item) (n : Need) (B : Type 0) → s ≡ ends x items → s ≡ needs n → B
ended_needs s x items n B h k = absurd cc

read_needs : (r : Regime) (e : Entry1) (p : ℕ) (items : List Item) (n : Need) → on (fits r) (read1 e p) items ≡ needs n → items ≡ []
read_needs r e p [] n h = refl
read_needs r e p (i ∷ items) n h =
    let d = needs_true _ (ends (Ok i) items) n h in
    ended_needs (ends (Ok i) items) (Ok i) items n (i ∷ items ≡ []) refl d.1

if_read : (r : Regime) (b : Bool) (e : Entry1) (p : ℕ) (x : Result Item Fault) (items : List Item) (n : Need)
    → on (fits r) (cond b (read1 e p) (done x)) items ≡ needs n → items ≡ []
if_read r true e p x items n h = read_needs r e p items n h
if_read r false e p x items n h = absurd cc

by_needs : (r : Regime) (e : Entry1) (d : End Leaf2) (items : List Item) (n : Need) → on (fits r) (read1_by r.config e d) items ≡ needs n → items ≡ []
by_needs r e (stops f) items n h = absurd cc
by_needs r e (reaches l) items n h = if_read r (is_readable r.config l) e l.pa _ items n h

later_deep : (r : Regime) (e : Entry1) (items : List Item) (n : Need) → NeedsLater (fits r) (walk2 (asked2 r true e.place)) (read1_by r.config e) items n
    → AllDeep items
later_deep r e items n d =
    let none : d.1 ≡ [] = by_needs r e d.0 d.1 n d.5 in
    let same : items ≡ d.2 = d.3 ∙ ap (λ z. d.2 ++ z) none ∙ append-nil d.2 in
    subst AllDeep (sym same) (ends_deep r (walk2 (asked2 r true e.place)) (walk2_only r (asked2 r true e.place)) d.2 d.0 d.4)

after_deep : (r : Regime) (e : Entry1) (items : List Item) (n : Need)
    → on (fits r) (after (walk2 (asked2 r true e.place)) (read1_by r.config e)) items ≡ needs n → AllDeep items
after_deep r e items n h =
    elim (on_after_needs (fits r) (walk2 (asked2 r true e.place)) (read1_by r.config e) items n h) as (λ _. AllDeep items)
    [ inl d ↦ needs_deep r (walk2 (asked2 r true e.place)) (walk2_only r (asked2 r true e.place)) items n d | inr d ↦ later_deep r e items n d ]

vm_deep : (r : Regime) (b : Bool) (e : Entry1) (items : List Item) (n : Need)
    → on (fits r) (cond b (after (walk2 (asked2 r true e.place)) (read1_by r.config e)) (read1 e e.place)) items ≡ needs n → AllDeep items
vm_deep r true e items n h = after_deep r e items n h
vm_deep r false e items n h = subst AllDeep (sym (read_needs r e e.place items n h)) tt

-- where a word needs an item, those that it took are of stage 2
pub word_needs_deep : (r : Regime) (e : Entry1) (items : List Item) (n : Need) → on (fits r) (word_of r e) items ≡ needs n → AllDeep items
word_needs_deep r e items n h = vm_deep r r.config.vm e items n h

deep_last : (front : List Item) (i : Item) (at : ℕ) → at ≤ length front → AllDeep (drop at (front ++ i ∷ [])) → stage_eq i.stage S1 ≡ false
deep_last [] i zero l h = h.0
deep_last [] i (suc at) l h = absurd (omega (arith, l))
deep_last (x ∷ front) i zero l h = deep_last front i zero (omega arith) h.1
deep_last (x ∷ front) i (suc at) l h = deep_last front i at (omega (arith, l)) h

not_top : (c : Config) (s : Side) (i : Item) → stage_eq i.stage S1 ≡ false → is_top c s i ≡ true → ⊥
not_top c s i d h = let t = first_true (stage_eq i.stage S1) (is_base i.what || is_table (means1_of c s (left_below i.level) i.value)) h in absurd cc

-- a list whose rest is of stage 2 doesn't end in a base or a table of stage 1
pub deep_end : (c : Config) (s : Side) (items : List Item) (at : ℕ) → at < length items → AllDeep (drop at items) → EndsAtTop c s items → ⊥
deep_end c s items at l h t =
    let few : at ≤ length t.0 = omega (arith, ap length t.2, length-append t.0 (t.1 ∷ [])) in
    let deep : AllDeep (drop at (t.0 ++ t.1 ∷ [])) = subst (λ z. AllDeep (drop at z)) t.2 h in
    not_top c s t.1 (deep_last t.0 t.1 at few deep) t.3
