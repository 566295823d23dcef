-- Items of a kept trail: where its words of stage 1 are.
use Rattle.std.proofs.Common.{◌≡◌, ℕ, suc, ◌+◌, ◌≤◌, ◌<◌, Bool, true, false, cond, List, [], ◌∷◌, ◌++◌}
use Rattle.std.proofs.Common.{length, length-append, take, drop, refl, sym, ap, ◌∙◌, arith, Option, Some, None}
use Rattle.std.specs.Prelude.{slice_index_or}
use Rattle.fault_codes.specs.declared.fault.Stage.{Stage}
use Rattle.fault_codes.specs.declared.fault.Stage.TheVariants.{S1, S2}
use Rattle.trails.specs.declared.item.Item.{Item}
use Rattle.trails.specs.Lengths.{most_items2}
use Rattle.tlbi_ops.specs.Covers.{is_stage1}
use Rattle.tagged_tlb.specs.Found.{first_hit}
use Rattle.served_walk.specs.KeptWords.{AreOfStage2, BeginsWith, TookWord}

pub other_stage : (s : Stage) → s ≡ S1 → s ≡ S2 → ⊥
other_stage S1 e f = absurd cc
other_stage S2 e f = absurd cc

-- a list begins with one word alone
pub same_word : (f g : List Item) (i j : Item) (rest more : List Item) → f ++ i ∷ rest ≡ g ++ j ∷ more → AreOfStage2 f → AreOfStage2 g
    → i.stage ≡ S1
    → j.stage ≡ S1 → (f ≡ g) × (i ≡ j) × (rest ≡ more)
same_word [] [] i j rest more e a b p q = (let k : i ≡ j = cc in let l : rest ≡ more = cc in (refl, k, l))
same_word [] (k ∷ g) i j rest more e a b p q = (let h : i ≡ k = cc in absurd (other_stage i.stage p (ap (λ z. z.stage) h ∙ b.0)))
same_word (h ∷ f) [] i j rest more e a b p q = (let k : h ≡ j = cc in absurd (other_stage j.stage q (ap (λ z. z.stage) (sym k) ∙ a.0)))
same_word (h ∷ f) (k ∷ g) i j rest more e a b p q =
    (let l : h ≡ k = cc in
    let m : f ++ i ∷ rest ≡ g ++ j ∷ more = cc in
    let r = same_word f g i j rest more m a.1 b.1 p q in
    (ap (λ z. z ∷ f) l ∙ ap (λ z. k ∷ z) r.0, r.1, r.2))

abbrev Test : Item → Bool
Test i = is_stage1 i.stage

stage2_of : (s : Stage) → is_stage1 s ≡ false → s ≡ S2
stage2_of S1 h = absurd cc
stage2_of S2 h = refl

stage1_of : (s : Stage) → is_stage1 s ≡ true → s ≡ S1
stage1_of S1 h = refl
stage1_of S2 h = absurd cc

is_first : (s : Stage) → s ≡ S1 → is_stage1 s ≡ true
is_first S1 h = refl
is_first S2 h = absurd cc

is_second : (s : Stage) → s ≡ S2 → is_stage1 s ≡ false
is_second S1 h = absurd cc
is_second S2 h = refl

-- the place that was found is that of a word
pub record FoundAt (way at : ℕ) (items : List Item) : Type 0 where
  pub front : List Item
  pub item : Item
  pub rest : List Item
  pub is : items ≡ front ++ item ∷ rest
  pub place : at ≡ way + length front
  pub chain : AreOfStage2 front
  pub stage : item.stage ≡ S1

some_at : (a b : ℕ) → ◌≡◌ {A = Option ℕ} (Some a) (Some b) → b ≡ a
some_at a b e = cc

found_if : (way at : ℕ) (i : Item) (items : List Item) (b : Bool) → Test i ≡ b → (first_hit Test (way + 1) items ≡ Some at
    → FoundAt (way + 1) at items)
    → cond b (Some way) (first_hit Test (way + 1) items) ≡ Some at → FoundAt way at (i ∷ items)
found_if way at i items true t rec e =
    let p : at ≡ way = some_at way at e in
    record { front = []; item = i; rest = items; is = refl; place = omega (arith, p); chain = tt; stage = stage1_of i.stage t }
found_if way at i items false t rec e =
    let d = rec e in
    let p = d.place in
    record {
      front = i ∷ d.front;
      item = d.item;
      rest = d.rest;
      is = ap (λ l. i ∷ l) d.is;
      place = omega (arith, p);
      chain = (stage2_of i.stage t, d.chain);
      stage = d.stage;
    }

pub found_at : (way at : ℕ) (items : List Item) → first_hit Test way items ≡ Some at → FoundAt way at items
found_at way at [] e = absurd cc
found_at way at (i ∷ items) e = found_if way at i items (Test i) refl (found_at (way + 1) at items) e

hit_by : (way : ℕ) (front : List Item) (i : Item) (rest : List Item) → AreOfStage2 front → i.stage ≡ S1
    → first_hit Test way (front ++ i ∷ rest) ≡ Some (way + length front)
hit_by way [] i rest a e =
    let n : way ≡ way + 0 = omega arith in
    rw (is_first i.stage e) (ap (λ k. Some k) n)
hit_by way (j ∷ front) i rest a e =
    let n : way + 1 + length front ≡ way + suc (length front) = omega arith in
    rw (is_second j.stage a.0) (hit_by (way + 1) front i rest a.1 e ∙ ap (λ k. Some k) n)

-- none was found, or it is too far
pub none_begins : (items front : List Item) (i : Item) (rest : List Item) → first_hit Test 0 items ≡ None → BeginsWith items front i rest → ⊥
none_begins items front i rest e b =
    (let h : None ≡ Some (0 + length front) = sym e ∙ ap (first_hit Test 0) b.is ∙ hit_by 0 front i rest b.chain b.stage in absurd cc)

pub far_begins : (items front : List Item) (i : Item) (rest : List Item) (at : ℕ) → first_hit Test 0 items ≡ Some at → most_items2 < at
    → BeginsWith items front i rest → ⊥
far_begins items front i rest at e l b =
    let p : at ≡ 0 + length front = sym (some_at at (0 + length front) (sym e ∙ ap (first_hit Test 0) b.is ∙ hit_by 0 front i rest b.chain b.stage)) in
    absurd (omega (arith, p, l, b.few))

take_all : (front : List Item) (i : Item) (rest : List Item) → take (length front + 1) (front ++ i ∷ rest) ≡ front ++ i ∷ []
take_all [] i rest = refl
take_all (j ∷ front) i rest =
    let e : length (j ∷ front) + 1 ≡ suc (length front + 1) = omega arith in
    ap (λ n. take n (j ∷ front ++ i ∷ rest)) e ∙ ap (λ l. j ∷ l) (take_all front i rest)

drop_all : (front : List Item) (i : Item) (rest : List Item) → drop (length front + 1) (front ++ i ∷ rest) ≡ rest
drop_all [] i rest = refl
drop_all (j ∷ front) i rest =
    let e : length (j ∷ front) + 1 ≡ suc (length front + 1) = omega arith in
    ap (λ n. drop n (j ∷ front ++ i ∷ rest)) e ∙ drop_all front i rest

last_at : (front : List Item) (i d : Item) → slice_index_or (front ++ i ∷ []) (length front) d ≡ i
last_at [] i d = refl
last_at (j ∷ front) i d = last_at front i d

-- it was taken
pub took : (items front rest old new : List Item) (at : ℕ) (last : Item) → first_hit Test 0 items ≡ Some at → at ≤ most_items2
    → front ≡ take (at + 1) items
    → rest ≡ drop (at + 1) items → new ≡ old ++ front → last ≡ slice_index_or front at last → TookWord items rest old new (Some last.value)
took items front rest old new at last e few f r g v =
    let d = found_at 0 at items e in
    let p : at ≡ length d.front = omega (arith, d.place) in
    let f' : front ≡ d.front ++ d.item ∷ [] = f ∙ ap (λ n. take (n + 1) items) p ∙ ap (take (length d.front + 1)) d.is
    ∙ take_all d.front d.item d.rest in
    let r' : rest ≡ d.rest = r ∙ ap (λ n. drop (n + 1) items) p ∙ ap (drop (length d.front + 1)) d.is ∙ drop_all d.front d.item d.rest in
    let v' : last ≡ d.item = v ∙ ap (λ l. slice_index_or l at last) f' ∙ ap (λ n. slice_index_or (d.front ++ d.item ∷ []) n last) p
    ∙ last_at d.front d.item last in (
      d.front,
      d.item,
      record { is = d.is ∙ ap (λ l. d.front ++ d.item ∷ l) (sym r'); chain = d.chain; stage = d.stage; few = omega (arith, p, few) },
      g ∙ ap (λ l. old ++ l) f',
      ap (λ z. z.value) v',
    )

-- it stands within
pub found_within : (items : List Item) (at : ℕ) → first_hit Test 0 items ≡ Some at → at + 1 ≤ length items
found_within items at e =
    let d = found_at 0 at items e in
    let n : length items ≡ length d.front + suc (length d.rest) = ap length d.is ∙ length-append d.front (d.item ∷ d.rest) in
    omega (arith, d.place, n)
