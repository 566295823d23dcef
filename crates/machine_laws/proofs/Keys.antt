-- What the last items of a trail tell: the class of its landing, and whether its leaf is global.
use Rattle.std.proofs.Common.{◌≡◌, ℕ, zero, suc, Bool, true, false, cond, List, [], ◌∷◌, ◌++◌, ◌⊎◌}
use Rattle.std.proofs.Common.{inl, inr, refl, sym, ap, ◌∙◌, subst, Option, Some, None, append-nil}
use Rattle.std.specs.Option.{option_or}
use Rattle.std.specs.Prelude.{Result, Ok, Err}
use Rattle.std.proofs.lemmas.Bool.{both_ways}
use Rattle.std.proofs.lemmas.Option.{same_Some}
use Rattle.geometry.specs.Tables.{most_left, level_of}
use Rattle.fault_codes.specs.declared.fault.Fault.{Fault}
use Rattle.fault_codes.specs.declared.fault.Stage.TheVariants.{S1, S2}
use Rattle.fault_codes.specs.declared.fault.Class.TheVariants.{Translation, AddressSize, Permission}
use Rattle.trails.specs.declared.item.Item.{Item}
use Rattle.table_reads.specs.declared.lead.Lead.{Lead}
use Rattle.table_reads.specs.declared.lead.Lead.TheVariants.{Down}
use Rattle.table_reads.specs.Places.{is_too_large}
use Rattle.tlbi_ops.specs.Covers.{is_stage1}
use Rattle.walk_spec.specs.declared.entry.Table1.{Table1}
use Rattle.walk_spec.specs.declared.entry.Entry1.{Entry1}
use Rattle.walk_spec.specs.declared.leaf.Leaf1.{Leaf1}
use Rattle.walk_spec.specs.declared.leaf.Leaf2.{Leaf2}
use Rattle.walk_spec.specs.Ask.{Ask, done, ask, after, go_on, finer}
use Rattle.walk_spec.specs.Needs.{Regime, Need, stage1_base, stage2_base, word, WordNeed, fits, mapping_of, class_by}
use Rattle.walk_spec.specs.Steps.{End, stops, reaches, step_then}
use Rattle.walk_spec.specs.Stage2.{fault2, leaf2_of, step2, walk2_from, is_refused2, walk2}
use Rattle.walk_spec.specs.Stage1.{Asked, asked2, fault1, entry1, step1, walk1_from, leaf1_of, is_readable, read1, read1_by, word_of, stage1_from}
use Rattle.walk_spec.specs.BothStages.{Landing, landed, piece, smaller, judged2, is_refused1, stage1_behind, stage1, stage2_behind, walk_by, walk}
use Rattle.permissions.specs.Rights.{joined as joined_bits}
use Rattle.sysregs.specs.declared.regs.Config.{Config}
use Rattle.trails.specs.declared.outcome.Access.{Access}
use Rattle.walk_laws.proofs.Stepping.{LastIs}
use Rattle.walk_laws.proofs.Tables2.{level_of_one}
use Rattle.walk_laws.proofs.Stage2.{Turn2, table, leaf, fault, turn2}
use Rattle.walk_laws.proofs.Stage1.{under, Turn1, table as goes_down, leaf as maps, fault as faults, turn1}
use Rattle.machine_spec.specs.Marks.{Mark, mark, marks, is_first, is_global, part_of}
use Rattle.machine_spec.specs.Made.{last_first}
use Rattle.machine_spec.specs.Allowed.{Entry, entry_of, last_entry, last_entry1}
use Rattle.machine_laws.specs.Standing.{IsOn}
use Rattle.machine_laws.proofs.Trees.{is_need1, chain, IsSecond, AllSecond}
use Rattle.machine_laws.proofs.Facts.{regime_for}
use Rattle.machine_laws.proofs.Stands.{on_after, marks_append, marks_after, on_split, second_marks, mark_first}
use Rattle.machine_laws.proofs.PlanOf.{word_need, early2, root_table, out_is}
use Rattle.machine_laws.proofs.Sounds.{out_second}
use Rattle.machine_laws.proofs.MarksOf.{fits_word_parts, fits_base1_parts, fits_base2_parts}

-- LAST ITEMS

pub last_cons : {X : Type 0} (x : X) (xs : List X) (l : X) → LastIs xs l → LastIs (x ∷ xs) l
last_cons x [] l h = absurd h
last_cons x (y ∷ ys) l h = h

pub last_app : {X : Type 0} (pre xs : List X) (l : X) → LastIs xs l → LastIs (pre ++ xs) l
last_app [] xs l h = h
last_app (p ∷ pre) xs l h = last_cons p (pre ++ xs) l (last_app pre xs l h)

pub entry_last : (xs : List Item) (i : Item) → LastIs xs i → last_entry xs ≡ Some (entry_of i)
entry_last [] i h = absurd h
entry_last (x ∷ []) i h = ap (λ z. Some (entry_of z)) h
entry_last (x ∷ (y ∷ ys)) i h = ap (λ o. option_or o (Some (entry_of x))) (entry_last (y ∷ ys) i h)

-- a word of stage 2 with so many levels left, at a place
abbrev pub class_at2 : Regime → ℕ → ℕ → ℕ → ℕ
class_at2 r left pa value = class_by (mapping_of r S2 left value) r.stage2 left pa

-- CHAINS

-- the last item tells the class of the leaf
pub record Ends2 (r : Regime) (xs : List Item) (l : Leaf2) : Type 0 where
  pub item : Item
  pub left : ℕ
  pub last : LastIs xs item
  pub level : item.level ≡ level_of left
  pub class_is : l.class ≡ class_at2 r left item.pa item.value

leaf_same : (l m : Leaf2) → ◌≡◌ {A = Ask Need Item (End Leaf2)} (done (reaches l)) (done (reaches m)) → l ≡ m
leaf_same l m h = cc

module _ (r : Regime) (p : Bool) (x : ℕ) where
  ends_more : (i : Item) (xs : List Item) (l : Leaf2) → Ends2 r xs l → Ends2 r (i ∷ xs) l
  ends_more i xs l d = record { item = d.item; left = d.left; last = last_cons i xs d.item d.last; level = d.level; class_is = d.class_is }

  ends_stop : (f : Fault) (xs : List Item) (l : Leaf2) → IsOn {A = End Leaf2} r (done (stops f)) xs (done (reaches l)) → ⊥
  ends_stop f [] l h = absurd cc
  ends_stop f (y ∷ ys) l h = h

  ends_leaf : (m : Leaf2) (xs : List Item) (l : Leaf2) → IsOn {A = End Leaf2} r (done (reaches m)) xs (done (reaches l)) → (xs ≡ []) × (l ≡ m)
  ends_leaf m [] l h = (refl, leaf_same l m h)
  ends_leaf m (y ∷ ys) l h = absurd h

  ends_step : (below : ℕ → Ask Need Item (End Leaf2)) → ((n : ℕ) (xs : List Item) (l : Leaf2) → IsOn r (below n) xs (done (reaches l))
      → Ends2 r xs l)
      → (left : ℕ) (i : Item) (xs : List Item) (l : Leaf2) → i.level ≡ level_of left → Turn2 r left i
      → IsOn r (step_then below (step2 (asked2 r p x) left i.pa i.value)) xs (done (reaches l)) → Ends2 r (i ∷ xs) l
  ends_step below rec left i xs l e (table next a d) h = ends_more i xs l (rec next xs l (rw (d p x) at h))
  ends_step below rec left i xs l e (leaf f m d) h =
      let g = ends_leaf (leaf2_of (asked2 r p x) left i.pa f) xs l (rw (d p x) at h) in
      record {
        item = i;
        left = left;
        last = subst (λ (ys : List Item). LastIs (i ∷ ys) i) (sym g.0) refl;
        level = e;
        class_is = ap (λ z. z.class) g.1 ∙ rw m refl;
      }
  ends_step below rec left i xs l e (fault k d) h = absurd (ends_stop _ xs l (rw (d p x) at h))

  ends_from : (left n : ℕ) (xs : List Item) (l : Leaf2) → IsOn r (walk2_from (asked2 r p x) left n) xs (done (reaches l)) → Ends2 r xs l
  ends_from zero n [] l h = absurd cc
  ends_from (suc left) n [] l h = absurd cc
  ends_from zero n (i ∷ xs) l h =
      ends_step (λ _. done (stops (fault2 (asked2 r p x) Translation 0))) (λ n ys m g. absurd (ends_stop _ ys m g)) 0 i xs l (fits_word_parts r _ i h.0).level
      (turn2 r 0 i) h.1
  ends_from (suc left) n (i ∷ xs) l h =
      ends_step (walk2_from (asked2 r p x) left) (ends_from left) (suc left) i xs l (fits_word_parts r _ i h.0).level (turn2 r (suc left) i) h.1

  ends_behind : (b : Bool) (base : ℕ) (xs : List Item) (l : Leaf2)
      → IsOn r (cond b (done (stops (fault2 (asked2 r p x) AddressSize most_left))) (walk2_from (asked2 r p x) r.stage2.start base)) xs (done (reaches l))
      → Ends2 r xs l
  ends_behind true base xs l h = absurd (ends_stop _ xs l h)
  ends_behind false base xs l h = ends_from r.stage2.start base xs l h

  -- a chain that reaches a leaf
  pub ends_chain : (xs : List Item) (l : Leaf2) → IsOn r (chain r p x) xs (done (reaches l)) → Ends2 r xs l
  ends_chain [] l h = absurd cc
  ends_chain (i ∷ xs) l h = ends_more i xs l (ends_behind (is_too_large r.stage2 i.value) i.value xs l h.1)

-- equal entries are of equal place, level and value
pub entries_same : (xs ys : List Item) (i j : Item) → last_entry xs ≡ Some (entry_of i) → last_entry ys ≡ Some (entry_of j)
    → last_entry xs ≡ last_entry ys
    → entry_of i ≡ entry_of j
entries_same xs ys i j a b e = same_Some (entry_of i) (entry_of j) (sym a ∙ e ∙ b)

pub left_same : (i j : Item) (m n : ℕ) → i.level ≡ level_of m → j.level ≡ level_of n → entry_of i ≡ entry_of j → m ≡ n
left_same i j m n a b e = level_of_one m n (sym a ∙ ap (λ (z : Entry). z.1) e ∙ b)

class2_same : (r : Regime) (xs ys : List Item) (l m : Leaf2) → Ends2 r xs l → Ends2 r ys m → last_entry xs ≡ last_entry ys → l.class ≡ m.class
class2_same r xs ys l m d g h =
    let e : entry_of d.item ≡ entry_of g.item = entries_same xs ys d.item g.item (entry_last xs d.item d.last) (entry_last ys g.item g.last) h in
    let n : d.left ≡ g.left = left_same d.item g.item d.left g.left d.level g.level e in
    d.class_is ∙ ap (λ z. class_at2 r z d.item.pa d.item.value) n ∙ ap (λ (z : Entry). class_at2 r g.left z.0 z.2) e ∙ sym g.class_is

-- the last items of two chains tell the classes of their leaves
pub keys2_are : (r : Regime) (p : Bool) (x : ℕ) (xs ys : List Item) (l m : Leaf2) →
    IsOn r (chain r p x) xs (done (reaches l)) → IsOn r (chain r p x) ys (done (reaches m)) → last_entry xs ≡ last_entry ys → l.class ≡ m.class
keys2_are r p x xs ys l m h k e = class2_same r xs ys l m (ends_chain r p x xs l h) (ends_chain r p x ys m k) e

-- WHAT FOLLOWS THE LAST ITEM OF STAGE 1

fit_first : (r : Regime) (n : Need) (i : Item) → fits r n i ≡ true → is_stage1 i.stage ≡ is_need1 n
fit_first r stage1_base i h = ap is_stage1 (fits_base1_parts r i h).1
fit_first r (stage2_base x) i h = ap is_stage1 (fits_base2_parts r x i h).1
fit_first r (word w) i h = ap is_stage1 (fits_word_parts r w i h).stage

-- all items are of stage 2
abbrev AllItems2 : List Item → Type 0
AllItems2 [] = Unit {0}
AllItems2 (i ∷ items) = (is_stage1 i.stage ≡ false) × AllItems2 items

items_second : {A : Type 0} (r : Regime) (t u : Ask Need Item A) (xs : List Item) → IsSecond t → IsOn r t xs u → AllItems2 xs
items_second r t u [] s h = tt
items_second r (done a) u (x ∷ xs) s h = absurd h
items_second r (ask n k) u (x ∷ xs) s h = (fit_first r n x h.0 ∙ s.0, items_second r (k x) u xs (s.1 x) h.1)

if_false : {X : Type 0} (b : Bool) (o : Option X) → b ≡ false → cond b o None ≡ None
if_false b o h = rw h refl

none_entry1 : (xs : List Item) → AllItems2 xs → last_entry1 xs ≡ None
none_entry1 [] s = refl
none_entry1 (x ∷ xs) s =
    ap (λ o. option_or o (cond (is_stage1 x.stage) (Some (entry_of x)) None)) (none_entry1 xs s.1) ∙ if_false (is_stage1 x.stage) (Some (entry_of x)) s.0

none_first : (ms : List Mark) → AllSecond ms → last_first ms ≡ None
none_first [] s = refl
none_first (m ∷ ms) s = ap (λ o. option_or o (cond (is_first m) (Some m) None)) (none_first ms s.1) ∙ if_false (is_first m) (Some m) s.0

-- the last item of stage 1, and the last mark, where only stage 2 follows
entry1_last : (front rest : List Item) (i : Item) → LastIs front i → is_stage1 i.stage ≡ true → AllItems2 rest
    → last_entry1 (front ++ rest) ≡ Some (entry_of i)
entry1_last [] rest i l f s = absurd l
entry1_last (x ∷ []) rest i l f s =
    let b : is_stage1 x.stage ≡ true = ap (λ (z : Item). is_stage1 z.stage) l ∙ f in
    ap (λ o. option_or o (cond (is_stage1 x.stage) (Some (entry_of x)) None)) (none_entry1 rest s) ∙ ap (λ c. cond c (Some (entry_of x)) None) b
    ∙ ap (λ z. Some (entry_of z)) l
entry1_last (x ∷ (y ∷ ys)) rest i l f s = ap (λ o. option_or o (cond (is_stage1 x.stage) (Some (entry_of x)) None)) (entry1_last (y ∷ ys) rest i l f s)

first_mark_last : (pre ms : List Mark) (m : Mark) → LastIs pre m → is_first m ≡ true → AllSecond ms → last_first (pre ++ ms) ≡ Some m
first_mark_last [] ms m l f s = absurd l
first_mark_last (n ∷ []) ms m l f s =
    let b : is_first n ≡ true = ap (λ (z : Mark). is_first z) l ∙ f in
    ap (λ o. option_or o (cond (is_first n) (Some n) None)) (none_first ms s) ∙ ap (λ c. cond c (Some n) None) b ∙ ap (λ z. Some z) l
first_mark_last (n ∷ (o ∷ pre)) ms m l f s = ap (λ v. option_or v (cond (is_first n) (Some n) None)) (first_mark_last (o ∷ pre) ms m l f s)

-- STAGE 1

abbrev pub class_at1 : Regime → ℕ → ℕ → ℕ → ℕ
class_at1 r left pa value = class_by (mapping_of r S1 left value) r.stage1 left pa

-- the last item of stage 1 tells the class of the leaf
record Ends1 (r : Regime) (t : Ask Need Item (End Leaf1)) (xs : List Item) (l : Leaf1) : Type 0 where
  item : Item
  left : ℕ
  mark_of : Mark
  last : LastIs xs item
  stage : item.stage ≡ S1
  level : item.level ≡ level_of left
  mark_last : LastIs (marks r t xs) mark_of
  first : is_first mark_of ≡ true
  part : mark_of.part ≡ part_of r S1 left item.value
  class_is : l.class ≡ class_at1 r left item.pa item.value

-- how an entry's word was had: it is the last item
record WordEnd (r : Regime) (e : Entry1) (t : Ask Need Item (Result Item Fault)) (xs : List Item) (i : Item) : Type 0 where
  place : ℕ
  last : LastIs xs i
  fit : fits r (word_need e place) i ≡ true
  mark_last : LastIs (marks r t xs) (mark r (word_need e place) i)

result_same : (i j : Item) → ◌≡◌ {A = Ask Need Item (Result Item Fault)} (done (Ok i)) (done (Ok j)) → j ≡ i
result_same i j h = cc

module _ (r : Regime) (e : Entry1) where
  read_end : (p : ℕ) (xs : List Item) (i : Item) → IsOn r (read1 e p) xs (done (Ok i)) → WordEnd r e (read1 e p) xs i
  read_end p [] i h = absurd cc
  read_end p (j ∷ []) i h =
      let q : j ≡ i = result_same i j h.1 in
      record { place = p; last = q; fit = subst (λ z. fits r (word_need e p) z ≡ true) q h.0; mark_last = ap (mark r (word_need e p)) q }
  read_end p (j ∷ (k ∷ xs)) i h = absurd h.1

  read_by_end : (b : Bool) (l : Leaf2) (xs : List Item) (i : Item) → let t =
      cond b (read1 e l.pa) (done (Err record { stage = S2; level = l.level; class = Permission; s1ptw = true })) in
      IsOn r t xs (done (Ok i)) → WordEnd r e t xs i
  read_by_end true l xs i h = read_end l.pa xs i h
  read_by_end false l [] i h = absurd cc
  read_by_end false l (x ∷ xs) i h = absurd h

  behind_end : (d : End Leaf2) (xs : List Item) (i : Item) → IsOn r (read1_by r.config e d) xs (done (Ok i)) → WordEnd r e (read1_by r.config e d) xs i
  behind_end (stops f) [] i h = absurd cc
  behind_end (stops f) (x ∷ xs) i h = absurd h
  behind_end (reaches l) xs i h = read_by_end (is_readable r.config l) l xs i h

  had_end : (b : Bool) (xs : List Item) (i : Item) → let t = cond b (after (walk2 (asked2 r true e.place)) (read1_by r.config e)) (read1 e e.place) in
      IsOn r t xs (done (Ok i)) → WordEnd r e t xs i
  had_end false xs i h = read_end e.place xs i h
  had_end true xs i h =
      let ch : Ask Need Item (End Leaf2) = walk2 (asked2 r true e.place) in
      let d = on_split r ch (read1_by r.config e) xs (Ok i) h in
      let w = behind_end d.end d.rest i d.more in
      let t : Ask Need Item (Result Item Fault) = after ch (read1_by r.config e) in
      let m : marks r t xs ≡ marks r t d.front ++ marks r (read1_by r.config e d.end) d.rest =
      ap (marks r t) d.is ∙ marks_append r t (read1_by r.config e d.end) d.front d.rest (on_after r ch (done d.end)
      (read1_by r.config e) d.front d.on_front) in
      record {
        place = w.place;
        last = subst (λ (v : List Item). LastIs v i) (sym d.is) (last_app d.front d.rest i w.last);
        fit = w.fit;
        mark_last =
            subst (λ ms. LastIs ms (mark r (word_need e w.place) i)) (sym m)
            (last_app (marks r t d.front) (marks r (read1_by r.config e d.end) d.rest) (mark r (word_need e w.place) i) w.mark_last);
      }

  -- the last item is the word
  word_end : (xs : List Item) (i : Item) → IsOn r (word_of r e) xs (done (Ok i)) → WordEnd r e (word_of r e) xs i
  word_end xs i h = had_end r.config.vm xs i h

on_case : {X : Type 0} (b d : Bool) (x y z : X) → b ≡ true → d ≡ false → cond b (cond d x y) z ≡ y
on_case b d x y z e h = rw (e, h) refl

part_of_mark : (r : Regime) (w : WordNeed) (i : Item) → (mark r (word w) i).part ≡ part_of r w.stage w.left i.value
unfolding mark
part_of_mark r w i = refl

leaf1_same : (l m : Leaf1) → ◌≡◌ {A = Ask Need Item (End Leaf1)} (done (reaches l)) (done (reaches m)) → l ≡ m
leaf1_same l m h = cc

stop1_end : (r : Regime) (f : Fault) (xs : List Item) (l : Leaf1) → IsOn {A = End Leaf1} r (done (stops f)) xs (done (reaches l)) → ⊥
stop1_end r f [] l h = absurd cc
stop1_end r f (y ∷ ys) l h = h

leaf1_end : (r : Regime) (m : Leaf1) (xs : List Item) (l : Leaf1) → IsOn {A = End Leaf1} r (done (reaches m)) xs (done (reaches l))
    → (xs ≡ []) × (l ≡ m)
leaf1_end r m [] l h = (refl, leaf1_same l m h)
leaf1_end r m (y ∷ ys) l h = absurd h

module _ (r : Regime) (a : Access) where
  abbrev Q : Asked
  Q = under r false a

  abbrev Below : Type 0
  Below = Table1 → Ask Entry1 Item (End Leaf1)

  abbrev Fine : Ask Entry1 Item (End Leaf1) → Ask Need Item (End Leaf1)
  Fine t = finer stops (word_of r) t

  abbrev BelowEnds : Below → Type 0
  BelowEnds below = (t : Table1) (xs : List Item) (l : Leaf1) → IsOn r (Fine (below t)) xs (done (reaches l)) → Ends1 r (Fine (below t)) xs l

  module _ (below : Below) (rec : BelowEnds below) (left : ℕ) (t : Table1) where
    abbrev E : Entry1
    E = entry1 Q left t

    abbrev OnWord : Item → Ask Need Item (End Leaf1)
    OnWord i = Fine (step_then below (step1 Q E i.pa i.value))

    abbrev Go : Result Item Fault → Ask Need Item (End Leaf1)
    Go = go_on stops OnWord

    abbrev Level : Ask Need Item (End Leaf1)
    Level = after (word_of r E) Go

    -- the word was the leaf, or others follow
    step_end : (i : Item) (xs : List Item) (l : Leaf1) → Turn1 r left i → IsOn r (OnWord i) xs (done (reaches l))
        → ((xs ≡ []) × (l.class ≡ class_at1 r left i.pa i.value)) ⊎ Ends1 r (OnWord i) xs l
    step_end i xs l (goes_down next bits al d) h =
        let n : Table1 = record { address = next; bits = joined_bits t.bits bits } in
        let s : step1 Q E i.pa i.value ≡ Down n = d false a t in
        inr (subst (λ (z : Lead Leaf1 Table1). Ends1 r (Fine (step_then below z)) xs l) (sym s)
        (rec n xs l (subst (λ (z : Lead Leaf1 Table1). IsOn r (Fine (step_then below z)) xs (done (reaches l))) s h)))
    step_end i xs l (maps f m d) h =
        let g = leaf1_end r (leaf1_of r E i.pa f) xs l
        (subst (λ (z : Lead Leaf1 Table1). IsOn r (Fine (step_then below z)) xs (done (reaches l))) (d false a t) h) in
        inl (g.0, ap (λ z. z.class) g.1 ∙ rw m refl)
    step_end i xs l (faults k d) h =
        absurd (stop1_end r (fault1 k left) xs l (subst (λ (z : Lead Leaf1 Table1). IsOn r (Fine (step_then below z)) xs (done (reaches l))) (d false a t) h))

    level_here : (front : List Item) (i : Item) (l : Leaf1) → IsOn r (word_of r E) front (done (Ok i)) → l.class ≡ class_at1 r left i.pa i.value
        → Ends1 r Level front l
    level_here front i l h c =
        let w = word_end r E front i h in
        let fw = fits_word_parts r _ i w.fit in
        record {
          item = i;
          left = left;
          mark_of = mark r (word_need E w.place) i;
          last = w.last;
          stage = fw.stage;
          level = fw.level;
          mark_last = subst (λ ms. LastIs ms (mark r (word_need E w.place) i)) (sym (marks_after r (word_of r E) (done (Ok i)) Go front h)) w.mark_last;
          first = mark_first r (word_need E w.place) i;
          part = part_of_mark r _ i;
          class_is = c;
        }

    level_more : (front rest : List Item) (i : Item) (l : Leaf1) → IsOn r (word_of r E) front (done (Ok i)) → Ends1 r (OnWord i) rest l
        → Ends1 r Level (front ++ rest) l
    level_more front rest i l h d =
        let m : marks r Level (front ++ rest) ≡ marks r Level front ++ marks r (OnWord i) rest =
        marks_append r Level (OnWord i) front rest (on_after r (word_of r E) (done (Ok i)) Go front h) in
        record {
          item = d.item;
          left = d.left;
          mark_of = d.mark_of;
          last = last_app front rest d.item d.last;
          stage = d.stage;
          level = d.level;
          mark_last = subst (λ ms. LastIs ms d.mark_of) (sym m) (last_app (marks r Level front) (marks r (OnWord i) rest) d.mark_of d.mark_last);
          first = d.first;
          part = d.part;
          class_is = d.class_is;
        }

    level_by : (front rest : List Item) (i : Item) (l : Leaf1) → IsOn r (word_of r E) front (done (Ok i))
        → ((rest ≡ []) × (l.class ≡ class_at1 r left i.pa i.value)) ⊎ Ends1 r (OnWord i) rest l → Ends1 r Level (front ++ rest) l
    level_by front rest i l h (inl g) =
        subst (λ (v : List Item). Ends1 r Level v l) (sym (ap (λ v. front ++ v) g.0 ∙ append-nil front)) (level_here front i l h g.1)
    level_by front rest i l h (inr g) = level_more front rest i l h g

    level_at : (front rest : List Item) (x : Result Item Fault) (l : Leaf1) → IsOn r (word_of r E) front (done x) → IsOn r (Go x) rest (done (reaches l))
        → Ends1 r Level (front ++ rest) l
    level_at front rest (Ok i) l h k = level_by front rest i l h (step_end i rest l (turn1 r left i) k)
    level_at front rest (Err f) l h k = absurd (stop1_end r f rest l k)

    level_end : (xs : List Item) (l : Leaf1) → IsOn r Level xs (done (reaches l)) → Ends1 r Level xs l
    level_end xs l h =
        let d = on_split r (word_of r E) Go xs (reaches l) h in
        subst (λ (v : List Item). Ends1 r Level v l) (sym d.is) (level_at d.front d.rest d.end l d.on_front d.more)

  ends1_from : (left : ℕ) (t : Table1) (xs : List Item) (l : Leaf1) → IsOn r (stage1_from Q left t) xs (done (reaches l))
      → Ends1 r (stage1_from Q left t) xs l
  ends1_from zero t xs l h = level_end (λ _. done (stops (fault1 Translation 0))) (λ n ys k g. absurd (stop1_end r _ ys k g)) 0 t xs l h
  ends1_from (suc left) t xs l h = level_end (walk1_from Q left) (ends1_from left) (suc left) t xs l h

  ends1_behind : (b : Bool) (base : ℕ) (xs : List Item) (l : Leaf1) → let t =
      cond b (done (stops (fault1 AddressSize most_left))) (stage1_from Q r.stage1.start (root_table base)) in IsOn r t xs (done (reaches l)) → Ends1 r t xs l
  ends1_behind true base xs l h = absurd (stop1_end r (fault1 AddressSize most_left) xs l h)
  ends1_behind false base xs l h = ends1_from r.stage1.start (root_table base) xs l h

  ends1_base : (xs : List Item) (l : Leaf1) → let t = ask stage1_base (λ i. stage1_behind Q i.value) in IsOn r t xs (done (reaches l)) → Ends1 r t xs l
  ends1_base [] l h = absurd cc
  ends1_base (i ∷ xs) l h =
      let d = ends1_behind (is_too_large r.stage1 i.value) i.value xs l h.1 in
      record {
        item = d.item;
        left = d.left;
        mark_of = d.mark_of;
        last = last_cons i xs d.item d.last;
        stage = d.stage;
        level = d.level;
        mark_last = last_cons (mark r stage1_base i) (marks r (stage1_behind Q i.value) xs) d.mark_of d.mark_last;
        first = d.first;
        part = d.part;
        class_is = d.class_is;
      }

  -- stage 1 that is on and doesn't refuse the access
  ends1 : (xs : List Item) (l : Leaf1) → r.config.m ≡ true → is_refused1 r.config a ≡ false → IsOn r (stage1 Q) xs (done (reaches l))
      → Ends1 r (stage1 Q) xs l
  ends1 xs l on ok h =
      let e : stage1 Q ≡ ask stage1_base (λ i. stage1_behind Q i.value) = on_case r.config.m (is_refused1 r.config a) _ _ _ on ok in
      subst (λ t. Ends1 r t xs l) (sym e) (ends1_base xs l (subst (λ t. IsOn r t xs (done (reaches l))) e h))

-- BOTH STAGES

landing_same : (l m : Landing) → ◌≡◌ {A = Ask Need Item (End Landing)} (done (reaches l)) (done (reaches m)) → l ≡ m
landing_same l m h = cc

-- what is known of a trail that leads to a translation: its last item of stage 1, its last mark of stage 1, its last item,
-- and the class of the landing by them
record Keyed (r : Regime) (vm : Bool) (ms : List Mark) (xs : List Item) (l : Landing) : Type 0 where
  item1 : Item
  left1 : ℕ
  mark1 : Mark
  entry1_is : last_entry1 xs ≡ Some (entry_of item1)
  level1 : item1.level ≡ level_of left1
  first_is : last_first ms ≡ Some mark1
  part : mark1.part ≡ part_of r S1 left1 item1.value
  item2 : Item
  left2 : ℕ
  entry2_is : vm ≡ true → last_entry xs ≡ Some (entry_of item2)
  level2 : vm ≡ true → item2.level ≡ level_of left2
  class_is : l.class
      ≡ cond vm (smaller (class_at1 r left1 item1.pa item1.value) (class_at2 r left2 item2.pa item2.value)) (class_at1 r left1 item1.pa item1.value)

-- the same of what follows stage 1
record Output (r : Regime) (vm : Bool) (rest : List Item) (d : Leaf1) (l : Landing) : Type 0 where
  item : Item
  left : ℕ
  last : vm ≡ true → LastIs rest item
  level : vm ≡ true → item.level ≡ level_of left
  class_is : l.class ≡ cond vm (smaller d.class (class_at2 r left item.pa item.value)) d.class

done_end : (r : Regime) (n : Landing) (xs : List Item) (l : Landing) → IsOn {A = End Landing} r (done (reaches n)) xs (done (reaches l))
    → (xs ≡ []) × (l ≡ n)
done_end r n [] l h = (refl, landing_same l n h)
done_end r n (x ∷ xs) l h = absurd h

stop_end : (r : Regime) (f : Fault) (xs : List Item) (l : Landing) → IsOn {A = End Landing} r (done (stops f)) xs (done (reaches l)) → ⊥
stop_end r f [] l h = absurd cc
stop_end r f (x ∷ xs) l h = h

module _ (r : Regime) (a : Access) (d : Leaf1) where
  abbrev Second : End Leaf2 → Ask Need Item (End Landing)
  Second e = done (judged2 false a d e)

  ends_walk2 : (b : Bool) (xs : List Item) (m : Leaf2) → IsOn r (cond b (done (stops (early2 r false d.out))) (chain r false d.out)) xs (done (reaches m))
      → Ends2 r xs m
  ends_walk2 true xs m h = absurd (ends_stop r false d.out _ xs m h)
  ends_walk2 false xs m h = ends_chain r false d.out xs m h

  output_end : (front rest : List Item) (e : End Leaf2) (l : Landing) → IsOn r (walk2 (asked2 r false d.out)) front (done e)
      → IsOn r (Second e) rest (done (reaches l)) → Output r true (front ++ rest) d l
  output_end front rest (stops f) l h k = absurd (stop_end r f rest l k)
  output_end front rest (reaches m) l h k =
      let g = done_end r (piece d m) rest l k in
      let n = ends_walk2 (is_refused2 r.config d.out) front m h in
      record {
        item = n.item;
        left = n.left;
        last = λ v. subst (λ (z : List Item). LastIs z n.item) (sym (ap (λ z. front ++ z) g.0 ∙ append-nil front)) n.last;
        level = λ v. n.level;
        class_is = ap (λ z. z.class) g.1 ∙ ap (λ z. smaller d.class z) n.class_is;
      }

  -- i is any item
  output : (vm : Bool) (i : Item) (rest : List Item) (l : Landing)
      → IsOn r (cond vm (after (walk2 (asked2 r false d.out)) Second) (done (reaches (landed d)))) rest (done (reaches l)) → Output r vm rest d l
  output true i rest l h =
      let w = on_split r (walk2 (asked2 r false d.out)) Second rest (reaches l) h in
      subst (λ (v : List Item). Output r true v d l) (sym w.is) (output_end w.front w.rest w.end l w.on_front w.more)
  output false i rest l h =
      let g = done_end r (landed d) rest l h in
      record {
        item = i;
        left = 0;
        last = λ v. absurd (both_ways false refl v);
        level = λ v. absurd (both_ways false refl v);
        class_is = ap (λ z. z.class) g.1;
      }

behind_second : (q : Asked) (e : End Leaf1) → IsSecond (stage2_behind q e)
behind_second q e = subst IsSecond (out_is q e) (out_second q e)

module _ (r : Regime) (a : Access) (on : r.config.m ≡ true) (ok : is_refused1 r.config a ≡ false) where
  abbrev W : Ask Need Item (End Landing)
  W = walk_by (under r false a)

  keyed_at : (front rest : List Item) (e : End Leaf1) (l : Landing) → IsOn r (stage1 (Q r a)) front (done e)
      → IsOn r (stage2_behind (Q r a) e) rest (done (reaches l)) → Keyed r r.config.vm (marks r W (front ++ rest)) (front ++ rest) l
  keyed_at front rest (stops f) l h k = absurd (stop_end r f rest l k)
  keyed_at front rest (reaches d) l h k =
      let one = ends1 r a front d on ok h in
      let two = output r a d r.config.vm one.item rest l k in
      let s : IsSecond (stage2_behind (Q r a) (reaches d)) = behind_second (Q r a) (reaches d) in
      let m : marks r W (front ++ rest) ≡ marks r (stage1 (Q r a)) front ++ marks r (stage2_behind (Q r a) (reaches d)) rest =
      marks_append r W (stage2_behind (Q r a) (reaches d)) front rest (on_after r (stage1 (Q r a)) (done (reaches d)) (stage2_behind (Q r a)) front h)
      ∙ ap (λ v. v ++ marks r (stage2_behind (Q r a) (reaches d)) rest) (marks_after r (stage1 (Q r a)) (done (reaches d))
      (stage2_behind (Q r a)) front h) in
      record {
        item1 = one.item;
        left1 = one.left;
        mark1 = one.mark_of;
        entry1_is =
            entry1_last front rest one.item one.last (ap is_stage1 one.stage) (items_second r (stage2_behind (Q r a) (reaches d)) (done (reaches l)) rest s k);
        level1 = one.level;
        first_is =
            ap last_first m
            ∙ first_mark_last (marks r (stage1 (Q r a)) front) (marks r (stage2_behind (Q r a) (reaches d)) rest) one.mark_of one.mark_last one.first
            (second_marks r (stage2_behind (Q r a) (reaches d)) rest s);
        part = one.part;
        item2 = two.item;
        left2 = two.left;
        entry2_is = λ v. entry_last (front ++ rest) two.item (last_app front rest two.item (two.last v));
        level2 = two.level;
        class_is = two.class_is ∙ ap (λ z. cond r.config.vm (smaller z (class_at2 r two.left two.item.pa two.item.value)) z) one.class_is;
      }

  keyed : (xs : List Item) (l : Landing) → IsOn r W xs (done (reaches l)) → Keyed r r.config.vm (marks r W xs) xs l
  keyed xs l h =
      let d = on_split r (stage1 (Q r a)) (stage2_behind (Q r a)) xs (reaches l) h in
      subst (λ (v : List Item). Keyed r r.config.vm (marks r W v) v l) (sym d.is) (keyed_at d.front d.rest d.end l d.on_front d.more)

module _ (r : Regime) (ms ns : List Mark) (xs ys : List Item) (l m : Landing) where
  first_same : (vm : Bool) (d : Keyed r vm ms xs l) (g : Keyed r vm ns ys m) → last_entry1 xs ≡ last_entry1 ys → entry_of d.item1 ≡ entry_of g.item1
  first_same vm d g h = same_Some (entry_of d.item1) (entry_of g.item1) (sym d.entry1_is ∙ h ∙ g.entry1_is)

  class1_same : (vm : Bool) (d : Keyed r vm ms xs l) (g : Keyed r vm ns ys m) → last_entry1 xs ≡ last_entry1 ys
      → class_at1 r d.left1 d.item1.pa d.item1.value ≡ class_at1 r g.left1 g.item1.pa g.item1.value
  class1_same vm d g h =
      let e = first_same vm d g h in
      ap (λ z. class_at1 r z d.item1.pa d.item1.value) (left_same d.item1 g.item1 d.left1 g.left1 d.level1 g.level1 e)
      ∙ ap (λ (z : Entry). class_at1 r g.left1 z.0 z.2) e

  class_same : (vm : Bool) (d : Keyed r vm ms xs l) (g : Keyed r vm ns ys m) → last_entry1 xs ≡ last_entry1 ys → last_entry xs ≡ last_entry ys
      → l.class ≡ m.class
  class_same false d g h k = d.class_is ∙ class1_same false d g h ∙ sym g.class_is
  class_same true d g h k =
      let e : entry_of d.item2 ≡ entry_of g.item2 = entries_same xs ys d.item2 g.item2 (d.entry2_is refl) (g.entry2_is refl) k in
      let c : class_at2 r d.left2 d.item2.pa d.item2.value ≡ class_at2 r g.left2 g.item2.pa g.item2.value =
      ap (λ z. class_at2 r z d.item2.pa d.item2.value) (left_same d.item2 g.item2 d.left2 g.left2 (d.level2 refl) (g.level2 refl) e)
      ∙ ap (λ (z : Entry). class_at2 r g.left2 z.0 z.2) e in
      d.class_is ∙ ap (λ z. smaller z (class_at2 r d.left2 d.item2.pa d.item2.value)) (class1_same true d g h)
      ∙ ap (smaller (class_at1 r g.left1 g.item1.pa g.item1.value)) c ∙ sym g.class_is

  global_same : (vm : Bool) (d : Keyed r vm ms xs l) (g : Keyed r vm ns ys m) → last_entry1 xs ≡ last_entry1 ys
      → is_global d.mark1.part ≡ is_global g.mark1.part
  global_same vm d g h =
      let e = first_same vm d g h in
      ap is_global d.part ∙ ap (λ z. is_global (part_of r S1 z d.item1.value)) (left_same d.item1 g.item1 d.left1 g.left1 d.level1 g.level1 e)
      ∙ ap (λ (z : Entry). is_global (part_of r S1 g.left1 z.2)) e ∙ sym (ap is_global g.part)

-- the last items of two trails tell their classes and global flags
pub keys_are : (c : Config) (a : Access) (xs ys : List Item) (l m : Landing) (n o : Mark) →
    c.m ≡ true → is_refused1 c a ≡ false →
    IsOn (regime_for c a) (walk c false a) xs (done (reaches l)) → IsOn (regime_for c a) (walk c false a) ys (done (reaches m)) →
    last_first (marks (regime_for c a) (walk c false a) xs) ≡ Some n → last_first (marks (regime_for c a) (walk c false a) ys) ≡ Some o →
    last_entry1 xs ≡ last_entry1 ys → last_entry xs ≡ last_entry ys → (l.class ≡ m.class) × (is_global n.part ≡ is_global o.part)
keys_are c a xs ys l m n o on ok h k p q e f =
    let r : Regime = regime_for c a in
    let ms : List Mark = marks r (walk c false a) xs in
    let ns : List Mark = marks r (walk c false a) ys in
    let d : Keyed r c.vm ms xs l = keyed r a on ok xs l h in
    let g : Keyed r c.vm ns ys m = keyed r a on ok ys m k in
    let dn : d.mark1 ≡ n = same_Some d.mark1 n (sym d.first_is ∙ p) in
    let go : g.mark1 ≡ o = same_Some g.mark1 o (sym g.first_is ∙ q) in (
      class_same r ms ns xs ys l m c.vm d g e f,
      ap (λ (z : Mark). is_global z.part) (sym dn) ∙ global_same r ms ns xs ys l m c.vm d g e ∙ ap (λ (z : Mark). is_global z.part) go,
    )

-- a trail that leads to a translation has an item of stage 1
pub first_had : (c : Config) (a : Access) (xs : List Item) (l : Landing) → c.m ≡ true → is_refused1 c a ≡ false →
    IsOn (regime_for c a) (walk c false a) xs (done (reaches l)) → (m : Mark) × (last_first (marks (regime_for c a) (walk c false a) xs) ≡ Some m)
first_had c a xs l on ok h = let d = keyed (regime_for c a) a on ok xs l h in (d.mark1, d.first_is)
