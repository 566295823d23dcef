-- How a walk of stage 1 goes on over the entries that a supply gives.
use Rattle.std.proofs.Common.{◌≡◌, ℕ, zero, suc, ◌-◌, ◌<◌, List, [], ◌∷◌, ◌++◌, length, length-append}
use Rattle.std.proofs.Common.{append_assoc, append-nil, refl, sym, ap, ◌∙◌, subst, arith, Result, Ok, Err, inl, inr}
use Rattle.std.specs.Prelude.{ℤ}
use Rattle.geometry.specs.Tables.{level_of}
use Rattle.fault_codes.specs.declared.fault.Fault.{Fault}
use Rattle.fault_codes.specs.declared.fault.Class.TheVariants.{Translation}
use Rattle.trails.specs.declared.item.Item.{Item}
use Rattle.trails.specs.declared.outcome.Stop.{Stop}
use Rattle.trails.specs.declared.outcome.Stop.TheVariants.{Fault as FaultStop}
use Rattle.table_reads.specs.declared.lead.Lead.{Lead}
use Rattle.table_reads.specs.declared.lead.Lead.TheVariants.{Down, Reached, Stopped}
use Rattle.table_reads.specs.Places.{place_of}
use Rattle.walk_spec.specs.declared.entry.Table1.{Table1}
use Rattle.walk_spec.specs.declared.entry.Entry1.{Entry1}
use Rattle.walk_spec.specs.declared.leaf.Leaf1.{Leaf1}
use Rattle.walk_spec.specs.Ask.{Ask, done, ask, Ran}
use Rattle.walk_spec.specs.Steps.{End, stops, reaches, step_then}
use Rattle.walk_spec.specs.Stage1.{Asked, untagged, fault1, step1, entry1, walk1_from}
use Rattle.stage1_walk.specs.declared.under.Under1.{Under1}
use Rattle.stage1_walk.specs.Under.{IsUnder, asked_under}
use Rattle.stage1_walk.specs.SoundSteps.{EndsIn}
use Rattle.stage1_walk.specs.Gave.{Gave, IsLastPlace, by_entry, Walked1, answer_of, EndsInWord}

-- the walk from the next table, if there is a level below
abbrev pub walk1_below : (q : Asked) (left : ℕ) (table : Table1) → Ask Entry1 Item (End Leaf1)
walk1_below q zero table = done (stops (fault1 Translation 0))
walk1_below q (suc left) table = walk1_from q left table

-- what follows a step
abbrev pub walk1_then : (q : Asked) (left : ℕ) (step : Lead Leaf1 Table1) → Ask Entry1 Item (End Leaf1)
walk1_then q left step = step_then (walk1_below q left) step

-- the entry that the code makes is the one that the address selects
pub entry_here : (u : Under1) (left : ℕ) (t : Table1) (p : ℕ) → IsUnder u → p ≡ place_of u.sizes left t.address u.address
    → record { table = t; place = p; address = u.address; left = left } ≡ entry1 (asked_under u) left t
entry_here u left t p h e =
    let here : p ≡ place_of u.sizes left t.address (untagged u.access.now.va) = e ∙ ap (place_of u.sizes left t.address) h.address in
    λ i. record { table = t; place = here i; address = h.address i; left = left }

walk1_from_asks : (q : Asked) (left : ℕ) (t : Table1)
    → walk1_from q left t ≡ ask (entry1 q left t) (λ i. walk1_then q left (step1 q (entry1 q left t) i.pa i.value))
walk1_from_asks q zero t = refl
walk1_from_asks q (suc left) t = refl

pub asks_here : (q : Asked) (left : ℕ) (t : Table1) (e : Entry1) → e ≡ entry1 q left t
    → walk1_from q left t ≡ ask e (λ i. walk1_then q left (step1 q e i.pa i.value))
asks_here q left t e here = walk1_from_asks q left t ∙ ap (λ n. ask n (λ i. walk1_then q left (step1 q n i.pa i.value))) (sym here)

pub walk1_below_less : (q : Asked) (left : ℕ) (t : Table1) → 0 < left → walk1_below q left t ≡ walk1_from q (left - 1) t
walk1_below_less q zero t h = absurd (omega (arith, h))
walk1_below_less q (suc left) t h = let e : suc left - 1 ≡ left = omega arith in rw e refl

none_behind : (ys : List Item) (j : Item) (A : Type 0) → [] ≡ ys ++ j ∷ [] → A
none_behind ys j A e = absurd (omega (arith, ap length e, length-append ys (j ∷ [])))

-- lists that end in one item and are equal have equal last items
pub last_same : (xs ys : List Item) (i j : Item) → xs ++ i ∷ [] ≡ ys ++ j ∷ [] → i ≡ j
last_same [] [] i j e = cc
last_same [] (y ∷ ys) i j e = let f : [] ≡ ys ++ j ∷ [] = cc in none_behind ys j (i ≡ j) f
last_same (x ∷ xs) [] i j e = let f : [] ≡ xs ++ i ∷ [] = cc in none_behind xs i (i ≡ j) f
last_same (x ∷ xs) (y ∷ ys) i j e = let f : xs ++ i ∷ [] ≡ ys ++ j ∷ [] = cc in last_same xs ys i j f

-- a word's own item is the last of the trail
pub last_given : (old new more : List Item) (v : ℕ) → new ≡ old ++ more → EndsInWord more (Ok v) → (p : ℕ) × IsLastPlace new p
last_given old new more v g w = (w.1.pa, (old ++ w.0, w.1, g ∙ ap (λ m. old ++ m) w.2 ∙ sym (append_assoc old w.0 (w.1 ∷ [])), refl))

module _ {S : Type 0} (gives : S → ℤ → ℕ → List Item → Result ℕ Stop → S → Type 0) (q : Asked) (left : ℕ) (t : Table1) (e : Entry1)
    (here : e ≡ entry1 q left t) where
  abbrev pub value : Item → ℕ
  value i = i.value

  -- the supply stopped
  pub word_stopped : (before after : S) (old new : List Item) (stop : Stop) (result : Result Leaf1 Stop)
      → Gave (gives before (level_of e.left) e.place) old new (Err stop) after → result ≡ Err stop → Walked1 gives q left t before old new result after
  word_stopped before after old new stop result g a = record {
    more = g.more;
    end = Err stop;
    grown = g.grown;
    ran = subst (λ w. Ran value (by_entry gives) w before g.more (Err stop) after) (sym (asks_here q left t e here)) (inr (stop, g.given, refl));
    answer = a;
  }

  module _ (before mid : S) (old middle : List Item) (v p : ℕ) (g : Gave (gives before (level_of e.left) e.place) old middle (Ok v) mid)
      (last : IsLastPlace middle p) where
    -- the place of the word's own item
    place_is : p ≡ g.word.1.pa
    place_is =
        let grown : middle ≡ (old ++ g.word.0) ++ g.word.1 ∷ [] =
        g.grown ∙ ap (λ more. old ++ more) g.word.2 ∙ sym (append_assoc old g.word.0 (g.word.1 ∷ [])) in
        last.3 ∙ ap (λ i. i.pa) (last_same last.0 (old ++ g.word.0) last.1 g.word.1 (sym last.2 ∙ grown))

    -- what follows the word follows on the supply's items
    went : (rest : List Item) (end : Result (End Leaf1) Stop) (after : S) → Ran value (by_entry gives) (walk1_then q left (step1 q e p v)) mid rest end after
        → Ran value (by_entry gives) (walk1_from q left t) before (g.more ++ rest) end after
    went rest end after h =
        let given : gives before (level_of e.left) e.place (g.word.0 ++ g.word.1 ∷ []) (Ok g.word.1.value) mid = rw (← g.word.2, g.word.3) g.given in
        let next : Ran value (by_entry gives) (walk1_then q left (step1 q e g.word.1.pa g.word.1.value)) mid rest end after = rw (← place_is, g.word.3) h in
        subst (λ w. Ran value (by_entry gives) w before (g.more ++ rest) end after) (sym (asks_here q left t e here))
        (inl (g.word.0, g.word.1, rest, mid, given, ap (λ more. more ++ rest) g.word.2, next))

    ends : (d : End Leaf1) (result : Result Leaf1 Stop) → walk1_then q left (step1 q e p v) ≡ done d → result ≡ answer_of (Ok d)
        → Walked1 gives q left t before old middle result mid
    ends d result w a = record {
      more = g.more ++ [];
      end = Ok d;
      grown = g.grown ∙ ap (λ more. old ++ more) (sym (append-nil g.more));
      ran = went [] (Ok d) mid (subst (λ k. Ran value (by_entry gives) k mid [] (Ok d) mid) (sym w) (refl, refl, refl));
      answer = a;
    }

    -- the word is that of a leaf
    word_reaches : (l : Leaf1) (result : Result Leaf1 Stop) → Reached l ≡ step1 q e p v → result ≡ Ok l
        → Walked1 gives q left t before old middle result mid
    word_reaches l result step a = ends (reaches l) result (ap (walk1_then q left) (sym step)) a

    -- the word is a fault
    word_stops : (f : Fault) (result : Result Leaf1 Stop) → Stopped f ≡ step1 q e p v → result ≡ Err (FaultStop f)
        → Walked1 gives q left t before old middle result mid
    word_stops f result step a = ends (stops f) result (ap (walk1_then q left) (sym step)) a

    -- the word is that of no table
    pub word_last : (lead : Lead Leaf1 Table1) (result : Result Leaf1 Stop) → lead ≡ step1 q e p v → EndsIn lead result
        → Walked1 gives q left t before old middle result mid
    word_last (Down next) result step h = absurd h
    word_last (Reached l) result step h = word_reaches l result step h
    word_last (Stopped f) result step h = word_stops f result step h

    -- the word is that of a table
    pub word_goes : (after : S) (next : Table1) (new : List Item) (result : Result Leaf1 Stop) → Down next ≡ step1 q e p v → 0 < left
        → Walked1 gives q (left - 1) next mid middle new result after → Walked1 gives q left t before old new result after
    word_goes after next new result step l w = record {
      more = g.more ++ w.more;
      end = w.end;
      grown = w.grown ∙ ap (λ z. z ++ w.more) g.grown ∙ append_assoc old g.more w.more;
      ran = went w.more w.end after
          (subst (λ k. Ran value (by_entry gives) k mid w.more w.end after) (sym (ap (walk1_then q left) (sym step)
          ∙ walk1_below_less q left next l)) w.ran);
      answer = w.answer;
    }
