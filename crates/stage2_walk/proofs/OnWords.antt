-- How a walk of stage 2 goes on over the words of its tables.
use Rattle.std.proofs.Common.{◌≡◌, ℕ, zero, suc, ◌-◌, ◌<◌, List, [], ◌∷◌, ◌++◌, refl, sym, ap, ◌∙◌, arith, Result, Ok, Err}
use Rattle.geometry.specs.Tables.{level_of}
use Rattle.fault_codes.specs.declared.fault.Fault.{Fault}
use Rattle.fault_codes.specs.declared.fault.Stage.TheVariants.{S2}
use Rattle.fault_codes.specs.declared.fault.Class.TheVariants.{Translation}
use Rattle.trails.specs.declared.item.Item.{Item}
use Rattle.trails.specs.declared.outcome.Stop.{Stop}
use Rattle.trails.specs.declared.outcome.Stop.TheVariants.{Fault as FaultStop}
use Rattle.table_reads.specs.declared.lead.Lead.{Lead}
use Rattle.table_reads.specs.declared.lead.Lead.TheVariants.{Down, Reached, Stopped}
use Rattle.table_reads.specs.Places.{place_of}
use Rattle.table_reads.specs.Items.{word_item}
use Rattle.table_reads.specs.Memory.{Told, Holds, Misses}
use Rattle.walk_spec.specs.declared.leaf.Leaf2.{Leaf2}
use Rattle.walk_spec.specs.Ask.{Ask, done, ask, ended, lacks}
use Rattle.walk_spec.specs.Needs.{Need, word, WordNeed}
use Rattle.walk_spec.specs.Steps.{End, stops, reaches, step_then}
use Rattle.walk_spec.specs.Stage2.{Asked2, fault2, step2, walk2_from}
use Rattle.walk_spec.specs.Walked.{ReadsWord, Walked, result_of}
use Rattle.stage2_walk.specs.SoundSteps.{EndsIn}
use Rattle.stage2_walk.specs.Clauses.{answer_of}
use Rattle.walk_spec.proofs.Walks.{walked_lacks, walked_ends, walked_goes}

-- the walk from the next table, if there is a level below
abbrev pub walk2_below : (q : Asked2) (left table : ℕ) → Ask Need Item (End Leaf2)
walk2_below q zero table = done (stops (fault2 q Translation 0))
walk2_below q (suc left) table = walk2_from q left table

-- the word at a place
abbrev pub word_at : (q : Asked2) (left table place : ℕ) → WordNeed
word_at q left table place = record { stage = S2; left = left; place = place; s1ptw = q.s1ptw; address = q.ipa; table = table }

-- what follows a step
abbrev pub walk2_then : (q : Asked2) (left : ℕ) (step : Lead Leaf2 ℕ) → Ask Need Item (End Leaf2)
walk2_then q left step = step_then (walk2_below q left) step

walk2_from_asks : (q : Asked2) (left table : ℕ)
    → walk2_from q left table ≡ ask (word (word_at q left table (place_of q.sizes left table q.ipa))) (λ i. walk2_then q left (step2 q left i.pa i.value))
walk2_from_asks q zero table = refl
walk2_from_asks q (suc left) table = refl

pub walk2_below_less : (q : Asked2) (left table : ℕ) → 0 < left → walk2_below q left table ≡ walk2_from q (left - 1) table
walk2_below_less q zero table h = absurd (omega (arith, h))
walk2_below_less q (suc left) table h = let e : suc left - 1 ≡ left = omega arith in rw e refl

pub asks_here : (q : Asked2) (left table p : ℕ) → p ≡ place_of q.sizes left table q.ipa
    → walk2_from q left table ≡ ask (word (word_at q left table p)) (λ i. walk2_then q left (step2 q left i.pa i.value))
asks_here q left table p here =
    walk2_from_asks q left table ∙ ap (λ w. ask (word (word_at q left table w)) (λ i. walk2_then q left (step2 q left i.pa i.value))) (sym here)

module _ (m : Told) (k : ℕ) (q : Asked2) (left table p : ℕ) (here : p ≡ place_of q.sizes left table q.ipa) where
  -- the word is lacking
  pub word_lacks : (F : Type 0) (old new : List Item) (s : Result Leaf2 Stop) → new ≡ old → s ≡ result_of (lacks (word (word_at q left table p)))
      → Misses m p F → Walked (ReadsWord k m) m F (walk2_from q left table) old new s
  word_lacks F old new s n a h = walked_lacks (ReadsWord k m) m F _ (word_at q left table p) _ old new s (asks_here q left table p here) n a h

  module _ (v : ℕ) (old mid : List Item) (grown : mid ≡ old ++ word_item k S2 (level_of left) p v ∷ []) (held : Holds m p v) where
    word_ends : (F : Type 0) (d : End Leaf2) (s : Result Leaf2 Stop) → walk2_then q left (step2 q left p v) ≡ done d → s ≡ result_of (ended d)
        → Walked (ReadsWord k m) m F (walk2_from q left table) old mid s
    word_ends F d s w a =
        walked_ends (ReadsWord k m) m F _ (word (word_at q left table p)) _ (word_item k S2 (level_of left) p v) d old mid s (asks_here q left table p here)
        grown (refl, held) w a

    -- the word is that of a leaf
    word_reaches : (F : Type 0) (l : Leaf2) (s : Result Leaf2 Stop) → Reached l ≡ step2 q left p v → s ≡ Ok l
        → Walked (ReadsWord k m) m F (walk2_from q left table) old mid s
    word_reaches F l s step a = word_ends F (reaches l) s (ap (walk2_then q left) (sym step)) a

    -- the word is a fault
    word_stops : (F : Type 0) (f : Fault) (s : Result Leaf2 Stop) → Stopped f ≡ step2 q left p v → s ≡ Err (FaultStop f)
        → Walked (ReadsWord k m) m F (walk2_from q left table) old mid s
    word_stops F f s step a = word_ends F (stops f) s (ap (walk2_then q left) (sym step)) a

    -- the word is that of no table
    pub word_last : (F : Type 0) (lead : Lead Leaf2 ℕ) (e : Result Leaf2 Fault) → lead ≡ step2 q left p v → EndsIn lead e
        → Walked (ReadsWord k m) m F (walk2_from q left table) old mid (answer_of e)
    word_last F (Down t) e step h = absurd h
    word_last F (Reached l) e step h = word_reaches F l (answer_of e) step (ap answer_of h)
    word_last F (Stopped f) e step h = word_stops F f (answer_of e) step (ap answer_of h)

    -- the word is that of a table
    pub word_goes : (F G : Type 0) (next : ℕ) (new : List Item) (s : Result Leaf2 Stop) → Down next ≡ step2 q left p v → 0 < left → (F → G)
        → Walked (ReadsWord k m) m F (walk2_from q (left - 1) next) mid new s → Walked (ReadsWord k m) m G (walk2_from q left table) old new s
    word_goes F G next new s step l f h =
        let w : walk2_then q left (step2 q left p v) ≡ walk2_from q (left - 1) next = ap (walk2_then q left) (sym step) ∙ walk2_below_less q left next l in
        walked_goes (ReadsWord k m) m F G _ (word (word_at q left table p)) _ (word_item k S2 (level_of left) p v) _ old mid new s
        (asks_here q left table p here) grown (refl, held) w f h
