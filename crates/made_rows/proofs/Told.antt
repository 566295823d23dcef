-- How a walk ends can be told: its outcome has a text in a run.
use Rattle.std.proofs.Common.{◌≡◌, true, List, [], ◌∷◌, sym, subst}
use Rattle.geometry.specs.Tables.{level_of}
use Rattle.sysregs.specs.declared.regs.Config.{Config}
use Rattle.sysregs.specs.Sides.{side_of}
use Rattle.fault_codes.specs.declared.fault.Class.TheVariants.{External}
use Rattle.trails.specs.declared.item.Item.{Item}
use Rattle.trails.specs.declared.outcome.Access.{Access}
use Rattle.trails.specs.declared.outcome.Outcome.TheVariants.{Absent}
use Rattle.trails.specs.Printed.{printed, HasText}
use Rattle.walk_spec.specs.Ask.{Ask, done, ask, on, Fed, ended, lacks}
use Rattle.walk_spec.specs.Needs.{Regime, Need, stage1_base, stage2_base, word, WordNeed, regime_of, fits}
use Rattle.walk_spec.specs.Steps.{End, stops, reaches}
use Rattle.walk_spec.specs.BothStages.{Landing, walk, outcome_of}
use Rattle.walk_spec.specs.Fresh.{fed_outcome}
use Rattle.machine_spec.specs.Served.{Place, came, served}
use Rattle.machine_laws.specs.Standing.{IsOn}
use Rattle.served_walk.proofs.Ties.{ends_on, needs_on}
use Rattle.made_rows.specs.NewRows.{StandsTo}
use Rattle.made_rows.proofs.Ends.{Ends, IsEnd, IsLanding, status_at, walk_ends}
use Rattle.made_rows.proofs.Halts.{IsFed, IsHalt, served_halt}

-- what holds of a walk's questions and ends holds of what items leave of it
ends_left : {A : Type 0} (P : A → Type 0) (r : Regime) (t : Ask Need Item A) (items : List Item) (u : Ask Need Item A) → IsOn r t items u → Ends P t
    → Ends P u
ends_left P r t [] u h g = subst (Ends P) (sym h) g
ends_left P r (done a) (i ∷ items) u h g = absurd h
ends_left P r (ask n k) (i ∷ items) u h g = ends_left P r (k i) items u h.1 (g.1 i)

-- how a fed walk came out has a text
pub fed_text : (end : Fed Need (End Landing)) → IsFed end → HasText (printed true (fed_outcome end))
fed_text (ended (stops f)) h = h
fed_text (ended (reaches l)) h = tt
fed_text (lacks stage1_base) h = tt
fed_text (lacks (stage2_base x)) h = tt
fed_text (lacks (word w)) h = status_at External w.left h

module _ (c : Config) (a : Access) where
  abbrev R : Regime
  R = regime_of c (side_of a.va)

  -- the outcome of a walk that ended behind these items
  pub ended_text : (items : List Item) (e : End Landing) → IsOn R (walk c true a) items (done e) → HasText (printed true (outcome_of e))
  ended_text items e h = fed_text (ended e) (ends_left (IsEnd IsLanding) R (walk c true a) items (done e) h (walk_ends c true a))

  -- that of a walk that lacks what it asks behind them
  pub lacks_text : (items : List Item) (n : Need) (k : Item → Ask Need Item (End Landing)) → IsOn R (walk c true a) items (ask n k)
      → HasText (printed true (fed_outcome (lacks n)))
  lacks_text items n k h = fed_text (lacks n) (ends_left (IsEnd IsLanding) R (walk c true a) items (ask n k) h (walk_ends c true a)).0

  -- that of a walk that lacks a word
  pub absent_text : (items : List Item) (w : WordNeed) (k : Item → Ask Need Item (End Landing)) → IsOn R (walk c true a) items (ask (word w) k)
      → HasText (printed true (Absent w.stage (level_of w.left) w.place w.s1ptw))
  absent_text items w k h = lacks_text items (word w) k h

  -- that of a walk that stands on these items up to an end
  pub stood_text : (items : List Item) (end : Fed Need (End Landing)) → StandsTo (on (fits R) (walk c true a) items) end
      → HasText (printed true (fed_outcome end))
  stood_text items (ended e) h = ended_text items e (ends_on R (walk c true a) items e h)
  stood_text items (lacks n) h = let q = needs_on R (walk c true a) items n h in lacks_text items n q.0 q.1

-- the outcome of a service that came to an end, whatever rows there are
pub served_text : (p : Place) (a : Access) (end : Fed Need (End Landing)) → (served p a).halt ≡ came end → HasText (printed true (fed_outcome end))
served_text p a end e = fed_text end (subst IsHalt e (served_halt p a))
