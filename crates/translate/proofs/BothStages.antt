-- How both stages together are walked.
use Rattle.std.proofs.Common.{◌≡◌, List, [], ◌++◌, Bool, true, false, not, Option, Some, None, refl}
use Rattle.std.proofs.Common.{sym, ap, subst, append-nil, Ok, Err, if◌then◌else◌}
use Rattle.sysregs.specs.declared.regs.Config.{Config}
use Rattle.sysregs.specs.Registers.{config_of}
use Rattle.permissions.specs.Rights.{is_allowed2}
use Rattle.fault_codes.specs.Status.{HasLevel}
use Rattle.fault_codes.specs.declared.fault.Stage.TheVariants.{S2}
use Rattle.fault_codes.specs.declared.fault.Class.TheVariants.{Permission}
use Rattle.trails.specs.declared.item.Item.{Item}
use Rattle.trails.specs.declared.outcome.Access.{Access}
use Rattle.trails.specs.declared.outcome.Outcome.{Outcome}
use Rattle.trails.specs.declared.outcome.Outcome.TheVariants.{Absent as IsAbsent}
use Rattle.geometry.specs.Tables.{level_of}
use Rattle.trails.specs.declared.outcome.Stop.{Stop}
use Rattle.trails.specs.declared.outcome.Stop.TheVariants.{Fault as FaultStop, Absent}
use Rattle.table_reads.specs.Memory.{Told}
use Rattle.walk_spec.specs.declared.leaf.Leaf1.{Leaf1}
use Rattle.walk_spec.specs.declared.leaf.Leaf2.{Leaf2}
use Rattle.walk_spec.specs.Ask.{Ask, done, after, Fed, ended, lacks, Took}
use Rattle.walk_spec.specs.Needs.{Need, stage1_base, stage2_base, word, WordNeed}
use Rattle.walk_spec.specs.Steps.{End, stops, reaches}
use Rattle.walk_spec.specs.Stage2.{walk2}
use Rattle.walk_spec.specs.BothStages.{Landing, landed, piece, judged2, outcome_of, stage2_behind, stage1, walk}
use Rattle.walk_spec.specs.Walked.{LacksFor, WalkedWhole, HasLine, result_of}
use Rattle.walk_spec.proofs.Feeding.{took_after, took_after_lacks, took_weaker}
use Rattle.walk_spec.proofs.Walks.{lacks_weaker}
use Rattle.translate.specs.declared.stage1.Output1.{Output1}
use Rattle.translate.specs.Checked.{RegsAt}
use Rattle.translate.specs.Parts.{leaf1_or_off, out_of, finish_of}
use Rattle.translate.specs.Deep.{Reads2, asked2_of, Walked2, WalkedStage1, outcome_by}
use Rattle.translate.proofs.Choices.{on_with, off_with}
use Rattle.translate.proofs.FirstStage.{q, reads, read_now}
use Rattle.translate.proofs.Had.{ends_at}

-- the output of stage 1 is that of its leaf, or of the leaf that stands for it while it is off
pub out_same : (c : Config) (a : Access) (l : Option Leaf1) → out_of a l ≡ (leaf1_or_off c a l).out
out_same c a None = refl
out_same c a (Some l) = refl

abbrev finish_by : Bool → Leaf1 → Leaf2 → Outcome
finish_by denied l k = outcome_of (if denied then stops record { stage = S2; level = k.level; class = Permission; s1ptw = false } else reaches (piece l k))

line_by : (denied : Bool) (a : Access) (l : Leaf1) (k : Leaf2) → not (is_allowed2 k.perms a.el a.kind) ≡ denied → HasLevel Permission k.level
    → HasLine (finish_by denied l k)
line_by true a l k e h = h
line_by false a l k e h = tt

-- how an access comes out behind both leaves has a line
pub finish_line : (c : Config) (a : Access) (l : Option Leaf1) (k : Leaf2) → HasLevel Permission k.level → HasLine (finish_of c a l (Some k))
finish_line c a l k h = line_by (not (is_allowed2 k.perms a.el a.kind)) a (leaf1_or_off c a l) k refl h

stop_of_line : {L : Type 0} (x : Stop) (w : WordNeed) → Err x ≡ result_of {L = L} (lacks (word w))
    → outcome_by (Err x) ≡ IsAbsent w.stage (level_of w.left) w.place w.s1ptw
stop_of_line x w r = let e : x ≡ Absent w.stage (level_of w.left) w.place w.s1ptw = cc in ap (λ s. outcome_by (Err s)) e

module _ (under : RegsAt) (a : Access) (m : Told) where
  whole_stops : (F : Type 0) (items : List Item) (x : Stop) (e : Fed Need (End Leaf1)) → Took (reads under a m) (stage1 (q under a m)) items e
      → LacksFor m F e → Err x ≡ result_of e → WalkedWhole under.regs a under.moment m F items (outcome_by (Err x))
  whole_stops F items x (ended (stops f)) h l r =
      let e : x ≡ FaultStop f = cc in
      record {
        end = ended (stops f);
        took = subst (λ is. Took (reads under a m) (walk (config_of under.regs) true a) is (ended (stops f))) (append-nil items)
            (took_after (reads under a m) (stage1 (q under a m)) (stage2_behind (q under a m)) items [] (stops f) (ended (stops f)) h (refl, refl));
        cause = tt;
        answer = ap (λ s. outcome_by (Err s)) e;
      }
  whole_stops F items x (ended (reaches l)) h c r = absurd cc
  whole_stops F items x (lacks stage1_base) h c r = absurd c
  whole_stops F items x (lacks (stage2_base y)) h c r = absurd c
  whole_stops F items x (lacks (word w)) h c r =
      record {
        end = lacks (word w);
        took = took_after_lacks (reads under a m) (stage1 (q under a m)) (stage2_behind (q under a m)) items (word w) h;
        cause = c;
        answer = stop_of_line x w r;
      }

  -- stage 1 stopped
  pub whole_stop1 : (F : Type 0) (new : List Item) (x : Stop) → WalkedStage1 m F under a new (Err x)
      → WalkedWhole under.regs a under.moment m F new (outcome_by (Err x))
  whole_stop1 F new x w =
      subst (λ is. WalkedWhole under.regs a under.moment m F is (outcome_by (Err x))) (sym w.grown) (whole_stops F w.more x w.end w.took w.cause w.answer)

  module _ (F : Type 0) (o1 : Output1) (mid : List Item) (w1 : WalkedStage1 m F under a mid (Ok o1)) where
    abbrev l : Option Leaf1
    l = o1.leaf

    abbrev leaf1 : Leaf1
    leaf1 = leaf1_or_off (config_of under.regs) a l

    abbrev behind2 : End Leaf2 → Ask Need Item (End Landing)
    behind2 e = done (judged2 true a leaf1 e)

    abbrev deeper : Ask Need Item (End Landing)
    deeper = after (walk2 (asked2_of under.regs false leaf1.out)) behind2

    reached : Took (reads under a m) (stage1 (q under a m)) mid (ended (reaches leaf1))
    reached = rw (← ends_at leaf1 w1.end w1.answer, w1.grown) w1.took

    both : (t : Ask Need Item (End Landing)) (ys : List Item) (e : Fed Need (End Landing)) → stage2_behind (q under a m) (reaches leaf1) ≡ t
        → Took (reads under a m) t ys e → Took (reads under a m) (walk (config_of under.regs) true a) (mid ++ ys) e
    both t ys e s h =
        took_after (reads under a m) (stage1 (q under a m)) (stage2_behind (q under a m)) mid ys (reaches leaf1) e reached
        (subst (λ z. Took (reads under a m) z ys e) (sym s) h)

    -- stage 2 is off
    pub whole_flat : (o : Outcome) → (config_of under.regs).vm ≡ false → o ≡ finish_of (config_of under.regs) a l None
        → WalkedWhole under.regs a under.moment m F mid o
    whole_flat o v r = record {
      end = ended (reaches (landed leaf1));
      took = subst (λ is. Took (reads under a m) (walk (config_of under.regs) true a) is (ended (reaches (landed leaf1)))) (append-nil mid)
          (both (done (reaches (landed leaf1))) [] (ended (reaches (landed leaf1)))
          (off_with (config_of under.regs).vm v deeper (done (reaches (landed leaf1)))) (refl, refl));
      cause = tt;
      answer = r;
    }

    module _ (G H : Type 0) (weaker : G → H) (v : (config_of under.regs).vm ≡ true) (new : List Item) where
      on_both : (ys : List Item) (e : Fed Need (End Landing)) → Took (reads under a m) deeper ys e
          → Took (reads under a m) (walk (config_of under.regs) true a) (mid ++ ys) e
      on_both ys e h = both deeper ys e (on_with (config_of under.regs).vm v deeper (done (reaches (landed leaf1)))) h

      now2 : (ys : List Item) (e : Fed Need (End Leaf2)) → Took (Reads2 under m) (walk2 (asked2_of under.regs false leaf1.out)) ys e
          → Took (reads under a m) (walk2 (asked2_of under.regs false leaf1.out)) ys e
      now2 ys e h = took_weaker (Reads2 under m) (reads under a m) (read_now under a m) (walk2 (asked2_of under.regs false leaf1.out)) ys e h

      ends2 : (ys : List Item) (e : End Leaf2) → Took (Reads2 under m) (walk2 (asked2_of under.regs false leaf1.out)) ys (ended e)
          → Took (reads under a m) (walk (config_of under.regs) true a) (mid ++ ys) (ended (judged2 true a leaf1 e))
      ends2 ys e h =
          on_both ys (ended (judged2 true a leaf1 e))
          (subst (λ is. Took (reads under a m) deeper is (ended (judged2 true a leaf1 e))) (append-nil ys)
          (took_after (reads under a m) (walk2 (asked2_of under.regs false leaf1.out)) behind2 ys [] e (ended (judged2 true a leaf1 e)) (now2 ys (ended e) h)
          (refl, refl)))

      stops2 : (ys : List Item) (x : Stop) (e : Fed Need (End Leaf2)) → Took (Reads2 under m) (walk2 (asked2_of under.regs false leaf1.out)) ys e
          → LacksFor m G e → Err x ≡ result_of e → WalkedWhole under.regs a under.moment m H (mid ++ ys) (outcome_by (Err x))
      stops2 ys x (ended (stops f)) h c r =
          let e : x ≡ FaultStop f = cc in
          record { end = ended (stops f); took = ends2 ys (stops f) h; cause = tt; answer = ap (λ s. outcome_by (Err s)) e }
      stops2 ys x (ended (reaches k)) h c r = absurd cc
      stops2 ys x (lacks stage1_base) h c r = absurd c
      stops2 ys x (lacks (stage2_base y)) h c r = absurd c
      stops2 ys x (lacks (word w)) h c r = record {
        end = lacks (word w);
        took = on_both ys (lacks (word w))
            (took_after_lacks (reads under a m) (walk2 (asked2_of under.regs false leaf1.out)) behind2 ys (word w) (now2 ys (lacks (word w)) h));
        cause = lacks_weaker {A = End Leaf2} m G H weaker (lacks (word w)) c;
        answer = stop_of_line x w r;
      }

      -- stage 2 of the output stopped
      pub whole_stop2 : (x : Stop) → Walked2 m G under false leaf1.out mid new (Err x) → WalkedWhole under.regs a under.moment m H new (outcome_by (Err x))
      whole_stop2 x w =
          subst (λ is. WalkedWhole under.regs a under.moment m H is (outcome_by (Err x))) (sym w.grown) (stops2 w.more x w.end w.took w.cause w.answer)

      -- both stages reached a leaf
      pub whole_ends : (k : Leaf2) (o : Outcome) → Walked2 m G under false leaf1.out mid new (Ok k) → o ≡ finish_of (config_of under.regs) a l (Some k)
          → WalkedWhole under.regs a under.moment m H new o
      whole_ends k o w r =
          let t : Took (Reads2 under m) (walk2 (asked2_of under.regs false leaf1.out)) w.more (ended (reaches k)) = rw (← ends_at k w.end w.answer) w.took in
          subst (λ is. WalkedWhole under.regs a under.moment m H is o) (sym w.grown)
          (record { end = ended (judged2 true a leaf1 (reaches k)); took = ends2 w.more (reaches k) t; cause = tt; answer = r })
