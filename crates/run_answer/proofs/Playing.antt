-- A trace that is run while its report is written: what is written so far, and that each step has a text.
use Rattle.std.proofs.Common.{◌≡◌, ℕ, zero, suc, ◌+◌, ◌≤◌, ◌^◌, List, [], ◌∷◌, ◌++◌, length, take, Option}
use Rattle.std.proofs.Common.{Result, Ok, Err, IsOk, IsErr, IfOk, refl, ap, sym, subst, append_assoc, ◌∙◌, arith}
use Rattle.std.proofs.lemmas.List.{length-append}
use Rattle.trails.specs.declared.step.Step.{Step}
use Rattle.trails.specs.declared.event.Event.{Event}
use Rattle.explain_text.specs.Written.{Wrote}
use Rattle.trace_lang.specs.Traces.{Parts, IsTrace}
use Rattle.machine_spec.specs.Header.{Header}
use Rattle.machine_spec.specs.Machine.{World, opened, after_event, step_of, run_from, run_of}
use Rattle.machine_laws.specs.Promise.{RunsKeepTheirPromise}
use Rattle.machine.specs.Runs.{MachineState}
use Rattle.machine.proofs.Steps.{all_of_cores}
use Rattle.machine_spec.specs.Summary.{summary}
use Rattle.report_text.specs.Report.{report_text, summary_text}
use Rattle.report_text.specs.Waits.{Started}
use Rattle.report_text.specs.Reports.{ReportState, IsReportOf, GoesOn}
use Rattle.run_answer.specs.Run.{IsReport, IsSummary, summary_line}

module _ (t : Parts) (limits : IsTrace t) {E : Type 0} where
  -- what a machine answers before its first event
  pub ready_report : RunsKeepTheirPromise → (r : Result MachineState E) → IfOk r (λ m. m.trace ≡ t)
      → IfOk r (λ m. IsReport t (report_text (run_of m.trace.header m.trace.events)))
  ready_report laws (Ok m) e =
      record { limits = limits; is = ap (λ (u : Parts). report_text (run_of u.header u.events)) e; promise = laws t.header t.events (all_of_cores t limits) }
  ready_report laws (Err x) e = tt

  -- the same for the last line alone
  pub ready_summary : RunsKeepTheirPromise → (r : Result MachineState E) → IfOk r (λ m. m.trace ≡ t) → IfOk r (λ m. IsSummary t (summary_line m))
  unfolding summary_line
  ready_summary laws (Ok m) e = record {
    limits = limits;
    is = ap (λ (u : Parts). summary_text (summary (run_of u.header u.events))) e;
    promise = laws t.header t.events (all_of_cores t limits);
  }
  ready_summary laws (Err x) e = tt

  pub ready_printable : (r : Result MachineState E) → IfOk r (λ m. m.trace ≡ t) → IfOk r (λ m. m.log ≡ [])
      → IfOk r (λ m. (m.log ≡ []) × (length m.trace.events ≤ 2 ^ 32))
  ready_printable (Ok m) e f = let same : length m.trace.events ≡ length t.events = ap (λ (u : Parts). length u.events) e in
      (f, omega (arith, same, limits.events))
  ready_printable (Err x) e f = tt

-- the run of some first events is a front of the whole run
run_rest : (h : Header) (w : World) (n : ℕ) (events : List Event) → (more : List Step) × (run_from h w events ≡ run_from h w (take n events) ++ more)
run_rest h w zero events = (run_from h w events, refl)
run_rest h w (suc n) [] = ([], refl)
run_rest h w (suc n) (e ∷ events) = let r = run_rest h (after_event h w e) n events in (r.0, ap (λ (log : List Step). step_of h w e ∷ log) r.1)

-- one step more
pub more : (new old : List Step) (s : Step) (n : ℕ) → new ≡ old ++ s ∷ [] → length old ≡ n → length new ≡ n + 1
more new old s n e l = ap length e ∙ length-append old (s ∷ []) ∙ ap (λ k. k + 1) l

-- a report that has the steps so far has one more, or a first part of the whole was written
module _ {T E : Type 0} (before now : Option (List ℕ)) (report : ReportState) (h : Header) (events : List Event) (old new : List Step) (s : Step)
    (e : new ≡ old ++ s ∷ []) where
  pub one_more : (r : Result T E) → IsOk r → GoesOn before now r report old s → IsReportOf before now report new
  one_more (Ok y) k g = subst (IsReportOf before now report) (sym e) g
  one_more (Err y) k g = cc

  pub part_written : {U F : Type 0} (n : ℕ) → new ≡ run_of h (take n events) → (r : Result T E) (q : Result U F) → IsErr r → IsErr q
      → GoesOn before now r report old s
      → Wrote before now q (report_text (run_of h events))
  part_written n is (Ok y) q k l g = cc
  part_written n is (Err y) (Ok z) k l g = cc
  part_written n is (Err y) (Err z) k l g =
      let rest = run_rest h (opened h) n events in
      let whole : old ++ s ∷ rest.0 ≡ run_of h events =
      sym (append_assoc old (s ∷ []) rest.0) ∙ ap (λ (log : List Step). log ++ rest.0) (sym e ∙ is) ∙ sym rest.1 in
      subst (λ (log : List Step). Started before now (report_text log)) whole (g rest.0)
