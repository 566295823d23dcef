use Rattle.std.proofs.Common.{rules, arith, ◌≡◌, ◌+◌, List, length, take, ap, sym, ◌∙◌, subst, refl}
use Rattle.trails.specs.declared.step.Step.{Step}
use Rattle.machine_spec.specs.Machine.{run_of}
use Rattle.report_text.specs.Reports.{IsReportOf}
use Rattle.run_answer.proofs.Playing.{more, one_more, part_written}
use Rattle.run_answer.proofs.run.play.Goals as goal

pub loop-k-init : goal.loop-k-init
loop-k-init g c =
    let now = g.O.Sink.written c.args.out.now in record {
      later = omega arith;
      trace = refl;
      count = ap length c.requires.0;
      log = c.requires.0;
      report = subst (λ (log : List Step). IsReportOf now now c.new-report.result log) (sym c.requires.0) (c.new-report.ensures now);
    }

pub loop-k-preserved : goal.loop-k-preserved
loop-k-preserved g c =
    let i = c.loop-k.invariant in
    let t = c.args.machine.now.trace in
    let s = c.step in
    let count : length s.new.self.log ≡ c.loop-k.k + 1 = more s.new.self.log c.loop-k.machine.log s.new.slot c.loop-k.k s.ensures.log i.count in
    record {
      later = search rules;
      trace = s.ensures.trace ∙ i.trace;
      count = count;
      log = s.ensures.run ∙ ap (λ u. run_of u.header (take (length s.new.self.log) u.events)) i.trace ∙ ap (λ n. run_of t.header (take n t.events)) count;
      report =
          one_more _ _ c.step-in-loop-k.new.self t.header t.events c.loop-k.machine.log s.new.self.log s.new.slot s.ensures.log
          c.step-in-loop-k.result (search rules) (c.step-in-loop-k.ensures.text _ c.loop-k.machine.log i.report);
    }

pub returns-in_err-step-clause-text : goal.returns-in_err-step-clause-text
returns-in_err-step-clause-text g c =
    let i = c.loop-k.invariant in
    let t = c.args.machine.now.trace in
    let s = c.step in
    let count : length s.new.self.log ≡ c.loop-k.k + 1 = more s.new.self.log c.loop-k.machine.log s.new.slot c.loop-k.k s.ensures.log i.count in
    let run : s.new.self.log ≡ run_of t.header (take (c.loop-k.k + 1) t.events) =
    s.ensures.run ∙ ap (λ u. run_of u.header (take (length s.new.self.log) u.events)) i.trace ∙ ap (λ n. run_of t.header (take n t.events)) count in
    part_written _ _ c.step-in-loop-k.new.self t.header t.events c.loop-k.machine.log s.new.self.log s.new.slot s.ensures.log (c.loop-k.k + 1) run
    c.step-in-loop-k.result c.from_residual.result (search rules) (search rules) (c.step-in-loop-k.ensures.text _ c.loop-k.machine.log i.report)
