use Rattle.std.proofs.Common.{inl, inr, ◌≤◌, ◌∙◌, arith}
use Rattle.dump_file.specs.Held.{reading_of}
use Rattle.dump_file.proofs.Counting.{none_falls}
use Rattle.commands.specs.Asked.{Explain, explain_words_of}
use Rattle.statuses.specs.Stops.{AsDump}
use Rattle.answers.proofs.Passing.{registers_pass}
use Rattle.answers.proofs.Ending.{error_due, stops_later, over_dump}
use Rattle.answers.proofs.explain.explain.Goals as goal

pub returns-in_err-dump-clause-due : goal.returns-in_err-dump-clause-due
returns-in_err-dump-clause-due g c =
    let fall = none_falls c.args.asked.now.registers.now (g.F.Files.faults c.args.files.now) (g.F.Files.faults c.registers.new.files)
    (g.F.Files.missing c.args.files.now) (g.F.Files.missing c.registers.new.files)
    c.registers.ensures.later c.registers.ensures.missing c.registers.ensures.others in
    error_due (reading_of g.F.Files.holds g.F.Files.faults g.F.Files.missing c.args.files.now c.dump.new.files)
    (Explain (explain_words_of c.args.asked.now)) c.from_residual-in_err-dump.result c.in_err-dump.field-0.0 c.from_residual-in_err-dump.ensures.1
    (inr (
      registers_pass (g.F.Files.holds c.args.files.now c.args.asked.now.registers.now) c.in_ok-regs.regs c.in_ok-regs.ensures.registers,
      inl (stops_later (g.F.Files.holds c.args.files.now) (g.F.Files.holds c.registers.new.files)
          (g.F.Files.faults c.args.files.now) (g.F.Files.faults c.registers.new.files) (g.F.Files.faults c.dump.new.files)
          (g.F.Files.missing c.args.files.now) (g.F.Files.missing c.registers.new.files) (g.F.Files.missing c.dump.new.files)
          (record { form = AsDump; name = c.args.asked.now.dump.now }) c.in_err-dump.field-0.0 c.registers.ensures.same
          fall.0 fall.1 c.in_err-dump.ensures.error),
    ))

pub returns-clause-due : goal.returns-clause-due
returns-clause-due g c =
    let fall = none_falls c.args.asked.now.registers.now (g.F.Files.faults c.args.files.now) (g.F.Files.faults c.registers.new.files)
    (g.F.Files.missing c.args.files.now) (g.F.Files.missing c.registers.new.files)
    c.registers.ensures.later c.registers.ensures.missing c.registers.ensures.others in
    let before : g.F.Files.faults c.args.files.now c.args.asked.now.dump.now ≤ g.F.Files.faults c.dump.new.files c.args.asked.now.dump.now =
    (let first = fall.0 c.args.asked.now.dump.now in let second = c.dump.ensures.later in omega arith) in
    over_dump (reading_of g.F.Files.holds g.F.Files.faults g.F.Files.missing c.args.files.now c.answer_over.new.files)
    (explain_words_of c.args.asked.now) c.in_ok-regs.regs (g.F.Files.holds c.dump.new.files) (g.F.Files.faults c.dump.new.files) _ c.answer_over.result
    (c.dump.ensures.same ∙ c.registers.ensures.same) c.in_ok-dump.ensures.dump.0 before c.in_ok-regs.ensures.registers
    c.answer_over.ensures.text c.answer_over.ensures.fault
