use Rattle.std.proofs.Common.{map, string_bytes, Some, option_map, ap, ◌∙◌, ◌≡◌, subst}
use Rattle.dump_file.specs.Held.{reading_of}
use Rattle.commands.specs.Asked.{Drill, asked_of, drill_words_of}
use Rattle.commands.specs.Command.{command_of}
use Rattle.answers.specs.Answers.{IsDue}
use Rattle.answers.specs.Due.{due_of}
use Rattle.answers.proofs.Ending.{memory_due}
use Rattle.top_call.proofs.call.due.Goals as goal

pub returns-in-Err-clause-due : goal.returns-in-Err-clause-due
returns-in-Err-clause-due g c =
    memory_due (reading_of g.F.Files.holds g.F.Files.faults g.F.Files.missing c.args.files.now c.args.files.now)
    (command_of (map string_bytes c.args.words.now))

pub returns-in-Ok-Some-Drill-clause-due : goal.returns-in-Ok-Some-Drill-clause-due
returns-in-Ok-Some-Drill-clause-due g c =
    let i = c.in-Ok-Some-Drill in
    let r = reading_of g.F.Files.holds g.F.Files.faults g.F.Files.missing c.args.files.now c.args.files.now in
    let is : Some (Drill (drill_words_of i.asked)) ≡ command_of (map string_bytes c.args.words.now) =
    subst (λ f. option_map asked_of f ≡ command_of (map string_bytes c.args.words.now)) (i.field-0-is ∙ ap Some i.field-0-0-is) i.ensures in
    subst (λ asked. IsDue r asked (due_of c.drill.result)) is (c.drill.ensures.due r)
