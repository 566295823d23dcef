-- What the code has before anything is written, as what is due.
use Rattle.std.specs.Prelude.{ℕ, List, Result, Ok, Err}
use Rattle.walk_spec.specs.Walked.{HasLine}
use Rattle.explain_text.specs.Explained.{explain_text}
use Rattle.run_answer.specs.Run.{run_text, summary_line, IsReady}
use Rattle.answers.specs.Texts.{raw_text}
use Rattle.answers.specs.Answers.{Due}
use Rattle.answers.specs.declared.answer.Answer.{Answer}
use Rattle.answers.specs.declared.answer.Answer.TheVariants.{Raw, Explain, Run, Drill}
use Rattle.statuses.specs.declared.status.Status.{Status}

-- the text of an answer
abbrev pub answer_text : Answer → List ℕ
answer_text (Raw va walked) = raw_text va walked.trail walked.outcome
answer_text (Explain regs access walked) = explain_text regs access walked.trail walked.outcome
answer_text (Run machine) = run_text machine
answer_text (Drill machine) = summary_line machine

-- the outcome of a walk has a line; a machine is before its first event
abbrev pub HasAnswerText : Answer → Type 0
HasAnswerText (Raw va walked) = HasLine walked.outcome
HasAnswerText (Explain regs access walked) = HasLine walked.outcome
HasAnswerText (Run machine) = IsReady machine
HasAnswerText (Drill machine) = IsReady machine

-- an answer's text, or a refusal
abbrev pub due_of : Result Answer Status → Due
due_of (Ok answer) = Ok (answer_text answer)
due_of (Err status) = Err status
