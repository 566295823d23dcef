use Rattle.machine_laws.proofs.WrongRuns.{wrong_answers_are_refused}
use Rattle.machine_laws.proofs.not_allowed.wrong_answers_are_refused.Goals as goal

pub returns : goal.returns
returns c = wrong_answers_are_refused
