use Rattle.std.proofs.Common.{rules}
use Rattle.reg_file.proofs.Accepted.{answer_accepted}
use Rattle.reg_file.proofs.reading.read.Goals as goal

pub returns-clause-accepted : goal.returns-clause-accepted
returns-clause-accepted c = answer_accepted c.args.bytes.now c.registers.result (search (rules, c.registers.ensures))
