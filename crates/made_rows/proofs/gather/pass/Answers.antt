use Rattle.made_rows.proofs.gather.pass.Goals as goal

pub returns-in-S2-Base-clause-passed : goal.returns-in-S2-Base-clause-passed
returns-in-S2-Base-clause-passed c = λ _. c.pass_base2.ensures.passed c.args.making.now
