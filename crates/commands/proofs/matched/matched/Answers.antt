use Rattle.commands.proofs.matched.matched.Goals as goal

pub returns-in-Ok : goal.returns-in-Ok
returns-in-Ok c = (c.in-Ok.ensures.kinds c.requires.free, (c.in-Ok.ensures.matches c.requires.simple).0)
