use Rattle.translate.proofs.stand.+stand1.Given as goal

abbrev pub decreases-stand1 : goal.decreases-stand1
decreases-stand1 g l = l.left
