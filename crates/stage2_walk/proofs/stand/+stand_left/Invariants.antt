use Rattle.stage2_walk.proofs.stand.+stand_left.Given as goal

abbrev pub decreases-stand_left : goal.decreases-stand_left
decreases-stand_left g l = l.left
