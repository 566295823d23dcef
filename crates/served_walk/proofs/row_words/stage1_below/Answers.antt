use Rattle.std.proofs.Common.{refl}
use Rattle.served_walk.proofs.RowStage.{stage1_same, stage1_gave}
use Rattle.served_walk.proofs.row_words.stage1_below.Goals as goal

pub returns-clause-same : goal.returns-clause-same
returns-clause-same g c =
    stage1_same g.F.Finds.holds g.F.Finds.row_at c.args.words.now.scene.now c.args.access.now _ _ c.args.words.now _ _ _ _ refl c.walk1_from.ensures.walked

pub returns-clause-gave : goal.returns-clause-gave
returns-clause-gave g c =
    stage1_gave g.F.Finds.holds g.F.Finds.row_at c.args.words.now.scene.now c.args.access.now _ _ c.args.words.now _ _ _ _ refl c.walk1_from.ensures.walked
