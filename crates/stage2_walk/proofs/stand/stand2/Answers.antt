use Rattle.stage2_walk.proofs.Entered.{granule_is, entered}
use Rattle.stage2_walk.proofs.stand.stand2.Goals as goal

pub stand_on-requires-clause-under : goal.stand_on-requires-clause-under
stand_on-requires-clause-under c =
    let e = entered c.args.config.now c.args.ipa c.args.ptw c.in-Ok.sizes (c.in-Ok.ensures.entered c.args.config.now c.sized2.ensures.sized) in
    record { sound = c.in-Ok.ensures.sound; granule = granule_is c.args.config.now c.in-Ok.sizes e.1 }
