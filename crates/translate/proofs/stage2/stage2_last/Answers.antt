use Rattle.std.proofs.Common.{refl, ap, Err}
use Rattle.sysregs.specs.Registers.{config_of}
use Rattle.trails.specs.declared.outcome.Stop.TheVariants.{Fault as FaultStop}
use Rattle.stage2_walk.proofs.Accepted.{accepted_sizes}
use Rattle.stage2_walk.proofs.Entered.{entered, refused, granule_is}
use Rattle.translate.proofs.Begun.{walked_refused2, walked_large2, came_from2}
use Rattle.translate.proofs.Entering.{base_there2}
use Rattle.translate.proofs.stage2.stage2_last.Goals as goal

pub returns-in-Err-clause-came : goal.returns-in-Err-clause-came
returns-in-Err-clause-came g c =
    let r = c.args.under.now.regs in
    let h = refused (config_of r) c.args.ipa c.args.ptw c.in-Err.fault (c.in-Err.ensures.entered (config_of r) c.start2-start.ensures.sized) in
    walked_refused2 c.args.under.now (g.S.Supply.memory c.args.supply.now) c.args.ptw c.args.ipa _ c.args.trail.now _ _ h.0 refl
    (ap (λ f. Err (FaultStop f)) h.1)

pub returns-in-Err-keep_root-clause-came : goal.returns-in-Err-keep_root-clause-came
returns-in-Err-keep_root-clause-came g c =
    let r = c.args.under.now.regs in
    let e = entered (config_of r) c.args.ipa c.args.ptw c.in-Ok.sizes (c.in-Ok.ensures.entered (config_of r) c.start2-start.ensures.sized) in
    let b = base_there2 r _ c.start2-start.ensures (accepted_sizes (config_of r) c.args.ipa e.0) in
    let s = c.in-Err-keep_root.ensures.small in
    walked_large2 c.args.under.now (g.S.Supply.memory c.args.supply.now) c.args.ptw c.args.ipa e.0 c.args.trail.now _
    (rw (c.walker.ensures, c.moment.ensures, e.1, b.0) at c.in-Err-keep_root.ensures.item) _ _ (rw (e.1, b.0) at s.0)
    (ap (λ f. Err (FaultStop f)) (rw c.walker.ensures at s.1))

pub walk2_last-requires-clause-under : goal.walk2_last-requires-clause-under
walk2_last-requires-clause-under g c =
    let r = c.args.under.now.regs in
    let e = entered (config_of r) c.args.ipa c.args.ptw c.in-Ok.sizes (c.in-Ok.ensures.entered (config_of r) c.start2-start.ensures.sized) in
    record { sound = c.in-Ok.ensures.sound; granule = rw c.config.ensures.same (granule_is (config_of r) c.in-Ok.sizes e.1) }

pub walk2_last-requires-clause-table : goal.walk2_last-requires-clause-table
walk2_last-requires-clause-table g c =
    let r = c.args.under.now.regs in
    let e = entered (config_of r) c.args.ipa c.args.ptw c.in-Ok.sizes (c.in-Ok.ensures.entered (config_of r) c.start2-start.ensures.sized) in
    let b = base_there2 r _ c.start2-start.ensures (accepted_sizes (config_of r) c.args.ipa e.0) in
    (b.1, b.2)

pub returns-clause-came : goal.returns-clause-came
returns-clause-came g c =
    let r = c.args.under.now.regs in
    let e = entered (config_of r) c.args.ipa c.args.ptw c.in-Ok.sizes (c.in-Ok.ensures.entered (config_of r) c.start2-start.ensures.sized) in
    let sized = accepted_sizes (config_of r) c.args.ipa e.0 in
    let b = base_there2 r _ c.start2-start.ensures sized in
    came_from2 c.args.under.now (g.S.Supply.memory c.args.supply.now) c.args.ptw c.args.ipa e.0 c.args.trail.now _
    (rw (c.walker.ensures, c.moment.ensures, e.1, b.0) at c.in_default.ensures.item)
    (record { config = c.config.result; ipa = c.args.ipa; sizes = c.in-Ok.sizes; moment = c.moment.result; s1ptw = c.args.ptw }) _ _
    (λ i. record { config = c.config.ensures.same i; sizes = e.1 i; s1ptw = c.args.ptw; ipa = c.args.ipa })
    c.moment.ensures (ap (λ n. n.start) e.1) b.0 sized (rw (e.1, b.0) at c.in_default.ensures.small) _ _ _ c.walk2_last.ensures.down
