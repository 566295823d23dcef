use Rattle.std.proofs.Common.{◌≡◌, ◌<◌, length, get_or, ap, subst}
use Rattle.tlbi_ops.specs.Operands.{inval_of}
use Rattle.tlbi_ops.specs.declared.inval.Inval.{Inval}
use Rattle.trails.specs.declared.event.Event.TheVariants.{Msr, Settle, Isb, Deliver}
use Rattle.phys_mem.specs.Words.{memory_of}
use Rattle.machine_spec.specs.Invalidations.{is_at_el1}
use Rattle.machine_spec.specs.Moments.{Bank}
use Rattle.machine_spec.specs.Machine.{World, Core, no_core, regs_in, moved}
use Rattle.machine.specs.Seats.{no_seat, IsSeatOf, world_with}
use Rattle.machine.proofs.Acts.{one_at, msr_own, msr_other, settle_own, settle_other, isb_own, isb_other, deliver_own, deliver_other}
use Rattle.machine.proofs.Acts.{dsb_each, tlbi_each, store_each}
use Rattle.machine.proofs.act.act.Goals as goal

pub returns-in-Store-clause-cores : goal.returns-in-Store-clause-cores
returns-in-Store-clause-cores c h cores are =
    let w : World = world_with c.args.moment (memory_of c.args.phys.now) cores in
    rw c.in-Store.is (λ d lt.
    subst (λ (u : Core). IsSeatOf h d u (get_or c.args.seats.now d no_seat))
    (store_each h w c.in-Store.core c.in-Store.pa c.in-Store.value d (get_or cores d no_core)) (are.each d lt))

pub returns-in-Msr-clause-cores : goal.returns-in-Msr-clause-cores
returns-in-Msr-clause-cores c h cores are =
    let w : World = world_with c.args.moment (memory_of c.args.phys.now) cores in
    let new = c.msr.new.self in
    rw c.in-Msr.is (λ d lt.
    one_at h cores (moved h w (Msr c.in-Msr.core c.in-Msr.reg c.in-Msr.value)) c.args.seats.now c.in-Msr.core c.index-seats-core.result new
    (rw c.in-Msr.is at c.requires.here) are
    (λ v t. subst (λ (u : Core). IsSeatOf h c.in-Msr.core u new) (msr_own h w c.in-Msr.core c.in-Msr.reg c.in-Msr.value v)
    (c.msr.ensures h c.in-Msr.core v t))
    (λ k v ne. msr_other h w c.in-Msr.core c.in-Msr.reg c.in-Msr.value k v ne) d lt)

pub returns-in-Settle-clause-cores : goal.returns-in-Settle-clause-cores
returns-in-Settle-clause-cores c h cores are =
    let w : World = world_with c.args.moment (memory_of c.args.phys.now) cores in
    let new = c.settle.new.self in
    rw c.in-Settle.is (λ d lt.
    one_at h cores (moved h w (Settle c.in-Settle.core)) c.args.seats.now c.in-Settle.core c.index-seats-core-in-Settle.result new
    (rw c.in-Settle.is at c.requires.here) are
    (λ v t. subst (λ (u : Core). IsSeatOf h c.in-Settle.core u new) (settle_own h w c.in-Settle.core v) (c.settle.ensures h c.in-Settle.core v t))
    (λ k v ne. settle_other h w c.in-Settle.core k v ne) d lt)

pub returns-in-Isb-clause-cores : goal.returns-in-Isb-clause-cores
returns-in-Isb-clause-cores c h cores are =
    let w : World = world_with c.args.moment (memory_of c.args.phys.now) cores in
    let new = c.isb.new.self in
    rw c.in-Isb.is (λ d lt.
    one_at h cores (moved h w (Isb c.in-Isb.core)) c.args.seats.now c.in-Isb.core c.index-seats-core-in-Isb.result new (rw c.in-Isb.is at c.requires.here) are
    (λ v t. subst (λ (u : Core). IsSeatOf h c.in-Isb.core u new) (isb_own h w c.in-Isb.core v) (c.isb.ensures h c.in-Isb.core v t))
    (λ k v ne. isb_other h w c.in-Isb.core k v ne) d lt)

pub returns-in-Tlbi-clause-cores : goal.returns-in-Tlbi-clause-cores
returns-in-Tlbi-clause-cores c h cores are =
    let w : World = world_with c.args.moment (memory_of c.args.phys.now) cores in
    let t = c.in-Tlbi in
    let new = c.issue.new.seats in
    let here : t.core < length c.args.seats.now = rw c.in-Tlbi.is at c.requires.here in
    let i : Inval = inval_of t.op t.shared (is_at_el1 t.from) t.operand (get_or c.args.seats.now t.core no_seat).core.bank.regs t.core c.args.moment in
    let e : i ≡ inval_of t.op t.shared (is_at_el1 t.from) t.operand (regs_in w t.core) t.core c.args.moment =
    ap (λ (b : Bank). inval_of t.op t.shared (is_at_el1 t.from) t.operand b.regs t.core c.args.moment) (are.each t.core here).bank in
    rw c.in-Tlbi.is (λ d lt.
    let v = get_or cores d no_core in
    let old : d < length c.args.seats.now = subst (λ n. d < n) c.issue.auto.seats lt in
    subst (λ (u : Core). IsSeatOf h d u (get_or new d no_seat)) (tlbi_each h w t.core t.from t.op t.shared t.operand i e d v)
    (c.issue.ensures h d v old (are.each d old)))

pub returns-in-Dsb-clause-cores : goal.returns-in-Dsb-clause-cores
returns-in-Dsb-clause-cores c h cores are =
    let w : World = world_with c.args.moment (memory_of c.args.phys.now) cores in
    let new = c.finish_all.new.seats in
    rw c.in-Dsb.is (λ d lt.
    let v = get_or cores d no_core in
    let old : d < length c.args.seats.now = subst (λ n. d < n) c.finish_all.auto.seats lt in
    subst (λ (u : Core). IsSeatOf h d u (get_or new d no_seat)) (dsb_each h w c.in-Dsb.core c.in-Dsb.kind d v)
    (c.finish_all.ensures h d v old (are.each d old)))

pub returns-in-Deliver-clause-cores : goal.returns-in-Deliver-clause-cores
returns-in-Deliver-clause-cores c h cores are =
    let w : World = world_with c.args.moment (memory_of c.args.phys.now) cores in
    let new = c.deliver.new.self in
    rw c.in-Deliver.is (λ d lt.
    one_at h cores (moved h w (Deliver c.in-Deliver.core)) c.args.seats.now c.in-Deliver.core c.index-seats-core-in-Deliver.result new
    (rw c.in-Deliver.is at c.requires.here) are
    (λ v t. subst (λ (u : Core). IsSeatOf h c.in-Deliver.core u new) (deliver_own h w c.in-Deliver.core v) (c.deliver.ensures h c.in-Deliver.core v t))
    (λ k v ne. deliver_other h w c.in-Deliver.core k v ne) d lt)
