use Rattle.std.proofs.Common.{◌≡◌, ◌<◌, length, get_or, set, ap, subst, Some}
use Rattle.trails.specs.declared.event.Event.{Event}
use Rattle.trails.specs.declared.event.Event.TheVariants.{Access as AccessOf, Prefetch}
use Rattle.phys_mem.specs.Words.{memory_of}
use Rattle.machine_spec.specs.Machine.{World, Core, no_core, moved, answer_to}
use Rattle.machine.specs.Seats.{IsSeatOf, world_with, AreMoved}
use Rattle.machine.proofs.Acts.{seat_at, one_here, access_own, access_other, prefetch_own, prefetch_other, by_asked}
use Rattle.machine.proofs.act.answer.Goals as goal

pub returns-clause-answer : goal.returns-clause-answer
unfolding answer_to
returns-clause-answer c h cores e is are can =
    let w : World = world_with c.args.moment (memory_of c.args.phys.now) cores in
    let j = c.args.core in
    let here : j < length cores = subst (λ n. j < n) are.count c.requires in
    let by_walk = ap Some (c.access.ensures.answer h cores j (get_or cores j no_core)
    (seat_at h cores c.args.seats.now j c.index-seats-core.result c.requires are) (can j here)) in
    by_asked (λ (v : Event). Some c.access.new.answer ≡ answer_to h w v) j c.args.access.now by_walk by_walk e is

pub returns-clause-cores : goal.returns-clause-cores
returns-clause-cores c h cores e is are can =
    let s = c.args.seats.now in
    let w : World = world_with c.args.moment (memory_of c.args.phys.now) cores in
    let j = c.args.core in
    let a = c.args.access.now in
    let x = c.index-seats-core.result in
    let new = c.access.new.self in
    let v : Core = get_or cores j no_core in
    let here : j < length cores = subst (λ n. j < n) are.count c.requires in
    by_asked (λ (v : Event). AreMoved h w v (set s j new)) j a
    (λ d lt. one_here h cores (moved h w (AccessOf j a)) s j x new c.requires are
    (λ t. subst (λ (u : Core). IsSeatOf h j u new) (access_own h w j a v) (c.access.ensures.core h cores j v t (can j here)))
    (λ k v ne. access_other h w j a k v ne) d lt)
    (λ d lt. one_here h cores (moved h w (Prefetch j a)) s j x new c.requires are
    (λ t. subst (λ (u : Core). IsSeatOf h j u new) (prefetch_own h w j a v) (c.access.ensures.core h cores j v t (can j here)))
    (λ k v ne. prefetch_other h w j a k v ne) d lt) e is

pub returns-clause-text : goal.returns-clause-text
returns-clause-text c h cores are can =
    let j = c.args.core in
    c.access.ensures.text h j (get_or cores j no_core) (seat_at h cores c.args.seats.now j c.index-seats-core.result c.requires are)
    (can j (subst (λ n. j < n) are.count c.requires))
