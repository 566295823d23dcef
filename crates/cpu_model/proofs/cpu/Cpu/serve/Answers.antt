use Rattle.std.proofs.Common.{◌≡◌, List, map, sym, ap, ◌∙◌, subst}
use Rattle.std.specs.List.{list_any}
use Rattle.sysregs.specs.Registers.{asid_of, vmid_of}
use Rattle.sysregs.specs.Sides.{side_of}
use Rattle.trails.specs.declared.item.Item.{Item}
use Rattle.trails.specs.declared.outcome.Access.{Access}
use Rattle.trails.specs.declared.step.Answer.{Answer}
use Rattle.trace_lang.specs.Traces.{Header}
use Rattle.phys_mem.specs.Words.{memory_of}
use Rattle.tagged_tlb.specs.declared.row.Kind.TheVariants.{Leaf1}
use Rattle.tagged_tlb.specs.declared.row.Row.{Row}
use Rattle.tagged_tlb.specs.Sets.{Cache}
use Rattle.machine_spec.specs.Allowed.{is_earlier, is_changed}
use Rattle.machine_spec.specs.Machine.{Visit, Visited, visited, is_old, is_stale}
use Rattle.served_walk.specs.Meets.{service_row, MayMeet}
use Rattle.walk_cache.specs.ByKind.{AreCachesOf}
use Rattle.walk_cache.specs.Holds.{HoldRows}
use Rattle.walk_cache.specs.Services.{AreServices}
use Rattle.cpu_model.specs.Cores.{CoreState, AreCaches, CanServe, visit_at}
use Rattle.cpu_model.specs.Filled.{FilledBy, IsFilled, made_of}
use Rattle.cpu_model.specs.Judged.{HaveSizes}
use Rattle.cpu_model.proofs.Noted.{some_row, services_are, at}
use Rattle.cpu_model.proofs.Visits.{CameStep, came_step, clash_step}
use Rattle.cpu_model.proofs.cpu.Cpu.serve.Goals as goal

pub returns-then-is_conflict-clause-answer : goal.returns-then-is_conflict-clause-answer
returns-then-is_conflict-clause-answer c =
    let s = c.self.inside in
    let core : CoreState = record { number = s.number; bank = record { regs = s.force; queue = s.queue.items }; caches = s.caches } in
    let k = c.served_access-answer in
    rw (
      ← c.self.view_is,
      c.asid-answer.ensures,
      c.vmid-answer.ensures,
      c.regs.ensures,
      c.regs-2.ensures,
      c.is_old-answer.ensures,
      c.items-trail.ensures.items,
    ) (λ h l held can.
    let v : Visit = visit_at h core l (memory_of c.args.phys.now) c.args.moment in
    let given = k.ensures.served l.rows record { held = (h, s.number, l.evictions, held); small = can.small; servable = can.servable } (some_row Leaf1) in
    ap (λ (x : Visited). x.answer) (clash_step v c.args.access.now can.servable k.new.first k.new.second k.result _ given.1
    (sym c.is_conflict.ensures ∙ c.if-is_conflict.true)))

pub returns-then-is_conflict-clause-rows : goal.returns-then-is_conflict-clause-rows
returns-then-is_conflict-clause-rows c =
    let s = c.self.inside in
    let core : CoreState = record { number = s.number; bank = record { regs = s.force; queue = s.queue.items }; caches = s.caches } in
    let k = c.served_access-answer in
    rw (← c.self.view_is) (λ h l held can.
    let v : Visit = visit_at h core l (memory_of c.args.phys.now) c.args.moment in
    let given = k.ensures.served l.rows record { held = (h, s.number, l.evictions, held); small = can.small; servable = can.servable } (some_row Leaf1) in
    subst (λ (x : Cache). AreCaches h s.number x core)
    (ap (λ (x : Visited). x.cache) (clash_step v c.args.access.now can.servable k.new.first k.new.second k.result _ given.1
    (sym c.is_conflict.ensures ∙ c.if-is_conflict.true))) held)

-- an access that is no conflict, and the rows of its step
module _ (c : goal.After-answer-4-1) (h : Header) (l : Cache) where
  abbrev core : CoreState
  core = record {
    number = c.self.inside.number;
    bank = record { regs = c.self.inside.force; queue = c.self.inside.queue.items };
    caches = c.self.inside.caches;
  }

  abbrev v : Visit
  v = visit_at h core l (memory_of c.args.phys.now) c.args.moment

  abbrev a : Access
  a = c.args.access.now

  abbrev first : List Item
  first = c.served_access-answer.new.first

  module _ (held : AreCaches h core.number l core) (can : CanServe c.args.moment l.rows) where
    abbrev by : List Row
    by = map (service_row (at h.size l.rows core.caches.sets held.tied (some_row Leaf1))) c.served_access-answer.new.met.services.items

    abbrev meets : MayMeet (HoldRows core.caches) c.args.moment l.rows
    meets = record { held = (h, core.number, l.evictions, held); small = can.small; servable = can.servable }

    came : CameStep v a first c.served_access-answer.new.second c.served_access-answer.result by
    came = came_step v a can.servable first c.served_access-answer.new.second c.served_access-answer.result by
        (c.served_access-answer.ensures.served l.rows meets (some_row Leaf1)).1 (sym c.is_conflict.ensures ∙ c.if-is_conflict.false)

    services : AreServices h.size l.rows c.served_access-answer.new.met.services.items by
    services = services_are h.size l.rows core.caches.sets held.tied c.served_access-answer.new.met.services.items
        (λ d. (c.served_access-answer.ensures.served l.rows meets d).0) (some_row Leaf1)

    stale_is : c.is_stale-answer.result ≡ is_stale v.place a first
    stale_is =
        c.is_stale-answer.ensures
        (subst (λ s. HaveSizes core.bank.regs s c.items-trail.result.now) (sym c.side.ensures)
        (subst (HaveSizes core.bank.regs (side_of a.va)) (sym c.items-trail.ensures.items) came.sizes))
        ∙ ap (λ s. list_any (is_changed core.bank.regs s (memory_of c.args.phys.now)) c.items-trail.result.now) c.side.ensures
        ∙ ap (list_any (is_changed core.bank.regs (side_of a.va) (memory_of c.args.phys.now))) c.items-trail.ensures.items

    abbrev Fill : CoreState → List Item → Type 0
    Fill x z =
        FilledBy x c.args.moment record { access = c.args.access; trail = record (c.items-trail.result) { now = z }; is_mapped = c.is_mapping.result }
        c.served_access-answer.new.met.services.items c.fill-answer.result c.fill-answer.new.self.caches

    filled_is : IsFilled h core.number l by (made_of core.bank.regs c.args.moment a first came.end) c.fill-answer.result c.fill-answer.new.self.caches
    filled_is =
        subst (Fill core) c.items-trail.ensures.items (subst (λ x. Fill x c.items-trail.result.now) (sym c.self.view_is) c.fill-answer.ensures.filled)
        h l by came.end held can.servable.told services record { stands = came.stands; mapped = c.is_mapping.ensures ∙ came.mapped }

    asid_is : c.asid-answer.result ≡ asid_of core.bank.regs
    asid_is = c.asid-answer.ensures ∙ ap asid_of c.regs.ensures

    vmid_is : c.vmid-answer.result ≡ vmid_of core.bank.regs
    vmid_is = c.vmid-answer.ensures ∙ ap vmid_of c.regs-2.ensures

    old_is : c.is_old-answer.result ≡ is_old v.place first
    old_is = c.is_old-answer.ensures ∙ ap (list_any (is_earlier c.args.moment)) c.items-trail.ensures.items

    abbrev told : Answer
    told = record {
      asid = c.asid-answer.result;
      vmid = c.vmid-answer.result;
      outcome = c.served_access-answer.result;
      first = first;
      second = c.served_access-answer.new.second;
      old = c.is_old-answer.result;
      stale = c.is_stale-answer.result;
      evicted = c.fill-answer.result;
    }

    answer_is : told ≡ (visited v a).answer
    answer_is =
        (λ j. record {
          asid = asid_is j;
          vmid = vmid_is j;
          outcome = c.served_access-answer.result;
          first = first;
          second = c.served_access-answer.new.second;
          old = old_is j;
          stale = stale_is j;
          evicted = c.fill-answer.result;
        }) ∙ came.answer c.fill-answer.result filled_is.count

    cache_is : AreCachesOf h core.number (visited v a).cache c.fill-answer.new.self.caches
    cache_is = subst (λ (x : Cache). AreCachesOf h core.number x c.fill-answer.new.self.caches) came.cache filled_is.caches

pub returns-clause-answer : goal.returns-clause-answer
returns-clause-answer c =
    subst (λ (x : CoreState). (h : Header) → (l : Cache) → AreCaches h x.number l x → CanServe c.args.moment l.rows → record {
      asid = c.asid-answer.result;
      vmid = c.vmid-answer.result;
      outcome = c.served_access-answer.result;
      first = c.served_access-answer.new.first;
      second = c.served_access-answer.new.second;
      old = c.is_old-answer.result;
      stale = c.is_stale-answer.result;
      evicted = c.fill-answer.result;
    } ≡ (visited (visit_at h x l (memory_of c.args.phys.now) c.args.moment) c.args.access.now).answer) c.self.view_is (answer_is c)

pub returns-clause-rows : goal.returns-clause-rows
returns-clause-rows c =
    subst (λ (x : CoreState). (h : Header) → (l : Cache) → AreCaches h x.number l x → CanServe c.args.moment l.rows →
    AreCachesOf h x.number (visited (visit_at h x l (memory_of c.args.phys.now) c.args.moment) c.args.access.now).cache
    c.fill-answer.new.self.caches) c.self.view_is (cache_is c)
