-- What an access leaves, by how its service halted.
use Rattle.std.proofs.Common.{◌≡◌, ℕ, ◌+◌, ◌-◌, true, false, List, refl, sym, ap, ◌∙◌, subst, arith, Option, Some, None}
use Rattle.trails.specs.declared.item.Item.{Item}
use Rattle.trails.specs.declared.outcome.Access.{Access}
use Rattle.trails.specs.declared.outcome.Outcome.{Outcome}
use Rattle.trails.specs.declared.outcome.Outcome.TheVariants.{Conflict}
use Rattle.trails.specs.Printed.{HasTextInRun}
use Rattle.walk_spec.specs.Ask.{Fed, ended, lacks}
use Rattle.walk_spec.specs.Needs.{Need, stage1_base, stage2_base, word}
use Rattle.walk_spec.specs.Steps.{End, stops, reaches}
use Rattle.walk_spec.specs.BothStages.{Landing}
use Rattle.walk_spec.specs.Fresh.{fed_outcome}
use Rattle.tagged_tlb.specs.declared.row.Row.{Row}
use Rattle.tagged_tlb.specs.Sets.{filled}
use Rattle.machine_spec.specs.Allowed.{is_conflict}
use Rattle.machine_spec.specs.Machine.{Visit, Visited, visited, visited_by, is_old, is_stale}
use Rattle.machine_spec.specs.Served.{Reply, Halt, came, clash, served}
use Rattle.served_walk.specs.Shows.{Shows, ShowsHalt}
use Rattle.sysregs.specs.Registers.{config_of, asid_of, vmid_of}
use Rattle.sysregs.specs.Sides.{side_of}
use Rattle.translate.specs.Replayed.{stands_whole}
use Rattle.served_walk.specs.CanServe.{AreServable}
use Rattle.made_rows.specs.NewRows.{StandsTo, is_mapping, is_mapped}
use Rattle.made_rows.proofs.Stood.{served_stands, bases_sized}
use Rattle.made_rows.proofs.Told.{served_text}
use Rattle.cpu_model.specs.Filled.{made_of}
use Rattle.cpu_model.specs.Judged.{HaveSizes}

-- an outcome is a translation where its walk came to one
pub mapped_is : (end : Fed Need (End Landing)) → is_mapping (fed_outcome end) ≡ is_mapped end
mapped_is (ended (stops f)) = refl
mapped_is (ended (reaches l)) = refl
mapped_is (lacks stage1_base) = refl
mapped_is (lacks (stage2_base x)) = refl
mapped_is (lacks (word w)) = refl

module _ (v : Visit) (a : Access) where
  abbrev pub reply : Reply
  reply = served v.place a

  at_halt : (halt : Halt) → reply.halt ≡ halt → visited v a ≡ visited_by v a reply halt
  at_halt halt e = ap (visited_by v a reply) e

  -- each answer has a text
  text_by : (halt : Halt) → reply.halt ≡ halt → HasTextInRun (Some (visited_by v a reply halt).answer)
  text_by (came end) e = served_text v.place a end e
  text_by (clash one two) e = tt

  pub visited_text : HasTextInRun (Some (visited v a).answer)
  visited_text = text_by reply.halt refl

  module _ (first : List Item) (second : Option (List Item)) (o : Outcome) where
    abbrev pub at_conflict : Visited
    at_conflict = record {
      answer = record {
        asid = asid_of v.place.regs;
        vmid = vmid_of v.place.regs;
        outcome = o;
        first = first;
        second = second;
        old = is_old v.place first;
        stale = false;
        evicted = 0;
      };
      cache = v.cache;
    }

    clash_by : (halt : Halt) → reply.halt ≡ halt → ((end : Fed Need (End Landing)) → reply.halt ≡ came end
        → is_conflict (fed_outcome end) ≡ false)
        → is_conflict o ≡ true → ShowsHalt reply.items halt first second o → at_conflict ≡ visited_by v a reply halt
    clash_by (came end) e alone c s = (let f = alone end e in let g : is_conflict (fed_outcome end) ≡ true = subst (λ z. is_conflict z ≡ true) s.2 c in
        absurd cc)
    clash_by (clash one two) e alone c s = rw (s.0, s.1, s.2) refl

    -- a conflict leaves the rows
    pub clashed : ((end : Fed Need (End Landing)) → reply.halt ≡ came end → is_conflict (fed_outcome end) ≡ false) → is_conflict o ≡ true
        → ShowsHalt reply.items reply.halt first second o → at_conflict ≡ visited v a
    clashed alone c s = clash_by reply.halt refl alone c s

    -- else it came to an end
    pub record Came : Type 0 where
      pub end : Fed Need (End Landing)
      pub halt : reply.halt ≡ came end
      pub first_is : first ≡ reply.items
      pub second_is : second ≡ None
      pub outcome : o ≡ fed_outcome end

    came_by : (halt : Halt) → reply.halt ≡ halt → is_conflict o ≡ false → ShowsHalt reply.items halt first second o → Came
    came_by (came end) e c s = record { end = end; halt = e; first_is = s.0; second_is = s.1; outcome = s.2 }
    came_by (clash one two) e c s = (let f : is_conflict Conflict ≡ false = subst (λ z. is_conflict z ≡ false) s.2 c in absurd cc)

    pub it_came : is_conflict o ≡ false → ShowsHalt reply.items reply.halt first second o → Came
    it_came c s = came_by reply.halt refl c s

    module _ (d : Came) (by : List Row) (served_is : by ≡ reply.by) where
      abbrev pub rows_in : List Row
      rows_in = made_of v.place.regs v.place.step a first d.end

      pub cache_is : filled v.header v.number v.cache by rows_in ≡ (visited v a).cache
      cache_is = rw (d.first_is, served_is) (sym (ap (λ (x : Visited). x.cache) (at_halt (came d.end) d.halt)))

      less : (n m e : ℕ) → m ≡ n + e → e ≡ m - n
      less n m e h = omega (arith, h)

      pub answer_is : (evicted : ℕ) → (filled v.header v.number v.cache by rows_in).evictions ≡ v.cache.evictions + evicted →
          record {
            asid = asid_of v.place.regs;
            vmid = vmid_of v.place.regs;
            outcome = o;
            first = first;
            second = second;
            old = is_old v.place first;
            stale = is_stale v.place a first;
            evicted = evicted;
          } ≡ (visited v a).answer
      answer_is evicted count =
          let e : evicted ≡ (filled v.header v.number v.cache by rows_in).evictions - v.cache.evictions =
          less v.cache.evictions (filled v.header v.number v.cache by rows_in).evictions evicted count in
          rw (e, d.outcome, d.second_is, served_is, d.first_is) (sym (ap (λ (x : Visited). x.answer) (at_halt (came d.end) d.halt)))

-- WHAT CODE SHOWS

-- An access that is no conflict: its trail stands on the walk up to an end, its bases have sizes, and with the rows that served and
-- those that are made it is the visit.
pub record CameStep (v : Visit) (a : Access) (first : List Item) (second : Option (List Item)) (o : Outcome) (by : List Row) : Type 0 where
  pub end : Fed Need (End Landing)
  pub stands : StandsTo (stands_whole (config_of v.place.regs) a first) end
  pub sizes : HaveSizes v.place.regs (side_of a.va) first
  pub mapped : is_mapping o ≡ is_mapped end
  pub answer : (evicted : ℕ)
      → (filled v.header v.number v.cache by (made_of v.place.regs v.place.step a first end)).evictions ≡ v.cache.evictions + evicted →
      record {
        asid = asid_of v.place.regs;
        vmid = vmid_of v.place.regs;
        outcome = o;
        first = first;
        second = second;
        old = is_old v.place first;
        stale = is_stale v.place a first;
        evicted = evicted;
      } ≡ (visited v a).answer
  pub cache : filled v.header v.number v.cache by (made_of v.place.regs v.place.step a first end) ≡ (visited v a).cache

module _ (v : Visit) (a : Access) (can : AreServable v.place.step v.place.rows) (first : List Item) (second : Option (List Item)) (o : Outcome)
    (by : List Row) (shows : Shows (served v.place a) first second by o) where
  pub came_step : is_conflict o ≡ false → CameStep v a first second o by
  came_step alone =
      let d = it_came v a first second o alone shows.halt in
      let stands = subst (λ z. StandsTo (stands_whole (config_of v.place.regs) a z) d.end) (sym d.first_is)
      (served_stands v.place a can d.end d.halt).0 in record {
        end = d.end;
        stands = stands;
        sizes = bases_sized record { regs = v.place.regs; access = a; step = v.place.step } first d.end stands;
        mapped = ap is_mapping d.outcome ∙ mapped_is d.end;
        answer = answer_is v a first second o d by shows.by_is;
        cache = cache_is v a first second o d by shows.by_is;
      }

  pub clash_step : is_conflict o ≡ true → at_conflict v a first second o ≡ visited v a
  clash_step twice = clashed v a first second o (λ end e. (served_stands v.place a can end e).1) twice shows.halt
