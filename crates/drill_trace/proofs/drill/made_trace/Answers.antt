use Rattle.std.proofs.Common.{◌≡◌, [], ◌∷◌, ◌++◌, map, ap, sym, ◌∙◌, subst}
use Rattle.trails.specs.declared.event.Event.TheVariants.{Store}
use Rattle.trace_lang.specs.declared.header.Size.TheVariants.{Small}
use Rattle.trace_lang.specs.declared.header.Policy.TheVariants.{Fifo}
use Rattle.trace_lang.specs.Traces.{IsTrace, parts_of}
use Rattle.drill_trace.specs.Drill.{level2_at, leaf_at, register_at, upto, setup, events_from, drawn_events}
use Rattle.drill_trace.proofs.Lists.{joined}
use Rattle.drill_trace.proofs.Fits.{drill_fits}
use Rattle.drill_trace.proofs.drill.made_trace.Goals as goal

pub of-requires : goal.of-requires
of-requires c =
    let all : c.put_drawn.new.events.items ≡ setup ++ events_from drawn_events c.args.start =
    joined c.in-Ok.events.items c.store.result c.store-2.result (map level2_at (upto 4)) (map leaf_at (upto 64)) (map register_at (upto 16))
    (events_from drawn_events c.args.start) c.push_reserved.new.self.items c.push_reserved-2.new.self.items c.put_level2.new.events.items
    c.put_leaves.new.events.items c.put_registers.new.events.items c.put_drawn.new.events.items c.in-Ok.ensures.items c.push_reserved.ensures.items
    c.push_reserved-2.ensures.items c.put_level2.ensures.events c.put_leaves.ensures.events c.put_registers.ensures.events c.put_drawn.ensures
    ∙ ap (λ t. (t ++ (map level2_at (upto 4) ++ (map leaf_at (upto 64) ++ map register_at (upto 16)))) ++ events_from drawn_events c.args.start)
    (ap (λ x. x ∷ c.store-2.result ∷ []) c.store.ensures ∙ ap (λ x. Store 0 0x1000 0x2003 ∷ x ∷ []) c.store-2.ensures) in
    let ranges = c.in-Ok-vec.ensures.items in
    subst (λ es. IsTrace (parts_of 4 c.in-Ok-vec.ranges.items Small Fifo es)) (sym all)
    (subst (λ rs. IsTrace (parts_of 4 rs Small Fifo (setup ++ events_from drawn_events c.args.start))) (sym ranges) (drill_fits c.args.start))
